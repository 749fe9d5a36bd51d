-- A number's bytes where it is stored. Main results: `low_bytes`, `stored`, `front_whole`, `place`. Assumes nothing.
use mathlib.Core.Path.{◌≡◌, refl, sym, ap, ◌∙◌}
use mathlib.Core.List.{List, ◌∷◌, append-nil, append_assoc}
use Prim.Native.Nat.{ℕ, zero, suc, ◌+◌, ◌-◌, ◌/◌, ◌%◌, ◌^◌, ◌*◌, ◌≤◌, ◌<◌}
use native.Mathlib.Omega.{arith}
use lib.ListN.{length}
use lib.Seq.{sets, sets-eq, drop-drop, drop-length}
use borrow.Rule.Slice.PartMut.{put_mid}
use Rattle.std.proofs.Math.Nat.{div-div-eq-div-mul, div-one, pow-suc, mul-le-mul_left}
use Rattle.std.specs.Int.{byte_at, bytes_low_first}
use Rattle.sequence.specs.Lists.{made, front}
use Rattle.sequence.proofs.Lists.{made_length}
use Rattle.words.specs.Words.{bytes_of}

byte_is : (i n : ℕ) → byte_at i n ≡ n / 256 ^ i % 256
byte_is zero n = ap (λ (m : ℕ). m % 256) (sym (div-one n))
byte_is (suc i) n = refl

bytes_from : (i k n : ℕ) → bytes_low_first i k n ≡ bytes_of k (n / 256 ^ i)
bytes_from i zero n = refl
bytes_from i (suc k) n =
    let e : n / 256 ^ suc i ≡ n / 256 ^ i / 256 = rw pow-suc (sym (div-div-eq-div-mul n (256 ^ i) 256)) in
    rw (byte_is i n, bytes_from (suc i) k n, e)

pub low_bytes : (k n : ℕ) → bytes_low_first 0 k n ≡ bytes_of k n
low_bytes k n = bytes_from 0 k n ∙ ap (bytes_of k) (div-one n)

pub stored : {A : Type 0} (at k : ℕ) (out new : List A) {words : List A} → at + k ≤ length out → length new ≡ k → words ≡ new
    → put_mid at (at + k - at) out words ≡ sets out at new
stored at k out new h e q =
    let z : at + k - at ≡ k = omega arith in
    rw (q, z, drop-drop, ← e, ← append_assoc) (sym (sets-eq new out at (rw e h)))

-- a front as long as its sheet is all of it
pub front_whole : {A : Type 0} (f : ℕ → A) (old : List A) → front (made f (length old)) old ≡ made f (length old)
unfolding front
front_whole f old = rw (made_length, drop-length, append-nil)

-- k bytes have room at place i of n
pub place : (k i n : ℕ) {room : ℕ} → i < n → k * n ≤ room → k * i + k ≤ room
place k i n h l = let m : k * (i + 1) ≤ k * n = mul-le-mul_left k (omega arith) in omega arith
