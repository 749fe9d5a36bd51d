-- Terms as records in bytes: twelve each, the index and then the double, the lowest byte first.
-- Main definitions: `terms_of`, `recorded`. Assumes nothing.
use Rattle.std.specs.Prelude.{◌/◌, Bool, ◌&&◌, List, length, ℕ}
use Rattle.std.specs.Borrow.{Bor}
use Rattle.sequence.specs.Lists.{made}
use Rattle.words.specs.Words.{words_of, doubles_of}
use Rattle.network.specs.Numbers.{Network}
use Rattle.terms.specs.declared.Term.{Term}
use Rattle.terms.specs.Terms.{network_of}
use Rattle.terms.specs.Records.{term_at}
use Rattle.decoding.specs.Exports.{whole}

-- every whole record
abbrev pub terms_of : List ℕ → List Term
terms_of b = made (term_at b) (length b / 12)

-- the network of three byte slices, its terms records
abbrev pub recorded : Bor (List ℕ) → Bor (List ℕ) → Bor (List ℕ) → Network
recorded w r t = network_of (words_of w.now) (doubles_of r.now) (terms_of t.now)

abbrev pub whole_records : Bor (List ℕ) → Bor (List ℕ) → Bor (List ℕ) → Bool
whole_records w r t = whole 4 w.now && (whole 8 r.now && whole 12 t.now)
