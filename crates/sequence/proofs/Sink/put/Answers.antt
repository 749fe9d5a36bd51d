-- `Sink::put` meets its contract: a law for each return. Assumes nothing.
use borrow.Author.Tests.{lt-ltb, le-ltb}
use mathlib.Core.Path.{refl}
use native.Mathlib.Omega.{arith}
use Rattle.std.proofs.lemmas.List.{length-set}
use Rattle.sequence.specs.Sheets.{emit, puts, put1}
use Rattle.sequence.proofs.Sink.put.Goals as goal
use Rattle.sequence.proofs.Sink.put.Goals.{then-self, else-self}

pub returns-in_default-clause-puts : goal.returns-in_default-clause-puts
unfolding emit puts
returns-in_default-clause-puts c = record {
  puts = record { is = rw c.in_default.is; rows_kept = refl; cols_kept = refl; values_kept = refl };
  limit = refl;
  same_rows = refl;
  same_cols = refl;
  same_values = refl;
}

pub returns-clause-puts : goal.returns-clause-puts
unfolding emit puts put1
returns-clause-puts c = let s = c.args.self.now in
    elim c.if-self.branch [
      | then-self w ↦ record {
        puts = record { is = rw (c.in-Some.is, w.self-is) (simp (lt-ltb s.count s.limit (omega (arith, w.if-self.true)))); rows_kept = rw w.self-is (length-set _ _ _); cols_kept = rw w.self-is (length-set _ _ _); values_kept = rw w.self-is (length-set _ _ _) };
        limit = rw w.self-is;
        same_rows = rw w.self-is;
        same_cols = rw w.self-is;
        same_values = rw w.self-is;
      }
      | else-self w ↦ record {
        puts = record { is = rw (c.in-Some.is, w.self-is) (simp (le-ltb s.count s.limit (omega (arith, w.if-self.false)))); rows_kept = rw w.self-is; cols_kept = rw w.self-is; values_kept = rw w.self-is };
        limit = rw w.self-is;
        same_rows = rw w.self-is;
        same_cols = rw w.self-is;
        same_values = rw w.self-is;
      }
    ]
