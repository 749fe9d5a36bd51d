-- `opf_sides::Words::put_added` meets its contract: the word begins at 0, and `lin` adds to it. Assumes nothing.
use mathlib.Core.Path.{refl}
use lib.Ieee.{nan, binary64, add, of_bits, of_int}
use Rattle.float64.specs.Values.{nought, whole}
use Rattle.opf_sides.proofs.Storing.{one, begun, word_room}
use Rattle.opf_sides.proofs.Words.put_added.Goals as goal

pub returns : goal.returns
unfolding whole of_int of_bits
returns c = rw c.in-Some.is (record { stores = one _ _ (begun c.args.self.now.sheet.now nought nan (λ x. add binary64 x c.in-Some.value) (word_room c.in-Some.is c.requires) c.rhs.ensures c.lin.ensures); same = refl })
