-- What a lent selector is as lists. Assumes nothing.
use Rattle.contraction.specs.Contraction.{Selector, selector_of}
use Rattle.contraction.specs.declared.Selector as lent

-- the selector behind a lent one's references
abbrev pub selector_in : lent.Selector → Selector
selector_in s = selector_of s.sign s.counts s.rows s.weights
