-- `opf_readback::put_values` meets its contract: a row more each turn. Assumes nothing.
use Rattle.sequence.proofs.Fronts.{Fronted}
use Rattle.model.specs.Quantities.{evaluate}
use Rattle.opf_readback.proofs.put_values.Given as goal

abbrev pub invariant-loop-q : goal.invariant-loop-q
invariant-loop-q l = Fronted (λ q. evaluate l.site.grid.plan.counts l.site.grid.plan.wiring.now l.site.term_index.now l.site.term_coefficient.now q l.f l.pg) l.q l.initial.out l.out
