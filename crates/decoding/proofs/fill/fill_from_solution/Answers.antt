-- `decoding::fill::fill_from_solution` meets its contract: refused at once, or the call at what was decoded. Assumes nothing.
use Rattle.std.proofs.Common.{rules, sym}
use denote.MutBor.{as_bor}
use Rattle.decoding.specs.Filling.{unread, read, made}
use Rattle.decoding.proofs.Filled.{exported_anew, refused_at}
use Rattle.decoding.proofs.fill.fill_from_solution.Goals as goal

pub returns-in_default : goal.returns-in_default
returns-in_default g c = refused_at _ c.in_default.ensures.refused (search rules)

pub returns-in_default-take : goal.returns-in_default-take
returns-in_default-take g c = unread (sym c.in_default-take.ensures.fits) (search rules)

pub fill_cells-requires-clause-call : goal.fill_cells-requires-clause-call
fill_cells-requires-clause-call g c =
    let s = c.in-Some-take in
    record {
      may = λ l x r d e. c.requires.call.may l d (rw e r) (as_bor s.solved) s.ensures.held;
      within = λ l x a y r p. let q = p.1 in rw q.2 at (c.requires.call.within l q.0 a q.1 (rw q.2 r) (as_bor s.solved, s.ensures.held, q.4));
    }

pub returns : goal.returns
returns g c =
    let h = c.in-Some.ensures.decoded in
    let s = c.in-Some-take in
    read (sym s.ensures.fits) (exported_anew (λ l x a y p. let q = p.1 in (q.0, q.1, q.2, q.3, (as_bor s.solved, s.ensures.held, q.4))) (made h.0 (rw h.1 at c.fill_cells.ensures)))
