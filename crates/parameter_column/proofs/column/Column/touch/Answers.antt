-- `Column::touch` meets its contract. Assumes nothing.
use mathlib.Core.Path.{refl}
use native.Mathlib.Omega.{arith}
use Rattle.parameter_column.specs.declared.How.TheVariants.{Put, Plus, Less}
use Rattle.parameter_column.proofs.Touching.{inside, word}
use Rattle.parameter_column.proofs.column.Column.touch.Goals as goal
use Rattle.parameter_column.proofs.column.Column.touch.Goals.{in-Put, in-Plus, in-Less}

pub overflow_add-at : goal.overflow_add-at
overflow_add-at c = let a = c.args in let h = inside a.self.now.fitted a.b a.i c.requires in omega (arith, c.start.ensures.0, h)

pub offset_bounds-self-at : goal.offset_bounds-self-at
offset_bounds-self-at c = let a = c.args in let h = inside a.self.now.fitted a.b a.i c.requires in omega (arith, c.start.ensures, h, c.well_formed)

pub bounds-self-at : goal.bounds-self-at
bounds-self-at c = let a = c.args in let h = inside a.self.now.fitted a.b a.i c.requires in omega (arith, c.start.ensures.0, h)

pub offset_bounds-self-at-2 : goal.offset_bounds-self-at-2
offset_bounds-self-at-2 c = let a = c.args in let h = inside a.self.now.fitted a.b a.i c.requires in omega (arith, c.start.ensures, h, c.well_formed)

pub bounds-self-at-2 : goal.bounds-self-at-2
bounds-self-at-2 c = let a = c.args in let h = inside a.self.now.fitted a.b a.i c.requires in omega (arith, c.start.ensures.0, h)

pub returns : goal.returns
returns c = let a = c.args in
    let s = a.self.now in
    elim c.match-how.branch [
      | in-Put w ↦ record { touched = rw (w.in-Put.is, w.self-is) (word a.b a.i Put a.v s.fitted c.requires c.start.ensures.0 refl); counts = refl; index = refl; same_words = refl }
      | in-Plus w ↦ record { touched = rw (w.in-Plus.is, w.self-is) (word a.b a.i Plus a.v s.fitted c.requires c.start.ensures.0 refl); counts = refl; index = refl; same_words = refl }
      | in-Less w ↦ record { touched = rw (w.in-Less.is, w.self-is) (word a.b a.i Less a.v s.fitted c.requires c.start.ensures.0 refl); counts = refl; index = refl; same_words = refl }
    ]
