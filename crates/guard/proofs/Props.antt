-- What holds of the slice and its journal can be shown in one way at most, so that it comes out of a ghost field again.
use Rattle.std.proofs.Common.{ℕ}
use Rattle.std.proofs.Props.{props}
use Rattle.std.proofs.Math.Logic.{∥∥₁_elim}
use Rattle.table.specs.declared.journals.Journal.{Journal}
use Rattle.table.specs.Sequence.{Orders}
use Rattle.guard.specs.Keeping.{Kept}

pub kept_prop : (n : ℕ) (all : Orders) (j : Journal) → IsProp (Kept n all j)
kept_prop n all j = Prim.hlevel props

pub kept : (n : ℕ) (all : Orders) (j : Journal) → ∥ Kept n all j ∥₁ → Kept n all j
kept n all j h = ∥∥₁_elim h (kept_prop n all j) (λ k. k)
