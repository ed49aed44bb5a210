-- That cells are sound is a proposition, so that a type can carry it.
use Rattle.std.proofs.Common.{ℕ, List}
use Rattle.std.proofs.Props.{props}
use Rattle.cells.specs.Cells.{Cell, Sound}

pub sound_prop : {K V : Type 0} (number : K → ℕ) (cells : List (Cell K V)) → IsProp (Sound number cells)
sound_prop number cells = hlevel props
