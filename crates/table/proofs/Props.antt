-- What holds of a table can be shown in one way at most, so that it comes out of a ghost field again.
use Rattle.std.proofs.Common.{ℕ}
use Rattle.std.proofs.Props.{props}
use Rattle.std.proofs.Math.Logic.{∥∥₁_elim}
use Rattle.table.specs.declared.ends.Ends.{Ends}
use Rattle.table.specs.declared.journals.Journal.{Journal}
use Rattle.table.specs.Sequence.{Orders}
use Rattle.table.specs.Noting.{Agree}
use Rattle.table.specs.Places.{Sound}

pub agree_prop : (n : ℕ) (j : Journal) (t s : Orders) → IsProp (Agree n j t s)
agree_prop n j t s = Prim.hlevel props

pub sound_prop : (os : Orders) (e : Ends) → IsProp (Sound os e)
sound_prop os e = Prim.hlevel props

pub sound : (os : Orders) (e : Ends) → ∥ Sound os e ∥₁ → Sound os e
sound os e h = ∥∥₁_elim h (sound_prop os e) (λ s. s)
