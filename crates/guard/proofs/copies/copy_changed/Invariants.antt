use Rattle.std.proofs.Common.{◌≡◌, take}
use Rattle.table.specs.Noting.{patched}
use Rattle.guard.proofs.copies.copy_changed.Given as goal

abbrev pub invariant-loop-place : goal.invariant-loop-place
invariant-loop-place l = l.to ≡ patched l.initial.to l.from (take l.place-index l.place-items)
