use Rattle.std.proofs.Common.{◌+◌, Some, sym, subst}
use Rattle.table.specs.Places.{Found}
use Rattle.table.proofs.Places.{room, found_some, found_none}
use Rattle.table.proofs.first_free.Goals as goal

pub returns-in_err-free : goal.returns-in_err-free
returns-in_err-free c =
    let os = c.args.places.now in
    let full = subst (Found os) (sym c.from_residual.ensures) (found_none os c.args.ends.low c.requires.below c.in_err-free.ensures.none) in
    record { found = full; room = room os c.from_residual.result full }

pub returns : goal.returns
returns c =
    let os = c.args.places.now in
    let i = c.in_ok-free.free in
    let free = c.in_ok-free.ensures in
    let first = found_some os c.args.ends.low c.requires.below i free.free free.before in
    record { found = first; room = room os (Some (c.args.ends.low + i)) first }
