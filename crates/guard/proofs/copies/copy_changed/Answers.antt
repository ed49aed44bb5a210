use Rattle.std.proofs.Common.{get_or, set, sym, ap, ◌∙◌, arith}
use Rattle.table.specs.Sequence.{place_at}
use Rattle.table.proofs.Patching.{patched_more}
use Rattle.guard.proofs.copies.copy_changed.Goals as goal

pub loop-place-preserved : goal.loop-place-preserved
loop-place-preserved c =
    let places = c.as_slice-place-items.result.now in
    let i = c.loop-place.place-index in
    let p = get_or places i 0 in
    ap (λ l. set l p (place_at c.args.from.now p)) c.loop-place.invariant ∙ sym (patched_more c.args.to.now c.args.from.now places i (omega arith))
