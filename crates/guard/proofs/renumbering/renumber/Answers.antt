use Rattle.std.proofs.Common.{◌≡◌, ◌<◌, length, set, Some, None, sym, ap, ◌∙◌, arith}
use Rattle.std.specs.Option.{option_map}
use Rattle.std.proofs.lemmas.List.Edits.{map_over_more}
use Rattle.std.proofs.lemmas.List.{get_or_default, set-get_or}
use Rattle.guard.specs.Renumbering.{ranked}
use Rattle.guard.proofs.renumbering.renumber.Goals as goal
use Rattle.guard.proofs.renumbering.renumber.Goals.{in-Some, in_default}

pub loop-i-preserved : goal.loop-i-preserved
loop-i-preserved c =
    let spare = c.args.spare.now in
    let old = c.args.table.now in
    let table = c.loop-i.table in
    let i = c.loop-i.i in
    let inv = c.loop-i.invariant in
    let within : i < length old = omega arith in
    let long : length table ≡ length old = c.loop-i.auto.table in
    let here : i < length table = omega arith in
    elim c.match-place.branch [
      | in-Some w ↦
          (let order = w.in-Some.order in
          record {
            table = w.table-is ∙ ap (λ t. set table i (Some (record { time = t; drawn = order.drawn; resting = order.resting }))) w.earlier.ensures
                ∙ map_over_more (option_map (ranked spare)) old table i (Some order) within inv.table (sym w.in-Some.is ∙ get_or_default table i None (Some order) here);
            moved = λ s a. rw (w.table-is, w.journal-is) (w.note.ensures (length old) table s (Some (record { time = w.earlier.result; drawn = order.drawn; resting = order.resting })) within long (inv.moved s a));
          })
      | in_default w ↦
          record {
            table = w.table-is ∙ ap (set table i) w.in_default.is
                ∙ map_over_more (option_map (ranked spare)) old table i None within inv.table (sym w.in_default.is);
            moved = λ s a. rw (w.table-is ∙ set-get_or table i None, w.journal-is) (inv.moved s a);
          }
    ]
