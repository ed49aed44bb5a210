use Rattle.std.proofs.Common.{ℕ, [], ◌∷◌, sym, ◌∙◌, subst}
use Rattle.types.specs.Reports.{cancelled}
use Rattle.types.specs.declared.reports.CancelReason.TheVariants.{Requested}
use Rattle.runs.specs.Meetings.{shares}
use Rattle.sheet.specs.Sheets.{Adds}
use Rattle.table.specs.Sequence.{record_at}
use Rattle.turns.proofs.Closing.{by_number}
use Rattle.turns.proofs.cancelling.cancel_one.Goals as goal

pub returns-clause-list : goal.returns-clause-list
returns-clause-list c =
    let t = c.args.table.now in
    c.cancel.ensures.list ∙ (by_number t.places.now c.args.place c.requires.rests t.sound.sequenced.distinct c.requires.numbers).0

pub returns-clause-adds : goal.returns-clause-adds
returns-clause-adds c =
    let t = c.args.table.now in
    let one = by_number t.places.now c.args.place c.requires.rests t.sound.sequenced.distinct c.requires.numbers in
    subst (λ (v : ℕ). Adds c.args.sheet.now c.cancel.new.sheet (cancelled (record_at t.places.now c.args.place).resting.order.number (shares v) Requested ∷ [])) (sym one.1) c.cancel.ensures.adds
