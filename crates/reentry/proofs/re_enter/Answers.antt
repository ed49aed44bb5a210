use Rattle.std.proofs.Common.{reverse, ap, arith}
use Rattle.types.specs.declared.money.Volume.{Volume}
use Rattle.sheet.proofs.Sheets.{adds_same}
use Rattle.reentry.proofs.Again.{play₁, list₃, rest₃, since₃, log_is, list_is}
use Rattle.reentry.proofs.re_enter.Goals as goal

pub run-left-requires-clause-room : goal.run-left-requires-clause-room
run-left-requires-clause-room g c =
    let t = c.args.table.now in
    let first = c.replace.ensures in
    let play = play₁ t.places.now c.replace.new.self.places.now c.args.i _ _ t.sound.sequenced.distinct c.requires.rests c.record_at-before.ensures c.hollowed.ensures first.table first.list in
    omega (arith, play, ap (λ (v : Volume). v.shares) c.volume.ensures, c.requires.room)

pub tidy-requires-clause-rest : goal.tidy-requires-clause-rest
tidy-requires-clause-rest g c =
    let t = c.args.table.now in
    let first = c.replace.ensures in
    let r = c.run-left.ensures in
    rest₃ t.places.now c.replace.new.self.places.now c.args.i _ _ t.sound.sequenced.distinct c.requires.rests c.record_at-before.ensures c.hollowed.ensures first.table first.list
    c.run-left.new.table.places.now r.same c.replace-2.new.self.places.now _ _ c.after_run-resting.ensures c.replace-2.ensures.table
    c.requires.rest r.rest c.requires.undrawn (omega (arith, r.less, ap (λ (v : Volume). v.shares) c.volume.ensures))

pub returns-clause-list : goal.returns-clause-list
returns-clause-list g c =
    let t = c.args.table.now in
    let first = c.replace.ensures in
    let r = c.run-left.ensures in
    let second = c.replace-2.ensures in
    let os₁ = c.replace.new.self.places.now in
    let os₂ = c.run-left.new.table.places.now in
    let os₃ = c.replace-2.new.self.places.now in
    let os₄ = c.tidy.new.table.places.now in
    let after =
    list₃ t.places.now os₁ c.args.i _ _ t.sound.sequenced.distinct c.requires.rests c.record_at-before.ensures c.hollowed.ensures first.table first.list
    os₂ r.same os₃ c.run-left.result.shares _ c.after_run-resting.ensures c.run-left.new.table.sound.sequenced.distinct second.list in
    let since =
    since₃ t.places.now os₁ c.args.i _ _ t.sound.sequenced.distinct c.requires.rests c.record_at-before.ensures c.hollowed.ensures first.table first.list
    os₂ r.same os₃ c.run-left.result.shares _ c.after_run-resting.ensures second.table c.requires.rest c.requires.undrawn c.requires.unspent in
    list_is t.places.now os₁ c.args.i _ _ t.sound.sequenced.distinct c.requires.rests c.record_at-before.ensures c.hollowed.ensures first.table first.list (g.R.Priority.rule c.args.rule.now) c.args.view.now c.volume.result.shares (ap (λ (v : Volume). v.shares) c.volume.ensures)
    os₂ os₃ os₄ c.run-left.result.shares (ap (λ (v : Volume). v.shares) r.left) r.list after (c.tidy.ensures.list t.places.now since)

pub returns-clause-adds : goal.returns-clause-adds
returns-clause-adds g c =
    let t = c.args.table.now in
    let first = c.replace.ensures in
    let log = log_is t.places.now c.replace.new.self.places.now c.args.i _ _ t.sound.sequenced.distinct c.requires.rests c.record_at-before.ensures c.hollowed.ensures first.table first.list (g.R.Priority.rule c.args.rule.now) c.args.view.now c.volume.result.shares (ap (λ (v : Volume). v.shares) c.volume.ensures) in
    adds_same (ap reverse log) c.run-left.ensures.adds
