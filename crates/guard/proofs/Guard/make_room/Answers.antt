use Rattle.std.proofs.Common.{◌≡◌, ◌++◌, length, take, sym, ap, ◌∙◌, subst, arith, length-take-le}
use Rattle.table.specs.Noting.{Moved}
use Rattle.table.specs.Places.{Sound}
use Rattle.table.specs.Sequence.{resting_of}
use Rattle.guard.proofs.Parts.{kept_front, part_renumbered}
use Rattle.guard.proofs.Renumbered.{same_list, sound}
use Rattle.guard.proofs.Guard.make_room.Goals as goal

pub returns-then-ends-ge9223372036854775808-clause-kept : goal.returns-then-ends-ge9223372036854775808-clause-kept
returns-then-ends-ge9223372036854775808-clause-kept c =
    let g = c.args.self.now in
    let s = c.split_at_mut-table.ensures in
    let r = c.renumber in
    let moved : Moved (take g.n g.all.now) g.journal.now r.new.table r.new.journal = subst (λ t. Moved t g.journal.now r.new.table r.new.journal) s.front r.ensures.moved in
    rw s.back (kept_front g.n g.all.now r.new.table g.journal.now r.new.journal c.requires.kept (r.auto.table ∙ ap length s.front) moved)

pub returns-then-ends-ge9223372036854775808-clause-list : goal.returns-then-ends-ge9223372036854775808-clause-list
returns-then-ends-ge9223372036854775808-clause-list c =
    let g = c.args.self.now in
    let s = c.split_at_mut-table.ensures in
    let r = c.renumber in
    ap resting_of (part_renumbered g.n g.all.now c.split_at_mut-table.result.0.now c.split_at_mut-table.result.1.now r.new.table c.requires.kept.halves s.front s.back c.requires.same r.auto.table r.ensures.table) ∙ same_list (take g.n g.all.now)

pub returns-then-ends-ge9223372036854775808-clause-sound : goal.returns-then-ends-ge9223372036854775808-clause-sound
returns-then-ends-ge9223372036854775808-clause-sound c =
    let g = c.args.self.now in
    let os = take g.n g.all.now in
    let e = c.args.ends.now in
    let s = c.split_at_mut-table.ensures in
    let r = c.renumber in
    let here = part_renumbered g.n g.all.now c.split_at_mut-table.result.0.now c.split_at_mut-table.result.1.now r.new.table c.requires.kept.halves s.front s.back c.requires.same r.auto.table r.ensures.table in
    let long : length os ≡ g.n = length-take-le g.n g.all.now (omega (arith, c.requires.kept.halves)) in
    subst (λ m. Sound (take g.n (r.new.table ++ c.split_at_mut-table.result.1.now)) (record { low = e.low; high = e.high; next = m })) long
    (subst (λ t. Sound t (record { low = e.low; high = e.high; next = length os })) (sym here) (sound os e c.requires.sound))
