use Rattle.std.proofs.Common.{take, ◌≡◌, ℕ, ◌+◌, ◌≤◌, get_or, Some, drop, set, sym, ap, ◌∙◌, subst, arith}
use Rattle.std.proofs.lemmas.List.{drop_all, length-take-le}
use Rattle.table.specs.Sequence.{Orders, held, record_at, stamped}
use Rattle.table.proofs.Kept.{rests_within}
use Rattle.table.proofs.Writing.{written_none, written_both}
use Rattle.turns.specs.Turns.{Rewritten}
use Rattle.turns.proofs.Renewing.{Going, started, went, arrived, turn_at, rewritten_none, rewritten_more}
use Rattle.turns.proofs.moving.move_to_end.Goals as goal

pub loop-place-init : goal.loop-place-init
loop-place-init g c =
    let t = c.args.table.now in
    let ps = (take c.collect_on-count.result c.collect_on-count.new.turns) in
    record {
      times = omega arith;
      written = written_none t;
      rewritten = rewritten_none _ ps t.places.now;
      going = started (g.P.Picks.picked c.args.picks.now) t.ends.next t.places.now ps t.sound.sequenced.older c.collect_on-count.ensures.turns;
    }

pub to_end-requires : goal.to_end-requires
to_end-requires g c =
    let inv = c.loop-place.invariant in
    let turn = turn_at _ (take c.collect_on-count.result c.collect_on-count.new.turns) c.args.table.now.places.now c.loop-place.table.places.now c.loop-place.place-index inv.rewritten _ (omega arith) c.collect_on-count.ensures.turns in
    let all = length-take-le c.collect_on-count.result c.collect_on-count.new.turns (omega (arith, c.requires.room, c.collect_on-count.ensures.count, c.collect_on-count.auto.turns)) in
    record { rests = turn.rests; times = omega (arith, inv.times, all, c.requires.times, c.collect_on-count.ensures.count) }

pub loop-place-preserved : goal.loop-place-preserved
loop-place-preserved g c =
    let start = c.args.table.now.places.now in
    let t = c.loop-place.table in
    let os = t.places.now in
    let ps = (take c.collect_on-count.result c.collect_on-count.new.turns) in
    let k = c.loop-place.place-index in
    let p = get_or ps k 0 in
    let next = c.args.table.now.ends.next in
    let test = g.P.Picks.picked c.args.picks.now in
    let inv = c.loop-place.invariant in
    let e = c.to_end.ensures in
    let turn = turn_at (λ j r. Some (stamped (next + j) r)) ps start os k inv.rewritten test (omega arith) c.collect_on-count.ensures.turns in
    let within = rests_within os p turn.rests in
    let same : record_at os p ≡ record_at start p = ap held turn.same in
    let late : next ≤ t.ends.next = omega (arith, inv.times) in
    record {
      times = omega (arith, e.times, inv.times);
      written = written_both c.args.table.now t c.to_end.new.self inv.written e.written;
      rewritten =
          subst (Rewritten (λ j r. Some (stamped (next + j) r)) (k + 1) ps start) (ap (λ (m : ℕ). set os p (Some (stamped m (record_at os p)))) (sym inv.times) ∙ sym e.table)
          (rewritten_more (λ j r. Some (stamped (next + j) r)) ps start os k inv.rewritten turn within);
      going =
          subst (λ (o : Orders). Going test next start o (drop (k + 1) ps)) (sym e.table)
          (went test next start os p (drop (k + 1) ps) (subst (Going test next start os) turn.next inv.going) within turn.rests t.sound.sequenced.distinct same t.ends.next late t.sound.sequenced.older);
    }

pub returns-clause-list : goal.returns-clause-list
returns-clause-list g c =
    let start = c.args.table.now.places.now in
    let os = c.loop-place.table.places.now in
    let ps = (take c.collect_on-count.result c.collect_on-count.new.turns) in
    let test = g.P.Picks.picked c.args.picks.now in
    let next = c.args.table.now.ends.next in
    arrived test next start os (subst (Going test next start os) (drop_all c.loop-place.place-index ps (omega arith)) c.loop-place.invariant.going)
