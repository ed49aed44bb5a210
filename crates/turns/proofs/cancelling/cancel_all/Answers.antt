use Rattle.std.proofs.Common.{◌≡◌, ◌+◌, ◌^◌, ◌<◌, [], ◌∷◌, map, length, get_or, None, take, drop, sym, ap, ◌∙◌, subst, arith}
use Rattle.std.proofs.lemmas.List.{drop_all, take_all, length-map, length-take-le}
use Rattle.runs.specs.Slices.{volume_of}
use Rattle.rules.specs.Calls.{cancelled_at_close}
use Rattle.sheet.specs.Sheets.{Adds}
use Rattle.sheet.proofs.Sheets.{adds_none, adds_more, adds_same}
use Rattle.table.specs.declared.records.OrderRecord.{OrderRecord}
use Rattle.table.specs.Sequence.{Orders, held, record_at, in_sequence}
use Rattle.table.proofs.Writing.{written_none, written_both}
use Rattle.table.proofs.Kept.{rests_within}
use Rattle.turns.specs.Turns.{Rewritten}
use Rattle.turns.proofs.Renewing.{turn_at, rewritten_none, rewritten_more}
use Rattle.turns.proofs.Closing.{every, every_kept, Left, close_report, one_left, no_orders, all_freed, one_report, all_reports}
use Rattle.turns.proofs.cancelling.cancel_all.Goals as goal

pub loop-place-init : goal.loop-place-init
loop-place-init c =
    let t = c.args.table.now in
    let turns = c.collect_on-count.ensures.turns in
    record {
      times = omega arith;
      written = written_none t;
      rewritten = rewritten_none _ (take c.collect_on-count.result c.collect_on-count.new.turns) t.places.now;
      left = turns.records ∙ every_kept (in_sequence t.places.now);
      adds = adds_none c.args.sheet.now;
    }

pub cancel-requires : goal.cancel-requires
cancel-requires c =
    let start = c.args.table.now.places.now in
    let ps = (take c.collect_on-count.result c.collect_on-count.new.turns) in
    let k = c.loop-place.place-index in
    let p = get_or ps k 0 in
    let inv = c.loop-place.invariant in
    let turn = turn_at (λ _ _. None) ps start c.loop-place.table.places.now k inv.rewritten every (omega arith) c.collect_on-count.ensures.turns in
    let all = length-take-le c.collect_on-count.result c.collect_on-count.new.turns (omega (arith, c.requires.room, c.collect_on-count.ensures.count, c.collect_on-count.auto.turns)) in
    let many : length (map (close_report start) (take k ps)) ≡ k = length-map (take k ps) (close_report start) ∙ length-take-le k ps (omega arith) in
    record {
      rests = turn.rests;
      fits = subst (λ (r : OrderRecord). volume_of r.resting < 2 ^ 32) (sym (ap held turn.same)) (c.requires.fits p (c.collect_on-count.ensures.turns.rests k (omega arith)));
      space = omega (arith, inv.adds.counted, many, all, c.requires.space, c.collect_on-count.ensures.count);
    }

pub loop-place-preserved : goal.loop-place-preserved
loop-place-preserved c =
    let start = c.args.table.now.places.now in
    let t = c.loop-place.table in
    let os = t.places.now in
    let ps = (take c.collect_on-count.result c.collect_on-count.new.turns) in
    let k = c.loop-place.place-index in
    let p = get_or ps k 0 in
    let inv = c.loop-place.invariant in
    let e = c.cancel.ensures in
    let turn = turn_at (λ _ _. None) ps start os k inv.rewritten every (omega arith) c.collect_on-count.ensures.turns in
    let within = rests_within os p turn.rests in
    let same : record_at os p ≡ record_at start p = ap held turn.same in
    record {
      times = e.times ∙ inv.times;
      written = written_both c.args.table.now t c.cancel.new.table inv.written e.written;
      rewritten = subst (Rewritten (λ _ _. None) (k + 1) ps start) (sym e.table) (rewritten_more (λ _ _. None) ps start os k inv.rewritten turn within);
      left = subst (λ (o : Orders). Left start o (drop (k + 1) ps)) (sym e.table) (one_left start os p (drop (k + 1) ps) (subst (Left start os) turn.next inv.left) turn.rests t.sound.sequenced.distinct same);
      adds =
          adds_same (one_report start ps k (omega arith))
          (adds_more inv.adds (subst (λ (r : OrderRecord). Adds c.loop-place.sheet c.cancel.new.sheet (cancelled_at_close r.resting ∷ [])) same e.adds));
    }

pub returns-clause-table : goal.returns-clause-table
returns-clause-table c =
    let start = c.args.table.now.places.now in
    let os = c.loop-place.table.places.now in
    all_freed os (subst (Left start os) (drop_all c.loop-place.place-index (take c.collect_on-count.result c.collect_on-count.new.turns) (omega arith)) c.loop-place.invariant.left)

pub returns-clause-list : goal.returns-clause-list
returns-clause-list c =
    let start = c.args.table.now.places.now in
    let os = c.loop-place.table.places.now in
    no_orders os (subst (Left start os) (drop_all c.loop-place.place-index (take c.collect_on-count.result c.collect_on-count.new.turns) (omega arith)) c.loop-place.invariant.left)

pub returns-clause-adds : goal.returns-clause-adds
returns-clause-adds c =
    let start = c.args.table.now.places.now in
    let ps = (take c.collect_on-count.result c.collect_on-count.new.turns) in
    adds_same (ap (map (close_report start)) (take_all c.loop-place.place-index ps (omega arith)) ∙ all_reports start ps c.collect_on-count.ensures.turns) c.loop-place.invariant.adds
