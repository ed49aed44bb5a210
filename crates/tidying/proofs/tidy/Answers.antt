use Rattle.std.proofs.Common.{sym, ◌∙◌, arith}
use Rattle.table.proofs.Writing.{written_both}
use Rattle.tidying.proofs.Steps.{tidied_is, tidy_end, renewed_all_rest, renewed_all_settled, renewed_count, renewed_list, none_spent}
use Rattle.tidying.proofs.tidy.Goals as goal

pub loop-i-preserved : goal.loop-i-preserved
loop-i-preserved c =
    let t = c.loop-i.table in
    let os = t.places.now in
    let os' = c.refresh.new.table.places.now in
    let i = c.in-Some.i in
    let next = t.ends.next in
    let o = c.in-Some.ensures in
    let inv = c.loop-i.invariant in
    let e = c.refresh.ensures in
    let less = renewed_count os os' i next o.here inv.rest e.table in
    record {
      rest = renewed_all_rest os os' i next o.here inv.rest e.table;
      list = renewed_list os os' i next o.here inv.rest e.table t.ends.high t.sound.sequenced.distinct t.sound.sequenced.older t.sound.above o ∙ inv.list;
      settled = renewed_all_settled os os' i next o.here inv.rest e.table inv.settled;
      times = omega (arith, less, inv.times, e.times);
      written = written_both c.settle_all.new.table t c.refresh.new.table inv.written e.written;
    }

pub returns-clause-list : goal.returns-clause-list
returns-clause-list c =
    let t = c.loop-i.table in
    let os = t.places.now in
    let inv = c.loop-i.invariant in
    let none = none_spent os t.ends.high t.sound.above c.in_default.ensures in
    λ before since.
    sym (tidy_end os t.sound.sequenced.distinct inv.settled none) ∙ inv.list ∙ c.settle_all.ensures.list
    ∙ sym (tidied_is before c.args.table.now.places.now since)
