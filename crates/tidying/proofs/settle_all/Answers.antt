use Rattle.std.proofs.Common.{◌<◌, length, ◌∙◌, arith}
use Rattle.table.proofs.Writing.{written_both}
use Rattle.tidying.proofs.Steps.{all_tidy, all_rest, all_settled, all_above}
use Rattle.tidying.proofs.settle_all.Goals as goal

pub loop-i-preserved : goal.loop-i-preserved
loop-i-preserved c =
    let start = c.args.table.now in
    let t = c.loop-i.table in
    let os = t.places.now in
    let os' = c.settle.new.table.places.now in
    let i = c.loop-i.i in
    let inv = c.loop-i.invariant in
    let e = c.settle.ensures in
    let within : i < length os = omega (arith, start.sound.inside, inv.written.long) in
    record {
      rest = all_rest os os' i within e.table inv.rest;
      list = all_tidy os os' i within e.table t.sound.sequenced.distinct ∙ inv.list;
      settled = all_settled os os' i within e.table inv.settled;
      above = all_above os os' i within e.table start.ends.high inv.above;
      times = e.times ∙ inv.times;
      written = written_both start t c.settle.new.table inv.written e.written;
    }
