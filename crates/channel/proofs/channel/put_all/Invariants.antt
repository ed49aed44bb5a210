use Rattle.std.proofs.Common.{◌≡◌, ◌+◌, ◌≤◌, ◌++◌, length, take}
use Rattle.channel.proofs.channel.put_all.Given as goal

abbrev pub invariant-loop-report : goal.invariant-loop-report
invariant-loop-report g l =
    let m = g.C.Channel in
    record {
      space : length l.reports ≤ m.room l.initial.channel;
      list : m.list l.channel ≡ m.list l.initial.channel ++ take l.report-index l.reports;
      room : m.room l.channel + l.report-index ≡ m.room l.initial.channel;
      follows : m.follows l.initial.channel l.channel;
    }
