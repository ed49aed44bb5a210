use Rattle.std.proofs.Common.{ap}
use Rattle.runs.specs.Meetings.{shares}
use Rattle.matching.proofs.Going.{shrinks, going_on, used_up, none_left}
use Rattle.matching.proofs.run.Goals as goal

pub run-smaller : goal.run-smaller
run-smaller g c =
    shrinks c.run.table c.run-test.true c.in-Some.ensures.leads c.in-Some.ensures.foremost c.meet-left.result c.meet-left.new.table c.meet-left.ensures.left c.meet-left.ensures.table

pub run-preserved : goal.run-preserved
run-preserved g c =
    let new = c.meet-left.ensures in
    going_on c.run.table c.run-test.true c.in-Some.ensures.leads c.in-Some.ensures.foremost c.meet-left.result c.meet-left.new.table new.left new.table c.run.invariant new.adds new.ends new.written

pub returns-after-run-clause-left : goal.returns-after-run-clause-left
returns-after-run-clause-left g c = ap shares (used_up c.run.invariant c.run-test.false).left

pub returns-after-run-clause-list : goal.returns-after-run-clause-list
returns-after-run-clause-list g c = (used_up c.run.invariant c.run-test.false).list

pub returns-after-run-clause-adds : goal.returns-after-run-clause-adds
returns-after-run-clause-adds g c = (used_up c.run.invariant c.run-test.false).adds

pub returns-in-None-clause-left : goal.returns-in-None-clause-left
returns-in-None-clause-left g c = ap shares (none_left c.run.invariant c.in-None.ensures.foremost).left

pub returns-in-None-clause-list : goal.returns-in-None-clause-list
returns-in-None-clause-list g c = (none_left c.run.invariant c.in-None.ensures.foremost).list

pub returns-in-None-clause-adds : goal.returns-in-None-clause-adds
returns-in-None-clause-adds g c = (none_left c.run.invariant c.in-None.ensures.foremost).adds
