use Rattle.std.proofs.Common.{◌≡◌, length, None, replicate, ap, ◌∙◌, rules}
use Rattle.table.specs.Sequence.{resting_of}
use Rattle.table.proofs.Cleared.{cleared_list}
use Rattle.table.proofs.clear.Goals as goal

pub returns-clause-list : goal.returns-clause-list
returns-clause-list c =
    let n = length c.args.places.now in
    let free : c.fill.new.self ≡ replicate n None = search rules in
    ap resting_of free ∙ cleared_list n
