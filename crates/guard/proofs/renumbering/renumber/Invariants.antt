use Rattle.std.proofs.Common.{◌≡◌, ◌++◌, map, take, drop}
use Rattle.std.specs.Option.{option_map}
use Rattle.table.specs.Noting.{Moved}
use Rattle.guard.specs.Renumbering.{ranked}
use Rattle.guard.proofs.renumbering.renumber.Given as goal

abbrev pub invariant-loop-i : goal.invariant-loop-i
invariant-loop-i l = record {
  table : l.table ≡ map (option_map (ranked l.spare)) (take l.i l.initial.table) ++ drop l.i l.initial.table;
  moved : Moved l.initial.table l.initial.journal l.table l.journal;
}
