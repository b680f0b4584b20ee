use Rattle.std.proofs.Common.{◌≡◌, drop, map}
use Rattle.std.specs.List.{list_any}
use Rattle.struql_ast.specs.Reading.{collect_of}
use Rattle.edit_footprint.specs.Rests.{collect_names}
use Rattle.edit_footprint.proofs.blocks.some_put.Given as goal

abbrev pub invariant-loop-collect : goal.invariant-loop-collect
invariant-loop-collect l = list_any (collect_names l.function) (map collect_of (drop l.collect-index l.collects)) ≡
    list_any (collect_names l.function) (map collect_of l.collects)
