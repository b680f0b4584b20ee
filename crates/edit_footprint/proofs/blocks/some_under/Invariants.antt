use Rattle.std.proofs.Common.{◌≡◌, drop, map}
use Rattle.std.specs.List.{list_any}
use Rattle.struql_ast.specs.Reading.{collect_of}
use Rattle.edit_footprint.specs.Rests.{is_under}
use Rattle.edit_footprint.proofs.blocks.some_under.Given as goal

abbrev pub invariant-loop-collect : goal.invariant-loop-collect
invariant-loop-collect l = list_any (is_under l.names) (map collect_of (drop l.collect-index l.collects)) ≡ list_any
    (is_under l.names) (map collect_of l.collects)
