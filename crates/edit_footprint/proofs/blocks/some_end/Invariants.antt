use Rattle.std.proofs.Common.{◌≡◌, drop, map}
use Rattle.std.specs.List.{list_any}
use Rattle.struql_ast.specs.Reading.{link_of}
use Rattle.edit_footprint.specs.Rests.{link_names}
use Rattle.edit_footprint.proofs.blocks.some_end.Given as goal

abbrev pub invariant-loop-link : goal.invariant-loop-link
invariant-loop-link l = list_any (link_names l.function) (map link_of (drop l.link-index l.links)) ≡ list_any
    (link_names l.function) (map link_of l.links)
