use Rattle.std.proofs.Common.{◌≡◌, drop, map}
use Rattle.std.specs.List.{list_any}
use Rattle.struql_ast.specs.Reading.{link_of}
use Rattle.edit_footprint.specs.Rests.{has_link}
use Rattle.edit_footprint.proofs.blocks.some_link.Given as goal

abbrev pub invariant-loop-link : goal.invariant-loop-link
invariant-loop-link l = list_any (has_link l.others) (map link_of (drop l.link-index l.links)) ≡ list_any
    (has_link l.others) (map link_of l.links)
