use Rattle.std.proofs.Common.{◌≡◌, take}
use Rattle.std.specs.Prelude.{map}
use Rattle.std.specs.List.{flat_map}
use Rattle.query_blocks.specs.Blocks.{body_of}
use Rattle.constraint_spec.specs.Placed.{body_links}
use Rattle.link_index.specs.Links.{arc_of}
use Rattle.link_index.specs.Found.{arc_name}
use Rattle.link_index.proofs.gathered.arc_links.Given as goal

abbrev pub invariant-loop-block : goal.invariant-loop-block
invariant-loop-block l =
    map arc_name l.found.items
    ≡ flat_map (λ b. flat_map arc_of (body_links (body_of b))) (take l.block-index l.query.blocks.items)
