use Rattle.std.proofs.Common.{◌≡◌, take}
use Rattle.std.specs.Prelude.{map, All}
use Rattle.std.specs.List.{flat_map}
use Rattle.query_blocks.specs.Blocks.{body_of}
use Rattle.constraint_spec.specs.Placed.{body_links}
use Rattle.tests_certificates.specs.Links.{placed_link, HasOwnVariables}
use Rattle.tests_certificates.proofs.links.links_of.Given as goal

abbrev pub invariant-loop-block : goal.invariant-loop-block
invariant-loop-block l =
    (map placed_link l.links.items ≡ flat_map body_links (map body_of (take l.block-index l.block-items)))
    × All (λ k. HasOwnVariables k.chain.now) l.links.items
