use Rattle.std.proofs.Common.{◌≡◌, take}
use Rattle.std.specs.Prelude.{map, All}
use Rattle.std.specs.List.{flat_map}
use Rattle.query_blocks.specs.Blocks.{body_of}
use Rattle.constraint_spec.specs.Placed.{body_links}
use Rattle.constraint_recheck.specs.Search.{numbered_from}
use Rattle.certificate_search.specs.Links.{numbered_of, IsPrepared}
use Rattle.certificate_search.proofs.links.numbered_links.Given as goal

abbrev pub invariant-loop-block : goal.invariant-loop-block
invariant-loop-block l = record {
  all : map numbered_of l.links.items ≡ numbered_from 1 (flat_map body_links (map body_of (take l.block-index l.blocks.blocks.items)));
  prepared : All IsPrepared l.links.items;
}
