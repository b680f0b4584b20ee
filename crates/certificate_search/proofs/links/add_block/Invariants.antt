use Rattle.std.proofs.Common.{◌≡◌, ◌+◌, ◌++◌, length, take}
use Rattle.std.specs.Prelude.{map, All}
use Rattle.struql_ast.specs.Reading.{link_of}
use Rattle.constraint_recheck.specs.Search.{numbered_from}
use Rattle.certificate_search.specs.Links.{numbered_of, IsPrepared}
use Rattle.certificate_search.proofs.Numbers.{placed}
use Rattle.certificate_search.proofs.links.add_block.Given as goal

abbrev pub invariant-loop-link : goal.invariant-loop-link
invariant-loop-link l = record {
  all :
      map numbered_of l.links.items
      ≡ map numbered_of l.initial.links.items
      ++ numbered_from (length l.initial.links.items + 1) (map (placed l.block.chain.conditions) (map link_of (take l.link-index l.block.links.items)));
  prepared : All IsPrepared l.links.items;
  count : length l.links.items ≡ length l.initial.links.items + l.link-index;
}
