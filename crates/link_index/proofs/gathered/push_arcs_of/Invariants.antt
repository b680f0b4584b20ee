use Rattle.std.proofs.Common.{◌≡◌, ◌++◌, take}
use Rattle.std.specs.Prelude.{map}
use Rattle.std.specs.List.{flat_map}
use Rattle.link_index.specs.Links.{arc_of}
use Rattle.link_index.specs.Found.{arc_name, placed}
use Rattle.link_index.proofs.gathered.push_arcs_of.Given as goal

abbrev pub invariant-loop-link : goal.invariant-loop-link
invariant-loop-link l =
    map arc_name l.found.items
    ≡ map arc_name l.initial.found.items ++ flat_map (λ k. arc_of (placed l.block.chain.conditions k)) (take l.link-index l.block.links.items)
