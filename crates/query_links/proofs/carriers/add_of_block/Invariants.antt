use Rattle.std.proofs.Common.{◌≡◌, [], ◌∷◌, ◌++◌, take}
use Rattle.std.specs.List.{flat_map}
use Rattle.constraint_recheck.specs.Recheck.{may_carry}
use Rattle.query_links.specs.Links.{placed, plain_links, carried}
use Rattle.query_links.proofs.carriers.add_of_block.Given as goal

abbrev pub invariant-loop-link : goal.invariant-loop-link
invariant-loop-link g l =
    plain_links l.found.items
    ≡ plain_links l.initial.found.items
    ++ flat_map (λ k. carried (may_carry (g.J.Judge.tests l.judge) l.version l.function l.label) (placed l.block.chain.conditions k ∷ [])) (take l.link-index l.block.links.items)
