use Rattle.std.proofs.Common.{◌≡◌, ◌++◌, take}
use Rattle.std.specs.Prelude.{map, All}
use Rattle.struql_ast.specs.Reading.{link_of}
use Rattle.tests_certificates.specs.Links.{placed_link, HasOwnVariables}
use Rattle.tests_certificates.proofs.links.add_block.Given as goal

abbrev pub invariant-loop-link : goal.invariant-loop-link
invariant-loop-link l =
    (map placed_link l.links.items ≡ map placed_link l.initial.links.items ++ map (λ k. record { conditions = l.block.chain.conditions; link = k }) (map link_of (take l.link-index l.link-items)))
    × All (λ k. HasOwnVariables k.chain.now) l.links.items
