use Rattle.std.proofs.Common.{take}
use Rattle.struql_ast.specs.Written.{link_written}
use Rattle.struql_check.specs.Faults.{SomeIn, LinkFault}
use Rattle.struql_check.specs.First.{IsFirst}
use Rattle.struql_check.proofs.passes.first_of_links.Given as goal

abbrev pub invariant-loop-link : goal.invariant-loop-link
invariant-loop-link l = IsFirst (SomeIn (λ x. LinkFault (link_written x)) (take l.link-index l.links)) l.first
