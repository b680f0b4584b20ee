use Rattle.std.proofs.Common.{◌≡◌, take, true}
use Rattle.std.specs.Prelude.{option_copied}
use Rattle.std.specs.List.{list_all}
use Rattle.struql_ast.specs.Reading.{target_of}
use Rattle.query_links.specs.Links.{is_end}
use Rattle.query_links.proofs.carriers.all_end.Given as goal

abbrev pub invariant-loop-link : goal.invariant-loop-link
invariant-loop-link l = list_all (λ k. is_end (option_copied l.function) (target_of k.now.target)) (take l.link-index l.links) ≡ true
