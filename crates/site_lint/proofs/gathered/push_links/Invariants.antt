use Rattle.std.proofs.Common.{◌≡◌, ◌++◌, take}
use Rattle.std.specs.Prelude.{map}
use Rattle.std.specs.List.{flat_map}
use Rattle.struql_ast.specs.Reading.{link_of}
use Rattle.lint_spec.specs.Mistakes.{target_functions}
use Rattle.site_lint.proofs.gathered.push_links.Given as goal

abbrev pub invariant-loop-link : goal.invariant-loop-link
invariant-loop-link l = l.found.items ≡ l.initial.found.items ++ flat_map (λ k. target_functions k.target) (map link_of (take l.link-index l.links))
