use Rattle.std.proofs.Common.{◌≡◌, ◌++◌, take}
use Rattle.std.specs.List.{flat_map}
use Rattle.site_spec.specs.Site.{target_terms}
use Rattle.struql_ast.specs.Reading.{collect_of}
use Rattle.query_links.specs.Mentions.{plain_terms, of_function}
use Rattle.query_links.proofs.written.add_collects.Given as goal

abbrev pub invariant-loop-collect : goal.invariant-loop-collect
invariant-loop-collect l =
    plain_terms l.found.items ≡ plain_terms l.initial.found.items ++ flat_map (λ c. of_function l.function (target_terms (collect_of c).target)) (take l.collect-index l.collects)
