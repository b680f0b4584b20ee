use Rattle.std.proofs.Common.{◌≡◌, ◌++◌, take}
use Rattle.std.specs.List.{flat_map}
use Rattle.site_spec.specs.Site.{ends_of}
use Rattle.struql_ast.specs.Reading.{link_of}
use Rattle.query_links.specs.Mentions.{plain_terms, of_function}
use Rattle.query_links.proofs.written.add_links.Given as goal

abbrev pub invariant-loop-link : goal.invariant-loop-link
invariant-loop-link l =
    plain_terms l.found.items ≡ plain_terms l.initial.found.items ++ flat_map (λ k. of_function l.function (ends_of (link_of k))) (take l.link-index l.links)
