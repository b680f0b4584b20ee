use Rattle.std.proofs.Common.{◌≡◌, ◌++◌, take, map}
use Rattle.std.specs.List.{flat_map}
use Rattle.struql_ast.specs.Reading.{link_of}
use Rattle.site_spec.specs.Site.{ends_of}
use Rattle.certificate_text.specs.Lines.{terms_named}
use Rattle.certificate_text.specs.Written.{placed_of}
use Rattle.certificate_text.proofs.terms.push_links.Given as goal

abbrev pub invariant-loop-link : goal.invariant-loop-link
invariant-loop-link l = map placed_of l.found.items ≡ map placed_of l.initial.found.items ++ terms_named l.function l.path (flat_map (λ k. ends_of (link_of k)) (take l.link-index l.links))
