use Rattle.std.proofs.Common.{◌≡◌, ◌++◌, take, map}
use Rattle.std.specs.List.{flat_map}
use Rattle.struql_ast.specs.Reading.{target_of}
use Rattle.site_spec.specs.Site.{target_terms}
use Rattle.certificate_text.specs.Lines.{terms_named}
use Rattle.certificate_text.specs.Written.{placed_of}
use Rattle.certificate_text.proofs.terms.push_collects.Given as goal

abbrev pub invariant-loop-collect : goal.invariant-loop-collect
invariant-loop-collect l = map placed_of l.found.items ≡ map placed_of l.initial.found.items ++ terms_named l.function l.path (flat_map (λ k. target_terms (target_of k.target)) (take l.collect-index l.collects))
