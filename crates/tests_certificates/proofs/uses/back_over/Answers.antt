use Rattle.std.specs.Prelude.{option_map}
use Rattle.query_spec.specs.Query.{made}
use Rattle.struql_ast.specs.Reading.{term_of}
use Rattle.constraint_spec.specs.Use.{source_of, target_of}
use Rattle.query_parts.specs.Same.{same_target}
use Rattle.constraint_recheck.specs.Recheck.{is_use}
use Rattle.tests_certificates.specs.Links.{placed_link}
use Rattle.tests_certificates.specs.Back.{made_term}
use Rattle.tests_certificates.proofs.UseSteps.{both_true}
use Rattle.tests_certificates.proofs.uses.back_over.Goals as goal

pub returns : goal.returns
returns g c =
    let k = placed_link c.args.link.now in
    both_true (is_use (g.J.Judge.tests c.args.judge.now) c.args.version c.args.given.now.conditions k c.args.step.now.names) (same_target (target_of k c.args.step.now) (made (term_of c.args.term.now)))
    (made_term (source_of k c.args.step.now)) (option_map term_of c.in_ok-source.source)
    (cc (c.in_ok-is_use.ensures, c.names.ensures)) (cc (c.in_ok-ends_at_term.ensures, c.names-2.ensures)) (cc (c.in_ok-source.ensures, c.names-3.ensures))
