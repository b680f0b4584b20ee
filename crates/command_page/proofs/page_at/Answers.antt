use Rattle.std.proofs.Common.{subst, ap, ◌∙◌}
use Rattle.address.specs.Targets.{IsOnly, root_name}
use Rattle.page_spec.specs.Address.{TermOf}
use Rattle.weight_spec.specs.Site.{site_of}
use Rattle.query_blocks.specs.Roots.{root_of_bodies}
use Rattle.site_inputs.specs.Values.{inputs_of}
use Rattle.site_inputs.proofs.Sites.{root_copied}
use Rattle.command_page.proofs.Named.{no_term, term_answer}
use Rattle.command_page.proofs.page_at.Goals as goal

pub returns-in_default : goal.returns-in_default
returns-in_default c =
    no_term (inputs_of c.args.inputs) c.args.address.now (root_name c.root_of.result) c.in_ok-named.named
    (root_copied c.root_of.result ∙ c.root_of.ensures ∙ ap (λ s. root_of_bodies s.bodies) c.in_ok-scopes.ensures.scope)
    (subst (λ bytes. IsOnly (TermOf (root_name c.root_of.result) bytes) c.in_ok-named.named) c.bytes.ensures c.in_ok-named.ensures)
    c.in_default.is

pub returns : goal.returns
returns c =
    term_answer (inputs_of c.args.inputs) c.args.address.now (root_name c.root_of.result) c.in_ok-named.named _ c.in-Some.term c.in_ok-outcome.outcome _
    (root_copied c.root_of.result ∙ c.root_of.ensures ∙ ap (λ s. root_of_bodies s.bodies) c.in_ok-scopes.ensures.scope)
    (subst (λ bytes. IsOnly (TermOf (root_name c.root_of.result) bytes) c.in_ok-named.named) c.bytes.ensures c.in_ok-named.ensures)
    c.in-Some.is
    (ap (λ s. site_of c.args.inputs.graph s) c.in_ok-scopes.ensures.scope)
    c.in_ok-outcome.ensures
    c.answer.ensures
