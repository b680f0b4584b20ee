use Rattle.std.proofs.Common.{◌≡◌, ◌∙◌, ap, subst, refl, IfOk}
use Rattle.clap.specs.Walk.{texts}
use Rattle.command_spec.specs.Words as words
use Rattle.command_words.proofs.read_command.Goals as goal

pub returns-in-Some-clause-exact : goal.returns-in-Some-clause-exact
returns-in-Some-clause-exact c =
    let are = rw c.in-Some.is at c.in_ok-texts.ensures in
    let same : words.given_command (texts c.deref.result.now) ≡ words.command c.args.words.now = ap (λ x. words.given_command (texts x)) c.deref.ensures.value ∙ ap words.given_command are.0 ∙ rw are.1 refl in
    subst (λ x. IfOk c.given_command.result (λ given. given ≡ x)) same c.given_command.ensures.exact
