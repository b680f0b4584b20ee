use Rattle.std.proofs.Common.{◌≡◌, sym, ap, ◌∙◌}
use Rattle.std.specs.Prelude.{Contains}
use Rattle.sd_value.specs.Names.{Name}
use Rattle.constraint_recheck.specs.Recheck.{may_carry}
use Rattle.constraint_recheck.proofs.Links.{may_decides}
use Rattle.inclusion.specs.Answers.{tests_of}
use Rattle.link_index.specs.Found.{placed}
use Rattle.command_lint.specs.Links.{query_of}
use Rattle.command_lint.proofs.link_answers.QueryLinksLinkAnswers.may_carry.Goals as goal

pub returns : goal.returns
returns c =
    let s = c.args.self.now in
    let tests = tests_of s.judge in
    let version = (query_of s).version in
    let a = c.args.link.now in
    let f = a.function.now in
    let l = c.args.label.now in
    let k = placed a.chain.now.conditions a.link.now in
    let d = may_decides (Contains c.requires.known) tests c.requires.tests version f l k in
    let is : c.may_carry-may.result ≡ may_carry tests version f l k = c.may_carry-may.ensures ∙ ap (λ (m : Name). may_carry tests version f m k) c.in_ok-label.ensures in
    (λ t. d.0 (sym is ∙ t), λ h. is ∙ d.1 h)
