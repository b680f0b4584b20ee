use Rattle.std.proofs.Common.{ℕ, List}
use Rattle.std.specs.Prelude.{Contains}
use Rattle.graph_spec.specs.DataGraph.{IsLabelOf}
use Rattle.lint_spec.specs.Mistakes.{NoLinkOf}
use Rattle.site_lint.proofs.NameLists.{if_ok_and}
use Rattle.site_lint.proofs.judged.is_unknown_step.Goals as goal

pub returns-then-is_unknown : goal.returns-then-is_unknown
returns-then-is_unknown g c =
    if_ok_and c.none_has.result ((f : List ℕ) → Contains c.args.functions.now f → NoLinkOf (g.L.LinkAnswers.query c.args.answers.now) f c.args.label.now)
    (IsLabelOf (g.S.Store.graph c.args.store.now) c.args.label.now → ⊥)
    (c.is_unknown.ensures.0 c.if-is_unknown.true) c.none_has.ensures
