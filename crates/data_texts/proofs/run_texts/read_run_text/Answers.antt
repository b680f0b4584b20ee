use Rattle.std.proofs.Common.{Bool, true, false, subst}
use Rattle.std.specs.Prelude.{Option}
use Rattle.graph_spec.specs.DataGraph.{DataGraph}
use Rattle.data_texts.specs.Texts.{IsRead}
use Rattle.data_texts.specs.ComposedTexts.{MakesData}
use Rattle.data_texts.specs.RunTexts.{BeginsEdit}
use Rattle.data_texts.proofs.Apart.{no_data, none_under}
use Rattle.data_texts.proofs.run_texts.read_run_text.Goals as goal

pub returns-then-branch : goal.returns-then-branch
returns-then-branch c =
    let begins : BeginsEdit c.args.text.now true = subst (λ (b : Bool). BeginsEdit c.args.text.now b) c.if-branch.true c.in_ok-begins_edit.ensures in
    (no_data c.args.first.now c.args.text.now begins, c.in_ok-edit.ensures)

pub returns-in-None : goal.returns-in-None
returns-in-None c =
    let begins : BeginsEdit c.args.text.now false = subst (λ (b : Bool). BeginsEdit c.args.text.now b) c.if-branch.false c.in_ok-begins_edit.ensures in
    let P : Option DataGraph → Type 0 = IsRead (MakesData c.args.first.now) c.args.text.now in
    (subst P c.in-None.is c.in_ok-graph.ensures, none_under c.args.first.now c.args.text.now begins)
