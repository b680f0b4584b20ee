use Rattle.std.proofs.Common.{rules, ◌≡◌, inr, subst, sym}
use Rattle.template_items.specs.Scanning.{AreItems}
use Rattle.template_reader.specs.Faults.{AreItemsOf, IsItemsAnswer, IsTemplatesAnswer, UnlessNoMemory}
use Rattle.template_reader.proofs.Answer.{gives, unless_map}
use Rattle.template_reader.proofs.TemplateFiles.{one_answer}
use Rattle.template_reader.proofs.templates.read_templates.Goals as goal

pub returns-clause-only : goal.returns-clause-only
returns-clause-only c r is =
    let here : c.deref.result.now ≡ c.in_ok-items.items.items = search rules in
    let these : AreItemsOf c.args.limit c.args.bytes.now c.in_ok-items.items.items = c.in_ok-items.ensures.items in
    let are : AreItems c.args.bytes.now c.deref.result.now = subst (AreItems c.args.bytes.now) (sym here) these.are in
    let answered : UnlessNoMemory (IsTemplatesAnswer c.args.limit c.args.bytes.now) c.templates_of.result = unless_map (IsItemsAnswer c.deref.result.now) (IsTemplatesAnswer c.args.limit c.args.bytes.now) (λ s h. inr (these.short, c.deref.result.now, are, h)) c.templates_of.result c.templates_of.ensures.exact in
    gives (IsTemplatesAnswer c.args.limit c.args.bytes.now) r (λ s h. one_answer c.args.limit c.args.bytes.now r s is h) c.templates_of.result answered
