use Rattle.std.proofs.Common.{rules, ◌≡◌, length, map, arith, ap}
use Rattle.std.proofs.lemmas.List.{length-map}
use Rattle.template_layouts.specs.Together.{items_of, together}
use Rattle.template_reader.specs.Faults.{templates_of, IsItemsAnswer, UnlessNoMemory}
use Rattle.template_reader.proofs.Answer.{gives}
use Rattle.template_reader.proofs.Made.{templates_few}
use Rattle.template_reader.proofs.TemplateFiles.{one_items_answer}
use Rattle.template_reader.proofs.templates.templates_of.Goals as goal

pub answer-requires : goal.answer-requires
answer-requires c =
    let here : c.deref-4.result.now ≡ c.in_ok-put.put.templates.items = search rules in
    let few = templates_few c.args.items.now in
    let same : length (map items_of c.in_ok-put.put.templates.items) ≡ length c.in_ok-put.put.templates.items = length-map c.in_ok-put.put.templates.items items_of in
    let put : length (map items_of c.in_ok-put.put.templates.items) ≡ length (templates_of (together c.args.items.now)) = ap length c.in_ok-put.ensures.templates in
    let all : length c.deref-4.result.now ≡ length c.in_ok-put.put.templates.items = ap length here in
    omega (arith, few, same, put, all, c.requires.few)

pub returns-clause-only : goal.returns-clause-only
returns-clause-only c bytes r are is =
    let answered : UnlessNoMemory (IsItemsAnswer c.args.items.now) c.answer.result = search rules in
    gives (IsItemsAnswer c.args.items.now) r (λ s h. one_items_answer bytes c.args.items.now are r s is h) c.answer.result answered
