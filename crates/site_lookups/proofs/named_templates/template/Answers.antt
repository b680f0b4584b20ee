use Rattle.std.proofs.Common.{◌∙◌, ap}
use Rattle.sd_value.specs.declared.Value.TheVariants.{Data}
use Rattle.tmpl.specs.Reading.{file_of}
use Rattle.site_lookups.proofs.TemplateOf.{of_page, of_node}
use Rattle.site_lookups.proofs.Counts.{template_causes}
use Rattle.weight_spec.proofs.Handing.{hands_none}
use Rattle.weight_spec.specs.Charges.{IsCause}
use Rattle.page_spec.specs.Question.{template as asks}
use Rattle.tmpl.specs.Reading.{named_of}
use Rattle.std.proofs.Common.{sym, length}
use Rattle.std.proofs.lemmas.List.{length-map}
use Rattle.site_lookups.proofs.named_templates.template.Goals as goal

pub returns-in-Page-clause-answer : goal.returns-in-Page-clause-answer
returns-in-Page-clause-answer g c = of_page (g.A.Asker.graph c.args.asker.now) (file_of c.args.templates.now) c.functions.result.now c.in-Page.term c.args.value.now c.function_template.result c.in-Page.is c.functions.ensures c.function_template.ensures

pub returns-in_ok-number-in-Node-clause-answer : goal.returns-in_ok-number-in-Node-clause-answer
returns-in_ok-number-in-Node-clause-answer g c =
    of_node (g.A.Asker.graph c.args.asker.now) (file_of c.args.templates.now) c.collections.result.now c.in-Node.name c.args.value.now c.in_ok-number-in-Node.number (c.in-Data.is ∙ ap Data c.in-Node.is) c.collections.ensures c.in_ok-number-in-Node.ensures.answer

pub returns-in-Page-clause-counted : goal.returns-in-Page-clause-counted
returns-in-Page-clause-counted g c =
    λ q. hands_none (IsCause (g.A.Asker.graph c.args.asker.now) q (file_of c.args.templates.now) (asks c.args.value.now)) (g.A.Asker.count c.args.asker.now)

pub returns-in_default-clause-counted : goal.returns-in_default-clause-counted
returns-in_default-clause-counted g c =
    λ q. hands_none (IsCause (g.A.Asker.graph c.args.asker.now) q (file_of c.args.templates.now) (asks c.args.value.now)) (g.A.Asker.count c.args.asker.now)

pub returns-in_err-number-in-Node-clause-counted : goal.returns-in_err-number-in-Node-clause-counted
returns-in_err-number-in-Node-clause-counted g c =
    λ q. template_causes (g.A.Asker.graph c.args.asker.now) q (file_of c.args.templates.now) c.args.value.now c.in-Node.name (length c.collections.result.now) (g.A.Asker.count c.args.asker.now) (g.A.Asker.count c.collection_template.new.asker) (c.in-Data.is ∙ ap Data c.in-Node.is) (sym (length-map c.collections.result.now named_of) ∙ ap length c.collections.ensures) c.in_err-number-in-Node.ensures.counted

pub returns-in_ok-number-in-Node-clause-counted : goal.returns-in_ok-number-in-Node-clause-counted
returns-in_ok-number-in-Node-clause-counted g c =
    λ q. template_causes (g.A.Asker.graph c.args.asker.now) q (file_of c.args.templates.now) c.args.value.now c.in-Node.name (length c.collections.result.now) (g.A.Asker.count c.args.asker.now) (g.A.Asker.count c.collection_template.new.asker) (c.in-Data.is ∙ ap Data c.in-Node.is) (sym (length-map c.collections.result.now named_of) ∙ ap length c.collections.ensures) c.in_ok-number-in-Node.ensures.counted
