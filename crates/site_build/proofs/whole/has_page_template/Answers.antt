use Rattle.tmpl.specs.Reading.{file_of}
use Rattle.site_build.proofs.Pages.{template_found, template_missing}
use Rattle.site_build.proofs.whole.has_page_template.Goals as goal

pub returns-in-Some : goal.returns-in-Some
returns-in-Some c = template_found (file_of c.args.templates.now) c.functions.result.now c.args.term.now c.function_template.result c.in-Some.field-0 c.functions.ensures c.in-Some.is c.function_template.ensures

pub returns-in-None : goal.returns-in-None
returns-in-None c = template_missing (file_of c.args.templates.now) c.functions.result.now c.args.term.now c.function_template.result c.functions.ensures c.in-None.is c.function_template.ensures
