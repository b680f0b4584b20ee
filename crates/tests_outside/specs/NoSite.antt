-- A site without terms, and no templates.
use Rattle.std.specs.Prelude.{[]}
use Rattle.tmpl.specs.Body.{TemplateFile}
use Rattle.page_spec.specs.Site.{Site}

abbrev pub no_site : Site
no_site = record {
  has = λ t. ⊥;
  edge = λ u l v. ⊥;
  collected = λ name v. ⊥;
  member = λ name node. ⊥;
}

abbrev pub no_templates : TemplateFile
no_templates = record { bodies = []; functions = []; collections = [] }
