-- What never changes of the pages of a site.
use Rattle.graph_spec.specs.DataGraph.{DataGraph}
use Rattle.tmpl.specs.Body.{TemplateFile}
use Rattle.site_spec.specs.Site.{Scope}
use Rattle.page_spec.specs.Site.{Site}
use Rattle.weight_spec.specs.Site.{site_of}

pub record PageFixed : Type 0 where
  pub graph : DataGraph
  pub scope : Scope
  pub templates : TemplateFile

abbrev pub page_site : PageFixed → Site
page_site f = site_of f.graph f.scope
