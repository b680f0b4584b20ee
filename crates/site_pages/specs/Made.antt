-- What never changes of the pages of a site, whatever they are made from.
use Rattle.sd_graph.specs.Statement.{Building}
use Rattle.tmpl.specs.Reading.{file_of}
use Rattle.query_blocks.specs.Blocks.{scope_of}
use Rattle.click_time.specs.Page.{PageFixed}
use Rattle.site_pages.specs.declared.made.MadePages.{MadePages}
use Rattle.site_pages.specs.declared.made.MadePages.TheVariants.{Demanded, FromWhole}

-- the store behind the pages
abbrev pub store_in : MadePages → Building
store_in (Demanded click) = click.asker.store
store_in (FromWhole whole) = whole.asker.store

-- the data, the query and the templates of the pages
abbrev pub fixed_of : MadePages → PageFixed
fixed_of (Demanded click) = record {
  graph = click.asker.store.graph;
  scope = scope_of click.scopes.now;
  templates = file_of click.templates.now;
}
fixed_of (FromWhole whole) = record {
  graph = whole.asker.store.graph;
  scope = scope_of whole.scopes.now;
  templates = file_of whole.templates.now;
}
