-- Where a link, a value under a name, or a term lies beside what is asked for.
use Rattle.std.specs.declared.cmp.Ordering.{Ordering}
use Rattle.std.specs.Ordering.{ordering_then}
use Rattle.sd_value.specs.declared.Term.{Term}
use Rattle.sd_value.specs.Order.{bytes_cmp, term_cmp}
use Rattle.graph_spec.specs.DataGraph.{Name}
use Rattle.site_build.specs.declared.ordered.Joined.{Joined}
use Rattle.site_build.specs.declared.ordered.Put.{Put}

-- beside the links from a page by a label
abbrev pub at_link : Term → Name → Joined → Ordering
at_link from label j = ordering_then (term_cmp j.from from) (bytes_cmp j.label label)

-- beside the values put under a name
abbrev pub at_name : Name → Put → Ordering
at_name name p = bytes_cmp p.collection name

abbrev pub at_term : Term → Term → Ordering
at_term term t = term_cmp t term
