-- What an index has of a query's links.
use Rattle.std.specs.Prelude.{◌↔◌, List, map, Contains}
use Rattle.std.specs.List.Sorted.{IsSortedByKey}
use Rattle.std.specs.Ordering.{on, then_cmp}
use Rattle.std.specs.declared.cmp.Ordering.{Ordering}
use Rattle.sd_value.specs.Names.{Name, Label}
use Rattle.sd_value.specs.Order.{bytes_cmp}
use Rattle.query_spec.specs.Query.{Condition}
use Rattle.struql_ast.specs.declared.Link.{Link}
use Rattle.struql_ast.specs.Reading.{link_of}
use Rattle.site_spec.specs.Site.{Scope}
use Rattle.constraint_spec.specs.Placed.{PlacedLink}
use Rattle.link_index.specs.declared.gathered.QuotedLink.{QuotedLink}
use Rattle.link_index.specs.declared.gathered.ArcLink.{ArcLink}
use Rattle.link_index.specs.Links.{quoted_links, arc_links}

-- the link under the conditions of its chain
abbrev pub placed : List Condition → Link → PlacedLink
placed conditions k = record { conditions = conditions; link = link_of k }

-- the function and the label
abbrev pub quoted_name : QuotedLink → Name × Label
quoted_name k = (k.function.now, k.label.now)

-- the function and the link
abbrev pub arc_name : ArcLink → Name × PlacedLink
arc_name k = (k.function.now, placed k.chain.now.conditions k.link.now)

-- by function, then by label
abbrev pub pair_cmp : Name × Label → Name × Label → Ordering
pair_cmp = then_cmp (on (λ p. p.0) bytes_cmp) (on (λ p. p.1) bytes_cmp)

-- these are the query's links by quoted labels, by function and then by label
pub record AreQuoted (q : Scope) (links : List QuotedLink) : Type 0 where
  pub sorted : IsSortedByKey quoted_name pair_cmp links
  pub are : (p : Name × Label) → Contains (map quoted_name links) p ↔ Contains (quoted_links q) p

-- these are the query's links by variables, by function
pub record AreArcs (q : Scope) (links : List ArcLink) : Type 0 where
  pub sorted : IsSortedByKey (λ k. k.function.now) bytes_cmp links
  pub are : (p : Name × PlacedLink)
      → Contains (map arc_name links) p ↔ Contains (arc_links q) p
