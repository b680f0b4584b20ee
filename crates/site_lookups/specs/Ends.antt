-- Where a link leads under a row.
use Rattle.std.specs.Prelude.{List}
use Rattle.sd_value.specs.declared.Value.{Value}
use Rattle.graph_spec.specs.DataGraph.{Name}
use Rattle.sd_value.specs.declared.Term.{Term}
use Rattle.sd_value.specs.declared.Value.TheVariants.{Page}
use Rattle.query_spec.specs.declared.Variable.{Variable}
use Rattle.query_spec.specs.Query.{Link, LinkLabel, Target, Chain}
use Rattle.query_spec.specs.Rows.{value_in}
use Rattle.query_spec.specs.Holds.{Assignment}
use Rattle.graph_spec.specs.DataGraph.{DataGraph}
use Rattle.struql_ast.specs.Reading.{link_of, collect_of}
use Rattle.site_spec.specs.Site.{IsTargetUnder, IsLabelUnder, IsJoined, IsPut, SomeOf, SomeRow}
use Rattle.query_blocks.specs.declared.QueryBlock.{QueryBlock}

-- the link's label is this one under the row
abbrev pub IsLabelled : List Variable → LinkLabel → Name → List Value → Type 0
IsLabelled variables written label row = IsLabelUnder (value_in variables row) written label

-- the link starts at the page and has the label
abbrev pub StartsBy : Link → Term → Name → Assignment → Type 0
StartsBy k p label s = IsTargetUnder s k.source (Page p) × IsLabelUnder s k.label label

-- some row makes the link start at the page and have the label, and makes the target v
abbrev pub LeadsTo : DataGraph → Chain → Term → Name → Link → Target → Value → Type 0
LeadsTo G c p label k target v =
    SomeRow G c (λ s. StartsBy k p label s × IsTargetUnder s target v)

-- some link of the block joins u to v by the label
abbrev pub BlockJoins : DataGraph → Value → Name → QueryBlock → Value → Type 0
BlockJoins G u label b v = SomeOf (λ k. IsJoined G b.chain u label v (link_of k)) b.links.items

-- some COLLECT of the block puts the value under the name
abbrev pub BlockPuts : DataGraph → Name → QueryBlock → Value → Type 0
BlockPuts G name b v = SomeOf (λ k. IsPut G b.chain name v (collect_of k)) b.collects.items
