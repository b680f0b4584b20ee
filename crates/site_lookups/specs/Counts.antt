-- What is handed out where a page, the ends of its links or a collection are asked for.
use Rattle.std.specs.Prelude.{◌≡◌, List}
use Rattle.sd_value.specs.declared.Term.{Term}
use Rattle.sd_value.specs.declared.Value.{Value}
use Rattle.sd_value.specs.declared.Value.TheVariants.{Page}
use Rattle.graph_spec.specs.DataGraph.{DataGraph, Name}
use Rattle.query_spec.specs.Query.{SkolemTerm, Target, made, Link, Collect, Chain}
use Rattle.query_spec.specs.Rows.{value_in, IsRow}
use Rattle.struql_ast.specs.declared.SkolemTerm.{SkolemTerm as Written}
use Rattle.struql_ast.specs.Reading.{term_of}
use Rattle.site_spec.specs.Site.{IsTargetUnder, IsLabelUnder}

-- the written term has the page's function
abbrev pub HasFunction : Term → Written → Unit {0} → Type 0
HasFunction p w x = (term_of w).function ≡ p.function

-- the target is a term of the page's function
abbrev pub IsTermOf : Term → Target → Unit {0} → Type 0
IsTermOf p target x = (t : SkolemTerm) × (target ≡ made t) × (t.function ≡ p.function)

pub data LinkEnd : Type 0 where
  source_end : LinkEnd
  target_end : LinkEnd

-- the link's end is a term of the page's function
abbrev pub IsEndOf : Term → Link → LinkEnd → Type 0
IsEndOf p k source_end = IsTermOf p k.source tt
IsEndOf p k target_end = IsTermOf p k.target tt

-- a row under which the link starts at the page and has the label
abbrev pub IsLinkRow : DataGraph → Chain → Term → Name → Link → List Value → Type 0
IsLinkRow G c p label k row =
    IsRow G c row × IsTargetUnder (value_in c.variables row) k.source (Page p)
    × IsLabelUnder (value_in c.variables row) k.label label

-- a row of a COLLECT under the name
abbrev pub IsCollectRow : DataGraph → Chain → Name → Collect → List Value → Type 0
IsCollectRow G c name k row = (k.collection ≡ name) × IsRow G c row
