-- `WHERE A(x) CREATE F(x) LINK F(x) -> "t" -> x`, and `<SIF @t.t>y</SIF>` for F: the first label of the word is read at
-- the page, and the second one, which is the same, in the data.
use Rattle.std.specs.Prelude.{[], ◌∷◌, false, codes}
use Rattle.graph_spec.specs.DataGraph.{DataGraph, text}
use Rattle.query_spec.specs.Query.{variable, member, made, plain, quoted, Link, Body as Block}
use Rattle.site_spec.specs.Site.{Scope}
use Rattle.tmpl.specs.declared.Test.TheVariants.{Any}
use Rattle.tmpl.specs.Body.{Body, done, text as stretch, choice}
use Rattle.definition_examples.specs.Tools.{edge}
use Rattle.edit_spec.specs.declared.Edit.{Edit}
use Rattle.edit_spec.specs.declared.Edit.TheVariants.{Add}
use Rattle.edit_spec.specs.Footprint.{Footprint}
use Rattle.edit_examples.specs.Parts.{a, o, t, x, o_in_a, written, here}

abbrev pub link : Link
link = record { source = made written; label = quoted t; target = plain (variable x) }

abbrev pub block : Block
block = record {
  conditions = member a x ∷ [];
  creates = written ∷ [];
  links = link ∷ [];
  collects =
      [];
}

abbrev pub scope : Scope
scope = record { version = 1; bodies = block ∷ [] }

abbrev pub body : Body
body = choice false (here (t ∷ t ∷ [])) Any (stretch (codes "y") done) done done

-- `object o in A {}`, and the same with `t "U"`
abbrev pub before : DataGraph
before = record { nodes = o ∷ []; edges = []; members = o_in_a ∷ [] }

abbrev pub after : DataGraph
after = record { nodes = o ∷ []; edges = edge o t (text (codes "U")) ∷ []; members = o_in_a ∷ [] }

abbrev pub edit : Edit
edit = Add (edge o t (text (codes "U")))

-- the footprint, and what it would be if a label that is also a first label weren't another one
abbrev pub footprint : Footprint
footprint = record { every = false; blocks = 0 ∷ []; labels = t ∷ []; collections = [] }

abbrev pub too_small : Footprint
too_small = record { every = false; blocks = 0 ∷ []; labels = []; collections = [] }
