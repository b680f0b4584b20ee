-- The links of a query, each with the function at which it starts.
use Rattle.std.specs.Prelude.{ℕ, List, [], ◌∷◌}
use Rattle.std.specs.List.{flat_map}
use Rattle.sd_value.specs.Names.{Name, Label}
use Rattle.query_spec.specs.Query.{Target, plain, made, summed, LinkLabel, quoted, label_variable}
use Rattle.site_spec.specs.Site.{Scope}
use Rattle.constraint_spec.specs.Placed.{PlacedLink, links_of}
use Rattle.constraint_spec.specs.Certificate.{IsOf, MayBe}

-- a link with this source and this label: the function, and the label where it is quoted
abbrev pub quoted_by : Target → LinkLabel → List (Name × Label)
quoted_by (made t) (quoted l) = (t.function, l) ∷ []
quoted_by (made t) (label_variable a) = []
quoted_by (plain o) label = []
quoted_by (summed a) label = []

abbrev pub quoted_of : PlacedLink → List (Name × Label)
quoted_of k = quoted_by k.link.source k.link.label

-- the same: the function, and the link where its label is a variable
abbrev pub arc_by : PlacedLink → Target → LinkLabel → List (Name × PlacedLink)
arc_by k (made t) (label_variable a) = (t.function, k) ∷ []
arc_by k (made t) (quoted l) = []
arc_by k (plain o) label = []
arc_by k (summed a) label = []

abbrev pub arc_of : PlacedLink → List (Name × PlacedLink)
arc_of k = arc_by k k.link.source k.link.label

-- the functions at which the query's links by quoted labels start, each with the label
abbrev pub quoted_links : Scope → List (Name × Label)
quoted_links q = flat_map quoted_of (links_of q)

-- the functions at which the query's links by variables start, each with the link
abbrev pub arc_links : Scope → List (Name × PlacedLink)
arc_links q = flat_map arc_of (links_of q)

-- the link starts at a term of the function, and may carry the label
abbrev pub Carries : ℕ → Name → Label → PlacedLink → Type 0
Carries version f l k = IsOf f k.link.source × MayBe version l k.conditions k.link.label
