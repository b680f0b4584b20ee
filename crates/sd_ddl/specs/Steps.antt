-- The steps of a data text: what it states of the graph at each place, and the places of its conflicts of kinds.
use Rattle.std.specs.Prelude.{ℕ, List, [], ◌∷◌, ◌++◌, Option, Some, None, if◌then◌else◌}
use Rattle.sd_value.specs.declared.Datum.TheVariants as datum
use Rattle.sd_value.specs.declared.Value.{Value}
use Rattle.sd_value.specs.declared.Value.TheVariants.{Data}
use Rattle.sd_graph.specs.Statement.{a_node, a_member, an_edge}
use Rattle.sd_graph.specs.Stating.{Step, says, fails}
use Rattle.ddl_text.specs.declared.tree.Kind.{Kind}
use Rattle.ddl_text.specs.declared.tree.Kind.TheVariants as kinds
use Rattle.ddl_text.specs.declared.tree.Content.{Content}
use Rattle.ddl_text.specs.declared.tree.Content.TheVariants as contents
use Rattle.sd_ddl.specs.declared.part.Part.{Part}
use Rattle.sd_ddl.specs.declared.part.Part.TheVariants.{Gives, Node, Member, Edge}
use Rattle.sd_ddl.specs.declared.kinds.StatedKinds.{StatedKinds}
use Rattle.sd_ddl.specs.declared.kinds.StatedKinds.TheVariants.{Nothing, One, Several}
use Rattle.sd_ddl.specs.Kinds.{Name, given, kinds_of, told, differs}

abbrev pub kinded : Kind → Name → Value
kinded kinds.Text s = Data (datum.Text s)
kinded kinds.Url s = Data (datum.Url s)
kinded kinds.File s = Data (datum.File s)

-- a text without a kind has the one that is reported, else it is a Text. With two kinds it is no value
abbrev pub plain_value : StatedKinds → Name → Option Value
plain_value Nothing s = Some (Data (datum.Text s))
plain_value (One k) s = Some (kinded k s)
plain_value Several s = None

abbrev pub value_of : StatedKinds → Content → Option Value
value_of t (contents.Number n) = Some (Data (datum.Int n))
value_of t (contents.Plain s) = plain_value t s
value_of t (contents.Kinded k s) = Some (kinded k s)
value_of t (contents.Node n) = Some (Data (datum.Node n))

-- an edge at the place of its value, where it has one
abbrev pub edge_steps : ℕ → Name → Name → Option Value → List (Step ℕ ℕ)
edge_steps place object label (Some v) = says place (an_edge object label v) ∷ []
edge_steps place object label None = fails place ∷ []

-- what a part states. The kinds are those that the whole text reports
abbrev pub said : (Name → Name → StatedKinds) → Part → List (Step ℕ ℕ)
said kinds (Gives g) = []
said kinds (Node n) = says n.place (a_node n.text) ∷ []
said kinds (Member c n) = says c.place (a_member c.text n) ∷ []
said kinds (Edge o l v) = edge_steps v.place o l (value_of (kinds o l) v.content)

-- a kind that differs from one that an earlier entry gave fails at its place; any other part states what it states
abbrev pub steps_of : (Name → Name → StatedKinds) → List Part → Part → List (Step ℕ ℕ)
steps_of kinds front (Gives g) =
    if differs (given front g.collection g.attribute) g.kind.kind then fails g.kind.place
    ∷ [] else []
steps_of kinds front (Node n) = said kinds (Node n)
steps_of kinds front (Member c n) = said kinds (Member c n)
steps_of kinds front (Edge o l v) = said kinds (Edge o l v)

-- the steps of the parts behind those of the front
abbrev pub steps_from : (Name → Name → StatedKinds) → List Part → List Part → List (Step ℕ ℕ)
steps_from kinds front [] = []
steps_from kinds front (p ∷ ps) = steps_of kinds front p ++ steps_from kinds (front ++ p ∷ []) ps

-- the kinds that the whole text reports
abbrev pub kinds_told : List Part → Name → Name → StatedKinds
kinds_told parts object attribute = told (kinds_of parts object attribute)

abbrev pub steps : List Part → List (Step ℕ ℕ)
steps parts = steps_from (kinds_told parts) [] parts

abbrev pub place_of : Part → ℕ
place_of (Gives g) = g.kind.place
place_of (Node n) = n.place
place_of (Member c n) = c.place
place_of (Edge o l v) = v.place
