-- A graph without nodes is empty.
use Rattle.std.proofs.Common.{◌≡◌, List, [], ◌∷◌, refl, sym, subst, Contains}
use Rattle.sd_value.specs.Members.{Contains-nil, Contains-here}
use Rattle.graph_spec.specs.DataGraph.{DataGraph, IsWellFormed}
use Rattle.graph_spec.specs.declared.Edge.{Edge}
use Rattle.graph_spec.specs.declared.Member.{Member}
use Rattle.sd_graph.specs.Statement.{IsEmpty}

no_edges : (G : DataGraph) → IsWellFormed G → G.nodes ≡ [] → (es : List Edge) → G.edges ≡ es → es ≡ []
no_edges G well none [] is = refl
no_edges G well none (e ∷ es) is =
    absurd (Contains-nil e.from
    (subst (λ ns. Contains ns e.from) none
    (well.starts_are_nodes e (subst (λ l. Contains l e) (sym is) (Contains-here e es)))))

no_members : (G : DataGraph) → IsWellFormed G → G.nodes ≡ [] → (ms : List Member) → G.members ≡ ms → ms ≡ []
no_members G well none [] is = refl
no_members G well none (m ∷ ms) is =
    absurd (Contains-nil m.node
    (subst (λ ns. Contains ns m.node) none
    (well.members_are_nodes m (subst (λ l. Contains l m) (sym is) (Contains-here m ms)))))

pub is_bare : (G : DataGraph) → IsWellFormed G → G.nodes ≡ [] → IsEmpty G
is_bare G well none = (none, no_edges G well none G.edges refl, no_members G well none G.members refl)
