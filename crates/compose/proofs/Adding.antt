-- Statements put into a builder: one, one source after another, and one for each item of a list.
use Rattle.std.proofs.Common.{◌≡◌, ◌⊎◌, ℕ, ◌+◌, ◌<◌, ◌≤◌, List, [], ◌∷◌, ◌++◌, length, get_or, take, drop, Result, Ok, Err, inl, inr, refl, sym, ap, ◌∙◌, subst}
use Rattle.std.specs.Prelude.{Contains, ⊤}
use Rattle.std.proofs.lemmas.List.{take_more, take_all, take-append-drop}
use Rattle.std.proofs.lemmas.List.Elements.{Contains-append_left, Contains-push_cases, Contains-push}
use Rattle.sd_value.specs.declared.Datum.TheVariants.{Node}
use Rattle.sd_value.specs.declared.Value.{Value}
use Rattle.sd_value.specs.declared.Value.TheVariants.{Data}
use Rattle.sd_value.specs.Members.{Contains-nil, among_at}
use Rattle.sd_value.specs.Order.{bytes_cmp}
use Rattle.sd_value.specs.OrderLaws.{bytes_cmp-exact}
use Rattle.graph_spec.specs.DataGraph.{DataGraph, Name}
use Rattle.graph_spec.specs.Orders.{edge_cmp, member_cmp, edge_cmp-exact, member_cmp-exact}
use Rattle.graph_spec.specs.declared.Edge.{Edge}
use Rattle.graph_spec.specs.declared.Member.{Member}
use Rattle.site_spec.specs.Site.{SomeOf}
use Rattle.sd_graph.specs.Statement.{Statement, a_node, a_member, an_edge, Building, graph_with, with_name, with_end, Adds, IsStatedIn}
use Rattle.sd_graph.specs.Inserted.{inserted-there, inserted-cases, inserted-here}
use Rattle.sd_graph.specs.Built.{IsPlain, IsBuilt-from_added, with_end-there}
use Rattle.sd_graph.specs.declared.GraphRefusal.{GraphRefusal}
use Rattle.sd_graph.specs.declared.GraphRefusal.TheVariants.{TooManyNodes, TooManyEdges, NoMemory}
use Rattle.compose.specs.Adding.{Says, IsSaidBy, Reaches, Gains, Stops, AddsAll}

-- ---- a graph with one statement more

end_cases : (v : Value) (names : List Name) (m : Name) → Contains (with_end v names) m → (v ≡ Data (Node m))
    ⊎ Contains names m
end_cases (Data (Node k)) names m h = elim (inserted-cases bytes_cmp k names m h)
    [ inl e ↦ inl (ap (λ (z : Name). Data (Node z)) e) | inr old ↦ inr old ]
end_cases v names m h = inr h

name_cases : (n : Name) (names : List Name) (m : Name) → Contains (with_name n names) m → Contains names m ⊎ (n ≡ m)
name_cases n names m h = elim (inserted-cases bytes_cmp n names m h) [ inl e ↦ inr e | inr old ↦ inl old ]

pub stated_cases : (s x : Statement) (G : DataGraph) → IsStatedIn (graph_with s G) x → IsStatedIn G x ⊎ Says s x
stated_cases (a_node n) (a_node m) G h = name_cases n G.nodes m h
stated_cases (a_node n) (a_member c k) G h = inl h
stated_cases (a_node n) (an_edge a l v) G h = inl h
stated_cases (a_member c n) (a_node m) G h = name_cases n G.nodes m h
stated_cases (a_member c n) (a_member d k) G h =
    elim (inserted-cases member_cmp (record { collection = c; node = n }) G.members
    (record { collection = d; node = k }) h) [
      | inl e ↦ inr (ap (λ (m : Member). a_member m.collection m.node) e)
      | inr old ↦ inl old
    ]
stated_cases (a_member c n) (an_edge a l v) G h = inl h
stated_cases (an_edge n l v) (a_node m) G h =
    elim (end_cases v (with_name n G.nodes) m h) [
      | inl e ↦ inr (inr e)
      | inr there ↦ elim (name_cases n G.nodes m there) [ inl old ↦ inl old | inr e ↦ inr (inl e) ]
    ]
stated_cases (an_edge n l v) (a_member c k) G h = inl h
stated_cases (an_edge n l v) (an_edge a k w) G h =
    elim (inserted-cases edge_cmp (record { from = n; label = l; to = v }) G.edges
    (record { from = a; label = k; to = w }) h) [
      | inl e ↦ inr (ap (λ (x : Edge). an_edge x.from x.label x.to) e)
      | inr old ↦ inl old
    ]

pub stated_kept : (s x : Statement) (G : DataGraph) → IsStatedIn G x → IsStatedIn (graph_with s G) x
stated_kept (a_node n) (a_node m) G h = inserted-there bytes_cmp n G.nodes m h
stated_kept (a_node n) (a_member c k) G h = h
stated_kept (a_node n) (an_edge a l v) G h = h
stated_kept (a_member c n) (a_node m) G h = inserted-there bytes_cmp n G.nodes m h
stated_kept (a_member c n) (a_member d k) G h = inserted-there member_cmp (record { collection = c; node = n })
    G.members (record { collection = d; node = k }) h
stated_kept (a_member c n) (an_edge a l v) G h = h
stated_kept (an_edge n l v) (a_node m) G h = with_end-there v (with_name n G.nodes) m
    (inserted-there bytes_cmp n G.nodes m h)
stated_kept (an_edge n l v) (a_member c k) G h = h
stated_kept (an_edge n l v) (an_edge a k w) G h = inserted-there edge_cmp (record { from = n; label = l; to = v })
    G.edges (record { from = a; label = k; to = w }) h

stated_here : (s : Statement) (G : DataGraph) → IsStatedIn (graph_with s G) s
stated_here (a_node n) G = inserted-here bytes_cmp bytes_cmp-exact n G.nodes
stated_here (a_member c n) G = inserted-here member_cmp member_cmp-exact (record { collection = c; node = n }) G.members
stated_here (an_edge n l v) G = inserted-here edge_cmp edge_cmp-exact (record { from = n; label = l; to = v }) G.edges

-- ---- nothing, and one statement

pub reaches_none : (Q : Statement → Type 0) (b : Building) → Reaches Q b b
reaches_none Q b = record { limits = refl; built = λ h. h; kept = λ x h. h; only = λ x h. inl h }

pub gains_none : (Q : Statement → Type 0) (b : Building) → ((x : Statement) → Q x → ⊥) → Gains Q b b
gains_none Q b none = record { way = reaches_none Q b; stated = λ x q. absurd (none x q) }

pub adds_one : (s : Statement) (b c : Building) (r : Result ⊤ GraphRefusal) → IsPlain s → Adds s b c r
    → AddsAll (λ x. s ≡ x) b c r
adds_one s b c (Ok u) plain h =
    let back : (x : Statement) → IsStatedIn (graph_with s b.graph) x → IsStatedIn c.graph x = λ x k. subst
    (λ (z : Building). IsStatedIn z.graph x) (sym h.0) k in
    record {
      way = record {
        limits = ap (λ (z : Building). z.limits) h.0;
        built = λ k. IsBuilt-from_added s b c (Ok u) plain h k;
        kept = λ x k. back x (stated_kept s x b.graph k);
        only = λ x k. elim (stated_cases s x b.graph (subst (λ (z : Building). IsStatedIn z.graph x) h.0 k)) [
          | inl old ↦ inl old
          | inr says ↦ inr (record { by = s; one = refl; says = says })
        ];
      };
      stated = λ x e. subst (IsStatedIn c.graph) e (back s (stated_here s b.graph));
    }
adds_one s b c (Err TooManyNodes) plain h = record {
  reached = b;
  way = reaches_none (λ x. s ≡ x) b;
  next = s;
  one =
      refl;
  over = h.1;
}
adds_one s b c (Err TooManyEdges) plain h = record {
  reached = b;
  way = reaches_none (λ x. s ≡ x) b;
  next = s;
  one =
      refl;
  over = (h.1, h.2);
}
adds_one s b c (Err NoMemory) plain h = tt

-- ---- the same statements in other words

module _ (P Q : Statement → Type 0) (to : (x : Statement) → P x → Q x) where
  said_as : (x : Statement) → IsSaidBy P x → IsSaidBy Q x
  said_as x s = record { by = s.by; one = to s.by s.one; says = s.says }

  pub reaches_as : (b c : Building) → Reaches P b c → Reaches Q b c
  reaches_as b c r = record {
    limits = r.limits;
    built = r.built;
    kept = r.kept;
    only = λ x h. elim (r.only x h) [ inl old ↦ inl old | inr s ↦ inr (said_as x s) ];
  }

  stops_as : (b : Building) (e : GraphRefusal) → Stops P b e → Stops Q b e
  stops_as b e s = record {
    reached = s.reached;
    way = reaches_as b s.reached s.way;
    next = s.next;
    one =
        to s.next s.one;
    over = s.over;
  }

  pub cut_as : (b c d : Building) (e : GraphRefusal) → AddsAll P b c (Err e) → AddsAll Q b d (Err e)
  cut_as b c d TooManyNodes s = stops_as b TooManyNodes s
  cut_as b c d TooManyEdges s = stops_as b TooManyEdges s
  cut_as b c d NoMemory s = tt

  pub adds_as : (b c : Building) (r : Result ⊤ GraphRefusal) → ((x : Statement) → Q x → P x) → AddsAll P b c r
      → AddsAll Q b c r
  adds_as b c (Ok u) from g = record { way = reaches_as b c g.way; stated = λ x q. g.stated x (from x q) }
  adds_as b c (Err e) from g = cut_as b c c e g

-- ---- one source after another

reaches_two : (R : Statement → Type 0) (a b c : Building) → Reaches R a b → Reaches R b c → Reaches R a c
reaches_two R a b c g h = record {
  limits = h.limits ∙ g.limits;
  built = λ k. h.built (g.built k);
  kept = λ x k. h.kept x (g.kept x k);
  only = λ x k. elim (h.only x k) [ inl there ↦ g.only x there | inr s ↦ inr s ];
}

module _ (P Q R : Statement → Type 0) (p : (x : Statement) → P x → R x) (q : (x : Statement) → Q x → R x) where
  pub cut_two : (a b c d : Building) (e : GraphRefusal) → Reaches P a b → AddsAll Q b c (Err e) → AddsAll R a d (Err e)
  cut_two a b c d TooManyNodes g s = record {
    reached = s.reached;
    way = reaches_two R a b s.reached (reaches_as P R p a b g) (reaches_as Q R q b s.reached s.way);
    next = s.next;
    one = q s.next s.one;
    over = s.over;
  }
  cut_two a b c d TooManyEdges g s = record {
    reached = s.reached;
    way = reaches_two R a b s.reached (reaches_as P R p a b g) (reaches_as Q R q b s.reached s.way);
    next = s.next;
    one = q s.next s.one;
    over = s.over;
  }
  cut_two a b c d NoMemory g s = tt

  pub gains_two : (a b c : Building) → ((x : Statement) → R x → P x ⊎ Q x) → Gains P a b → Gains Q b c → Gains R a c
  gains_two a b c cases g h = record {
    way = reaches_two R a b c (reaches_as P R p a b g.way) (reaches_as Q R q b c h.way);
    stated = λ x r. elim (cases x r) [ inl i ↦ h.way.kept x (g.stated x i) | inr i ↦ h.stated x i ];
  }

  pub adds_two : (a b c : Building) (r : Result ⊤ GraphRefusal) → ((x : Statement) → R x → P x ⊎ Q x) → Gains P a b
      → AddsAll Q b c r → AddsAll R a c r
  adds_two a b c (Ok u) cases g h = gains_two a b c cases g h
  adds_two a b c (Err e) cases g h = cut_two a b c c e g.way h

-- ---- one item of a list after another

module _ {T : Type 0} (Q : T → Statement → Type 0) where
  pub each_nil : (a : Building) → Gains (λ x. SomeOf (λ z. Q z x) []) a a
  each_nil a = gains_none (λ x. SomeOf (λ z. Q z x) []) a (λ x s. Contains-nil s.item s.within)

  within_take : (from : List T) (i : ℕ) (z : T) → Contains (take i from) z → Contains from z
  within_take from i z h = subst (λ (xs : List T). Contains xs z) (take-append-drop i from)
      (Contains-append_left (take i from) (drop i from) z h)

  pub each_next : (from : List T) (i : ℕ) (t : T) (a b c : Building) → i < length from → t ≡ get_or from i t
      → Gains (λ x. SomeOf (λ z. Q z x) (take i from)) a b → Gains (Q t) b c
      → Gains (λ x. SomeOf (λ z. Q z x) (take (i + 1) from)) a c
  each_next from i t a b c l is g h =
      subst (λ (f : List T). Gains (λ x. SomeOf (λ z. Q z x) f) a c)
      (sym (take_more from i t l ∙ ap (λ (z : T). take i from ++ z ∷ []) (sym is)))
      (gains_two (λ x. SomeOf (λ z. Q z x) (take i from)) (Q t) (λ x. SomeOf (λ z. Q z x) (take i from ++ t ∷ []))
      (λ x s. record {
        item = s.item;
        within = Contains-append_left (take i from) (t ∷ []) s.item s.within;
        holds =
            s.holds;
      })
      (λ x q. record { item = t; within = Contains-push (take i from) t; holds = q })
      a b c last g h)
    where
      last : (x : Statement) → SomeOf (λ z. Q z x) (take i from ++ t ∷ []) → SomeOf (λ z. Q z x) (take i from) ⊎ Q t x
      last x s = elim (Contains-push_cases (take i from) t s.item s.within) [
        | inl k ↦ inl (record { item = s.item; within = k; holds = s.holds })
        | inr e ↦ inr (subst (λ (z : T). Q z x) (sym e) s.holds)
      ]

  pub each_cut : (from : List T) (i : ℕ) (t : T) (a b c d : Building) (e : GraphRefusal) → i < length from
      → t ≡ get_or from i t
      → Gains (λ x. SomeOf (λ z. Q z x) (take i from)) a b → AddsAll (Q t) b c (Err e)
      → AddsAll (λ x. SomeOf (λ z. Q z x) from) a d (Err e)
  each_cut from i t a b c d e l is g h =
      cut_two (λ x. SomeOf (λ z. Q z x) (take i from)) (Q t) (λ x. SomeOf (λ z. Q z x) from)
      (λ x s. record { item = s.item; within = within_take from i s.item s.within; holds = s.holds })
      (λ x q. record { item = t; within = among_at from i t t l is refl; holds = q })
      a b c d e g.way h

  pub each_end : (from : List T) (i : ℕ) (a b : Building) → length from ≤ i
      → Gains (λ x. SomeOf (λ z. Q z x) (take i from)) a b → Gains (λ x. SomeOf (λ z. Q z x) from) a b
  each_end from i a b l g = subst (λ (f : List T). Gains (λ x. SomeOf (λ z. Q z x) f) a b) (take_all i from l) g
