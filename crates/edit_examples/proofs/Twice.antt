-- The page of F(o) is empty before the edit, and not after.
use Rattle.std.specs.Prelude.{◌≡◌, ℕ, zero, suc, List, [], ◌∷◌, Contains, Some, None, Option, slice_get, false, codes}
use Rattle.std.specs.List.Sorted.{IsStrictlySortedBy}
use Rattle.std.specs.Ordering.{nat_cmp}
use Rattle.std.proofs.Common.{refl, sym, ◌∙◌, subst, inl, inr, lit<, lit≤}
use Rattle.sd_value.specs.declared.Value.{Value}
use Rattle.sd_value.specs.declared.Value.TheVariants.{Data, Page}
use Rattle.sd_value.specs.declared.Datum.TheVariants.{Node}
use Rattle.sd_value.specs.Order.{bytes_cmp}
use Rattle.sd_value.specs.AscendingLaws.{lists_nothing}
use Rattle.sd_value.specs.Members.{IsOneOf, IsOneOf-from_Contains, Contains-nil}
use Rattle.graph_spec.specs.declared.Edge.{Edge}
use Rattle.graph_spec.specs.declared.Member.{Member}
use Rattle.graph_spec.specs.Orders.{edge_cmp, member_cmp}
use Rattle.graph_spec.specs.DataGraph.{DataGraph, Name, node, text, HasEdge, IsValueOf}
use Rattle.query_spec.specs.declared.Variable.{Variable}
use Rattle.query_spec.specs.Query.{Link, Body as Block}
use Rattle.query_spec.specs.Holds.{Holds}
use Rattle.query_spec.specs.Rows.{IsRow, value_in}
use Rattle.site_spec.proofs.Sums.{per_row_joined}
use Rattle.site_spec.specs.Site.{SomeOf, chain, IsJoined, Joins, InSite, Linked, SiteEdge}
use Rattle.weight_spec.specs.Site.{site_of}
use Rattle.page_spec.specs.declared.Outcome.TheVariants.{Page as Whole}
use Rattle.page_spec.specs.Site.{InRange}
use Rattle.page_spec.specs.Pieces.{bytes}
use Rattle.page_spec.specs.Page.{HasText, IsOutcome}
use Rattle.page_spec.proofs.Texts.{has_text_unique}
use Rattle.tmpl.specs.Expressions.{Use, uses}
use Rattle.definition_examples.specs.Tools.{edge}
use Rattle.definition_examples.proofs.Tools.{listed, all}
use Rattle.edit_spec.specs.Edited.{HasNodeAfter, HasEdgeAfter, HasMemberAfter}
use Rattle.edit_spec.specs.Touches.{Finds, IsGuarded, ReadsLabel, TouchesChain, by_value, by_edge, by_member}
use Rattle.edit_spec.specs.Footprint.{RestsOn, on_term, IsTemplateOf, IsFootprint, TouchesFootprint, by_embed, by_block, by_label, by_collection}
use Rattle.edit_laws.specs.Laws.{Becomes}
use Rattle.edit_laws.proofs.Outcomes.{never_loops}
use Rattle.edit_examples.specs.Parts.{f, o, t, o_in_a, written, term, here, file}
use Rattle.edit_examples.specs.Twice.{link, block, scope, body, before, after, edit, footprint, too_small}

-- ---- the edit

added : Edge
added = edge o t (text (codes "U"))

pub becomes : Becomes before edit after
unfolding IsStrictlySortedBy
becomes = record {
  well_formed = record {
    nodes_ascend = (tt, tt);
    edges_ascend = tt;
    members_ascend = (tt, tt);
    starts_are_nodes = λ e c. absurd (Contains-nil e c);
    ends_are_data = λ e c. absurd (Contains-nil e c);
    members_are_nodes = λ m c. elim (IsOneOf-from_Contains (o_in_a ∷ []) m c) [
      | inl e ↦ subst (λ (k : Member). Contains (o ∷ []) k.node) e (0, lit< tt, refl)
      | inr none ↦ absurd none
    ];
  };
  of_data = λ p e. cc;
  edited = record {
    nodes = listed bytes_cmp (HasNodeAfter before edit) (o ∷ []) (tt, tt) (inl (0, lit< tt, refl), tt) (λ n h. elim h [
      | inl c ↦ IsOneOf-from_Contains (o ∷ []) n c
      | inr (inl e) ↦ inl (sym e)
      | inr (inr e) ↦ let impossible : ⊥ = cc in absurd impossible
    ]);
    edges = listed edge_cmp (HasEdgeAfter before edit) after.edges (tt, tt) (inr refl, tt) (λ k h. elim h [
      | inl c ↦ absurd (Contains-nil k c)
      | inr e ↦ inl (sym e)
    ]);
    members = listed member_cmp (HasMemberAfter before edit) (o_in_a ∷ []) (tt, tt) ((0, lit< tt, refl), tt)
        (λ k c. IsOneOf-from_Contains (o_in_a ∷ []) k c);
  };
}

-- ---- footprints

rests : RestsOn f body block
rests = on_term (record { item = written; within = (0, lit< tt, refl); holds = refl })

only_block : (i : ℕ) → (b : Block) × (slice_get scope.bodies i ≡ Some b) × RestsOn f body b → IsOneOf (0 ∷ []) i
only_block zero h = inl refl
only_block (suc i) (b, is, why) = let impossible : ◌≡◌ {A = Option Block} None (Some b) = is in cc

pub is_footprint : IsFootprint scope f body footprint
unfolding IsStrictlySortedBy
is_footprint = record {
  every = refl;
  parts = record {
    blocks = listed nat_cmp _ (0 ∷ []) (tt, tt) ((block, refl, rests), tt) only_block;
    labels = listed bytes_cmp _ (t ∷ []) (tt, tt) (record { item = t; within = (0, lit< tt, refl); holds = refl }, tt)
        (λ l h. elim (IsOneOf-from_Contains (t ∷ []) h.item h.within) [
          | inl e ↦ inl (e ∙ h.holds)
          | inr none ↦ absurd none
        ]);
    collections = lists_nothing bytes_cmp _ (λ l h. Contains-nil h.item h.within);
  };
}

pub touched : TouchesFootprint edit scope footprint
touched = by_label (record { item = t; within = (0, lit< tt, refl); holds = refl })

guarded : IsGuarded (chain scope block)
guarded v c =
    elim (IsOneOf-from_Contains (chain scope block).variables v c) [
      | inl e ↦ subst (λ (w : Variable). SomeOf (Finds w) block.conditions) e
          (record { item = _; within = (0, lit< tt, refl); holds = refl })
      | inr none ↦ absurd none
    ]

chain_spared : TouchesChain edit (chain scope block) → ⊥
chain_spared (by_value n) = n guarded
chain_spared (by_edge l is some) =
    elim (IsOneOf-from_Contains block.conditions some.item some.within) [
      | inl e ↦ subst (ReadsLabel l) (sym e) some.holds
      | inr none ↦ none
    ]
chain_spared (by_member name is some) = is

same_some : {b c : Block} → Some b ≡ Some c → b ≡ c
same_some e = cc

block_spared : SomeOf (λ i. (b : Block) × (slice_get scope.bodies i ≡ Some b) × TouchesChain edit (chain scope b))
    (0 ∷ []) → ⊥
block_spared h = at h.item h.holds
  where
    at : (i : ℕ) → (b : Block) × (slice_get scope.bodies i ≡ Some b) × TouchesChain edit (chain scope b) → ⊥
    at zero (b, is, touches) = chain_spared (subst (λ (c : Block). TouchesChain edit (chain scope c))
        (sym (same_some is)) touches)
    at (suc i) (b, is, touches) = let impossible : ◌≡◌ {A = Option Block} None (Some b) = is in cc

pub too_small_spares : TouchesFootprint edit scope too_small → ⊥
too_small_spares (by_embed e) = cc
too_small_spares (by_block h) = block_spared h
too_small_spares (by_label h) = Contains-nil h.item h.within
too_small_spares (by_collection h) = Contains-nil h.item h.within

-- ---- the page

abbrev row : List Value
row = node o ∷ []

-- o is a member in both graphs
module _ (G : DataGraph) (declared : Contains G.nodes o) (member : Contains G.members o_in_a) where
  has_row : IsRow G (chain scope block) row
  has_row = record {
    in_domain = (declared, tt);
    conditions_hold = all (λ k. Holds G 1 k (value_in (chain scope block).variables row)) block.conditions
        ((o, refl, member), tt);
  }

  in_site : InSite G scope term
  in_site = record {
    item = block;
    within = (0, lit< tt, refl);
    holds = record {
      item = written;
      within = (0, lit< tt, refl);
      holds = record { row = row; is_row = has_row; holds = record { function = refl; args = (refl, tt) } };
    };
  }

  linked : Linked G scope (Page term) t (node o)
  linked = record {
    item = block;
    within = (0, lit< tt, refl);
    holds = record {
      item = link;
      within = (0, lit< tt, refl);
      holds = inl (record {
        row = row;
        is_row = has_row;
        holds =
            record { from = (term, record { function = refl; args = (refl, tt) }, refl); by = refl; to = refl };
      });
    };
  }

is_template : IsTemplateOf (file body) f body
is_template = inl (0, inl (refl, refl), refl)

bare : (y : Use) → Contains (uses body) y → y.embeds ≡ false
bare y c = elim (IsOneOf-from_Contains (uses body) y c) [
  | inl e ↦ subst (λ (z : Use). z.embeds ≡ false) e refl
  | inr
      none ↦ absurd none
]

-- a link of this query leads from a page to a value of the data
ends_in_data : (G : DataGraph) (v : Value) → IsValueOf G v → (p : _) → v ≡ Page p → ⊥
ends_in_data G v is p e = subst (IsValueOf G) e is

joined_ends : (v w : Value) (l : Name) (k : Link) → link ≡ k → IsJoined before (chain scope block) v l w k
    → IsValueOf before w × ((p : _) × (v ≡ Page p))
joined_ends v w l k e j =
    let at : IsJoined before (chain scope block) v l w link = subst (IsJoined before (chain scope block) v l w) (sym e)
    j in
    let r = per_row_joined before (chain scope block) v l w link tt at in
    by r.row r.is_row r.holds
  where
    by : (r : List Value) → IsRow before (chain scope block) r → Joins (value_in (chain scope block).variables r) link v
        l w → IsValueOf before w × ((p : _) × (v ≡ Page p))
    by [] is h = absurd is.in_domain
    by (z ∷ []) is h = let same : z ≡ w = (let to = h.to in cc) in
        (subst (IsValueOf before) same is.in_domain.0, (h.from.0, h.from.2))
    by (z ∷ z' ∷ rest) is h = absurd is.in_domain.1

linked_ends : (v w : Value) (l : Name) → Linked before scope v l w → IsValueOf before w × ((p : _) × (v ≡ Page p))
linked_ends v w l h =
    elim (IsOneOf-from_Contains scope.bodies h.item h.within) [
      | inl e ↦ of_block (subst (λ (b : Block). SomeOf (IsJoined before (chain scope b) v l w) b.links) (sym e) h.holds)
      | inr none ↦ absurd none
    ]
  where
    of_block : SomeOf (IsJoined before (chain scope block) v l w) (link ∷ []) → IsValueOf before w
        × ((p : _) × (v ≡ Page p))
    of_block s = elim (IsOneOf-from_Contains (link ∷ []) s.item s.within)
        [ inl e ↦ joined_ends v w l s.item e s.holds | inr none ↦ absurd none ]

no_data_edge : (v w : Value) (l : Name) → HasEdge before v l w → ⊥
no_data_edge (Data (Node n)) w l h = Contains-nil _ h
no_data_edge v w l h = h

no_two_steps : (v m w : Value) → SiteEdge before scope v t m → SiteEdge before scope m t w → ⊥
no_two_steps v m w (inr step) further = no_data_edge v m t step
no_two_steps v m w (inl step) (inr further) = no_data_edge m w t further
no_two_steps v m w (inl step) (inl further) =
    let first = linked_ends v m t step in let second = linked_ends m w t further in ends_in_data before m first.0
    second.1.0 second.1.1

no_value : (v : Value) → InRange (site_of before scope) record { here = Page term; loops = [] } (here (t ∷ t ∷ [])) v
    → ⊥
no_value v (s, starts, (m, step, (w, further, is))) = no_two_steps s m w step further

pub empty_before : IsOutcome (site_of before scope) (file body) term (Whole [])
empty_before = (
  (in_site before (0, lit< tt, refl) (0, lit< tt, refl), (0, inl (refl, refl))),
  never_loops (file body) term body is_template (site_of before scope) bare,
  (1, ([], (0, inl (refl, refl), ([], [], inr ((λ h. no_value h.0 h.1), refl), refl, refl)), refl)),
  lit≤ tt,
)

shown_after : HasText (site_of after scope) (file body) (Page term) (codes "y")
shown_after = (
  1,
  (
    bytes (codes "y"),
    (
      0,
      inl (refl, refl),
      (
        bytes (codes "y"),
        [],
        inl (
          (
            text (codes "U"),
            (
              Page term,
              refl,
              (
                node o,
                inl (linked after (0, lit< tt, refl) (0, lit< tt, refl)),
                (text (codes "U"), inr (0, lit< tt, refl), refl),
              ),
            ),
          ),
          ([], refl, refl),
        ),
        refl,
        refl,
      ),
    ),
    ([], refl, refl),
  ),
)

pub not_after : IsOutcome (site_of after scope) (file body) term (Whole []) → ⊥
not_after h = let e = has_text_unique (site_of after scope) (file body) (Page term) [] (codes "y") h.2 shown_after in
    let impossible : ⊥ = cc in impossible
