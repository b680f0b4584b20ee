-- The pages of F rest on the one block, whose chain an edge by `u` doesn't touch.
use Rattle.std.specs.Prelude.{◌≡◌, ℕ, zero, suc, [], ◌∷◌, Contains, Some, None, Option, slice_get, false}
use Rattle.std.specs.List.Sorted.{IsStrictlySortedBy}
use Rattle.std.specs.Ordering.{nat_cmp}
use Rattle.std.proofs.Common.{refl, sym, ◌∙◌, subst, inl, inr, lit<}
use Rattle.sd_value.specs.Order.{bytes_cmp}
use Rattle.sd_value.specs.AscendingLaws.{lists_nothing}
use Rattle.sd_value.specs.Members.{IsOneOf, IsOneOf-from_Contains, Contains-nil}
use Rattle.graph_spec.specs.DataGraph.{Name}
use Rattle.query_spec.specs.declared.Variable.{Variable}
use Rattle.query_spec.specs.Query.{Condition, Body as Block}
use Rattle.site_spec.specs.Site.{SomeOf, chain}
use Rattle.definition_examples.proofs.Tools.{listed, names_differ}
use Rattle.edit_spec.specs.Touches.{Finds, IsGuarded, ReadsLabel, TouchesChain, by_value, by_edge, by_member}
use Rattle.edit_spec.specs.Footprint.{RestsOn, on_term, IsFootprint, TouchesFootprint, by_embed, by_block, by_label, by_collection}
use Rattle.edit_examples.specs.Parts.{a, f, t, u, x, y, written}
use Rattle.edit_examples.specs.Shown.{block, scope, body, footprint, aside, shown, gone}

rests : RestsOn f body block
rests = on_term (record { item = written; within = (0, lit< tt, refl); holds = refl })

only_block : (i : ℕ) → (b : Block) × (slice_get scope.bodies i ≡ Some b) × RestsOn f body b → IsOneOf (0 ∷ []) i
only_block zero h = inl refl
only_block (suc i) (b, is, why) = let impossible : ◌≡◌ {A = Option Block} None (Some b) = is in cc

pub is_footprint : IsFootprint scope f body footprint
unfolding IsStrictlySortedBy
is_footprint = record {
  every = refl;
  parts = record {
    blocks = listed nat_cmp _ (0 ∷ []) (tt, tt) ((block, refl, rests), tt) only_block;
    labels = lists_nothing bytes_cmp _ (λ l h. Contains-nil h.item h.within);
    collections = lists_nothing bytes_cmp _ (λ l h. Contains-nil h.item h.within);
  };
}

-- ---- the chain

first_found : SomeOf (Finds (record { name = x; arc = false })) block.conditions
first_found = record { item = _; within = (0, lit< tt, refl); holds = refl }

second_found : SomeOf (Finds (record { name = y; arc = false })) block.conditions
second_found = record { item = _; within = (1, lit< tt, refl); holds = ((λ e. cc), inr refl) }

guarded : IsGuarded (chain scope block)
guarded v c =
    elim (IsOneOf-from_Contains (chain scope block).variables v c) [
      | inl e ↦ subst (λ (w : Variable). SomeOf (Finds w) block.conditions) e first_found
      | inr (inl e) ↦ subst (λ (w : Variable). SomeOf (Finds w) block.conditions) e second_found
      | inr (inr none) ↦ absurd none
    ]

reads_t : (l : Name) (k : Condition) → Contains block.conditions k → ReadsLabel l k → t ≡ l
reads_t l k c reads =
    elim (IsOneOf-from_Contains block.conditions k c) [
      | inl e ↦ absurd (subst (ReadsLabel l) (sym e) reads)
      | inr (inl e) ↦ subst (ReadsLabel l) (sym e) reads
      | inr (inr none) ↦ absurd none
    ]

chain_spared : TouchesChain aside (chain scope block) → ⊥
chain_spared (by_value n) = n guarded
chain_spared (by_edge l is some) = names_differ u t refl (is ∙ sym (reads_t l some.item some.within some.holds))
chain_spared (by_member name is some) = is

same_some : {b c : Block} → Some b ≡ Some c → b ≡ c
same_some e = cc

block_spared : SomeOf (λ i. (b : Block) × (slice_get scope.bodies i ≡ Some b) × TouchesChain aside (chain scope b))
    (0 ∷ []) → ⊥
block_spared h = at h.item h.holds
  where
    at : (i : ℕ) → (b : Block) × (slice_get scope.bodies i ≡ Some b) × TouchesChain aside (chain scope b) → ⊥
    at zero (b, is, touches) = chain_spared (subst (λ (c : Block). TouchesChain aside (chain scope c))
        (sym (same_some is)) touches)
    at (suc i) (b, is, touches) = let impossible : ◌≡◌ {A = Option Block} None (Some b) = is in cc

pub aside_spares : TouchesFootprint aside scope footprint → ⊥
aside_spares (by_embed e) = cc
aside_spares (by_block h) = block_spared h
aside_spares (by_label h) = Contains-nil h.item h.within
aside_spares (by_collection h) = Contains-nil h.item h.within

pub shown_touches : TouchesFootprint shown scope footprint
shown_touches = by_block (record {
  item = 0;
  within = (0, lit< tt, refl);
  holds = (block, refl, by_edge t refl (record { item = _; within = (1, lit< tt, refl); holds = refl }));
})

pub gone_touches : TouchesFootprint gone scope footprint
gone_touches = by_block (record {
  item = 0;
  within = (0, lit< tt, refl);
  holds = (block, refl, by_member a refl (record { item = _; within = (0, lit< tt, refl); holds = refl }));
})
