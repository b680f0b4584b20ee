-- An edit that doesn't touch the footprint of a function leaves the outcome of each of its terms.
use Rattle.std.specs.Prelude.{◌≡◌, ◌↔◌, ℕ, zero, suc, ◌<◌, Bool, false, List, [], ◌∷◌, length, get_or, slice_get, Some, Contains}
use Rattle.std.specs.Bool.{MatchBool}
use Rattle.std.proofs.Common.{arith, refl, sym, ap, ◌∙◌, subst}
use Rattle.sd_value.specs.declared.Value.{Value}
use Rattle.sd_value.specs.declared.Value.TheVariants.{Page}
use Rattle.sd_value.specs.declared.Term.{Term}
use Rattle.graph_spec.specs.DataGraph.{DataGraph, Name}
use Rattle.query_spec.specs.Query.{Link, Body as Block}
use Rattle.query_spec.specs.Holds.{Assignment}
use Rattle.site_spec.specs.Site.{Scope, SomeOf, chain, InSite, Linked, Collected, SiteEdge}
use Rattle.weight_spec.specs.Site.{site_of}
use Rattle.tmpl.specs.Body.{Body, TemplateFile}
use Rattle.page_spec.specs.declared.Outcome.{Outcome}
use Rattle.page_spec.specs.Page.{IsOutcome}
use Rattle.tmpl.specs.Expressions.{Use, uses}
use Rattle.edit_spec.specs.declared.Edit.{Edit}
use Rattle.edit_spec.specs.Touches.{IsOfLabel, IsOfCollection, TouchesChain}
use Rattle.edit_spec.specs.Footprint.{own_labels, other_labels, named_collections, IsTemplateOf, MayBeLabelled, IsFrom, RestsOn, on_term, on_own_link, on_link, on_collect, Footprint, IsWithoutEmbed, IsFootprint, TouchesFootprint, by_embed, by_block, by_label, by_collection}
use Rattle.edit_laws.specs.Laws.{Becomes, Spares, NamesTermOf, HasLinkBy, CollectsUnder, HasMadeSources}
use Rattle.edit_laws.proofs.Graphs.{has_edge_to, has_edge_from, has_member_to, has_member_from}
use Rattle.edit_laws.proofs.Guards.{by_test}
use Rattle.edit_laws.proofs.Chains.{distinct}
use Rattle.edit_laws.proofs.Rows.{rows_stay}
use Rattle.edit_laws.proofs.Sites.{RowsTo, RowsBoth, Starts, in_site_to, linked_to, collected_to, edge_to, carried, from_function}
use Rattle.page_spec.proofs.Alike.{UsesAlike}
use Rattle.edit_laws.proofs.Templates.{ReadsTo, use_to, none_embeds}
use Rattle.edit_laws.proofs.Outcomes.{outcome_to}

-- ---- rows of a block's chain

module _ (G H : DataGraph) (e : Edit) (q : Scope) (change : Becomes G e H) where
  pub block_to : (b : Block) → (TouchesChain e (chain q b) → ⊥) → RowsTo G H q b
  block_to b spared row = (rows_stay G H e (chain q b) change.well_formed change.of_data change.edited
      (distinct b.conditions) spared row).0

  pub block_from : (b : Block) → (TouchesChain e (chain q b) → ⊥) → RowsTo H G q b
  block_from b spared row = (rows_stay G H e (chain q b) change.well_formed change.of_data change.edited
      (distinct b.conditions) spared row).1

  -- ---- the parts of the site

  pub terms_stay : (p : Term) → Spares e q (NamesTermOf p.function) → InSite G q p ↔ InSite H q p
  terms_stay p spares = (
    in_site_to G H q p (λ b c m. block_to b (spares b c m)),
    in_site_to H G q p
        (λ b c m. block_from b (spares b c m)),
  )

  pub block_both : (b : Block) → (TouchesChain e (chain q b) → ⊥) → RowsBoth G H q b
  block_both b spared = (block_to b spared, block_from b spared)

  pub block_back : (b : Block) → (TouchesChain e (chain q b) → ⊥) → RowsBoth H G q b
  block_back b spared = (block_from b spared, block_to b spared)

  -- the link that joins may carry the label
  by_label_of : (b : Block) (k : Link) → Contains b.links k → (s : Assignment) (u : Value) (l : Name)
      → Starts s k u l → HasLinkBy l b
  by_label_of b k c s u l j = record { item = k; within = c; holds = carried s k.label l j.1 }

  pub links_stay : (l : Name) → Spares e q (HasLinkBy l) → (u v : Value) → Linked G q u l v ↔ Linked H q u l v
  links_stay l spares u v = (
    linked_to G H q u l v (λ b c k d s j. block_both b (spares b c (by_label_of b k d s u l j))),
    linked_to H G q u l v (λ b c k d s j. block_back b (spares b c (by_label_of b k d s u l j))),
  )

  pub edges_stay : (l : Name) → Spares e q (HasLinkBy l) → (IsOfLabel e l → ⊥) → (u v : Value) → SiteEdge G q u l v ↔
      SiteEdge H q u l v
  edges_stay l spares other u v = (
    edge_to G H q u l v (λ b c k d s j. block_both b (spares b c (by_label_of b k d s u l j)))
        (has_edge_to G H e change.edited l other u v),
    edge_to H G q u l v (λ b c k d s j. block_back b (spares b c (by_label_of b k d s u l j)))
        (has_edge_from G H e change.edited l other u v),
  )

  pub collected_stay : (name : Name) → Spares e q (CollectsUnder name) → (IsOfCollection e name → ⊥) → (v : Value)
      → Collected G q name v ↔ Collected H q name v
  collected_stay name spares other v = (
    collected_to G H q name v (λ b c m. block_to b (spares b c m)) (has_member_to G H e change.edited name other),
    collected_to H G q name v (λ b c m. block_from b (spares b c m)) (has_member_from G H e change.edited name other),
  )

  -- a page's own edges: the data have none, and links start at terms of its function
  page_edge_to : (p : Term) → HasMadeSources q → (l : Name)
      → Spares e q (λ b. SomeOf (λ k. IsFrom p.function k × MayBeLabelled k.label l) b.links) → (v : Value)
      → SiteEdge G q (Page p) l v → SiteEdge H q (Page p) l v
  page_edge_to p made l spares v =
      edge_to G H q (Page p) l v
      (λ b c k d s j. block_both b
      (spares b c (record
      { item = k; within = d; holds = (from_function s k p (made b c k d) j.0, carried s k.label l j.1) })))
      (λ none. absurd none)

  page_edge_from : (p : Term) → HasMadeSources q → (l : Name)
      → Spares e q (λ b. SomeOf (λ k. IsFrom p.function k × MayBeLabelled k.label l) b.links) → (v : Value)
      → SiteEdge H q (Page p) l v → SiteEdge G q (Page p) l v
  page_edge_from p made l spares v =
      edge_to H G q (Page p) l v
      (λ b c k d s j. block_back b
      (spares b c (record
      { item = k; within = d; holds = (from_function s k p (made b c k d) j.0, carried s k.label l j.1) })))
      (λ none. absurd none)

-- ---- what a footprint that isn't touched spares

got : {X : Type 0} (xs : List X) (k : ℕ) (x : X) → k < length xs → get_or xs k x ≡ x → slice_get xs k ≡ Some x
got [] k x lt is = absurd (omega arith)
got (y ∷ ys) zero x lt is = ap Some is
got (y ∷ ys) (suc k) x lt is = got ys k x (omega arith) is

module _ (e : Edit) (q : Scope) (function : Name) (t : Body) (foot : Footprint)
    (is_footprint : IsFootprint q function t foot) (spared : TouchesFootprint e q foot → ⊥) where
  not_every : foot.every ≡ false
  not_every = by_test foot.every (foot.every ≡ false) (λ every. absurd (spared (by_embed every))) (λ f. f)

  pub bare : (x : Use) → Contains (uses t) x → x.embeds ≡ false
  bare = none_embeds (uses t) (sym is_footprint.every ∙ not_every)

  parts : IsWithoutEmbed q function t foot
  parts = subst (λ (b : Bool). MatchBool b ((foot.blocks ≡ []) × (foot.labels ≡ []) × (foot.collections ≡ []))
      (IsWithoutEmbed q function t foot)) not_every is_footprint.parts

  pub blocks_spared : Spares e q (RestsOn function t)
  blocks_spared b (k, lt, is) rests touches =
      let at = got q.bodies k b lt is in
      spared (by_block (record { item = k; within = parts.blocks.complete k (b, at, rests); holds = (b, at, touches) }))

  pub labels_spared : (l : Name) → Contains (other_labels t) l → IsOfLabel e l → ⊥
  labels_spared l c is = spared
      (by_label (record {
        item = l;
        within = parts.labels.complete l (record { item = l; within = c; holds = refl });
        holds = is;
      }))

  pub collections_spared : (name : Name) → Contains (named_collections t) name → IsOfCollection e name → ⊥
  collections_spared name c is = spared
      (by_collection
      (record {
        item = name;
        within = parts.collections.complete name
            (record { item = name; within = c; holds = refl });
        holds = is;
      }))

  -- blocks by what is read of them
  own_spared : (l : Name) → Contains (own_labels t) l
      → Spares e q (λ b. SomeOf (λ k. IsFrom function k × MayBeLabelled k.label l) b.links)
  own_spared l c b within k =
      blocks_spared b within
      (on_own_link (record {
        item = k.item;
        within = k.within;
        holds =
            (k.holds.0, record { item = l; within = c; holds = k.holds.1 });
      }))

  other_spared : (l : Name) → Contains (other_labels t) l → Spares e q (HasLinkBy l)
  other_spared l c b within k = blocks_spared b within
      (on_link (record { item = k.item; within = k.within; holds = record { item = l; within = c; holds = k.holds } }))

  named_spared : (name : Name) → Contains (named_collections t) name → Spares e q (CollectsUnder name)
  named_spared name c b within k = blocks_spared b within
      (on_collect (record {
        item = k.item;
        within = k.within;
        holds =
            record { item = name; within = c; holds = k.holds };
      }))

pub outcomes_stay : (G H : DataGraph) (e : Edit) (q : Scope) (f : TemplateFile) (p : Term) (t : Body) (foot : Footprint)
    → Becomes G e H → HasMadeSources q
    → IsTemplateOf f p.function t → IsFootprint q p.function t foot → (TouchesFootprint e q foot → ⊥) → (o : Outcome)
    → IsOutcome (site_of G q) f p o ↔ IsOutcome (site_of H q) f p o
outcomes_stay G H e q f p t foot change made template is_footprint spared o =
    let terms = terms_stay G H e q change p (λ b c m. blocks_spared e q p.function t foot is_footprint spared b c
    (on_term m)) in
    let to : ReadsTo (site_of G q) (site_of H q) (Page p) t = record {
      own = λ l c v. page_edge_to G H e q change p made l (own_spared e q p.function t foot is_footprint spared l c) v;
      other = λ l c u v. (edges_stay G H e q change l (other_spared e q p.function t foot is_footprint spared l c)
          (labels_spared e q p.function t foot is_footprint spared l c) u v).0;
      named = λ name c v.
          (collected_stay G H e q change name (named_spared e q p.function t foot is_footprint spared name c)
          (collections_spared e q p.function t foot is_footprint spared name c) v).0;
    } in
    let from : ReadsTo (site_of H q) (site_of G q) (Page p) t = record {
      own = λ l c v. page_edge_from G H e q change p made l (own_spared e q p.function t foot is_footprint spared l c)
          v;
      other = λ l c u v. (edges_stay G H e q change l (other_spared e q p.function t foot is_footprint spared l c)
          (labels_spared e q p.function t foot is_footprint spared l c) u v).1;
      named = λ name c v.
          (collected_stay G H e q change name (named_spared e q p.function t foot is_footprint spared name c)
          (collections_spared e q p.function t foot is_footprint spared name c) v).1;
    } in
    let alike : (x : Use) → Contains (uses t) x → UsesAlike (site_of G q) (site_of H q) (Page p) x = λ x c. record {
      to = use_to (site_of G q) (site_of H q) (Page p) t to x c;
      from = use_to (site_of H q) (site_of G q) (Page p) t from x c;
      plain = bare e q p.function t foot is_footprint spared x c;
    } in
    let back : (x : Use) → Contains (uses t) x → UsesAlike (site_of H q) (site_of G q) (Page p) x = λ x c. record {
      to = use_to (site_of H q) (site_of G q) (Page p) t from x c;
      from = use_to (site_of G q) (site_of H q) (Page p) t to x c;
      plain = bare e q p.function t foot is_footprint spared x c;
    } in (
      outcome_to f p t template (site_of G q) (site_of H q) terms.0 terms.1 alike o,
      outcome_to f p t template (site_of H q) (site_of G q) terms.1 terms.0 back o,
    )
