-- Whether an edit touches a footprint is decided; a function has one template and one footprint.
use Rattle.std.specs.Prelude.{◌≡◌, ℕ, Bool, false, [], get_or, slice_get, Option, Some, None}
use Rattle.std.specs.Bool.{MatchBool}
use Rattle.std.proofs.Common.{refl, sym, ap, ◌∙◌, subst, inl, inr}
use Rattle.std.proofs.lemmas.Cmp.{nat_cmp_total}
use Rattle.sd_value.specs.OrderLaws.{bytes_cmp-total}
use Rattle.sd_value.specs.AscendingLaws.{one_list}
use Rattle.graph_spec.specs.DataGraph.{Name}
use Rattle.query_spec.specs.Query.{Body as Block}
use Rattle.site_spec.specs.Site.{Scope, SomeOf, chain}
use Rattle.tmpl.specs.Body.{Body, done, TemplateFile}
use Rattle.page_spec.proofs.Unique.{first_unique}
use Rattle.edit_spec.specs.declared.Edit.{Edit}
use Rattle.edit_spec.specs.declared.Edit.TheVariants.{Add, Remove, Enter, Leave}
use Rattle.edit_spec.specs.Touches.{IsOfLabel, IsOfCollection, TouchesChain}
use Rattle.edit_spec.specs.Footprint.{IsTemplateOf, Footprint, IsWithoutEmbed, IsFootprint, TouchesFootprint, by_embed, by_block, by_label, by_collection}
use Rattle.edit_laws.proofs.Guards.{Decided, by_test, name_decided, some_decided, touching_decided}

is_label_decided : (e : Edit) (l : Name) → Decided (IsOfLabel e l)
is_label_decided (Add d) l = name_decided d.label l
is_label_decided (Remove d) l = name_decided d.label l
is_label_decided (Enter m) l = inr (λ h. h)
is_label_decided (Leave m) l = inr (λ h. h)

is_collection_decided : (e : Edit) (c : Name) → Decided (IsOfCollection e c)
is_collection_decided (Add d) c = inr (λ h. h)
is_collection_decided (Remove d) c = inr (λ h. h)
is_collection_decided (Enter m) c = name_decided m.collection c
is_collection_decided (Leave m) c = name_decided m.collection c

abbrev TouchesBlock : Edit → Scope → ℕ → Type 0
TouchesBlock e q i = (b : Block) × (slice_get q.bodies i ≡ Some b) × TouchesChain e (chain q b)

same_some : {b c : Block} → Some b ≡ Some c → b ≡ c
same_some e = cc

block_decided : (e : Edit) (q : Scope) (i : ℕ) → Decided (TouchesBlock e q i)
block_decided e q i = by (slice_get q.bodies i) refl
  where
    at : (b : Block) → slice_get q.bodies i ≡ Some b → Decided (TouchesChain e (chain q b))
        → Decided (TouchesBlock e q i)
    at b is (inl touches) = inl (b, is, touches)
    at b is (inr spared) =
        inr (λ (c, other, touches). spared (subst (λ (x : Block). TouchesChain e (chain q x))
        (same_some (sym other ∙ is)) touches))

    by : (o : Option Block) → slice_get q.bodies i ≡ o → Decided (TouchesBlock e q i)
    by None is = inr (λ (c, other, touches). let impossible : ◌≡◌ {A = Option Block} None (Some c) = sym is ∙ other in
        cc)
    by (Some b) is = at b is (touching_decided e (chain q b))

pub footprint_decided : (e : Edit) (q : Scope) (foot : Footprint) → Decided (TouchesFootprint e q foot)
footprint_decided e q foot =
    by_test foot.every (Decided (TouchesFootprint e q foot)) (λ every. inl (by_embed every))
    (λ f. by f (some_decided (TouchesBlock e q) (block_decided e q) foot.blocks)
    (some_decided (IsOfLabel e) (is_label_decided e) foot.labels)
    (some_decided (IsOfCollection e) (is_collection_decided e) foot.collections))
  where
    by : foot.every ≡ false → Decided (SomeOf (TouchesBlock e q) foot.blocks)
        → Decided (SomeOf (IsOfLabel e) foot.labels) → Decided (SomeOf (IsOfCollection e) foot.collections)
        → Decided (TouchesFootprint e q foot)
    by f (inl b) l c = inl (by_block b)
    by f (inr b) (inl l) c = inl (by_label l)
    by f (inr b) (inr l) (inl c) = inl (by_collection c)
    by f (inr b) (inr l) (inr c) = inr (λ h. elim h [
      | by_embed every ↦ cc
      | by_block some ↦ b some
      | by_label some ↦ l some
      | by_collection some ↦ c some
    ])

pub one_template : (f : TemplateFile) (function : Name) (t u : Body) → IsTemplateOf f function t
    → IsTemplateOf f function u → t ≡ u
one_template f function t u (inl (j, first, is)) (inl (k, second, are)) = is ∙ ap (λ i. get_or f.bodies i done)
    (first_unique (λ name. name ≡ function) f.functions j k first second) ∙ sym are
one_template f function t u (inl (j, first, is)) (inr (none, are)) = absurd (none j first)
one_template f function t u (inr (none, is)) (inl (k, second, are)) = absurd (none k second)
one_template f function t u (inr (none, is)) (inr (never, are)) = is ∙ sym are

pub one_footprint : (q : Scope) (function : Name) (t : Body) (foot other : Footprint) → IsFootprint q function t foot
    → IsFootprint q function t other → foot ≡ other
one_footprint q function t foot other h k =
    let every : foot.every ≡ other.every = h.every ∙ sym k.every in
    by_test foot.every (foot ≡ other)
    (λ yes_all.
    let a = subst (λ (b : Bool). MatchBool b ((foot.blocks ≡ []) × (foot.labels ≡ []) × (foot.collections ≡ []))
    (IsWithoutEmbed q function t foot)) yes_all h.parts in
    let b = subst (λ (x : Bool). MatchBool x ((other.blocks ≡ []) × (other.labels ≡ []) × (other.collections ≡ []))
    (IsWithoutEmbed q function t other)) (sym every ∙ yes_all) k.parts in
    λ i. record {
      every = every i;
      blocks = (a.0 ∙ sym b.0) i;
      labels = (a.1 ∙ sym b.1) i;
      collections = (a.2 ∙ sym b.2)
          i;
    })
    (λ not_all.
    let a = subst (λ (b : Bool). MatchBool b ((foot.blocks ≡ []) × (foot.labels ≡ []) × (foot.collections ≡ []))
    (IsWithoutEmbed q function t foot)) not_all h.parts in
    let b = subst (λ (x : Bool). MatchBool x ((other.blocks ≡ []) × (other.labels ≡ []) × (other.collections ≡ []))
    (IsWithoutEmbed q function t other)) (sym every ∙ not_all) k.parts in
    let blocks = one_list nat_cmp_total _ foot.blocks other.blocks a.blocks b.blocks in
    let labels = one_list bytes_cmp-total _ foot.labels other.labels a.labels b.labels in
    let collections = one_list bytes_cmp-total _ foot.collections other.collections a.collections b.collections in
    λ i. record { every = every i; blocks = blocks i; labels = labels i; collections = collections i })
