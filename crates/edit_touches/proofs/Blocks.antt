-- A block by its number, and the parts of a footprint.
use Rattle.std.specs.Prelude.{◌≡◌, ℕ, zero, suc, ◌<◌, Bool, true, false, List, [], ◌∷◌, length, get_or, slice_get, map, Some}
use Rattle.std.specs.List.{list_any}
use Rattle.std.proofs.Common.{arith, refl, sym, ap, ◌∙◌, subst}
use Rattle.query_spec.specs.Query.{Body as Block}
use Rattle.site_spec.specs.Site.{Scope, SomeOf, chain}
use Rattle.query_blocks.specs.declared.QueryBlock.{QueryBlock}
use Rattle.query_blocks.specs.declared.QueryBlocks.{QueryBlocks}
use Rattle.query_blocks.specs.Blocks.{body_of, scope_of, AreCheckedBlocks}
use Rattle.edit_spec.specs.declared.Edit.{Edit}
use Rattle.edit_spec.specs.Touches.{TouchesChain, IsOfLabel, IsOfCollection}
use Rattle.edit_spec.specs.Footprint.{Footprint, TouchesFootprint, by_embed, by_block, by_label, by_collection}
use Rattle.edit_touches.specs.Tests.{is_of_label, is_of_collection}
use Rattle.edit_touches.specs.Parts.{TouchesBlock}
use Rattle.edit_touches.proofs.Decides.{Says, some, label_says, collection_says}

got : (blocks : List QueryBlock) (i : ℕ) (s : QueryBlock) → i < length blocks → s ≡ get_or blocks i s
    → slice_get (map body_of blocks) i ≡ Some (body_of s)
got [] i s lt is = absurd (omega arith)
got (b ∷ blocks) zero s lt is = ap (λ (x : QueryBlock). Some (body_of x)) (sym is)
got (b ∷ blocks) (suc i) s lt is = got blocks i s (omega arith) is

same_some : {b c : Block} → Some b ≡ Some c → b ≡ c
same_some e = cc

pub block_says : (scopes : QueryBlocks) (e : Edit) (i : ℕ) (s : QueryBlock) (b : Bool) → i < length scopes.blocks.items
    → AreCheckedBlocks scopes.version scopes.blocks.items
    → s ≡ get_or scopes.blocks.items i s → Says b (TouchesChain e s.chain) → Says b (TouchesBlock e (scope_of scopes) i)
block_says scopes e i s b lt scoped is says =
    let at = got scopes.blocks.items i s lt is in
    let same : s.chain ≡ chain (scope_of scopes) (body_of s) = (scoped s (i, lt, sym is)).chain in (
      λ t. (body_of s, at, subst (TouchesChain e) same (says.0 t)),
      λ (c, at_c, touches). says.1
          (subst (TouchesChain e) (sym same) (subst (λ (x : Block). TouchesChain e (chain (scope_of scopes) x))
          (same_some (sym at_c ∙ at)) touches)),
    )

pub labels_say : (e : Edit) (ls : List (List ℕ)) → Says (list_any (is_of_label e) ls) (SomeOf (IsOfLabel e) ls)
labels_say e ls = some (is_of_label e) (IsOfLabel e) (label_says e) ls

pub collections_say : (e : Edit) (cs : List (List ℕ)) → Says (list_any (is_of_collection e) cs)
    (SomeOf (IsOfCollection e) cs)
collections_say e cs = some (is_of_collection e) (IsOfCollection e) (collection_says e) cs

pub none_touches : (e : Edit) (q : Scope) (p : Footprint) → p.every ≡ false → (SomeOf (TouchesBlock e q) p.blocks → ⊥)
    → (SomeOf (IsOfLabel e) p.labels → ⊥) → (SomeOf (IsOfCollection e) p.collections → ⊥) → TouchesFootprint e q p → ⊥
none_touches e q p every blocks labels collections (by_embed t) = cc
none_touches e q p every blocks labels collections (by_block s) = blocks s
none_touches e q p every blocks labels collections (by_label s) = labels s
none_touches e q p every blocks labels collections (by_collection s) = collections s

falls : (b : Bool) (P : Type 0) → Says b P → b ≡ false → P → ⊥
falls b P says e p = let t = says.1 p in cc

pub last_says : (e : Edit) (q : Scope) (p : Footprint) (blocks labels collections : Bool) → p.every ≡ false
    → Says blocks (SomeOf (TouchesBlock e q) p.blocks) → blocks ≡ false
    → labels ≡ list_any (is_of_label e) p.labels → labels ≡ false → collections ≡ list_any (is_of_collection e)
    p.collections → Says collections (TouchesFootprint e q p)
last_says e q p blocks labels collections every b_says b_none l_is l_none c_is =
    let c_says : Says collections (SomeOf (IsOfCollection e) p.collections) = subst
    (λ (x : Bool). Says x (SomeOf (IsOfCollection e) p.collections)) (sym c_is) (collections_say e p.collections) in
    let l_says : Says labels (SomeOf (IsOfLabel e) p.labels) = subst
    (λ (x : Bool). Says x (SomeOf (IsOfLabel e) p.labels)) (sym l_is) (labels_say e p.labels) in (
      λ t. by_collection (c_says.0 t),
      λ h. by collections refl c_says h,
    )
  where
    by : (c : Bool) → collections ≡ c → Says collections (SomeOf (IsOfCollection e) p.collections) → TouchesFootprint e
        q p → collections ≡ true
    by true is c_says h = is
    by false is c_says h =
        let l_says : Says labels (SomeOf (IsOfLabel e) p.labels) = subst
        (λ (x : Bool). Says x (SomeOf (IsOfLabel e) p.labels)) (sym l_is) (labels_say e p.labels) in
        absurd (none_touches e q p every (falls blocks _ b_says b_none) (falls labels _ l_says l_none)
        (falls collections _ c_says is) h)
