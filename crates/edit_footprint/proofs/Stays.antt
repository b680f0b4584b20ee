-- Pages stay at an edit that doesn't touch their footprint, and over a list of such edits.
use Rattle.std.specs.Prelude.{◌≡◌, ℕ, ◌<◌, Bool, IsFalse, List, [], ◌∷◌, length, map, slice_get, Some, All, Contains}
use Rattle.std.specs.Bool.{MatchBool}
use Rattle.std.proofs.Common.{arith, zero, suc, sym, subst}
use Rattle.std.proofs.lemmas.List.{length-map}
use Rattle.std.proofs.lemmas.List.Elements.{All-weaker, All-contains_itself}
use Rattle.sd_value.specs.Members.{Contains-here, Contains-there, Contains-map}
use Rattle.graph_spec.specs.DataGraph.{DataGraph, Name}
use Rattle.query_spec.specs.Query.{Body as Block}
use Rattle.site_spec.specs.Site.{Scope}
use Rattle.tmpl.specs.Body.{Body, TemplateFile}
use Rattle.query_blocks.specs.declared.QueryBlocks.{QueryBlocks}
use Rattle.query_blocks.specs.Blocks.{body_of, scope_of, AreCheckedBlocks}
use Rattle.edit_spec.specs.declared.Edit.{Edit}
use Rattle.edit_spec.specs.Footprint.{IsTemplateOf, Footprint, IsWithoutEmbed, IsFootprint, TouchesFootprint}
use Rattle.edit_laws.specs.Laws.{Becomes, HasMadeSources}
use Rattle.edit_laws.proofs.Guards.{by_test}
use Rattle.edit_laws.proofs.Footprints.{outcomes_stay}
use Rattle.edit_laws.proofs.Decisions.{one_template, one_footprint}
use Rattle.edit_touches.proofs.Decides.{Says}
use Rattle.edit_footprint.specs.Stays.{SamePages, TouchesPages, Edits, no_edit, edit_then}

-- ---- one edit

pub same_pages : (q : Scope) (f : TemplateFile) (function : Name) (t : Body) (foot : Footprint) (G H : DataGraph)
    (e : Edit) → HasMadeSources q → IsTemplateOf f function t → IsFootprint q function t foot
    → Becomes G e H → (TouchesFootprint e q foot → ⊥) → SamePages q f function G H
same_pages q f function t foot G H e made template is_footprint change spared p is o =
    outcomes_stay G H e q f p t foot change made (subst (λ (n : Name). IsTemplateOf f n t) (sym is) template)
    (subst (λ (n : Name). IsFootprint q n t foot) (sym is) is_footprint) spared o

-- ---- a list of edits

pub over_edits : (q : Scope) (f : TemplateFile) (function : Name) (t : Body) (foot : Footprint) (G H : DataGraph)
    (es : List Edit) → HasMadeSources q → IsTemplateOf f function t → IsFootprint q function t foot
    → Edits G es H → ((e : Edit) → Contains es e → TouchesFootprint e q foot → ⊥) → SamePages q f function G H
over_edits q f function t foot G H es made template is_footprint no_edit spared p is o = (λ h. h, λ h. h)
over_edits q f function t foot G K es made template is_footprint (edit_then {H = H} {e = e} {es = rest} change more)
    spared p is o =
    let first = same_pages q f function t foot G H e made template is_footprint change (spared e (Contains-here e rest))
    p is o in
    let later = over_edits q f function t foot H K rest made template is_footprint more
    (λ x c. spared x (Contains-there e rest x c)) p is o in
    (λ h. later.0 (first.0 h), λ h. first.1 (later.1 h))

-- ---- what the scopes of a checked query say

pub made_sources : (s : QueryBlocks) → AreCheckedBlocks s.version s.blocks.items → HasMadeSources (scope_of s)
made_sources s scoped b c k d =
    let found = Contains-map body_of s.blocks.items b c in
    (scoped found.0 found.2).sources k (subst (λ (x : Block). Contains x.links k) (sym found.1) d)

got_in_range : {X : Type 0} (xs : List X) (i : ℕ) (x : X) → slice_get xs i ≡ Some x → i < length xs
got_in_range [] i x e = let impossible : ⊥ = cc in absurd impossible
got_in_range (y ∷ ys) zero x e = omega arith
got_in_range (y ∷ ys) (suc i) x e = let rest = got_in_range ys i x e in omega arith

no_numbers : (n : ℕ) (ns : List ℕ) → ns ≡ [] → All (λ i. i < n) ns
no_numbers n ns e = subst (λ (l : List ℕ). All (λ i. i < n) l) (sym e) (λ k d lt. absurd (omega arith))

pub in_range : (s : QueryBlocks) (function : Name) (t : Body) (foot : Footprint) → IsFootprint (scope_of s) function t
    foot → All (λ i. i < length s.blocks.items) foot.blocks
in_range s function t foot h =
    by_test foot.every (All (λ i. i < length s.blocks.items) foot.blocks)
    (λ every. (let a = subst
    (λ (b : Bool). MatchBool b ((foot.blocks ≡ []) × (foot.labels ≡ []) × (foot.collections ≡ []))
    (IsWithoutEmbed (scope_of s) function t foot)) every h.parts in
    no_numbers (length s.blocks.items) foot.blocks a.0))
    (λ not_every.
    (let a = subst (λ (b : Bool). MatchBool b ((foot.blocks ≡ []) × (foot.labels ≡ []) × (foot.collections ≡ []))
    (IsWithoutEmbed (scope_of s) function t foot)) not_every h.parts in
    All-weaker (Contains foot.blocks) (λ i. i < length s.blocks.items)
    (λ i c. (let at = a.blocks.sound i c in let lt = got_in_range (map body_of s.blocks.items) i at.0 at.1 in omega
    (arith, length-map s.blocks.items body_of, lt)))
    foot.blocks (All-contains_itself foot.blocks)))

pub touches_says : (e : Edit) (q : Scope) (f : TemplateFile) (function : Name) (t : Body) (foot : Footprint) (b : Bool)
    → IsTemplateOf f function t → IsFootprint q function t foot → Says b (TouchesFootprint e q foot)
    → Says b (TouchesPages e q f function)
touches_says e q f function t foot b template is_footprint says = (
  λ h. (t, template, (foot, is_footprint, says.0 h)),
  λ (u, other, (parts, are, touches)).
      (let same = one_template f function u t other template in
      let are_of_t = subst (λ (x : Body). IsFootprint q function x parts) same are in
      says.1 (subst (TouchesFootprint e q) (one_footprint q function t parts foot are_of_t is_footprint) touches)),
)

pub spared : (b : Bool) (P : Type 0) → Says b P → IsFalse b → P → ⊥
spared b P says e p = let t = says.1 p in cc
