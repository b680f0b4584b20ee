-- Counts of names, listed for conditions.
use Rattle.std.proofs.Common.{◌≡◌, ℕ, zero, suc, ◌+◌, List, [], ◌∷◌, ◌++◌, length, map, take, add-one, refl, ap, sym, ◌∙◌, inl, inr, subst}
use Rattle.std.specs.Prelude.{Bool, true, false, Option, None, Some, slice_get, Contains, if◌then◌else◌}
use Rattle.std.proofs.lemmas.List.Elements.{Contains-push_cases, Contains-push, Contains-append_left}
use Rattle.sd_value.specs.OrderLaws.{same_bytes, bytes_same}
use Rattle.sd_value.specs.Members.{Contains-nil, Contains-cons_cases, Contains-here, Contains-there}
use Rattle.sd_value.specs.Order.{value_cmp, bytes_cmp}
use Rattle.graph_spec.specs.DataGraph.{DataGraph, Name, IsValueOf, IsLabelOf}
use Rattle.graph_spec.specs.Steps.{IsCountOf}
use Rattle.query_spec.specs.Query.{Chain, Condition, member, path, expression}
use Rattle.rpe.specs.Regex.{label}
use Rattle.query_spec.specs.Mentions.{same_name}
use Rattle.struql_ast.specs.declared.Condition.{Condition as Written}
use Rattle.struql_ast.specs.Reading.{condition_of}
use Rattle.plan_spec.specs.declared.Counted.{Counted}
use Rattle.plan_spec.specs.declared.Counts.{Counts}
use Rattle.plan_spec.specs.Shape.{count_of, CountsOf}
use Rattle.planner.specs.Counting.{AddsCount, AreCountsOf, priced_label, priced_collection, LabelCount, MemberCount}

take_map_more : {X Y : Type 0} (f : X → Y) (xs : List X) (i : ℕ) (x : X) → slice_get xs i ≡ Some x → map f (take (suc i) xs) ≡ map f (take i xs) ++ f x ∷ []
take_map_more f [] i x h = cc
take_map_more f (y ∷ xs) zero x h = let e : x ≡ y = cc in ap (λ z. f z ∷ []) (sym e)
take_map_more f (y ∷ xs) (suc i) x h = ap (λ zs. f y ∷ zs) (take_map_more f xs i x h)

module _ (priced : Condition → Option Name) (IsRight : Name → ℕ → Type 0) where
  pub counts-none : AreCountsOf priced IsRight [] []
  counts-none = record { right = λ e h. absurd (Contains-nil e h); listed = λ k name h. absurd (Contains-nil k h) }

  counts-more : (conditions : List Condition) (k : Condition) (before after : List Counted) → AreCountsOf priced IsRight conditions before → AddsCount priced IsRight k before after → AreCountsOf priced IsRight (conditions ++ k ∷ []) after
  counts-more conditions k before after c (inl same) = record {
    right = λ e h. c.right e (subst (λ xs. Contains xs e) same.1 h);
    listed = λ j name h p. elim (Contains-push_cases conditions k j h) [
      | inl old ↦ (let found = c.listed j name old p in (found.0, subst (λ xs. Contains xs found.0) (sym same.1) found.1, found.2))
      | inr here ↦ (let none : priced j ≡ None = subst (λ x. priced x ≡ None) here same.0 in cc)
    ];
  }
  counts-more conditions k before after c (inr more) =
      let entry : Counted = record { name = more.0; count = more.1 } in
      record {
        right = λ e h. elim (Contains-push_cases before entry e (subst (λ xs. Contains xs e) more.4 h)) [
          | inl old ↦ c.right e old
          | inr here ↦ subst (λ x. IsRight x.name x.count) here more.3
        ];
        listed = λ j name h p. elim (Contains-push_cases conditions k j h) [
          | inl old ↦ (let found = c.listed j name old p in (found.0, subst (λ xs. Contains xs found.0) (sym more.4) (Contains-append_left before (entry ∷ []) found.0 found.1), found.2))
          | inr here ↦ (let at : priced j ≡ Some more.0 = subst (λ x. priced x ≡ Some more.0) here more.2 in (entry, subst (λ xs. Contains xs entry) (sym more.4) (Contains-push before entry), cc))
        ];
      }

  pub counts-step : (written : List Written) (i : ℕ) (w : Written) (before after : List Counted) → slice_get written i ≡ Some w → AreCountsOf priced IsRight (map condition_of (take i written)) before → AddsCount priced IsRight (condition_of w) before after
      → AreCountsOf priced IsRight (map condition_of (take (i + 1) written)) after
  counts-step written i w before after h c a =
      subst (λ ks. AreCountsOf priced IsRight ks after) (sym (rw add-one (take_map_more condition_of written i w h))) (counts-more (map condition_of (take i written)) (condition_of w) before after c a)

  -- a list's count of a name, by whether its first entry has it
  pick : (c : Counted) (rest : ℕ) (name : Name) (b : Bool) → b ≡ same_name c.name name → IsRight c.name c.count → ((c.name ≡ name → ⊥) → IsRight name rest) → IsRight name (if b then c.count else rest)
  pick c rest name true t right otherwise = subst (λ n. IsRight n c.count) (same_bytes c.name name (sym t)) right
  pick c rest name false t right otherwise = otherwise (λ one. (let yes : same_name c.name name ≡ true = subst (λ n. same_name c.name n ≡ true) one (bytes_same c.name) in cc))

  -- the count of a name that is listed is right
  found_right : (counted : List Counted) (name : Name) (e : Counted) → ((x : Counted) → Contains counted x → IsRight x.name x.count) → Contains counted e → e.name ≡ name → IsRight name (count_of counted name)
  found_right [] name e right h same = absurd (Contains-nil e h)
  found_right (c ∷ cs) name e right h same =
      pick c (count_of cs name) name (same_name c.name name) refl (right c (Contains-here c cs))
      (λ differs. elim (Contains-cons_cases c cs e h) [
        | inl here ↦ absurd (differs (ap (λ x. x.name) here ∙ same))
        | inr rest ↦ found_right cs name e (λ x m. right x (Contains-there c cs x m)) rest same
      ])

  pub right_count : (conditions : List Condition) (counted : List Counted) (k : Condition) (name : Name) → AreCountsOf priced IsRight conditions counted → Contains conditions k → priced k ≡ Some name → IsRight name (count_of counted name)
  right_count conditions counted k name c h p = let found = c.listed k name h p in found_right counted name found.0 c.right found.1 found.2

pub counts_right : (G : DataGraph) (c : Chain) (counts : Counts) → counts.sizes.nodes ≡ length G.nodes → counts.sizes.edges ≡ length G.edges → IsCountOf value_cmp (IsValueOf G) counts.sizes.values → IsCountOf bytes_cmp (IsLabelOf G) counts.sizes.labels
    → AreCountsOf priced_label (LabelCount G) c.conditions counts.labels.items → AreCountsOf priced_collection (MemberCount G) c.conditions counts.collections.items → CountsOf G c counts
counts_right G c counts nodes edges values labels l m = record {
  nodes = nodes;
  edges = edges;
  values = values;
  labels = labels;
  of_label = λ a t u h. right_count priced_label (LabelCount G) c.conditions counts.labels.items (path t (expression (label a)) u) a l h refl;
  of_collection = λ collection x h. right_count priced_collection (MemberCount G) c.conditions counts.collections.items (member collection x) collection m h refl;
}
