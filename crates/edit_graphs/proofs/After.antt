-- Putting in and taking out, list by list.
use Rattle.std.specs.Prelude.{◌≡◌, ◌≢◌, ◌⊎◌, true, false, List, [], ◌∷◌, Contains}
use Rattle.std.specs.declared.cmp.Ordering.{Ordering}
use Rattle.std.specs.declared.cmp.Ordering.TheVariants.{Less, Equal, Greater}
use Rattle.std.specs.Ordering.{is_eq}
use Rattle.std.specs.BTreeMap.{is_at}
use Rattle.std.specs.BTreeSet.{insert_key}
use Rattle.std.specs.Set.{remove_key}
use Rattle.std.specs.List.Sorted.{IsStrictlySortedBy}
use Rattle.std.specs.Cmp.{IsTotalOrder}
use Rattle.std.specs.FinMap.{IsAntisymmetric}
use Rattle.std.proofs.Common.{refl, sym, ap, ◌∙◌, subst, inl, inr}
use Rattle.std.proofs.lemmas.Cmp.{tied_itself}
use Rattle.std.proofs.lemmas.List.Elements.{All-from_recursion, recursion_from_All}
use Rattle.std.proofs.lemmas.Map.Views.{All-remove_key}
use Rattle.sd_value.specs.declared.Datum.TheVariants.{Int, Text, Url, File, Node}
use Rattle.sd_value.specs.declared.Value.{Value}
use Rattle.sd_value.specs.declared.Value.TheVariants.{Data, Page}
use Rattle.sd_value.specs.Order.{bytes_cmp}
use Rattle.sd_value.specs.OrderLaws.{bytes_cmp-total, bytes_cmp-exact}
use Rattle.sd_value.specs.Ascending.{ListsExactly}
use Rattle.sd_value.specs.AscendingLaws.{head_below, not_below_itself, listed_as}
use Rattle.sd_value.specs.Members.{Contains-nil, Contains-cons_cases, Contains-here, Contains-there}
use Rattle.graph_spec.specs.declared.Edge.{Edge}
use Rattle.graph_spec.specs.Orders.{edge_cmp, edge_cmp-total, edge_cmp-exact, member_cmp, member_cmp-total, member_cmp-exact}
use Rattle.graph_spec.specs.DataGraph.{DataGraph, Name, node, IsWellFormed}
use Rattle.graph_spec.specs.Statement.{with_name, with_end}
use Rattle.sd_graph.specs.Inserted.{inserted-there, inserted-cases, inserted-here, inserted-ascends}
use Rattle.edit_spec.specs.declared.Edit.{Edit}
use Rattle.edit_spec.specs.declared.Edit.TheVariants.{Add, Remove, Enter, Leave}
use Rattle.edit_spec.specs.Edited.{Edited}
use Rattle.edit_laws.proofs.Guards.{by_test}
use Rattle.edit_graphs.specs.After.{graph_after}

tie : (o : Ordering) → is_eq o ≡ true → o ≡ Equal
tie Less e = cc
tie Equal e = refl
tie Greater e = cc

module _ {X : Type 0} (R : X → X → Ordering) (total : IsTotalOrder R) (exact : IsAntisymmetric R) where
  pub inserted_exactly : (k : X) (xs : List X) → IsStrictlySortedBy R xs → ListsExactly R (λ z. Contains xs z ⊎ (z ≡ k))
      (insert_key R xs k)
  inserted_exactly k xs up = record {
    ascending = inserted-ascends R total k xs up;
    sound = λ z c. elim (inserted-cases R k xs z c) [ inl e ↦ inr (sym e) | inr old ↦ inl old ];
    complete = λ z h. elim h [
      | inl old ↦ inserted-there R k xs z old
      | inr e ↦ subst (Contains (insert_key R xs k))
          (sym e) (inserted-here R exact k xs)
    ];
  }

  same_at : (k x : X) → is_at (R k) x ≡ true → k ≡ x
  same_at k x t = exact k x (tie (R k x) t)

  other_at : (k x : X) → is_at (R k) x ≡ false → x ≢ k
  other_at k x f e = let t : is_at (R k) x ≡ true = subst (λ z. is_at (R k) z ≡ true) (sym e)
      (ap is_eq (tied_itself total k)) in cc

  pub removed_exactly : (k : X) (xs : List X) → IsStrictlySortedBy R xs → ListsExactly R (λ z. Contains xs z × (z ≢ k))
      (remove_key (is_at (R k)) xs)
  unfolding IsStrictlySortedBy
  removed_exactly k [] up = record { ascending = tt; sound = λ z c. absurd (Contains-nil z c); complete = λ z h. h.0 }
  removed_exactly k (x ∷ xs) up = by_test (is_at (R k) x) (ListsExactly R (λ z. Contains (x ∷ xs) z × (z ≢ k))
      (remove_key (is_at (R k)) (x ∷ xs))) out (stay (removed_exactly k xs up.1))
    where
      out : is_at (R k) x ≡ true → ListsExactly R (λ z. Contains (x ∷ xs) z × (z ≢ k))
          (remove_key (is_at (R k)) (x ∷ xs))
      out t =
          let is : k ≡ x = same_at k x t in
          let whole : ListsExactly R (λ z. Contains (x ∷ xs) z × (z ≢ k)) xs = record {
            ascending = up.1;
            sound = λ z c. (
              Contains-there x xs z c,
              λ e. not_below_itself total x
                  (subst (λ w. R x w ≡ Less) (e ∙ is) (head_below total x xs up z c)),
            );
            complete = λ z h. elim (Contains-cons_cases x xs z h.0) [
              | inl e ↦ absurd (h.1 (sym e ∙ sym is))
              | inr c ↦ c
            ];
          } in
          rw t whole

      stay : ListsExactly R (λ z. Contains xs z × (z ≢ k)) (remove_key (is_at (R k)) xs) → is_at (R k) x ≡ false
          → ListsExactly R (λ z. Contains (x ∷ xs) z × (z ≢ k)) (remove_key (is_at (R k)) (x ∷ xs))
      stay rest f =
          let whole : ListsExactly R (λ z. Contains (x ∷ xs) z × (z ≢ k)) (x ∷ remove_key (is_at (R k)) xs) = record {
            ascending = (
              recursion_from_All (λ y. R x y ≡ Less) (remove_key (is_at (R k)) xs)
                  (All-remove_key (is_at (R k)) (λ y. R x y ≡ Less) xs (All-from_recursion (λ y. R x y ≡ Less) xs up.0)),
              rest.ascending,
            );
            sound = λ z c. elim (Contains-cons_cases x (remove_key (is_at (R k)) xs) z c) [
              | inl e ↦ (subst (Contains (x ∷ xs)) e (Contains-here x xs), λ same. other_at k x f (e ∙ same))
              | inr d ↦ (let s = rest.sound z d in (Contains-there x xs z s.0, s.1))
            ];
            complete = λ z h. elim (Contains-cons_cases x xs z h.0) [
              | inl e ↦ subst (Contains (x ∷ remove_key (is_at (R k)) xs)) e
                  (Contains-here x (remove_key (is_at (R k)) xs))
              | inr d ↦ Contains-there x (remove_key (is_at (R k)) xs) z (rest.complete z (d, h.1))
            ];
          } in
          rw f whole

  itself : (xs : List X) → IsStrictlySortedBy R xs → ListsExactly R (Contains xs) xs
  itself xs up = record { ascending = up; sound = λ z c. c; complete = λ z c. c }

same_name : {m n : Name} → node m ≡ node n → m ≡ n
same_name e = cc

end_exactly : (v : Value) (names : List Name) → IsStrictlySortedBy bytes_cmp names → ListsExactly bytes_cmp
    (λ n. Contains names n ⊎ (v ≡ node n)) (with_end v names)
end_exactly (Data (Node m)) names up =
    listed_as (inserted_exactly bytes_cmp bytes_cmp-total bytes_cmp-exact m names up)
    (λ n h. elim h [ inl c ↦ inl c | inr e ↦ inr (ap node (sym e)) ])
    (λ n h. elim h [ inl c ↦ inl c | inr e ↦ inr (sym (same_name e)) ])
end_exactly (Data (Int i)) names up = record {
  ascending = up;
  sound = λ n c. inl c;
  complete = λ n h.
      elim h [ inl c ↦ c | inr e ↦ cc ];
}
end_exactly (Data (Text t)) names up = record {
  ascending = up;
  sound = λ n c. inl c;
  complete = λ n h.
      elim h [ inl c ↦ c | inr e ↦ cc ];
}
end_exactly (Data (Url t)) names up = record {
  ascending = up;
  sound = λ n c. inl c;
  complete = λ n h.
      elim h [ inl c ↦ c | inr e ↦ cc ];
}
end_exactly (Data (File t)) names up = record {
  ascending = up;
  sound = λ n c. inl c;
  complete = λ n h.
      elim h [ inl c ↦ c | inr e ↦ cc ];
}
end_exactly (Page p) names up = record {
  ascending = up;
  sound = λ n c. inl c;
  complete = λ n h.
      elim h [ inl c ↦ c | inr e ↦ cc ];
}

ends_exactly : (e : Edge) (names : List Name) → IsStrictlySortedBy bytes_cmp names → ListsExactly bytes_cmp
    (λ n. Contains names n ⊎ ((n ≡ e.from) ⊎ (e.to ≡ node n))) (with_end e.to (with_name e.from names))
ends_exactly e names up =
    let start = inserted_exactly bytes_cmp bytes_cmp-total bytes_cmp-exact e.from names up in
    listed_as (end_exactly e.to (with_name e.from names) start.ascending)
    (λ n h. elim h [
      | inl c ↦ (elim (start.sound n c) [ inl old ↦ inl old | inr is ↦ inr (inl is) ])
      | inr is ↦ inr
          (inr is)
    ])
    (λ n h. elim h [
      | inl c ↦ inl (start.complete n (inl c))
      | inr (inl is) ↦ inl (start.complete n (inr is))
      | inr
          (inr is) ↦ inr is
    ])

pub after : (G : DataGraph) (e : Edit) → IsWellFormed G → Edited G e (graph_after e G)
after G (Add e) w = record {
  nodes = ends_exactly e G.nodes w.nodes_ascend;
  edges = inserted_exactly edge_cmp edge_cmp-total edge_cmp-exact e G.edges w.edges_ascend;
  members = itself member_cmp member_cmp-total member_cmp-exact G.members w.members_ascend;
}
after G (Remove e) w = record {
  nodes = itself bytes_cmp bytes_cmp-total bytes_cmp-exact G.nodes w.nodes_ascend;
  edges = removed_exactly edge_cmp edge_cmp-total edge_cmp-exact e G.edges w.edges_ascend;
  members = itself member_cmp member_cmp-total member_cmp-exact G.members w.members_ascend;
}
after G (Enter m) w = record {
  nodes = inserted_exactly bytes_cmp bytes_cmp-total bytes_cmp-exact m.node G.nodes w.nodes_ascend;
  edges = itself edge_cmp edge_cmp-total edge_cmp-exact G.edges w.edges_ascend;
  members = inserted_exactly member_cmp member_cmp-total member_cmp-exact m G.members w.members_ascend;
}
after G (Leave m) w = record {
  nodes = itself bytes_cmp bytes_cmp-total bytes_cmp-exact G.nodes w.nodes_ascend;
  edges = itself edge_cmp edge_cmp-total edge_cmp-exact G.edges w.edges_ascend;
  members = removed_exactly member_cmp member_cmp-total member_cmp-exact m G.members w.members_ascend;
}
