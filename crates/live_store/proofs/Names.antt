-- Names that are pushed unless a graph declares them.
use Rattle.std.specs.Prelude.{◌≡◌, ◌⊎◌, List, Contains}
use Rattle.std.specs.BTreeSet.{insert_key}
use Rattle.std.specs.List.Sorted.{IsStrictlySortedBy}
use Rattle.std.proofs.Common.{sym, subst, inl, inr}
use Rattle.sd_value.specs.Order.{bytes_cmp}
use Rattle.sd_value.specs.OrderLaws.{bytes_cmp-exact}
use Rattle.sd_graph.specs.Inserted.{inserted-there, inserted-cases, inserted-here}
use Rattle.sd_value.specs.Ascending.{ListsExactly}
use Rattle.graph_spec.specs.DataGraph.{DataGraph, Name}
use Rattle.edit_spec.specs.declared.Edit.{Edit}
use Rattle.live_store.specs.Live.{IsNewNode, IsNodeOf, NewNames}

module _ (B : DataGraph) where
  pub name_new : (name : Name) (old : List Name) → (Contains B.nodes name → ⊥)
      → NewNames B (λ n. n ≡ name) old (insert_key bytes_cmp old name)
  name_new name old none = record {
    sound = λ n m. elim (inserted-cases bytes_cmp name old n m) [
      | inl e ↦ inr ((λ c. none (subst (Contains B.nodes) (sym e) c)), sym e)
      | inr o ↦ inl o
    ];
    kept = λ n m. inserted-there bytes_cmp name old n m;
    there = λ n e. inr (subst (Contains (insert_key bytes_cmp old name)) (sym e)
        (inserted-here bytes_cmp bytes_cmp-exact name old));
  }

  pub names_as : (P Q : Name → Type 0) (old new : List Name) → NewNames B P old new → ((n : Name) → P n → Q n)
      → ((n : Name) → Q n → P n) → NewNames B Q old new
  names_as P Q old new names to from = record {
    sound = λ n m. elim (names.sound n m) [ inl o ↦ inl o | inr k ↦ inr (k.0, to n k.1) ];
    kept = names.kept;
    there = λ n q. names.there n (from n q);
  }

  pub names_then : (P Q : Name → Type 0) (old mid new : List Name) → NewNames B P old mid → NewNames B Q mid new
      → NewNames B (λ n. P n ⊎ Q n) old new
  names_then P Q old mid new first second = record {
    sound = λ n m. elim (second.sound n m) [
      | inl k ↦ elim (first.sound n k) [ inl o ↦ inl o | inr p ↦ inr (p.0, inl p.1) ]
      | inr q ↦ inr (q.0, inr q.1)
    ];
    kept = λ n m. second.kept n (first.kept n m);
    there = λ n h. elim h [
      | inl p ↦ elim (first.there n p) [ inl b ↦ inl b | inr m ↦ inr (second.kept n m) ]
      | inr q ↦ second.there n q
    ];
  }

  pub names_listed : (e : Edit) (nodes names : List Name) → NewNames B (IsNodeOf e) nodes names
      → IsStrictlySortedBy bytes_cmp names → ListsExactly bytes_cmp (IsNewNode B nodes e) names
  names_listed e nodes names new up = record {
    ascending = up;
    sound = new.sound;
    complete = λ n h. elim h [
      | inl o ↦ new.kept n o
      | inr k ↦ elim (new.there n k.1) [ inl b ↦ absurd (k.0 b) | inr m ↦ m ]
    ];
  }
