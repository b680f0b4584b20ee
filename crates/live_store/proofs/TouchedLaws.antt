-- The values and labels, from the indexed graph's and those that edits may have touched.
use Rattle.std.specs.Prelude.{◌≡◌, List, [], Contains}
use Rattle.std.proofs.Common.{subst, inl, inr}
use Rattle.sd_value.specs.declared.Datum.TheVariants.{Int, Text, Url, File, Node}
use Rattle.sd_value.specs.declared.Value.{Value}
use Rattle.sd_value.specs.declared.Value.TheVariants.{Data, Page}
use Rattle.sd_value.specs.Order.{bytes_cmp, value_cmp}
use Rattle.sd_value.specs.OrderLaws.{bytes_cmp-total, bytes_cmp-exact, value_cmp-total, value_cmp-exact}
use Rattle.sd_value.specs.Ascending.{ListsExactly}
use Rattle.sd_value.specs.AscendingLaws.{listed_as}
use Rattle.sd_value.specs.Members.{Contains-nil}
use Rattle.graph_spec.specs.declared.Edge.{Edge}
use Rattle.graph_spec.specs.DataGraph.{DataGraph, Name, IsValueOf, IsLabelOf}
use Rattle.live_store.specs.Shift.{Pushed, IsShifted}
use Rattle.live_store.specs.Live.{Layers, AreEnds, AreLabels}
use Rattle.live_store.proofs.ListLaws.{in_or_not}

module _ (B C D : DataGraph) (nodes : List Name) (L : DataGraph) (layers : Layers B C D nodes L) where
  module _ (touched : List Value) (ends : AreEnds C D nodes touched) where
    ended_stays : (v : Value) → (Contains touched v → ⊥) → (e : Edge) → Contains B.edges e → e.to ≡ v → Contains L.edges e
    ended_stays v none e m is = (layers.edge_moves e).stays m (λ d. none (subst (Contains touched) is (ends.gone e d)))

    ended_was : (v : Value) → (Contains touched v → ⊥) → (e : Edge) → Contains L.edges e → e.to ≡ v → Contains B.edges e
    ended_was v none e m is = elim ((layers.edge_moves e).all m) [
      | inl b ↦ b
      | inr c ↦ absurd (none (subst (Contains touched) is (ends.came e c)))
    ]

    value_stays : (v : Value) → (Contains touched v → ⊥) → IsValueOf B v → IsValueOf L v
    value_stays (Data (Node n)) none h = (layers.node_moves n).stays h (λ d. d)
    value_stays (Data (Int i)) none (e, m, is) = (e, ended_stays (Data (Int i)) none e m is, is)
    value_stays (Data (Text t)) none (e, m, is) = (e, ended_stays (Data (Text t)) none e m is, is)
    value_stays (Data (Url t)) none (e, m, is) = (e, ended_stays (Data (Url t)) none e m is, is)
    value_stays (Data (File t)) none (e, m, is) = (e, ended_stays (Data (File t)) none e m is, is)
    value_stays (Page p) none h = h

    value_was : (v : Value) → (Contains touched v → ⊥) → IsValueOf L v → IsValueOf B v
    value_was (Data (Node n)) none h = elim ((layers.node_moves n).all h) [
      | inl b ↦ b
      | inr c ↦ absurd (none (ends.named n c))
    ]
    value_was (Data (Int i)) none (e, m, is) = (e, ended_was (Data (Int i)) none e m is, is)
    value_was (Data (Text t)) none (e, m, is) = (e, ended_was (Data (Text t)) none e m is, is)
    value_was (Data (Url t)) none (e, m, is) = (e, ended_was (Data (Url t)) none e m is, is)
    value_was (Data (File t)) none (e, m, is) = (e, ended_was (Data (File t)) none e m is, is)
    value_was (Page p) none h = h

    pub values_listed : (bs now xs : List Value) → ListsExactly value_cmp (IsValueOf B) bs
        → Pushed (λ (v : Value). v) (IsValueOf L) touched [] now → ListsExactly value_cmp (IsShifted bs touched now) xs
        → ListsExactly value_cmp (IsValueOf L) xs
    values_listed bs now xs lists pushed shifted = listed_as shifted
        (λ v h. elim h [
          | inl k ↦ value_stays v k.1 (lists.sound v k.0)
          | inr c ↦ elim (pushed.only v c) [
            | inl none ↦ absurd (Contains-nil v none)
            | inr (z, m, is, same) ↦ subst (IsValueOf L) same is
          ]
        ])
        (λ v q. elim (in_or_not value_cmp value_cmp-total value_cmp-exact touched v) [
          | inl t ↦ inr (pushed.found v t q)
          | inr n ↦ inl (lists.complete v (value_was v n q), n)
        ])

  module _ (touched : List Name) (labels : AreLabels C D touched) where
    label_stays : (l : Name) → (Contains touched l → ⊥) → IsLabelOf B l → IsLabelOf L l
    label_stays l none (e, m, is) =
        (e, (layers.edge_moves e).stays m (λ d. none (subst (Contains touched) is (labels.gone e d))), is)

    label_was : (l : Name) → (Contains touched l → ⊥) → IsLabelOf L l → IsLabelOf B l
    label_was l none (e, m, is) = elim ((layers.edge_moves e).all m) [
      | inl b ↦ (e, b, is)
      | inr c ↦ absurd (none (subst (Contains touched) is (labels.came e c)))
    ]

    pub labels_listed : (bs now xs : List Name) → ListsExactly bytes_cmp (IsLabelOf B) bs
        → Pushed (λ (l : Name). l) (IsLabelOf L) touched [] now → ListsExactly bytes_cmp (IsShifted bs touched now) xs
        → ListsExactly bytes_cmp (IsLabelOf L) xs
    labels_listed bs now xs lists pushed shifted = listed_as shifted
        (λ l h. elim h [
          | inl k ↦ label_stays l k.1 (lists.sound l k.0)
          | inr c ↦ elim (pushed.only l c) [
            | inl none ↦ absurd (Contains-nil l none)
            | inr (z, m, is, same) ↦ subst (IsLabelOf L) same is
          ]
        ])
        (λ l q. elim (in_or_not bytes_cmp bytes_cmp-total bytes_cmp-exact touched l) [
          | inl t ↦ inr (pushed.found l t q)
          | inr n ↦ inl (lists.complete l (label_was l n q), n)
        ])
