-- The numbers of a graph within the program's limits are small.
use Rattle.std.specs.Prelude.{◌≡◌, ◌≤◌, ◌++◌, true, List, length, map, Contains}
use Rattle.std.specs.declared.cmp.Ordering.{Ordering}
use Rattle.std.specs.Ordering.{eq_by_cmp}
use Rattle.std.specs.Cmp.{IsTotalOrder, Equal-is, eq_by_cmp_equiv}
use Rattle.std.specs.FinMap.{IsAntisymmetric}
use Rattle.std.specs.List.Sorted.{IsStrictlySortedBy}
use Rattle.std.proofs.Common.{arith, subst}
use Rattle.std.proofs.lemmas.List.{length-append, length-map}
use Rattle.std.proofs.lemmas.List.Elements.{Contains-append_left, Contains-append_right}
use Rattle.std.proofs.lemmas.Map.Keys.{IsDistinct-from_sorted}
use Rattle.std.proofs.lemmas.Map.Made.{length-le_from_is_member}
use Rattle.std.proofs.lemmas.Map.Views.{Contains-from_any, list_any-from_Contains}
use Rattle.sd_value.specs.declared.Datum.TheVariants.{Int, Text, Url, File, Node}
use Rattle.sd_value.specs.declared.Value.{Value}
use Rattle.sd_value.specs.declared.Value.TheVariants.{Data, Page}
use Rattle.sd_value.specs.Members.{Contains-mapped}
use Rattle.sd_value.specs.Order.{bytes_cmp, value_cmp}
use Rattle.sd_value.specs.OrderLaws.{bytes_cmp-total, bytes_cmp-exact, value_cmp-total, value_cmp-exact}
use Rattle.graph_spec.specs.declared.Edge.{Edge}
use Rattle.graph_spec.specs.DataGraph.{DataGraph, Name, node, IsValueOf, IsLabelOf}
use Rattle.sd_graph.specs.ProgramLimits.{IsWithinProgram}
use Rattle.live_store.specs.declared.told.Told.{Told}
use Rattle.live_store.specs.Live.{GraphIsTold, AreSmall}

-- an ascending list that is in another is not longer
fewer : {X : Type 0} (R : X → X → Ordering) → IsTotalOrder R → IsAntisymmetric R → (xs ys : List X)
    → IsStrictlySortedBy R xs → ((x : X) → Contains xs x → Contains ys x) → length xs ≤ length ys
fewer {X} R total exact xs ys up within =
    let same : (x y : X) → eq_by_cmp R x y ≡ true → x ≡ y = λ x y h. exact x y ((Equal-is (R x y)).0 h) in
    length-le_from_is_member (eq_by_cmp_equiv total) xs ys (IsDistinct-from_sorted R xs up)
    (λ x h. list_any-from_Contains (eq_by_cmp_equiv total) x ys
    (within x (Contains-from_any {eq = eq_by_cmp R} same x xs h)))

abbrev to_of : Edge → Value
to_of e = e.to

abbrev label_of : Edge → Name
label_of e = e.label

ended : (G : DataGraph) (e : Edge) (v : Value) → Contains G.edges e → e.to ≡ v
    → Contains (map node G.nodes ++ map to_of G.edges) v
ended G e v m is = Contains-append_right (map node G.nodes) (map to_of G.edges) v
    (subst (Contains (map to_of G.edges)) is (Contains-mapped to_of G.edges e m))

label_listed : (G : DataGraph) (l : Name) → IsLabelOf G l → Contains (map label_of G.edges) l
label_listed G l (e, m, is) = subst (Contains (map label_of G.edges)) is (Contains-mapped label_of G.edges e m)

-- a value is a node or an edge's end
value_listed : (G : DataGraph) (v : Value) → IsValueOf G v → Contains (map node G.nodes ++ map to_of G.edges) v
value_listed G (Data (Node n)) h = Contains-append_left (map node G.nodes) (map to_of G.edges) (node n)
    (Contains-mapped node G.nodes n h)
value_listed G (Data (Int i)) (e, m, is) = ended G e (Data (Int i)) m is
value_listed G (Data (Text t)) (e, m, is) = ended G e (Data (Text t)) m is
value_listed G (Data (Url t)) (e, m, is) = ended G e (Data (Url t)) m is
value_listed G (Data (File t)) (e, m, is) = ended G e (Data (File t)) m is
value_listed G (Page p) h = absurd h

pub small_told : (G : DataGraph) (told : Told) → IsWithinProgram G → GraphIsTold G told → AreSmall told
small_told G told within is =
    let (vs, values, many) = is.value_count in
    let (ls, labels, several) = is.label_count in
    let most = fewer value_cmp value_cmp-total value_cmp-exact vs (map node G.nodes ++ map to_of G.edges) values.ascending
    (λ v m. value_listed G v (values.sound v m)) in
    let most_labels = fewer bytes_cmp bytes_cmp-total bytes_cmp-exact ls (map label_of G.edges) labels.ascending
    (λ l m. label_listed G l (labels.sound l m)) in
    record {
      nodes = omega (arith, is.node_count, within.0);
      edges = omega (arith, is.edge_count, within.1);
      values = omega (
        arith,
        many,
        most,
        length-append (map node G.nodes) (map to_of G.edges),
        length-map G.nodes node,
        length-map G.edges to_of,
        within.0,
        within.1,
      );
      labels = omega (arith, several, most_labels, length-map G.edges label_of, within.1);
      members = omega (arith, is.member_count, within.1);
    }
