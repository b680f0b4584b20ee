-- Keys by a word, one label after another.
use Rattle.std.proofs.Common.{◌≡◌, ℕ, ◌+◌, ◌-◌, ◌<◌, ◌≤◌, ◌==◌, Bool, false, List, [], ◌∷◌, ◌++◌, length, get_or, map, take, drop, Option, Some, None, Result, IfOk, refl, sym, ap, ◌∙◌, subst, arith, append-nil}
use Rattle.std.specs.Prelude.{flat_map}
use Rattle.std.proofs.lemmas.List.{take_more, take_all, drop_more, map-append}
use Rattle.std.proofs.lemmas.Grind.{flat_map-append}
use Rattle.sd_value.specs.Names.{Name, Label, Word}
use Rattle.sd_value.specs.declared.Datum.TheVariants.{Int, Text, Url, File, Node}
use Rattle.sd_value.specs.declared.NoMemory.{NoMemory}
use Rattle.sd_value.specs.declared.Value.{Value}
use Rattle.sd_value.specs.declared.Value.TheVariants.{Data, Page}
use Rattle.graph_spec.specs.DataGraph.{DataGraph, node}
use Rattle.graph_spec.specs.declared.Edge.{Edge}
use Rattle.list_lookup.specs.Picked.{in_place}
use Rattle.edge_queries.specs.Places.{at_start_label}
use Rattle.order_spec.specs.Order.{reached}
use Rattle.sort_keys.specs.Keys.{key_of, key_cmp, lesser}
use Rattle.sort_keys.specs.declared.key.Key.{Key}
use Rattle.graph_order.specs.Keys.{key_by, least_key, AreKeys, IsLonger}
use Rattle.graph_order.proofs.Least.{least_key_append}
use Rattle.graph_order.proofs.Ends.{ends_placed}

-- by no label a value is its own key
pub own_key : (b : Bool) (G : DataGraph) (w : Word) (v : Value) → w ≡ [] → Some (key_of b v) ≡ key_by b G w v
own_key b G w v e = subst (λ z. Some (key_of b v) ≡ key_by b G z v) (sym e) refl

-- by some label what is no node has none
abbrev pub IsNoNode : Value → Type 0
IsNoNode (Data (Node n)) = ⊥
IsNoNode v = Unit {0}

pub some_label : (w : Word) (t : Bool) → t ≡ (length w == 0) → t ≡ false → w ≡ [] → ⊥
some_label [] t is no_labels e = cc
some_label (l ∷ w) t is no_labels e = cc

pub no_key : (b : Bool) (G : DataGraph) (w : Word) (v : Value) → (w ≡ [] → ⊥) → IsNoNode v → None ≡ key_by b G w v
no_key b G [] v some atom = absurd (some refl)
no_key b G (l ∷ w) (Data (Node n)) some atom = absurd atom
no_key b G (l ∷ w) (Data (Int i)) some atom = refl
no_key b G (l ∷ w) (Data (Text t)) some atom = refl
no_key b G (l ∷ w) (Data (Url t)) some atom = refl
no_key b G (l ∷ w) (Data (File t)) some atom = refl
no_key b G (l ∷ w) (Page p) some atom = refl

module _ (b : Bool) (G : DataGraph) (w : Word) where
  abbrev pub least_to : List Edge → Option Key
  least_to es = least_key b (flat_map (reached G w) (map (λ (e : Edge). e.to) es))

  pub least_next : (es : List Edge) (i : ℕ) (e : Edge) → i < length es → e ≡ get_or es i e
      → lesser key_cmp (least_to (take i es)) (key_by b G w e.to) ≡ least_to (take (i + 1) es)
  least_next es i e l is =
      let more : take (i + 1) es ≡ take i es ++ e ∷ [] = take_more es i e l ∙ ap (λ (z : Edge). take i es ++ z ∷ []) (sym is) in
      let all : flat_map (reached G w) (map (λ (d : Edge). d.to) (take (i + 1) es))
      ≡ flat_map (reached G w) (map (λ (d : Edge). d.to) (take i es)) ++ reached G w e.to =
      ap (λ ds. flat_map (reached G w) (map (λ (d : Edge). d.to) ds)) more
      ∙ ap (flat_map (reached G w)) (map-append (λ (d : Edge). d.to) (take i es) (e ∷ []))
      ∙ flat_map-append (reached G w) (map (λ (d : Edge). d.to) (take i es)) (e.to ∷ [])
      ∙ ap (λ vs. flat_map (reached G w) (map (λ (d : Edge). d.to) (take i es)) ++ vs) (append-nil (reached G w e.to)) in
      sym (ap (least_key b) all ∙ least_key_append b (flat_map (reached G w) (map (λ (d : Edge). d.to) (take i es))) (reached G w e.to))

  pub least_end : (es : List Edge) (i : ℕ) → length es ≤ i → least_to (take i es) ≡ least_to es
  least_end es i l = ap least_to (take_all i es l)

  -- the least of the edges from a node by a label
  pub by_label : (l : Label) (n : Name) (es : List Edge) → es ≡ in_place (at_start_label (node n) l) G.edges
      → least_to es ≡ key_by b G (l ∷ w) (node n)
  by_label l n es placed =
      ap (λ ds. least_key b (flat_map (reached G w) (map (λ (e : Edge). e.to) ds))) placed
      ∙ ap (λ vs. least_key b (flat_map (reached G w) vs)) (ends_placed G l n)

  pub by_label_is : (l : Label) (m n : Name) → m ≡ n → (es : List Edge) → es ≡ in_place (at_start_label (node m) l) G.edges
      → (r : Result (Option Key) NoMemory) → IfOk r (λ k. k ≡ least_to es) → IfOk r (λ k. k ≡ key_by b G (l ∷ w) (node n))
  by_label_is l m n same es placed r h =
      subst (λ (z : Option Key). IfOk r (λ k. k ≡ z)) (by_label l m es placed ∙ ap (λ (z : Name). key_by b G (l ∷ w) (node z)) same) h

-- one label more
pub keys_before : (b : Bool) (G : DataGraph) (w word : Word) (l : Label) (keys : List (Option Key)) → IsLonger word w → l ≡ get_or word 0 l
    → keys ≡ map (λ n. key_by b G (l ∷ w) (node n)) G.nodes → AreKeys b G word keys
keys_before b G w word l keys (first, is) at made some =
    let same : l ≡ first = at ∙ ap (λ (z : Word). get_or z 0 l) is in
    let whole : l ∷ w ≡ word = ap (λ (z : Label). z ∷ w) same ∙ sym is in
    made ∙ ap (λ (z : Word). map (λ n. key_by b G z (node n)) G.nodes) whole

-- the part of a word from the label before those that are done
pub longer : (word rest : Word) (done : ℕ) → done < length word → rest ≡ drop (length word - done) word
    → IsLonger (drop (length word - 1 - done) word) rest
longer word rest done l is =
    let within : length word - 1 - done < length word = omega arith in
    let next : length word - 1 - done + 1 ≡ length word - done = omega arith in (
      get_or word (length word - 1 - done) [],
      drop_more word (length word - 1 - done) [] within
          ∙ ap (λ (n : ℕ). get_or word (length word - 1 - done) [] ∷ drop n word) next
          ∙ ap (λ (z : Word). get_or word (length word - 1 - done) [] ∷ z) (sym is),
    )
