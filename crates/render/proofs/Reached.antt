-- What is reached by the labels of a word, one after another.
use Rattle.std.proofs.Common.{◌≡◌, ℕ, ◌+◌, ◌<◌, List, [], ◌∷◌, ◌++◌, length, get_or, take, sym, ap, ◌∙◌, refl, subst}
use Rattle.std.specs.Prelude.{Contains}
use Rattle.std.specs.declared.cmp.Ordering.{Ordering}
use Rattle.std.proofs.lemmas.List.{take_more}
use Rattle.sd_value.specs.declared.Value.{Value}
use Rattle.sd_value.specs.Ascending.{ListsExactly}
use Rattle.std.specs.List.Sorted.{IsStrictlySortedBy}
use Rattle.sd_value.specs.Order.{value_cmp}
use Rattle.page_spec.specs.Site.{Site, Reaches}
use Rattle.page_spec.proofs.Unique.{head_in}
use Rattle.render.proofs.Keys.{only}

-- one more label
pub reaches_push : (s : Site) (u : Value) (word : List (List ℕ)) (l : List ℕ) (m v : Value) → Reaches s u word m → s.edge m l v → Reaches s u (word ++ l ∷ []) v
reaches_push s u [] l m v h e = (v, subst (λ w. s.edge w l v) (sym h) e, refl)
reaches_push s u (k ∷ word) l m v (n, d, h) e = (n, d, reaches_push s n word l m v h e)

pub reaches_pushed : (s : Site) (u : Value) (word : List (List ℕ)) (l : List ℕ) (v : Value) → Reaches s u (word ++ l ∷ []) v → (m : Value) × Reaches s u word m × s.edge m l v
reaches_pushed s u [] l v (n, d, h) = (u, refl, subst (λ w. s.edge u l w) h d)
reaches_pushed s u (k ∷ word) l v (n, d, h) = let r = reaches_pushed s n word l v h in (r.0, (n, d, r.1), r.2)

alone_ascends : (v : Value) → IsStrictlySortedBy value_cmp (v ∷ [])
unfolding IsStrictlySortedBy
alone_ascends v = (tt, tt)

pub reached_more : (cmp : Value → Value → Ordering) (s : Site) (from : List Value) (word : List (List ℕ)) (i : ℕ) (l : List ℕ) (at ends : List Value) → i < length word → l ≡ get_or word i l → ListsExactly cmp (λ v. (u : Value) × Contains from u × Reaches s u (take i word) v) at → ListsExactly cmp (λ v. (m : Value) × Contains at m × s.edge m l v) ends → ListsExactly cmp (λ v. (u : Value) × Contains from u × Reaches s u (take (i + 1) word) v) ends
reached_more cmp s from word i l at ends lt is g exact =
    let e = take_more word i l lt ∙ ap (λ z. take i word ++ z ∷ []) (sym is) in
    record {
      ascending = exact.ascending;
      sound = λ v h. let r = exact.sound v h in let q = g.sound r.0 r.1 in (q.0, q.1, subst (λ w. Reaches s q.0 w v) (sym e) (reaches_push s q.0 (take i word) l r.0 v q.2 r.2));
      complete = λ v (u, k, h). let r = reaches_pushed s u (take i word) l v (subst (λ w. Reaches s u w v) e h) in exact.complete v (r.0, g.complete r.0 (u, k, r.1), r.2);
    }

-- no label: the value itself
pub reached_alone : (s : Site) (word : List (List ℕ)) (v : Value) (vs : List Value) → word ≡ [] → vs ≡ v ∷ [] → ListsExactly value_cmp (Reaches s v word) vs
reached_alone s word v vs none is = rw none (rw is record {
  ascending = alone_ascends v;
  sound = λ w h. only v w h;
  complete = λ w e. subst (Contains (v ∷ [])) e (head_in v []);
})

-- the first label, and the others from its ends on
pub reached_by_first : (s : Site) (word : List (List ℕ)) (l : List ℕ) (more : List (List ℕ)) (v : Value) (ends vs : List Value) → word ≡ l ∷ more → ListsExactly value_cmp (s.edge v l) ends → ListsExactly value_cmp (λ w. (u : Value) × Contains ends u × Reaches s u more w) vs → ListsExactly value_cmp (Reaches s v word) vs
reached_by_first s word l more v ends vs is of exact = rw is record {
  ascending = exact.ascending;
  sound = λ w h. let q = exact.sound w h in (q.0, of.sound q.0 q.1, q.2);
  complete = λ w (m, e, r). exact.complete w (m, of.complete m e, r);
}
