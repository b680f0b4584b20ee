-- Which questions are kept, from call to call.
use Rattle.std.proofs.Common.{◌≡◌, ℕ, zero, suc, ◌<◌, List, [], ◌∷◌, length, get_or, take, inl, inr, ⊎_elim, refl, sym, subst, arith}
use Rattle.std.specs.Prelude.{Contains, map, reverse, if◌then◌else◌, Bool, true, false}
use Rattle.std.proofs.lemmas.List.{reverse-reverse}
use Rattle.page_spec.proofs.Unique.{limited_in}
use Rattle.std.proofs.lemmas.List.Sorted.{Contains-permutation, IsPermutation-reverse}
use Rattle.sd_value.specs.declared.Value.{Value}
use Rattle.sd_value.specs.Members.{Contains-map}
use Rattle.page_spec.specs.declared.Keyed.{Keyed}
use Rattle.page_spec.specs.Site.{Site, Env, Reaches, InRange, values_of_rows, Arranged}
use Rattle.sd_value.specs.Order.{value_cmp}
use Rattle.sd_value.specs.Ascending.{ListsExactly}
use Rattle.page_spec.specs.Question.{Question, MayKeep, out}
use Rattle.tmpl.specs.declared.Expr.{Expr}
use Rattle.tmpl.specs.declared.Order.{Order}
use Rattle.demand_spec.specs.Reads.{Name, Word, Passes, KeepsOnly}
use Rattle.tmpl.specs.declared.Test.{Test}
use Rattle.tmpl.specs.declared.Test.TheVariants.{Any, Compares, Counts, Same}
use Rattle.render.specs.Asks.{WordAsks, RangeAsks, TestAsks}

pub keeps_none : {P : Question → Type 0} {l : List Question} → KeepsOnly P l l
keeps_none = record { only = λ q h. inl h }

pub keeps_as : {P R : Question → Type 0} {a b : List Question} → ((q : Question) → P q → R q) → KeepsOnly P a b → KeepsOnly R a b
keeps_as to k = record { only = λ q h. ⊎_elim inl (λ p. inr (to q p)) (k.only q h) }

pub keeps_then : {P R : Question → Type 0} {a b c : List Question} → KeepsOnly P a b → ((q : Question) → R q → P q) → KeepsOnly R b c → KeepsOnly P a c
keeps_then k to m = record { only = λ q h. ⊎_elim (k.only q) (λ r. inr (to q r)) (m.only q h) }

pub keeps_one : {P : Question → Type 0} {r : Question} {a b : List Question} → P r → MayKeep r a b → KeepsOnly P a b
keeps_one {P} p m = record { only = λ q h. ⊎_elim inl (λ e. inr (subst P (sym e) p)) (m.new q h) }

pub keeps_ask : {P : Question → Type 0} {r : Question} {a b c : List Question} → KeepsOnly P a b → P r → MayKeep r b c → KeepsOnly P a c
keeps_ask {P} k p m = record { only = λ q h. ⊎_elim (k.only q) (λ e. inr (subst P (sym e) p)) (m.new q h) }

pub item_in : {X : Type 0} (xs : List X) (i : ℕ) (x : X) → i < length xs → x ≡ get_or xs i x → Contains xs x
item_in xs i x l is = (i, l, sym is)

-- ---- words

pub passes_at : (s : Site) (w : Value) (word : Word) (i : ℕ) (l : Name) (u : Value) → i < length word → l ≡ get_or word i l → Reaches s w (take i word) u → Passes s w word u l
passes_at s w [] i l u lt is r = absurd (omega (arith, lt))
passes_at s w (k ∷ word) zero l u lt is r = inl (r, sym is)
passes_at s w (k ∷ word) (suc i) l u lt is (m, e, r) = inr (m, e, passes_at s m word i l u (omega (arith, lt)) is r)

-- the word that was asked begins at the values of P
pub word_from : (s : Site) (from : List Value) (P : Value → Type 0) (labels word : Word) (q : Question) → ((v : Value) → Contains from v → P v) → labels ≡ word → WordAsks s (Contains from) labels q → WordAsks s P word q
word_from s from P labels word q to e (u, l, is, (w, among, passes)) = (u, l, is, (w, to w among, subst (λ (z : Word). Passes s w z u l) e passes))

-- at the first label it asks the value itself
pub first_asks : (s : Site) (word : Word) (l : Name) (more : Word) (v : Value) → word ≡ l ∷ more → WordAsks s (λ w. v ≡ w) word (out v l)
first_asks s word l more v is = (v, l, refl, (v, refl, rw is (inl (refl, refl))))

-- at the others what the ends of the value's edges are asked
pub later_asks : (s : Site) (word : Word) (l : Name) (more : Word) (v : Value) (ends : List Value) (q : Question) → word ≡ l ∷ more → ListsExactly value_cmp (s.edge v l) ends → WordAsks s (Contains ends) more q → WordAsks s (λ w. v ≡ w) word q
later_asks s word l more v ends q is of (u, k, e, (w, among, passes)) =
    (u, k, e, (v, refl, rw is (inr (w, of.sound w among, passes))))

-- a test asks what its expression asks
pub range_tests : (s : Site) (e : Env) (x : Expr) (test : Test) (q : Question) → RangeAsks s e x q → TestAsks s e x test q
range_tests s e x Any q h = h
range_tests s e x (Compares a) q h = h
range_tests s e x (Counts n) q h = h
range_tests s e x (Same y) q h = inl h

-- ---- values of an expression, in order

reversed : {X : Type 0} (xs : List X) (x : X) → Contains (reverse xs) x → Contains xs x
reversed xs x h = subst (λ l. Contains l x) (reverse-reverse xs) (Contains-permutation (reverse xs) (reverse (reverse xs)) x (IsPermutation-reverse (reverse xs)) h)

pub turned_in : (b : Bool) (xs : List Value) (v : Value) → Contains (if b then reverse xs else xs) v → Contains xs v
turned_in true xs v h = reversed xs v h
turned_in false xs v h = h

pub arranged_in : (s : Site) (e : Env) (x : Expr) (o : Order) (vs : List Value) (v : Value) → Arranged s e x o vs → Contains vs v → InRange s e x v
arranged_in s e x o vs v (rows, exact, is) h =
    let k = turned_in o.descend (map (λ (r : Keyed). r.value) rows) v (limited_in o.limit (values_of_rows o rows) v (subst (λ (l : List Value). Contains l v) is h)) in
    let r = Contains-map (λ (r : Keyed). r.value) rows v k in
    subst (InRange s e x) r.1 (exact.sound r.0 r.2).0
