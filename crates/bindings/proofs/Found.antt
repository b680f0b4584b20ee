-- How the rows of a choice's values make up the rows of the choice.
use Rattle.std.proofs.Common.{◌≡◌, ℕ, zero, suc, ◌≤◌, List, [], ◌∷◌, ◌++◌, length, arith, refl, ap, sym, ◌∙◌, inl, inr, subst, append_assoc}
use Rattle.std.specs.Prelude.{Option, None, Some, slice_get, slice_set, ◌⊎◌, Bool, Contains}
use Rattle.std.proofs.lemmas.List.Elements.{Contains-append_cases, Contains-append_left, Contains-append_right, Contains-push_cases, Contains-push}
use Rattle.std.specs.declared.cmp.Ordering.{Ordering}
use Rattle.std.specs.List.Sorted.{IsStrictlySortedBy}
use Rattle.sd_value.specs.Ascending.{ListsExactly}
use Rattle.query_spec.specs.Rows.{row_cmp}
use Rattle.sd_value.specs.declared.Value.{Value}
use Rattle.graph_spec.specs.DataGraph.{DataGraph}
use Rattle.condition_tests.specs.Known.{known_part, Agrees, KnownInDomains, IsCandidate, is_arc}
use Rattle.bindings.specs.Fits.{Fits, SomeFits, Adds, IsPassed, IsChoice, IsComplete}
use Rattle.condition_tests.specs.declared.literal.Goal.{Goal}
use Rattle.bindings.proofs.Known.{slice_get-set_same, slice_get-set_cases, length-set, known_part-agrees, agrees-known_part}

pub Adds-none : {X : Type 0} (P : X → Type 0) (xs : List X) → ((x : X) → P x → ⊥) → Adds P xs xs
Adds-none P xs none = record { kept = λ x h. h; added = λ x p. absurd (none x p); nothing_else = λ x h. inl h }

pub Adds-one : {X : Type 0} (P : X → Type 0) (xs : List X) (y : X) → P y → ((x : X) → P x → y ≡ x) → Adds P xs (xs ++ y ∷ [])
Adds-one P xs y p only = record {
  kept = λ x h. Contains-append_left xs (y ∷ []) x h;
  added = λ x q. subst (λ z. Contains (xs ++ y ∷ []) z) (only x q) (Contains-push xs y);
  nothing_else = λ x h. elim (Contains-push_cases xs y x h) [ inl c ↦ inl c | inr e ↦ inr (subst P e p) ];
}

pub Adds-then : {X : Type 0} (P Q R : X → Type 0) (xs ys zs : List X) → Adds P xs ys → Adds Q ys zs → ((x : X) → P x ⊎ Q x → R x) → ((x : X) → R x → P x ⊎ Q x) → Adds R xs zs
Adds-then P Q R xs ys zs a b join split = record {
  kept = λ x h. b.kept x (a.kept x h);
  added = λ x r. elim (split x r) [ inl p ↦ b.kept x (a.added x p) | inr q ↦ b.added x q ];
  nothing_else = λ x h. elim (b.nothing_else x h) [ inl c ↦ (elim (a.nothing_else x c) [ inl d ↦ inl d | inr p ↦ inr (join x (inl p)) ]) | inr q ↦ inr (join x (inr q)) ];
}

pub Adds-same : {X : Type 0} (P Q : X → Type 0) (xs ys : List X) → Adds P xs ys → ((x : X) → P x → Q x) → ((x : X) → Q x → P x) → Adds Q xs ys
Adds-same P Q xs ys a to back = record {
  kept = a.kept;
  added = λ x q. a.added x (back x q);
  nothing_else = λ x h. elim (a.nothing_else x h) [ inl c ↦ inl c | inr p ↦ inr (to x p) ];
}

-- the row fits with one of the values at the variable
pub record FitsWith (G : DataGraph) (version : ℕ) (arcs : List Bool) (goals : List Goal) (at : ℕ) (s : List (Option Value)) (slot : ℕ) (values : List Value) (t : List Value) : Type 0 where
  pub value : Value
  pub is_one : Contains values value
  pub fits : Fits G version arcs goals at (slice_set s slot (Some value)) t

module _ (G : DataGraph) (version : ℕ) (arcs : List Bool) (goals : List Goal) where
  pub later : (at next : ℕ) (s : List (Option Value)) (t : List Value) → at ≤ next → Fits G version arcs goals at s t → Fits G version arcs goals next s t
  later at next s t le f = record { agrees = f.agrees; in_domains = f.in_domains; goals_hold = λ k g h e. f.goals_hold k g (omega arith) e }

  -- the value that a row has at a variable
  pub value_at : (t : List Value) (s : List (Option Value)) (k : ℕ) (o : Option Value) → length t ≡ length s → slice_get s k ≡ Some o → (v : Value) × (slice_get t k ≡ Some v)
  value_at t [] k o e h = cc
  value_at [] (p ∷ s) k o e h = cc
  value_at (w ∷ t) (p ∷ s) zero o e h = (w, refl)
  value_at (w ∷ t) (p ∷ s) (suc k) o e h = let e2 : length t ≡ length s = omega arith in value_at t s k o e2 h

  agrees_more : (t : List Value) (s : List (Option Value)) (k : ℕ) (v : Value) → Agrees t s → slice_get t k ≡ Some v → slice_get s k ≡ Some None → Agrees t (slice_set s k (Some v))
  agrees_more t s k v a h free = record {
    as_long = a.as_long ∙ sym (length-set s k (Some v));
    same = λ j w e. elim (slice_get-set_cases s k j (Some v)) [
      | inl here ↦ (let same_place = slice_get-set_same s k None (Some v) free in let moved : slice_get (slice_set s k (Some v)) k ≡ Some (Some w) = subst (λ i. slice_get (slice_set s k (Some v)) i ≡ Some (Some w)) here e in let there : slice_get t k ≡ Some w = cc in subst (λ i. slice_get t i ≡ Some w) (sym here) there)
      | inr other ↦ a.same j w (sym other ∙ e)
    ];
  }

  pub agrees_less : (t : List Value) (s : List (Option Value)) (k : ℕ) (v : Value) → slice_get s k ≡ Some None → Agrees t (slice_set s k (Some v)) → Agrees t s
  agrees_less t s k v free a = record {
    as_long = a.as_long ∙ length-set s k (Some v);
    same = λ j w e. elim (slice_get-set_cases s k j (Some v)) [
      | inl here ↦ (let moved : slice_get s k ≡ Some (Some w) = subst (λ i. slice_get s i ≡ Some (Some w)) here e in cc)
      | inr other ↦ a.same j w (other ∙ e)
    ];
  }

  pub split : (at next : ℕ) (s : List (Option Value)) (slot : ℕ) (values : List Value) → IsChoice G version arcs goals at s slot values next → (t : List Value) → Fits G version arcs goals at s t → FitsWith G version arcs goals next s slot values t
  split at next s slot values c t f =
      let w = value_at t s slot None f.agrees.as_long c.free in
      record {
        value = w.0;
        is_one = c.complete t w.0 f w.1;
        fits =
            let g = later at next s t c.forward f in
            record { agrees = agrees_more t s slot w.0 g.agrees w.1 c.free; in_domains = g.in_domains; goals_hold = g.goals_hold };
      }

  pub join : (at next : ℕ) (s : List (Option Value)) (slot : ℕ) (values : List Value) → IsChoice G version arcs goals at s slot values next → (t : List Value) → FitsWith G version arcs goals next s slot values t → Fits G version arcs goals at s t
  join at next s slot values c t w =
      let f = w.fits in
      let here : slice_get t slot ≡ Some w.value = f.agrees.same slot w.value (slice_get-set_same s slot None (Some w.value) c.free) in
      let less : Fits G version arcs goals next s t = record { agrees = agrees_less t s slot w.value c.free f.agrees; in_domains = f.in_domains; goals_hold = f.goals_hold } in
      c.exact t w.value w.is_one here less

  -- what is known stays in the domains when a value of a choice is put in
  pub known_more : (s : List (Option Value)) (slot : ℕ) (v : Value) → KnownInDomains G arcs s → slice_get s slot ≡ Some None → IsCandidate G (is_arc arcs slot) v → KnownInDomains G arcs (slice_set s slot (Some v))
  known_more s slot v known free candidate = record {
    each = λ j w e. elim (slice_get-set_cases s slot j (Some v)) [
      | inl here ↦ (let moved : slice_get (slice_set s slot (Some v)) slot ≡ Some (Some w) = subst (λ i. slice_get (slice_set s slot (Some v)) i ≡ Some (Some w)) here e in let same_place = slice_get-set_same s slot None (Some v) free in let same : v ≡ w = cc in subst (λ i. IsCandidate G (is_arc arcs i) w) (sym here) (subst (λ u. IsCandidate G (is_arc arcs slot) u) same candidate))
      | inr other ↦ known.each j w (sym other ∙ e)
    ];
  }

  past : (gs : List Goal) (k : ℕ) (g : Goal) (at : ℕ) → length gs ≤ at → at ≤ k → slice_get gs k ≡ Some g → ⊥
  past [] k g at l le e = cc
  past (x ∷ gs) zero g at l le e = omega arith
  past (x ∷ gs) (suc k) g zero l le e = omega arith
  past (x ∷ gs) (suc k) g (suc at) l le e = past gs k g at (omega arith) (omega arith) e

  known_from : (s : List (Option Value)) → ((k : ℕ) → slice_get s k ≡ Some None → ⊥) → (k : ℕ) (v : Value) → slice_get (known_part s) k ≡ Some v → slice_get s k ≡ Some (Some v)
  known_from [] full k v h = cc
  known_from (None ∷ s) full k v h = absurd (full zero refl)
  known_from (Some w ∷ s) full zero v h = ap Some h
  known_from (Some w ∷ s) full (suc k) v h = known_from s (λ j e. full (suc j) e) k v h

  of_known : (at : ℕ) (s : List (Option Value)) → KnownInDomains G arcs s → IsComplete goals at s → Agrees (known_part s) s → (k : ℕ) (v : Value) → slice_get (known_part s) k ≡ Some v → IsCandidate G (is_arc arcs k) v
  of_known at s known c a k v h = known.each k v (known_from s c.no_variable k v h)

  -- a complete row is the only one that fits
  pub complete_fits : (at : ℕ) (s : List (Option Value)) → KnownInDomains G arcs s → IsComplete goals at s → Fits G version arcs goals at s (known_part s)
  complete_fits at s known c =
      let agrees = known_part-agrees s c.no_variable in
      record {
        agrees = agrees;
        in_domains = record { each = λ k v h. of_known at s known c agrees k v h };
        goals_hold = λ k g le e. absurd (past goals k g at c.no_goal le e);
      }

  pub only_complete : (at : ℕ) (s : List (Option Value)) → IsComplete goals at s → (t : List Value) → Fits G version arcs goals at s t → known_part s ≡ t
  only_complete at s c t f = agrees-known_part t s c.no_variable f.agrees

pub nil_of : {X : Type 0} (xs : List X) → length xs ≡ 0 → xs ≡ []
nil_of [] e = refl
nil_of (x ∷ xs) e = absurd (omega arith)

pub none_in : {X : Type 0} (x : X) → Contains [] x → ⊥
none_in x c = omega (arith, c.1)

pub append-nil : {X : Type 0} (xs : List X) → xs ++ [] ≡ xs
append-nil [] = refl
append-nil (x ∷ xs) = ap (λ ys. x ∷ ys) (append-nil xs)

-- while the values of a choice are gone through: what is known, the values left and the rows so far
pub record IsHalfway (G : DataGraph) (version : ℕ) (arcs : List Bool) (goals : List Goal) (next : ℕ) (s : List (Option Value)) (slot : ℕ) (all : List Value) (before : List (List Value)) (now : List (Option Value)) (left : List Value) (found : List (List Value)) : Type 0 where
  pub same : now ≡ s
  pub done : List Value
  pub cut : all ≡ left ++ done
  pub adds : Adds (FitsWith G version arcs goals next s slot done) before found

module _ (G : DataGraph) (version : ℕ) (arcs : List Bool) (goals : List Goal) where
  pub halfway-init : (next : ℕ) (s : List (Option Value)) (slot : ℕ) (all : List Value) (before : List (List Value)) → IsHalfway G version arcs goals next s slot all before s all before
  halfway-init next s slot all before = record {
    same = refl;
    done = [];
    cut = sym (append-nil all);
    adds = Adds-none _ before (λ t w. none_in w.value w.is_one);
  }

  pub halfway-step : (next : ℕ) (s : List (Option Value)) (slot : ℕ) (all : List Value) (before : List (List Value)) (now : List (Option Value)) (left left2 : List Value) (v : Value) (found found2 : List (List Value))
      → IsHalfway G version arcs goals next s slot all before now left found
      → left ≡ left2 ++ v ∷ []
      → Adds (Fits G version arcs goals next (slice_set s slot (Some v))) found found2
      → (now2 : List (Option Value)) → now2 ≡ s
      → IsHalfway G version arcs goals next s slot all before now2 left2 found2
  halfway-step next s slot all before now left left2 v found found2 h pop more now2 e = record {
    same = e;
    done = v ∷ h.done;
    cut = h.cut ∙ (ap (λ xs. xs ++ h.done) pop ∙ append_assoc left2 (v ∷ []) h.done);
    adds = Adds-then _ _ _ before found found2 h.adds more
        (λ t. elim [
          | inl w ↦ record { value = w.value; is_one = Contains-append_right (v ∷ []) h.done w.value w.is_one; fits = w.fits }
          | inr f ↦ record { value = v; is_one = Contains-append_left (v ∷ []) h.done v (Contains-push [] v); fits = f }
        ])
        (λ t w. elim (Contains-append_cases (v ∷ []) h.done w.value w.is_one) [
          | inl c ↦ (elim (Contains-push_cases [] v w.value c) [ inl n ↦ absurd (none_in w.value n) | inr same ↦ inr (subst (λ u. Fits G version arcs goals next (slice_set s slot (Some u)) t) (sym same) w.fits) ])
          | inr c ↦ inl (record { value = w.value; is_one = c; fits = w.fits })
        ]);
  }

  -- when no value is left, all rows of the choice have been added
  pub halfway-end : (at next : ℕ) (s : List (Option Value)) (slot : ℕ) (all : List Value) (before : List (List Value)) (now : List (Option Value)) (left : List Value) (found : List (List Value))
      → IsHalfway G version arcs goals next s slot all before now left found
      → length left ≡ 0
      → IsChoice G version arcs goals at s slot all next
      → Adds (Fits G version arcs goals at s) before found
  halfway-end at next s slot all before now left found h empty c =
      let cut : all ≡ h.done = h.cut ∙ ap (λ xs. xs ++ h.done) (nil_of left empty) in
      Adds-same _ _ before found h.adds
      (λ t w. join G version arcs goals at next s slot all c t (record { value = w.value; is_one = subst (λ xs. Contains xs w.value) (sym cut) w.is_one; fits = w.fits }))
      (λ t f. let w = split G version arcs goals at next s slot all c t f in record { value = w.value; is_one = subst (λ xs. Contains xs w.value) cut w.is_one; fits = w.fits })

module _ (G : DataGraph) (version : ℕ) (arcs : List Bool) (goals : List Goal) where
  pub from_passed : (at next : ℕ) (s : List (Option Value)) (before found : List (List Value)) → IsPassed G version arcs goals at s (Some next) → Adds (Fits G version arcs goals next s) before found → Adds (Fits G version arcs goals at s) before found
  from_passed at next s before found p a = Adds-same _ _ before found a (λ t f. p.2 t f) (λ t f. later G version arcs goals at next s t p.0 f)

  pub one_complete : (at : ℕ) (s : List (Option Value)) (before : List (List Value)) → KnownInDomains G arcs s → IsComplete goals at s → Adds (Fits G version arcs goals at s) before (before ++ known_part s ∷ [])
  one_complete at s before known c = Adds-one _ before (known_part s) (complete_fits G version arcs goals at s known c) (λ t f. only_complete G version arcs goals at s c t f)

-- the element that was popped is one of all
pub last_in : {X : Type 0} (all left left2 done : List X) (v : X) → all ≡ left ++ done → left ≡ left2 ++ v ∷ [] → Contains all v
last_in all left left2 done v cut pop =
    subst (λ xs. Contains xs v) (sym cut) (Contains-append_left left done v (subst (λ xs. Contains xs v) (sym pop) (Contains-push left2 v)))

-- while the values of a choice are gone through and none has led to a row
pub record IsFruitless (G : DataGraph) (version : ℕ) (arcs : List Bool) (goals : List Goal) (next : ℕ) (s : List (Option Value)) (slot : ℕ) (all : List Value) (now : List (Option Value)) (left : List Value) : Type 0 where
  pub same : now ≡ s
  pub done : List Value
  pub cut : all ≡ left ++ done
  pub none : (t : List Value) → FitsWith G version arcs goals next s slot done t → ⊥

module _ (G : DataGraph) (version : ℕ) (arcs : List Bool) (goals : List Goal) where
  pub fruitless-init : (next : ℕ) (s : List (Option Value)) (slot : ℕ) (all : List Value) → IsFruitless G version arcs goals next s slot all s all
  fruitless-init next s slot all = record { same = refl; done = []; cut = sym (append-nil all); none = λ t w. none_in w.value w.is_one }

  pub fruitless-step : (next : ℕ) (s : List (Option Value)) (slot : ℕ) (all : List Value) (now : List (Option Value)) (left left2 : List Value) (v : Value)
      → IsFruitless G version arcs goals next s slot all now left → left ≡ left2 ++ v ∷ [] → ((t : List Value) → Fits G version arcs goals next (slice_set s slot (Some v)) t → ⊥)
      → (now2 : List (Option Value)) → now2 ≡ s → IsFruitless G version arcs goals next s slot all now2 left2
  fruitless-step next s slot all now left left2 v h pop barren now2 e = record {
    same = e;
    done = v ∷ h.done;
    cut = h.cut ∙ (ap (λ xs. xs ++ h.done) pop ∙ append_assoc left2 (v ∷ []) h.done);
    none = λ t w. elim (Contains-append_cases (v ∷ []) h.done w.value w.is_one) [
      | inl c ↦ (elim (Contains-push_cases [] v w.value c) [ inl n ↦ absurd (none_in w.value n) | inr same ↦ barren t (subst (λ u. Fits G version arcs goals next (slice_set s slot (Some u)) t) (sym same) w.fits) ])
      | inr c ↦ h.none t (record { value = w.value; is_one = c; fits = w.fits })
    ];
  }

  pub fruitless-end : (at next : ℕ) (s : List (Option Value)) (slot : ℕ) (all : List Value) (now : List (Option Value)) (left : List Value)
      → IsFruitless G version arcs goals next s slot all now left → length left ≡ 0 → IsChoice G version arcs goals at s slot all next → SomeFits G version arcs goals at s → ⊥
  fruitless-end at next s slot all now left h empty c f =
      let cut : all ≡ h.done = h.cut ∙ ap (λ xs. xs ++ h.done) (nil_of left empty) in
      let w = split G version arcs goals at next s slot all c f.row f.fits in
      h.none f.row (record { value = w.value; is_one = subst (λ xs. Contains xs w.value) cut w.is_one; fits = w.fits })

  pub fruitful : (at next : ℕ) (s : List (Option Value)) (slot : ℕ) (all : List Value) (v : Value) → IsChoice G version arcs goals at s slot all next → Contains all v → SomeFits G version arcs goals next (slice_set s slot (Some v)) → SomeFits G version arcs goals at s
  fruitful at next s slot all v c one f = record { row = f.row; fits = join G version arcs goals at next s slot all c f.row (record { value = v; is_one = one; fits = f.fits }) }

  pub some_passed : (at next : ℕ) (s : List (Option Value)) → IsPassed G version arcs goals at s (Some next) → SomeFits G version arcs goals next s → SomeFits G version arcs goals at s
  some_passed at next s p f = record { row = f.row; fits = p.2 f.row f.fits }

  pub some_later : (at next : ℕ) (s : List (Option Value)) → IsPassed G version arcs goals at s (Some next) → SomeFits G version arcs goals at s → SomeFits G version arcs goals next s
  some_later at next s p f = record { row = f.row; fits = later G version arcs goals at next s f.row p.0 f.fits }

  pub some_complete : (at : ℕ) (s : List (Option Value)) → KnownInDomains G arcs s → IsComplete goals at s → SomeFits G version arcs goals at s
  some_complete at s known c = record { row = known_part s; fits = complete_fits G version arcs goals at s known c }

-- what was added to nothing, each once and in order
pub exactly_added : {X : Type 0} (R : X → X → Ordering) (P : X → Type 0) (xs ys : List X) → Adds P [] xs → ListsExactly R (Contains xs) ys → ListsExactly R P ys
exactly_added R P xs ys a l = record {
  ascending = l.ascending;
  sound = λ x c. elim (a.nothing_else x (l.sound x c)) [ inl n ↦ absurd (none_in x n) | inr p ↦ p ];
  complete = λ x p. l.complete x (a.added x p);
}

pub nothing_listed : {X : Type 0} (R : X → X → Ordering) (P : X → Type 0) → ((x : X) → P x → ⊥) → ListsExactly R P []
unfolding IsStrictlySortedBy
nothing_listed R P none = record { ascending = tt; sound = λ x c. absurd (none_in x c); complete = λ x p. absurd (none x p) }

module _ (G : DataGraph) (version : ℕ) (arcs : List Bool) (goals : List Goal) where
  -- a row that fits shows that what is known is in the domains
  pub fits_in_domains : (at : ℕ) (s : List (Option Value)) (t : List Value) → Fits G version arcs goals at s t → KnownInDomains G arcs s
  fits_in_domains at s t f = record { each = λ k v h. f.in_domains.each k v (f.agrees.same k v h) }

  pub none_outside : (s : List (Option Value)) → (KnownInDomains G arcs s → ⊥) → ListsExactly row_cmp (Fits G version arcs goals 0 s) []
  none_outside s outside = nothing_listed row_cmp _ (λ t f. outside (fits_in_domains 0 s t f))
