-- Laws of a search for some rows.
use Rattle.std.proofs.Common.{◌≡◌, ℕ, zero, suc, ◌+◌, ◌<◌, List, [], ◌∷◌, ◌++◌, take, get_or, add-one, length, arith, refl, ap, sym, ◌∙◌, inl, inr, subst, cond, append_assoc}
use Rattle.std.specs.Prelude.{Option, Some, slice_get, slice_set, ◌⊎◌, Bool, true, false, Contains}
use Rattle.std.specs.Global.{Vec}
use Rattle.std.specs.HashSet.{contains}
use Rattle.std.specs.List.Sorted.{IsStrictlySortedBy}
use Rattle.std.specs.Ordering.{is_eq}
use Rattle.std.proofs.lemmas.Slice.Eq.{slice_eq-Decides}
use Rattle.std.proofs.lemmas.List.Elements.{Contains-append_cases, Contains-append_left, Contains-append_right, Contains-push_cases, Contains-push}
use Rattle.sd_value.specs.declared.Value.{Value}
use Rattle.sd_value.specs.Ascending.{ListsExactly}
use Rattle.sd_value.specs.Order.{value_cmp}
use Rattle.sd_value.specs.OrderLaws.{same_value, value_same}
use Rattle.graph_spec.specs.DataGraph.{DataGraph}
use Rattle.query_spec.specs.Rows.{row_cmp}
use Rattle.asker.specs.Wanted.{wanted_part, ListsSome}
use Rattle.condition_tests.specs.declared.literal.Goal.{Goal}
use Rattle.condition_tests.specs.Known.{known_part, Agrees, KnownInDomains}
use Rattle.bindings.specs.Fits.{Fits, IsPassed, IsChoice, IsComplete}
use Rattle.bindings.specs.declared.some_rows.Told.{Told}
use Rattle.bindings.specs.Told.{HasPart, RowsAreTold, AddsSome, same_part}
use Rattle.bindings.proofs.Found.{FitsWith, later, split, join, complete_fits, only_complete, nil_of, none_in, append-nil}

pub same_values : (p q : Vec Value) → same_part p q ≡ true → p.items ≡ q.items
same_values p q h = (slice_eq-Decides (λ u v. (same_value u v, λ e. subst (λ w. is_eq (value_cmp u w) ≡ true) e (value_same u))) p.items q.items (same_part p q) refl).0 h

module _ (wanted : List Bool) where
  part_kept : (xs ys : List (List Value)) (p : List Value) → ((t : List Value) → Contains xs t → Contains ys t) → HasPart wanted xs p → HasPart wanted ys p
  part_kept xs ys p keep h = (h.0, keep h.0 h.1, h.2)

  pub some-none : (P : List Value → Type 0) (xs : List (List Value)) → ((t : List Value) → P t → ⊥) → AddsSome wanted P xs xs
  some-none P xs none = record { kept = λ t h. h; nothing_else = λ t h. inl h; each = λ t p. absurd (none t p) }

  -- all with P have a part that was found before
  pub some-told : (P : List Value → Type 0) (xs : List (List Value)) (part : List Value) → HasPart wanted xs part → ((t : List Value) → P t → wanted_part wanted t ≡ part) → AddsSome wanted P xs xs
  some-told P xs part has same = record { kept = λ t h. h; nothing_else = λ t h. inl h; each = λ t p. (has.0, has.1, has.2 ∙ sym (same t p)) }

  -- all with P have the part of the one that is added
  pub some-one : (P : List Value → Type 0) (xs : List (List Value)) (y : List Value) → P y → ((t : List Value) → P t → wanted_part wanted t ≡ wanted_part wanted y) → AddsSome wanted P xs (xs ++ y ∷ [])
  some-one P xs y p same = record {
    kept = λ t h. Contains-append_left xs (y ∷ []) t h;
    nothing_else = λ t h. elim (Contains-push_cases xs y t h) [ inl c ↦ inl c | inr e ↦ inr (subst P e p) ];
    each = λ t q. (y, Contains-push xs y, sym (same t q));
  }

  pub some-then : (P Q R : List Value → Type 0) (xs ys zs : List (List Value)) → AddsSome wanted P xs ys → AddsSome wanted Q ys zs → ((t : List Value) → P t ⊎ Q t → R t) → ((t : List Value) → R t → P t ⊎ Q t) → AddsSome wanted R xs zs
  some-then P Q R xs ys zs a b join split = record {
    kept = λ t h. b.kept t (a.kept t h);
    nothing_else = λ t h. elim (b.nothing_else t h) [ inl c ↦ (elim (a.nothing_else t c) [ inl d ↦ inl d | inr p ↦ inr (join t (inl p)) ]) | inr q ↦ inr (join t (inr q)) ];
    each = λ t r. elim (split t r) [ inl p ↦ part_kept ys zs _ b.kept (a.each t p) | inr q ↦ b.each t q ];
  }

  pub some-same : (P Q : List Value → Type 0) (xs ys : List (List Value)) → AddsSome wanted P xs ys → ((t : List Value) → P t → Q t) → ((t : List Value) → Q t → P t) → AddsSome wanted Q xs ys
  some-same P Q xs ys a to back = record {
    kept = a.kept;
    nothing_else = λ t h. elim (a.nothing_else t h) [ inl c ↦ inl c | inr p ↦ inr (to t p) ];
    each = λ t q. a.each t (back t q);
  }

  -- one row more, whose part isn't kept yet
  pub told_row : (old new : Told) (r : List Value) → new.first ≡ old.first → new.others ≡ old.others → new.rows.items ≡ old.rows.items ++ r ∷ [] → RowsAreTold wanted old → RowsAreTold wanted new
  told_row old new r first others rows told = record {
    first = λ q h. part_kept old.rows.items new.rows.items q.items more (told.first q (sym first ∙ h));
    others = λ q h. part_kept old.rows.items new.rows.items q.items more (told.others q (subst (λ s. contains same_part s q ≡ true) others h));
  }
    where
      more : (t : List Value) → Contains old.rows.items t → Contains new.rows.items t
      more t c = subst (λ xs. Contains xs t) (sym rows) (Contains-append_left old.rows.items (r ∷ []) t c)

  pub part_added : (xs ys : List (List Value)) (r part : List Value) → ys ≡ xs ++ r ∷ [] → wanted_part wanted r ≡ part → HasPart wanted ys part
  part_added xs ys r part rows is = (r, subst (λ zs. Contains zs r) (sym rows) (Contains-push xs r), is)

  -- it is kept beside the first
  pub told_other : (old new : Told) (part : Vec Value) → new.first ≡ old.first → ((q : Vec Value) → contains same_part new.others q ≡ cond (same_part part q) true (contains same_part old.others q)) → new.rows ≡ old.rows
      → HasPart wanted old.rows.items part.items → RowsAreTold wanted old → RowsAreTold wanted new
  told_other old new part first adds rows has told = record {
    first = λ q h. subst (λ s. HasPart wanted s.items q.items) (sym rows) (told.first q (sym first ∙ h));
    others = λ q h. subst (λ s. HasPart wanted s.items q.items) (sym rows) (by_test q (same_part part q) refl (sym (adds q) ∙ h));
  }
    where
      by_test : (q : Vec Value) (b : Bool) → same_part part q ≡ b → cond b true (contains same_part old.others q) ≡ true → HasPart wanted old.rows.items q.items
      by_test q true tied e = subst (λ p. HasPart wanted old.rows.items p) (same_values part q tied) has
      by_test q false apart e = told.others q e

  -- what was added to nothing, in order
  pub some_added : (P : List Value → Type 0) (xs ys : List (List Value)) → AddsSome wanted P [] xs → ListsExactly row_cmp (Contains xs) ys → ListsSome wanted P ys
  some_added P xs ys a l = record {
    ascending = l.ascending;
    sound = λ t c. elim (a.nothing_else t (l.sound t c)) [ inl n ↦ absurd (none_in t n) | inr p ↦ p ];
    each = λ t p. let h = a.each t p in (h.0, l.complete h.0 h.1, h.2);
  }

  pub none_of : (P : List Value → Type 0) → ((t : List Value) → P t → ⊥) → ListsSome wanted P []
  unfolding IsStrictlySortedBy
  none_of P none = record { ascending = tt; sound = λ t c. absurd (none_in t c); each = λ t p. absurd (none t p) }

-- while the values of a choice are gone through: what is known, the values left and the rows so far
pub record IsSomeway (wanted : List Bool) (G : DataGraph) (version : ℕ) (arcs : List Bool) (goals : List Goal) (next : ℕ) (s : List (Option Value)) (slot : ℕ) (all : List Value) (before : List (List Value)) (now : List (Option Value)) (left : List Value) (found : List (List Value)) : Type 0 where
  pub same : now ≡ s
  pub done : List Value
  pub cut : all ≡ left ++ done
  pub adds : AddsSome wanted (FitsWith G version arcs goals next s slot done) before found

module _ (wanted : List Bool) (G : DataGraph) (version : ℕ) (arcs : List Bool) (goals : List Goal) where
  pub someway-init : (next : ℕ) (s : List (Option Value)) (slot : ℕ) (all : List Value) (before : List (List Value)) → IsSomeway wanted G version arcs goals next s slot all before s all before
  someway-init next s slot all before = record {
    same = refl;
    done = [];
    cut = sym (append-nil all);
    adds = some-none wanted _ before (λ t w. none_in w.value w.is_one);
  }

  pub someway-step : (next : ℕ) (s : List (Option Value)) (slot : ℕ) (all : List Value) (before : List (List Value)) (now : List (Option Value)) (left left2 : List Value) (v : Value) (found found2 : List (List Value))
      → IsSomeway wanted G version arcs goals next s slot all before now left found
      → left ≡ left2 ++ v ∷ []
      → AddsSome wanted (Fits G version arcs goals next (slice_set s slot (Some v))) found found2
      → (now2 : List (Option Value)) → now2 ≡ s
      → IsSomeway wanted G version arcs goals next s slot all before now2 left2 found2
  someway-step next s slot all before now left left2 v found found2 h pop more now2 e = record {
    same = e;
    done = v ∷ h.done;
    cut = h.cut ∙ (ap (λ xs. xs ++ h.done) pop ∙ append_assoc left2 (v ∷ []) h.done);
    adds = some-then wanted _ _ _ before found found2 h.adds more
        (λ t. elim [
          | inl w ↦ record { value = w.value; is_one = Contains-append_right (v ∷ []) h.done w.value w.is_one; fits = w.fits }
          | inr f ↦ record { value = v; is_one = Contains-append_left (v ∷ []) h.done v (Contains-push [] v); fits = f }
        ])
        (λ t w. elim (Contains-append_cases (v ∷ []) h.done w.value w.is_one) [
          | inl c ↦ (elim (Contains-push_cases [] v w.value c) [ inl n ↦ absurd (none_in w.value n) | inr same ↦ inr (subst (λ u. Fits G version arcs goals next (slice_set s slot (Some u)) t) (sym same) w.fits) ])
          | inr c ↦ inl (record { value = w.value; is_one = c; fits = w.fits })
        ]);
  }

  pub someway-end : (at next : ℕ) (s : List (Option Value)) (slot : ℕ) (all : List Value) (before : List (List Value)) (now : List (Option Value)) (left : List Value) (found : List (List Value))
      → IsSomeway wanted G version arcs goals next s slot all before now left found
      → length left ≡ 0
      → IsChoice G version arcs goals at s slot all next
      → AddsSome wanted (Fits G version arcs goals at s) before found
  someway-end at next s slot all before now left found h empty c =
      let cut : all ≡ h.done = h.cut ∙ ap (λ xs. xs ++ h.done) (nil_of left empty) in
      some-same wanted _ _ before found h.adds
      (λ t w. join G version arcs goals at next s slot all c t (record { value = w.value; is_one = subst (λ xs. Contains xs w.value) (sym cut) w.is_one; fits = w.fits }))
      (λ t f. let w = split G version arcs goals at next s slot all c t f in record { value = w.value; is_one = subst (λ xs. Contains xs w.value) cut w.is_one; fits = w.fits })

  pub some_from_passed : (at next : ℕ) (s : List (Option Value)) (before found : List (List Value)) → IsPassed G version arcs goals at s (Some next) → AddsSome wanted (Fits G version arcs goals next s) before found → AddsSome wanted (Fits G version arcs goals at s) before found
  some_from_passed at next s before found p a = some-same wanted _ _ before found a (λ t f. p.2 t f) (λ t f. later G version arcs goals at next s t p.0 f)

  pub some_one_complete : (at : ℕ) (s : List (Option Value)) (before : List (List Value)) → KnownInDomains G arcs s → IsComplete goals at s → AddsSome wanted (Fits G version arcs goals at s) before (before ++ known_part s ∷ [])
  some_one_complete at s before known c =
      some-one wanted _ before (known_part s) (complete_fits G version arcs goals at s known c) (λ t f. ap (wanted_part wanted) (sym (only_complete G version arcs goals at s c t f)))

-- ---- the wanted part, place by place

agreed : (t : List Value) (s : List (Option Value)) (k : ℕ) (v : Value) → Agrees t s → slice_get s k ≡ Some (Some v) → slice_get t k ≡ Some v
agreed t s k v a h = a.same k v h

take_wanted : (wanted : List Bool) (t : List Value) (k : ℕ) (d : Bool) (v : Value) → k < length wanted → get_or wanted k d ≡ true → slice_get t k ≡ Some v → wanted_part (take (suc k) wanted) t ≡ wanted_part (take k wanted) t ++ v ∷ []
take_wanted [] t k d v l w h = absurd (omega arith)
take_wanted (b ∷ wanted) [] k d v l w h = cc
take_wanted (true ∷ wanted) (a ∷ t) zero d v l w h = ap (λ x. x ∷ []) cc
take_wanted (false ∷ wanted) (a ∷ t) zero d v l w h = cc
take_wanted (true ∷ wanted) (a ∷ t) (suc k) d v l w h = ap (λ xs. a ∷ xs) (take_wanted wanted t k d v (omega arith) w h)
take_wanted (false ∷ wanted) (a ∷ t) (suc k) d v l w h = take_wanted wanted t k d v (omega arith) w h

take_unwanted : (wanted : List Bool) (t : List Value) (k : ℕ) (d : Bool) → k < length wanted → get_or wanted k d ≡ false → wanted_part (take (suc k) wanted) t ≡ wanted_part (take k wanted) t
take_unwanted [] t k d l w = absurd (omega arith)
take_unwanted (b ∷ wanted) [] zero d l w = refl
take_unwanted (b ∷ wanted) [] (suc k) d l w = refl
take_unwanted (true ∷ wanted) (a ∷ t) zero d l w = cc
take_unwanted (false ∷ wanted) (a ∷ t) zero d l w = refl
take_unwanted (true ∷ wanted) (a ∷ t) (suc k) d l w = ap (λ xs. a ∷ xs) (take_unwanted wanted t k d (omega arith) w)
take_unwanted (false ∷ wanted) (a ∷ t) (suc k) d l w = take_unwanted wanted t k d (omega arith) w

pub part-more : (wanted : List Bool) (s : List (Option Value)) (k : ℕ) (d : Bool) (v : Value) (values : List Value) → k < length wanted → get_or wanted k d ≡ true → slice_get s k ≡ Some (Some v)
    → ((t : List Value) → Agrees t s → wanted_part (take k wanted) t ≡ values) → (t : List Value) → Agrees t s → wanted_part (take (k + 1) wanted) t ≡ values ++ v ∷ []
part-more wanted s k d v values l w h so t a = rw add-one (take_wanted wanted t k d v l w (agreed t s k v a h) ∙ ap (λ xs. xs ++ v ∷ []) (so t a))

pub part-skip : (wanted : List Bool) (s : List (Option Value)) (k : ℕ) (d : Bool) (values : List Value) → k < length wanted → get_or wanted k d ≡ false
    → ((t : List Value) → Agrees t s → wanted_part (take k wanted) t ≡ values) → (t : List Value) → Agrees t s → wanted_part (take (k + 1) wanted) t ≡ values
part-skip wanted s k d values l w so t a = rw add-one (take_unwanted wanted t k d l w ∙ so t a)
