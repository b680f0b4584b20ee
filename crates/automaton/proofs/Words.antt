-- The words of an automaton's tables.
use Rattle.std.proofs.Common.{◌≡◌, ℕ, zero, suc, ◌+◌, ◌<◌, ◌%◌, get_or, drop, drop-cons, add-one, IsTrue, List, [], ◌∷◌, ◌⊎◌, ◌↔◌, inl, inr, length, Option, Some, slice_get, sym, ◌∙◌, ap, subst, arith}
use Rattle.automaton.specs.declared.build.Ends.{Ends}
use Rattle.rpe.specs.Regex.{Label, Word, Regex}
use Rattle.rpe.specs.Language.{InLanguage, positions}
use Rattle.automaton.specs.PositionSet.{Has}
use Rattle.automaton.specs.Positions.{IsFirst, IsLast, Follows, Fits, ReadsIn}
use Rattle.automaton.specs.Table.{Table, row, GoesOn, ReadsAll, HasWord, StandsFor, IsBefore, IsTurned}
use Rattle.automaton.specs.Building.{IsAdded}
use Rattle.automaton.proofs.Sets.{same_or_not}
use Rattle.std.proofs.lemmas.Nat.Bits.{bit_at-zero}
use Rattle.automaton.proofs.Spelling.{Finishes, Accepts, accepts_exactly, follows_below, length-letters_of}

-- what is left of a word after p can be read up to a last position
abbrev pub Completes : Table → ℕ → Word → Type 0
Completes t p [] = Has t.last p
Completes t p (l ∷ w) = (q : ℕ) × Has (row t.next p) q × ReadsIn t.letters q l × Completes t q w

-- the tables accept the word
abbrev pub Takes : Table → Word → Type 0
Takes t [] = IsTrue t.has_empty
Takes t (l ∷ w) = (p : ℕ) × Has t.first p × ReadsIn t.letters p l × Completes t p w

route_of : (t : Table) (p : ℕ) (w : Word) → Completes t p w → (ps : List ℕ) × GoesOn t p ps × ReadsAll t ps w
route_of t p [] h = ([], h, tt)
route_of t p (l ∷ w) h = let r = route_of t h.0 w h.3 in (h.0 ∷ r.0, (h.1, r.1), (h.2, r.2))

completes_of : (t : Table) (p : ℕ) (ps : List ℕ) (w : Word) → GoesOn t p ps → ReadsAll t ps w → Completes t p w
completes_of t p [] [] g r = g
completes_of t p [] (l ∷ w) g r = absurd r
completes_of t p (q ∷ ps) [] g r = absurd r
completes_of t p (q ∷ ps) (l ∷ w) g r = (q, g.0, r.0, completes_of t q ps w g.1 r.1)

word_from : (t : Table) (w : Word) → Takes t w → HasWord t w
word_from t [] h = h
word_from t (l ∷ w) h = let r = route_of t h.0 w h.3 in (h.0 ∷ r.0, (h.1, r.1), (h.2, r.2))

word_only : (t : Table) (w : Word) → HasWord t w → Takes t w
word_only t [] h = h
word_only t (l ∷ w) ([], r, s) = absurd r
word_only t (l ∷ w) (p ∷ ps, r, s) = (p, r.0, s.0, completes_of t p ps w r.1 s.1)

pub takes_exactly : (t : Table) (w : Word) → HasWord t w ↔ Takes t w
takes_exactly t w = (word_only t w, word_from t w)

-- ---- the tables of an expression

module _ (t : Table) (e : Regex) (s : StandsFor t e) where
  completes_to : (p : ℕ) (w : Word) → Completes t p w → Finishes e p w
  completes_to p [] h = (s.last p).0 h
  completes_to p (l ∷ w) h =
      (h.0, (s.next p h.0).0 h.1, subst (λ k. ReadsIn k h.0 l) s.letters h.2, completes_to h.0 w h.3)

  completes_from : (p : ℕ) (w : Word) → Finishes e p w → Completes t p w
  completes_from p [] h = (s.last p).1 h
  completes_from p (l ∷ w) h =
      (h.0, (s.next p h.0).1 h.1, subst (λ k. ReadsIn k h.0 l) (sym s.letters) h.2, completes_from h.0 w h.3)

  takes_to : (w : Word) → Takes t w → Accepts e w
  takes_to [] h = sym s.has_empty ∙ h
  takes_to (l ∷ w) h =
      (h.0, (s.first h.0).0 h.1, subst (λ k. ReadsIn k h.0 l) s.letters h.2, completes_to h.0 w h.3)

  takes_from : (w : Word) → Accepts e w → Takes t w
  takes_from [] h = s.has_empty ∙ h
  takes_from (l ∷ w) h =
      (h.0, (s.first h.0).1 h.1, subst (λ k. ReadsIn k h.0 l) (sym s.letters) h.2, completes_from h.0 w h.3)

  -- they have exactly the words of the expression
  pub words_of : (w : Word) → HasWord t w ↔ InLanguage e w
  words_of w =
      let a = accepts_exactly e w in
      (λ h. a.1 (takes_to w (word_only t w h)), λ h. word_from t w (takes_from w (a.0 h)))

-- the tables that are built for a whole expression
pub stands_for : (e : Regex) (letters : List (Option Label)) (next : List (List ℕ)) (ends : Ends)
    → IsAdded e [] letters [] next ends
    → StandsFor (record { letters = letters; has_empty = ends.has_empty; first = ends.first; last = ends.last; next = next }) e
stands_for e letters next ends added = record {
  letters = added.letters;
  has_empty = added.has_empty;
  first = λ p. (
    λ h. let k = (added.first p).0 h in subst (IsFirst e) (omega (arith, k.1)) k.2,
    λ h. (added.first p).1 (p, omega arith, h),
  );
  last = λ p. (
    λ h. let k = (added.last p).0 h in subst (IsLast e) (omega (arith, k.1)) k.2,
    λ h. (added.last p).1 (p, omega arith, h),
  );
  next = λ p q. (
    λ h.
        let k = (added.new_rows p q (omega arith)).0 h in
        subst (λ x. Follows e x q) (omega (arith, k.1)) (subst (Follows e k.0) (omega (arith, k.2.1)) k.2.2),
    λ h. (added.new_rows p q (omega arith)).1 (p, omega arith, (q, omega arith, h)),
  );
}

-- ---- reading a word from its beginning

-- from one of the positions what is left of the word can be read up to a last one
abbrev pub Finish : Table → List ℕ → Word → Type 0
Finish t current w = (p : ℕ) × Has current p × Completes t p w

pub begins_word : (t : Table) (word w : Word) (l : Label) (current : List ℕ) → word ≡ l ∷ w
    → ((q : ℕ) → Has current q ↔ (Has t.first q × ReadsIn t.letters q l)) → HasWord t word ↔ Finish t current w
begins_word t word w l current e k =
    rw e ((
      λ h. let g = word_only t (l ∷ w) h in (g.0, (k g.0).1 (g.1, g.2), g.3),
      λ g. let r = (k g.0).0 g.1 in word_from t (l ∷ w) (g.0, r.0, r.1, g.2),
    ))

pub reads_on : (t : Table) (l : Label) (w rest : Word) (current reach after : List ℕ) → rest ≡ l ∷ w
    → ((q : ℕ) → Has reach q ↔ ((p : ℕ) × Has current p × Has (row t.next p) q))
    → ((q : ℕ) → Has after q ↔ (Has reach q × ReadsIn t.letters q l)) → Finish t current rest ↔ Finish t after w
reads_on t l w rest current reach after e f g =
    rw e ((
      λ (p, h, (q, n, r, c)). (q, (g q).1 ((f q).1 (p, h, n), r), c),
      λ (q, h, c). let k = (g q).0 h in let m = (f q).0 k.0 in (m.0, m.1, (q, m.2, k.1, c)),
    ))

-- ---- turns of the loops over positions

abbrev pub FollowersBelow : List (List ℕ) → List ℕ → ℕ → List ℕ → Type 0
FollowersBelow rows set p reach = (q : ℕ) → Has reach q ↔ ((r : ℕ) × (r < p) × Has set r × Has (row rows r) q)

pub followers_turn : (rows : List (List ℕ)) (set : List ℕ) (p : ℕ) (old new here : List ℕ) → FollowersBelow rows set p old
    → here ≡ row rows p → Has set p → ((q : ℕ) → Has new q ↔ (Has old q ⊎ Has here q)) → FollowersBelow rows set (p + 1) new
followers_turn rows set p old new here below e on k q = (to, from)
  where
    to : Has new q → (r : ℕ) × (r < p + 1) × Has set r × Has (row rows r) q
    to h = elim ((k q).0 h) [
      | inl g ↦ let m = (below q).0 g in (m.0, omega (arith, m.1), m.2, m.3)
      | inr g ↦ (p, omega arith, on, subst (λ s. Has s q) e g)
    ]

    from : ((r : ℕ) × (r < p + 1) × Has set r × Has (row rows r) q) → Has new q
    from (r, small, h, g) = elim (same_or_not r p) [
      | inl f ↦ (k q).1 (inr (subst (λ s. Has s q) (ap (row rows) f ∙ sym e) g))
      | inr n ↦ (k q).1 (inl ((below q).1 (r, omega arith, h, g)))
    ]

pub followers_skip : (rows : List (List ℕ)) (set : List ℕ) (p : ℕ) (old : List ℕ) → FollowersBelow rows set p old
    → (Has set p → ⊥) → FollowersBelow rows set (p + 1) old
followers_skip rows set p old below off q = (to, from)
  where
    to : Has old q → (r : ℕ) × (r < p + 1) × Has set r × Has (row rows r) q
    to g = let m = (below q).0 g in (m.0, omega (arith, m.1), m.2, m.3)

    from : ((r : ℕ) × (r < p + 1) × Has set r × Has (row rows r) q) → Has old q
    from (r, small, h, g) = elim (same_or_not r p) [
      | inl f ↦ absurd (off (subst (Has set) f h))
      | inr n ↦ (below q).1 (r, omega arith, h, g)
    ]

abbrev pub ReadersBelow : List (Option Label) → Label → List ℕ → ℕ → List ℕ → Type 0
ReadersBelow letters l set p kept = (q : ℕ) → Has kept q ↔ ((q < p) × Has set q × ReadsIn letters q l)

pub readers_turn : (letters : List (Option Label)) (l : Label) (set : List ℕ) (p : ℕ) (old new : List ℕ) → ReadersBelow letters l set p old
    → Has set p → ReadsIn letters p l → ((q : ℕ) → Has new q ↔ ((q ≡ p) ⊎ Has old q)) → ReadersBelow letters l set (p + 1) new
readers_turn letters l set p old new below on reads k q = (to, from)
  where
    to : Has new q → (q < p + 1) × Has set q × ReadsIn letters q l
    to h = elim ((k q).0 h) [
      | inl e ↦ (omega arith, subst (Has set) (sym e) on, subst (λ x. ReadsIn letters x l) (sym e) reads)
      | inr g ↦ let m = (below q).0 g in (omega (arith, m.0), m.1, m.2)
    ]

    from : (q < p + 1) × Has set q × ReadsIn letters q l → Has new q
    from (small, h, r) = elim (same_or_not q p) [
      | inl e ↦ (k q).1 (inl e)
      | inr n ↦ (k q).1 (inr ((below q).1 (omega arith, h, r)))
    ]

pub readers_skip : (letters : List (Option Label)) (l : Label) (set : List ℕ) (p : ℕ) (old : List ℕ) → ReadersBelow letters l set p old
    → (Has set p → ReadsIn letters p l → ⊥) → ReadersBelow letters l set (p + 1) old
readers_skip letters l set p old below off q = (to, from)
  where
    to : Has old q → (q < p + 1) × Has set q × ReadsIn letters q l
    to g = let m = (below q).0 g in (omega (arith, m.0), m.1, m.2)

    from : (q < p + 1) × Has set q × ReadsIn letters q l → Has old q
    from (small, h, r) = elim (same_or_not q p) [
      | inl e ↦ absurd (off (subst (Has set) e h) (subst (λ x. ReadsIn letters x l) e r))
      | inr n ↦ (below q).1 (omega arith, h, r)
    ]

-- a letter is read at a position exactly where it fits what stands there
pub reads_at : (letters : List (Option Label)) (p : ℕ) (k : Option Label) (l : Label) → slice_get letters p ≡ Some k → ReadsIn letters p l → Fits k l
reads_at letters p k l e (m, f, h) = let same : m ≡ k = cc in subst (λ (x : Option Label). Fits x l) same h

-- a word from the place of one of its letters
pub drop_word : (word : Word) (k : ℕ) (l : Label) → k < length word → l ≡ get_or word k l → drop k word ≡ l ∷ drop (k + 1) word
drop_word word k l small e = rw add-one (drop-cons word k l small ∙ ap (λ x. x ∷ drop (suc k) word) (sym e))

-- a row that has a position is one of the rows
pub row_within : (rows : List (List ℕ)) (p q : ℕ) → Has (row rows p) q → p < length rows
row_within [] p q h = absurd (omega (arith, h.bit, bit_at-zero (q % 64)))
row_within (x ∷ rows) zero q h = omega arith
row_within (x ∷ rows) (suc p) q h = omega (arith, row_within rows p q h)

-- ---- rows turned around

-- what is built for a whole expression has no position past the last
pub rows_within : (e : Regex) (letters : List (Option Label)) (next : List (List ℕ)) (ends : Ends) → IsAdded e [] letters [] next ends
    → (p q : ℕ) → Has (row next p) q → q < length next
rows_within e letters next ends added p q h =
    let k = (added.new_rows p q (omega arith)).0 h in
    let small = (follows_below e k.0 k.2.0 k.2.2).1 in
    let len : length letters ≡ positions e = ap length added.letters ∙ length-letters_of e in
    omega (arith, small, len, added.paired, k.2.1)

pub turned_rows : (rows turned : List (List ℕ)) → length turned ≡ length rows → ((p q : ℕ) → Has (row rows p) q → q < length rows)
    → ((p : ℕ) → p < length rows → IsBefore rows p (row turned p)) → IsTurned rows turned
turned_rows rows turned len within each p q = (
  λ h. ((each p (omega (arith, len, row_within turned p q h)) q).0 h).1,
  λ h. (each p (within q p h) q).1 (row_within rows q p h, h),
)
