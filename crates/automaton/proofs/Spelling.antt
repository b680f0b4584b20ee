-- The positions of an expression spell exactly its words, by induction over the expression.
use Rattle.std.proofs.Common.{◌≡◌, ◌≢◌, ℕ, zero, suc, ◌+◌, ◌<◌, Bool, true, false, ◌&&◌, ◌||◌, IsTrue, List, [], ◌∷◌, ◌++◌, ◌⊎◌, ◌↔◌, inl, inr, length, Option, Some, None, slice_get, refl, sym, ◌∙◌, ap, subst, arith, length-append}
use Rattle.std.specs.List.{All, AllByRecursion}
use Rattle.std.proofs.lemmas.Option.{slice_get_within}
use Rattle.std.proofs.lemmas.List.Elements.{All-head, All-tail, All-cons}
use Rattle.rpe.specs.Regex.{Label, Word, Regex, label, any, empty, seq, alt, star}
use Rattle.rpe.specs.Language.{InLanguage, concat, positions}
use Rattle.automaton.specs.Positions.{letters_of, has_empty_of, IsFirst, IsLast, Follows, Fits, Reads}

-- what is left of a word after p can be read up to a last position
abbrev pub Finishes : Regex → ℕ → Word → Type 0
Finishes e p [] = IsLast e p
Finishes e p (l ∷ w) = (q : ℕ) × Follows e p q × Reads e q l × Finishes e q w

-- the positions accept the word
abbrev pub Accepts : Regex → Word → Type 0
Accepts e [] = IsTrue (has_empty_of e)
Accepts e (l ∷ w) = (p : ℕ) × IsFirst e p × Reads e p l × Finishes e p w

-- ---- letters

pub length-letters_of : (e : Regex) → length (letters_of e) ≡ positions e
length-letters_of (label l) = refl
length-letters_of any = refl
length-letters_of empty = refl
length-letters_of (seq a b) = omega (arith, length-append (letters_of a) (letters_of b), length-letters_of a, length-letters_of b)
length-letters_of (alt a b) = omega (arith, length-append (letters_of a) (letters_of b), length-letters_of a, length-letters_of b)
length-letters_of (star a) = length-letters_of a

slice_get-left : {X : Type 0} (xs ys : List X) (i : ℕ) → i < length xs → slice_get (xs ++ ys) i ≡ slice_get xs i
slice_get-left [] ys i h = absurd (omega arith)
slice_get-left (x ∷ xs) ys zero h = refl
slice_get-left (x ∷ xs) ys (suc i) h = slice_get-left xs ys i (omega arith)

slice_get-right : {X : Type 0} (xs ys : List X) (i j : ℕ) → i ≡ length xs + j → slice_get (xs ++ ys) i ≡ slice_get ys j
slice_get-right [] ys i j h = ap (slice_get ys) (omega arith)
slice_get-right (x ∷ xs) ys zero j h = absurd (omega arith)
slice_get-right (x ∷ xs) ys (suc i) j h = slice_get-right xs ys i j (omega arith)

reads_below : (e : Regex) (p : ℕ) (l : Label) → Reads e p l → p < positions e
reads_below e p l r = omega (arith, slice_get_within (letters_of e) p r.0 r.1, length-letters_of e)

-- ---- numbers of positions

pub first_below : (e : Regex) (p : ℕ) → IsFirst e p → p < positions e
first_below (label l) p h = omega arith
first_below any p h = omega arith
first_below empty p h = absurd h
first_below (seq a b) p (inl h) = omega (arith, first_below a p h)
first_below (seq a b) p (inr h) = omega (arith, h.1.1, first_below b h.1.0 h.1.2)
first_below (alt a b) p (inl h) = omega (arith, first_below a p h)
first_below (alt a b) p (inr h) = omega (arith, h.1, first_below b h.0 h.2)
first_below (star a) p h = first_below a p h

pub last_below : (e : Regex) (p : ℕ) → IsLast e p → p < positions e
last_below (label l) p h = omega arith
last_below any p h = omega arith
last_below empty p h = absurd h
last_below (seq a b) p (inl h) = omega (arith, h.1, last_below b h.0 h.2)
last_below (seq a b) p (inr h) = omega (arith, last_below a p h.1)
last_below (alt a b) p (inl h) = omega (arith, last_below a p h)
last_below (alt a b) p (inr h) = omega (arith, h.1, last_below b h.0 h.2)
last_below (star a) p h = last_below a p h

pub follows_below : (e : Regex) (p q : ℕ) → Follows e p q → (p < positions e) × (q < positions e)
follows_below (label l) p q h = absurd h
follows_below any p q h = absurd h
follows_below empty p q h = absurd h
follows_below (seq a b) p q (inl h) =
    let k = follows_below a p q h in (omega (arith, k.0), omega (arith, k.1))
follows_below (seq a b) p q (inr (inl (r, e, (s, f, h)))) =
    let k = follows_below b r s h in (omega (arith, k.0), omega (arith, k.1))
follows_below (seq a b) p q (inr (inr (h, (s, f, g)))) =
    (omega (arith, last_below a p h), omega (arith, first_below b s g))
follows_below (alt a b) p q (inl h) =
    let k = follows_below a p q h in (omega (arith, k.0), omega (arith, k.1))
follows_below (alt a b) p q (inr (r, e, (s, f, h))) =
    let k = follows_below b r s h in (omega (arith, k.0), omega (arith, k.1))
follows_below (star a) p q (inl h) = follows_below a p q h
follows_below (star a) p q (inr h) = (last_below a p h.0, first_below a q h.1)

-- ---- letters of the parts

reads_left : (xs ys : List (Option Label)) (p : ℕ) (l : Label) → p < length xs
    → ((k : Option Label) × (slice_get (xs ++ ys) p ≡ Some k) × Fits k l) ↔ ((k : Option Label) × (slice_get xs p ≡ Some k) × Fits k l)
reads_left xs ys p l h =
    let e = slice_get-left xs ys p h in
    (λ r. (r.0, sym e ∙ r.1, r.2), λ r. (r.0, e ∙ r.1, r.2))

reads_right : (xs ys : List (Option Label)) (p q : ℕ) (l : Label) → p ≡ length xs + q
    → ((k : Option Label) × (slice_get (xs ++ ys) p ≡ Some k) × Fits k l) ↔ ((k : Option Label) × (slice_get ys q ≡ Some k) × Fits k l)
reads_right xs ys p q l h =
    let e = slice_get-right xs ys p q h in
    (λ r. (r.0, sym e ∙ r.1, r.2), λ r. (r.0, e ∙ r.1, r.2))

-- ---- from a part to the whole: a map of positions that keeps what follows and what is read

record Carries (a e : Regex) (f : ℕ → ℕ) : Type 0 where
  follows : (p q : ℕ) → Follows a p q → Follows e (f p) (f q)
  reads : (p : ℕ) (l : Label) → Reads a p l → Reads e (f p) l

-- a word of the part from p, and then a word of the whole from the last position
carry : (a e : Regex) (f : ℕ → ℕ) → Carries a e f → (v : Word)
    → ((p : ℕ) → IsLast a p → Finishes e (f p) v) → (p : ℕ) (u : Word) → Finishes a p u → Finishes e (f p) (u ++ v)
carry a e f c v go p [] h = go p h
carry a e f c v go p (l ∷ u) h = (f h.0, c.follows p h.0 h.1, c.reads h.0 l h.2, carry a e f c v go h.0 u h.3)

carry_whole : (a e : Regex) (f : ℕ → ℕ) → Carries a e f
    → ((p : ℕ) → IsLast a p → IsLast e (f p)) → (p : ℕ) (u : Word) → Finishes a p u → Finishes e (f p) u
carry_whole a e f c go p [] h = go p h
carry_whole a e f c go p (l ∷ u) h = (f h.0, c.follows p h.0 h.1, c.reads h.0 l h.2, carry_whole a e f c go h.0 u h.3)

-- ---- tests

and_parts : (a b : Bool) → (a && b) ≡ true → (a ≡ true) × (b ≡ true)
and_parts true b h = (refl, h)
and_parts false b h = cc

or_right : (a b : Bool) → b ≡ true → (a || b) ≡ true
or_right true b h = refl
or_right false b h = h

or_parts : (a b : Bool) → (a || b) ≡ true → (a ≡ true) ⊎ (b ≡ true)
or_parts true b h = inl refl
or_parts false b h = inr h

-- ---- a sequence

module _ (a b : Regex) where
  seq_reads_left : (p : ℕ) (l : Label) → Reads a p l → Reads (seq a b) p l
  seq_reads_left p l r =
      (reads_left (letters_of a) (letters_of b) p l (slice_get_within (letters_of a) p r.0 r.1)).1 r

  seq_reads_right : (p q : ℕ) (l : Label) → p ≡ positions a + q → Reads b q l → Reads (seq a b) p l
  seq_reads_right p q l e r =
      (reads_right (letters_of a) (letters_of b) p q l (omega (arith, length-letters_of a))).1 r

  seq_left : Carries a (seq a b) (λ p. p)
  seq_left = record { follows = λ p q h. inl h; reads = seq_reads_left }

  seq_right : Carries b (seq a b) (λ p. positions a + p)
  seq_right = record {
    follows = λ p q h. inr (inl (p, refl, (q, refl, h)));
    reads = λ p l r. seq_reads_right (positions a + p) p l refl r;
  }

  seq_finishes_right : (p : ℕ) (v : Word) → Finishes b p v → Finishes (seq a b) (positions a + p) v
  seq_finishes_right = carry_whole b (seq a b) (λ p. positions a + p) seq_right (λ p h. inl (p, refl, h))

  -- after a last position of the first part
  seq_after : (v : Word) → Accepts b v → (p : ℕ) → IsLast a p → Finishes (seq a b) p v
  seq_after [] h p last = inr (h, last)
  seq_after (l ∷ v) h p last =
      (positions a + h.0, inr (inr (last, (h.0, refl, h.1))), seq_reads_right _ h.0 l refl h.2, seq_finishes_right h.0 v h.3)

  seq_accepts : (u v : Word) → Accepts a u → Accepts b v → Accepts (seq a b) (u ++ v)
  seq_accepts [] [] g h = rw (g, h)
  seq_accepts [] (l ∷ v) g h =
      (positions a + h.0, inr (g, (h.0, refl, h.1)), seq_reads_right _ h.0 l refl h.2, seq_finishes_right h.0 v h.3)
  seq_accepts (l ∷ u) v g h =
      (g.0, inl g.1, seq_reads_left g.0 l g.2, carry a (seq a b) (λ p. p) seq_left v (seq_after v h) g.0 u g.3)

  -- back from the whole
  seq_in_right : (p q : ℕ) (w : Word) → p ≡ positions a + q → Finishes (seq a b) p w → Finishes b q w
  seq_in_right p q [] e (inl (r, f, h)) = subst (IsLast b) (omega arith) h
  seq_in_right p q [] e (inr (g, h)) = absurd (omega (arith, last_below a p h))
  seq_in_right p q (l ∷ w) e (t, inl h, r, g) = let k = follows_below a p t h in absurd (omega (arith, k.0))
  seq_in_right p q (l ∷ w) e (t, inr (inl (x, f, (y, d, h))), r, g) =
      (y, subst (λ z. Follows b z y) (omega arith) h, (reads_right (letters_of a) (letters_of b) t y l (omega (arith, length-letters_of a))).0 r, seq_in_right t y w d g)
  seq_in_right p q (l ∷ w) e (t, inr (inr (h, s)), r, g) = absurd (omega (arith, last_below a p h))

  abbrev Splits : ℕ → Word → Type 0
  Splits p w = (u : Word) × (v : Word) × (w ≡ u ++ v) × Finishes a p u × Accepts b v

  seq_splits : (p : ℕ) (w : Word) → p < positions a → Finishes (seq a b) p w → Splits p w
  seq_splits p [] small (inl (r, e, h)) = absurd (omega arith)
  seq_splits p [] small (inr (h, last)) = ([], [], refl, last, h)
  seq_splits p (l ∷ w) small (q, inl h, r, g) =
      let below = (follows_below a p q h).1 in
      let s = seq_splits q w below g in
      (l ∷ s.0, s.1, ap (λ x. l ∷ x) s.2, (q, h, (reads_left (letters_of a) (letters_of b) q l (omega (arith, below, length-letters_of a))).0 r, s.3), s.4)
  seq_splits p (l ∷ w) small (q, inr (inl (x, e, s)), r, g) = absurd (omega arith)
  seq_splits p (l ∷ w) small (q, inr (inr (last, (x, e, h))), r, g) =
      ([], l ∷ w, refl, last, (x, h, (reads_right (letters_of a) (letters_of b) q x l (omega (arith, length-letters_of a))).0 r, seq_in_right q x w e g))

  seq_split : (w : Word) → Accepts (seq a b) w → (u : Word) × (v : Word) × (w ≡ u ++ v) × Accepts a u × Accepts b v
  seq_split [] h = let k = and_parts (has_empty_of a) (has_empty_of b) h in ([], [], refl, k.0, k.1)
  seq_split (l ∷ w) (p, inl h, r, g) =
      let below = first_below a p h in
      let s = seq_splits p w below g in
      (l ∷ s.0, s.1, ap (λ x. l ∷ x) s.2, (p, h, (reads_left (letters_of a) (letters_of b) p l (omega (arith, below, length-letters_of a))).0 r, s.3), s.4)
  seq_split (l ∷ w) (p, inr (e, (q, f, h)), r, g) =
      ([], l ∷ w, refl, e, (q, h, (reads_right (letters_of a) (letters_of b) p q l (omega (arith, length-letters_of a))).0 r, seq_in_right p q w f g))

-- ---- a choice

module _ (a b : Regex) where
  alt_left : Carries a (alt a b) (λ p. p)
  alt_left = record {
    follows = λ p q h. inl h;
    reads = λ p l r. (reads_left (letters_of a) (letters_of b) p l (slice_get_within (letters_of a) p r.0 r.1)).1 r;
  }

  alt_right : Carries b (alt a b) (λ p. positions a + p)
  alt_right = record {
    follows = λ p q h. inr (p, refl, (q, refl, h));
    reads = λ p l r. (reads_right (letters_of a) (letters_of b) (positions a + p) p l (omega (arith, length-letters_of a))).1 r;
  }

  alt_accepts : (w : Word) → Accepts a w ⊎ Accepts b w → Accepts (alt a b) w
  alt_accepts [] (inl h) = rw h
  alt_accepts [] (inr h) = or_right (has_empty_of a) (has_empty_of b) h
  alt_accepts (l ∷ w) (inl h) =
      (h.0, inl h.1, alt_left.reads h.0 l h.2, carry_whole a (alt a b) (λ p. p) alt_left (λ p k. inl k) h.0 w h.3)
  alt_accepts (l ∷ w) (inr h) =
      (positions a + h.0, inr (h.0, refl, h.1), alt_right.reads h.0 l h.2, carry_whole b (alt a b) (λ p. positions a + p) alt_right (λ p k. inr (p, refl, k)) h.0 w h.3)

  alt_in_left : (p : ℕ) (w : Word) → p < positions a → Finishes (alt a b) p w → Finishes a p w
  alt_in_left p [] small (inl h) = h
  alt_in_left p [] small (inr (r, e, h)) = absurd (omega arith)
  alt_in_left p (l ∷ w) small (q, inl h, r, g) =
      let below = (follows_below a p q h).1 in
      (q, h, (reads_left (letters_of a) (letters_of b) q l (omega (arith, below, length-letters_of a))).0 r, alt_in_left q w below g)
  alt_in_left p (l ∷ w) small (q, inr (x, e, s), r, g) = absurd (omega arith)

  alt_in_right : (p q : ℕ) (w : Word) → p ≡ positions a + q → Finishes (alt a b) p w → Finishes b q w
  alt_in_right p q [] e (inl h) = absurd (omega (arith, last_below a p h))
  alt_in_right p q [] e (inr (r, f, h)) = subst (IsLast b) (omega arith) h
  alt_in_right p q (l ∷ w) e (t, inl h, r, g) = let k = follows_below a p t h in absurd (omega (arith, k.0))
  alt_in_right p q (l ∷ w) e (t, inr (x, f, (y, d, h)), r, g) =
      (y, subst (λ z. Follows b z y) (omega arith) h, (reads_right (letters_of a) (letters_of b) t y l (omega (arith, length-letters_of a))).0 r, alt_in_right t y w d g)

  alt_split : (w : Word) → Accepts (alt a b) w → Accepts a w ⊎ Accepts b w
  alt_split [] h = or_parts (has_empty_of a) (has_empty_of b) h
  alt_split (l ∷ w) (p, inl h, r, g) =
      let below = first_below a p h in
      inl (p, h, (reads_left (letters_of a) (letters_of b) p l (omega (arith, below, length-letters_of a))).0 r, alt_in_left p w below g)
  alt_split (l ∷ w) (p, inr (q, f, h), r, g) =
      inr (q, h, (reads_right (letters_of a) (letters_of b) p q l (omega (arith, length-letters_of a))).0 r, alt_in_right p q w f g)

-- ---- a repetition

-- the word isn't empty, and the positions accept it
abbrev pub IsPart : Regex → Word → Type 0
IsPart a part = (part ≢ []) × Accepts a part

module _ (a : Regex) where
  star_carries : Carries a (star a) (λ p. p)
  star_carries = record { follows = λ p q h. inl h; reads = λ p l r. r }

  -- after a last position of the body
  star_after : (parts : List Word) → AllByRecursion (IsPart a) parts → (p : ℕ) → IsLast a p → Finishes (star a) p (concat parts)
  star_after [] h p last = last
  star_after ([] ∷ parts) h p last = absurd (h.0.0 refl)
  star_after ((l ∷ u) ∷ parts) h p last =
      let s = h.0.1 in
      (s.0, inr (last, s.1), s.2, carry a (star a) (λ p. p) star_carries (concat parts) (star_after parts h.1) s.0 u s.3)

  star_accepts : (parts : List Word) → AllByRecursion (IsPart a) parts → Accepts (star a) (concat parts)
  star_accepts [] h = refl
  star_accepts ([] ∷ parts) h = absurd (h.0.0 refl)
  star_accepts ((l ∷ u) ∷ parts) h =
      let s = h.0.1 in
      (s.0, s.1, s.2, carry a (star a) (λ p. p) star_carries (concat parts) (star_after parts h.1) s.0 u s.3)

  -- the rest of one part, and then parts
  star_splits : (p : ℕ) (w : Word) → Finishes (star a) p w
      → (u : Word) × (parts : List Word) × (w ≡ u ++ concat parts) × Finishes a p u × AllByRecursion (IsPart a) parts
  star_splits p [] h = ([], [], refl, h, tt)
  star_splits p (l ∷ w) (q, inl h, r, g) =
      let s = star_splits q w g in
      (l ∷ s.0, s.1, ap (λ x. l ∷ x) s.2, (q, h, r, s.3), s.4)
  star_splits p (l ∷ w) (q, inr (last, first), r, g) =
      let s = star_splits q w g in
      ([], (l ∷ s.0) ∷ s.1, ap (λ x. l ∷ x) s.2, last, ((λ e. cc, (q, first, r, s.3)), s.4))

  star_split : (w : Word) → Accepts (star a) w → (parts : List Word) × (w ≡ concat parts) × AllByRecursion (IsPart a) parts
  star_split [] h = ([], refl, tt)
  star_split (l ∷ w) (q, first, r, g) =
      let s = star_splits q w g in
      ((l ∷ s.0) ∷ s.1, ap (λ x. l ∷ x) s.2, ((λ e. cc, (q, first, r, s.3)), s.4))

-- ---- the words of an expression

label_reads : (l m : Label) (k : Option Label) (p : ℕ) → p ≡ 0 → slice_get (Some l ∷ []) p ≡ Some k → Fits k m → l ≡ m
label_reads l m None p z e f = cc
label_reads l m (Some x) p z e f = cc

each_part : (a : Regex) → ((w : Word) → InLanguage a w → Accepts a w) → (parts : List Word)
    → All (λ part. part ≢ []) parts → All (InLanguage a) parts → AllByRecursion (IsPart a) parts
each_part a f [] n h = tt
each_part a f (part ∷ parts) n h =
    let P : Word → Type 0 = λ part. part ≢ [] in
    ((All-head P part parts n, f part (All-head (InLanguage a) part parts h)), each_part a f parts (All-tail P part parts n) (All-tail (InLanguage a) part parts h))

none_empty : (a : Regex) (parts : List Word) → AllByRecursion (IsPart a) parts → All (λ part. part ≢ []) parts
none_empty a [] h = λ k d small. absurd (omega arith)
none_empty a (part ∷ parts) h =
    let P : Word → Type 0 = λ part. part ≢ [] in
    All-cons P part parts h.0.0 (none_empty a parts h.1)

each_word : (a : Regex) → ((w : Word) → Accepts a w → InLanguage a w) → (parts : List Word) → AllByRecursion (IsPart a) parts → All (InLanguage a) parts
each_word a f [] h = λ k d small. absurd (omega arith)
each_word a f (part ∷ parts) h = All-cons (InLanguage a) part parts (f part h.0.1) (each_word a f parts h.1)

accepts_from : (e : Regex) (w : Word) → InLanguage e w → Accepts e w
accepts_from (label l) w h = subst (Accepts (label l)) (sym h) (0, refl, (Some l, refl, refl), refl)
accepts_from any w (l, h) = subst (Accepts any) (sym h) (0, refl, (None, refl, tt), refl)
accepts_from empty w h = subst (Accepts empty) (sym h) refl
accepts_from (seq a b) w (u, v, g, h, e) =
    subst (Accepts (seq a b)) (sym e) (seq_accepts a b u v (accepts_from a u g) (accepts_from b v h))
accepts_from (alt a b) w (inl h) = alt_accepts a b w (inl (accepts_from a w h))
accepts_from (alt a b) w (inr h) = alt_accepts a b w (inr (accepts_from b w h))
accepts_from (star a) w (parts, n, h, e) =
    subst (Accepts (star a)) (sym e) (star_accepts a parts (each_part a (accepts_from a) parts n h))

accepts_only : (e : Regex) (w : Word) → Accepts e w → InLanguage e w
accepts_only (label l) [] h = cc
accepts_only (label l) (m ∷ []) (p, z, r, last) = let e = label_reads l m r.0 p z r.1 r.2 in cc
accepts_only (label l) (m ∷ n ∷ w) (p, z, r, s) = absurd s.1
accepts_only any [] h = cc
accepts_only any (m ∷ []) h = (m, refl)
accepts_only any (m ∷ n ∷ w) (p, z, r, s) = absurd s.1
accepts_only empty [] h = refl
accepts_only empty (m ∷ w) h = absurd h.1
accepts_only (seq a b) w h =
    let s = seq_split a b w h in (s.0, s.1, accepts_only a s.0 s.3, accepts_only b s.1 s.4, s.2)
accepts_only (alt a b) w h =
    elim (alt_split a b w h) [ inl k ↦ inl (accepts_only a w k) | inr k ↦ inr (accepts_only b w k) ]
accepts_only (star a) w h =
    let s = star_split a w h in (s.0, none_empty a s.0 s.2, each_word a (accepts_only a) s.0 s.2, s.1)

-- the words of an expression are those that its positions accept
pub accepts_exactly : (e : Regex) (w : Word) → InLanguage e w ↔ Accepts e w
accepts_exactly e w = (accepts_from e w, accepts_only e w)
