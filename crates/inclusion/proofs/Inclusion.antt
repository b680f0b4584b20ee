-- Words of two automata: what a pair tells of the words that go on from it.
use Rattle.std.proofs.Common.{◌≡◌, ℕ, ◌^◌, ◌<◌, IsTrue, List, [], ◌∷◌, length, Option, Some, None, slice_get, slice_index, refl, sym, subst, arith}
use Rattle.std.specs.Prelude.{bit_and, Contains}
use Rattle.std.proofs.lemmas.Nat.{and_le_r}
use Rattle.std.proofs.lemmas.Option.{slice_get_within}
use Rattle.rpe.specs.Regex.{Label, Word}
use Rattle.automaton.specs.PositionSet.{Has}
use Rattle.automaton.specs.Positions.{Fits, ReadsIn}
use Rattle.automaton.specs.Table.{Table, row, HasWord}
use Rattle.automaton.proofs.Words.{Completes, Takes, takes_exactly}
use Rattle.inclusion.specs.declared.masks.Masks.{Masks}
use Rattle.inclusion.specs.declared.search.Pair.{Pair}
use Rattle.inclusion.specs.Masks.{Bit, Covers, CoversAt, IsMasks, IsReach}
use Rattle.inclusion.specs.Search.{IsPairOf}
use Rattle.inclusion.specs.Spelled.{IsUnnamed, filled, IsStep}
use Rattle.inclusion.proofs.Bits.{and_bits}

-- ---- what covers what

filled_fits : (k : Option Label) (other : Label) → Fits k (filled k other)
filled_fits None other = tt
filled_fits (Some k) other = refl

covered_fits : (k m : Option Label) (l : Label) → Covers k m → Fits k l → Fits m l
covered_fits k None l c f = tt
covered_fits None (Some m) l c f = absurd c
covered_fits (Some k) (Some m) l c f = cc

pub reads_too : (letters others : List (Option Label)) (p i : ℕ) (l : Label) → CoversAt letters p others i → ReadsIn letters p l → ReadsIn others i l
reads_too letters others p i l (k, m, e, f, c) (k2, g, r) =
    let same : k2 ≡ k = cc in
    (m, f, covered_fits k m l c (subst (λ (x : Option Label). Fits x l) same r))

covers_by : (others : List (Option Label)) (other : Label) → IsUnnamed others other → (i : ℕ) (k m : Option Label) → slice_get others i ≡ Some m
    → Fits m (filled k other) → Covers k m
covers_by others other free i k None e f = tt
covers_by others other free i None (Some m) e f = free i m e f
covers_by others other free i (Some k) (Some m) e f = sym f

pub covers_filled : (letters others : List (Option Label)) (other : Label) → IsUnnamed others other → (p i : ℕ) (k : Option Label)
    → slice_get letters p ≡ Some k → ReadsIn others i (filled k other) → CoversAt letters p others i
covers_filled letters others other free p i k e (m, f, r) = (k, m, e, f, covers_by others other free i k m f r)

pub covers_only : (letters others : List (Option Label)) (p i : ℕ) (k l : Option Label) → slice_get letters p ≡ Some k → slice_get others i ≡ Some l
    → CoversAt letters p others i → Covers k l
covers_only letters others p i k l e f (k2, l2, g, h, c) =
    let same : k2 ≡ k = cc in
    let same2 : l2 ≡ l = cc in
    subst (λ (x : Option Label). Covers x l) same (subst (λ (x : Option Label). Covers k2 x) same2 c)

pub covers_within : (letters others : List (Option Label)) (p i : ℕ) → CoversAt letters p others i → i < length others
covers_within letters others p i (k, l, e, f, c) = slice_get_within others i l f

-- ---- words from a pair

-- from one of the positions of the mask the word can be read up to a last one
abbrev pub Finishes : Table → ℕ → Word → Type 0
Finishes b mask w = (r : ℕ) × (r < length b.letters) × Bit mask r × Completes b r w

-- the word goes on from the pair in the first automaton, and not in the second
abbrev pub Refuses : Table → Table → Pair → Word → Type 0
Refuses a b x w = Completes a x.position w × (Finishes b x.set w → ⊥)

abbrev pub pair_at : Masks → ℕ → ℕ → Pair
pair_at m reach p = record { position = p; set = bit_and reach (slice_index m.covers.items p) }

-- the pair's own answer is right, and a list has each pair that follows it
pub record IsDone (a b : Table) (m : Masks) (order : List Pair) (x : Pair) : Type 0 where
  pub ends : Has a.last x.position → Finishes b x.set []
  pub reach : ℕ
  pub is_reach : IsReach m.next.items x.set reach
  pub each : (q : ℕ) → q < length a.letters → Has (row a.next x.position) q → Contains order (pair_at m reach q)

-- the pair is within the tables
pub record IsPlaced (a b : Table) (x : Pair) : Type 0 where
  pub place : x.position < length a.letters
  pub set : x.set < 2 ^ length b.letters

abbrev RefusesWhole : Table → Table → Option Label → Label → Word → Pair → Type 0
RefusesWhole a b k l w x =
    slice_get a.letters x.position ≡ Some k → Refuses a b x w → HasWord a (l ∷ w) × (HasWord b (l ∷ w) → ⊥)

module _ (a b : Table) (m : Masks) (ok : IsMasks a b m) where
  begins_on : (w : Word) (l : Label) (p : ℕ) → ReadsIn a.letters p l → Finishes b (bit_and m.first (slice_index m.covers.items p)) w → Takes b (l ∷ w)
  begins_on w l p reads (r, small, bit, c) =
      let both = (and_bits m.first (slice_index m.covers.items p) r).0 bit in
      let covers = (ok.covers p r (slice_get_within a.letters p reads.0 reads.1)).0 both.1 in
      (r, ((ok.first r).0 both.0).1, reads_too a.letters b.letters p r l covers reads, c)

  begins_back : (other : Label) → IsUnnamed b.letters other → (w : Word) (p : ℕ) (k : Option Label) → slice_get a.letters p ≡ Some k → Takes b (filled k other ∷ w)
      → Finishes b (bit_and m.first (slice_index m.covers.items p)) w
  begins_back other free w p k e (r, has, reads, c) =
      let small = slice_get_within b.letters r reads.0 reads.1 in
      let covers = covers_filled a.letters b.letters other free p r k e reads in
      (r, small, (and_bits m.first (slice_index m.covers.items p) r).1 ((ok.first r).1 (small, has), (ok.covers p r (slice_get_within a.letters p k e)).1 covers), c)

  goes_on : (s reach : ℕ) → IsReach m.next.items s reach → (w : Word) (l : Label) (q : ℕ) → ReadsIn a.letters q l
      → Finishes b (bit_and reach (slice_index m.covers.items q)) w → Finishes b s (l ∷ w)
  goes_on s reach is w l q reads (r, small, bit, c) =
      let both = (and_bits reach (slice_index m.covers.items q) r).0 bit in
      let covers = (ok.covers q r (slice_get_within a.letters q reads.0 reads.1)).0 both.1 in
      let from = (is r).0 both.0 in
      let row_small : from.0 < length b.letters = omega (arith, from.1, ok.next_rows) in
      (from.0, row_small, from.2, (r, ((ok.next from.0 r row_small).0 from.3).1, reads_too a.letters b.letters q r l covers reads, c))

  goes_back : (other : Label) → IsUnnamed b.letters other → (s reach : ℕ) → IsReach m.next.items s reach → (w : Word) (q : ℕ) (k : Option Label)
      → slice_get a.letters q ≡ Some k → Finishes b s (filled k other ∷ w) → Finishes b (bit_and reach (slice_index m.covers.items q)) w
  goes_back other free s reach is w q k e (r0, small0, bit0, (r, has, reads, c)) =
      let small = slice_get_within b.letters r reads.0 reads.1 in
      let covers = covers_filled a.letters b.letters other free q r k e reads in
      let here : Bit reach r = (is r).1 (r0, omega (arith, small0, ok.next_rows), bit0, (ok.next r0 r small0).1 (small, has)) in
      (r, small, (and_bits reach (slice_index m.covers.items q) r).1 (here, (ok.covers q r (slice_get_within a.letters q k e)).1 covers), c)

  -- where each pair of a list is done, what goes on from it in the first automaton does so in the second
  all_finish : (order : List Pair) → ((x : Pair) → Contains order x → IsDone a b m order x)
      → (w : Word) (x : Pair) → Contains order x → Completes a x.position w → Finishes b x.set w
  all_finish order closed [] x h c = (closed x h).ends c
  all_finish order closed (l ∷ w) x h (q, has, reads, c) =
      let d = closed x h in
      let small = slice_get_within a.letters q reads.0 reads.1 in
      goes_on x.set d.reach d.is_reach w l q reads (all_finish order closed w (pair_at m d.reach q) (d.each q small has) c)

  pub each_word : (order : List Pair) → (IsTrue a.has_empty → IsTrue b.has_empty)
      → ((x : Pair) → IsPairOf (length a.letters) a.first m.first m.covers.items x → Contains order x)
      → ((x : Pair) → Contains order x → IsDone a b m order x) → (w : Word) → HasWord a w → HasWord b w
  each_word order empty starts closed w h = (takes_exactly b w).1 (taken w ((takes_exactly a w).0 h))
    where
      taken : (w : Word) → Takes a w → Takes b w
      taken [] h = empty h
      taken (l ∷ w) (p, has, reads, c) =
          let small = slice_get_within a.letters p reads.0 reads.1 in
          begins_on w l p reads (all_finish order closed w (pair_at m m.first p) (starts (pair_at m m.first p) (p, small, has, refl)) c)

  set_small : (reach p : ℕ) → p < length a.letters → bit_and reach (slice_index m.covers.items p) < 2 ^ length b.letters
  set_small reach p small =
      let below = ok.below p small in
      let le = and_le_r reach (slice_index m.covers.items p) in omega arith

  pub placed : (count : ℕ) → count ≡ length a.letters → (positions : List ℕ) (reach : ℕ) (x : Pair) → IsPairOf count positions reach m.covers.items x → IsPlaced a b x
  placed count len positions reach x (p, small, has, e) =
      let within : p < length a.letters = omega arith in subst (IsPlaced a b) (sym e) (record { place = within; set = set_small reach p within })

  -- from what goes on at a pair to what goes on at the one before it, and to whole words
  pub refuses_before : (other : Label) → IsUnnamed b.letters other → (x y : Pair) (k : Option Label) (w : Word) → IsStep a m x y
      → slice_get a.letters y.position ≡ Some k → Refuses a b y w → Refuses a b x (filled k other ∷ w)
  refuses_before other free x y k w step e r = (
    (y.position, step.follows, (k, e, filled_fits k other), r.0),
    λ h. r.1 (subst (λ s. Finishes b s w) (sym step.set) (goes_back other free x.set step.reach step.is_reach w y.position k e h)),
  )

  pub refuses_whole : (other : Label) → IsUnnamed b.letters other → (x : Pair) (k : Option Label) (w : Word)
      → IsPairOf (length a.letters) a.first m.first m.covers.items x → slice_get a.letters x.position ≡ Some k → Refuses a b x w
      → HasWord a (filled k other ∷ w) × (HasWord b (filled k other ∷ w) → ⊥)
  refuses_whole other free x k w (p, small, has, same) e r = subst (RefusesWhole a b k (filled k other) w) (sym same) at e r
    where
      at : RefusesWhole a b k (filled k other) w (pair_at m m.first p)
      at f g = (
        (takes_exactly a (filled k other ∷ w)).1 (p, has, (k, f, filled_fits k other), g.0),
        λ h. g.1 (begins_back other free w p k f ((takes_exactly b (filled k other ∷ w)).0 h)),
      )
