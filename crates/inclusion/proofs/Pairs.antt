-- What the search keeps from turn to turn.
use Rattle.std.proofs.Common.{◌≡◌, ℕ, zero, suc, ◌+◌, ◌*◌, ◌^◌, ◌<◌, ◌≤◌, Bool, IsTrue, List, [], ◌∷◌, ◌++◌, length, ◌↔◌, ◌⊎◌, inl, inr, refl, sym, ◌∙◌, ap, subst, arith, get_or, take, slice_get, slice_index, Some}
use Rattle.std.specs.Prelude.{bit_and, Contains}
use Rattle.std.proofs.lemmas.List.{take-append-le, take_more, take_all}
use Rattle.std.proofs.lemmas.Option.{slice_get_within, get_or_from_slice_get, slice_get-get_or}
use Rattle.std.proofs.lemmas.List.Elements.{Contains-push_cases}
use Rattle.rpe.specs.Regex.{Word}
use Rattle.automaton.specs.PositionSet.{Has}
use Rattle.automaton.specs.Table.{Table, row, HasWord}
use Rattle.inclusion.specs.declared.masks.Masks.{Masks}
use Rattle.inclusion.specs.declared.search.Pair.{Pair}
use Rattle.inclusion.specs.Masks.{IsMasks, IsReach}
use Rattle.inclusion.specs.Search.{AreListed, IsPairOf, Grows, HasEach, Fills}
use Rattle.inclusion.specs.Spelled.{IsStep, CameFrom, IsTrail}
use Rattle.inclusion.proofs.Marks.{still_has, either}
use Rattle.inclusion.proofs.Bits.{have_common}
use Rattle.inclusion.proofs.Inclusion.{Finishes, IsDone, IsPlaced, pair_at, each_word, placed}

-- the pairs before the place are done, and each pair of the list is within the tables and came from an earlier one
pub record IsUnderway (a b : Table) (m : Masks) (width : ℕ) (marks : List Bool) (order : List Pair) (from : List ℕ) (done : ℕ) : Type 0 where
  pub listed : AreListed width marks order
  pub size : length marks ≡ width * length a.letters
  pub starts : HasEach (IsPairOf (length a.letters) a.first m.first m.covers.items) order
  pub closed : (x : Pair) → Contains (take done order) x → IsDone a b m order x
  pub placed : (x : Pair) → Contains order x → IsPlaced a b x
  pub len : length from ≡ length order
  pub came : (k : ℕ) (x : Pair) → slice_get order k ≡ Some x → CameFrom a m order from k x

le_or_less : (m n : ℕ) → (m ≤ n) ⊎ (n < m)
le_or_less m n = grind arith

pub contains_at : (xs : List Pair) (k : ℕ) (x : Pair) → slice_get xs k ≡ Some x → Contains xs x
contains_at xs k x e = (k, slice_get_within xs k x e, get_or_from_slice_get xs k x x e)

get_left : (xs ys : List Pair) (i : ℕ) → i < length xs → slice_get (xs ++ ys) i ≡ slice_get xs i
get_left [] ys i h = absurd (omega arith)
get_left (x ∷ xs) ys zero h = refl
get_left (x ∷ xs) ys (suc i) h = get_left xs ys i (omega arith)

get_right : (xs ys : List Pair) (i : ℕ) (x : Pair) → length xs ≤ i → slice_get (xs ++ ys) i ≡ Some x → Contains ys x
get_right [] ys i x le e = contains_at ys i x e
get_right (y ∷ xs) ys zero x le e = absurd (omega arith)
get_right (y ∷ xs) ys (suc i) x le e = get_right xs ys i x (omega arith) e

module _ (a b : Table) (m : Masks) (ok : IsMasks a b m) (width : ℕ) where
  pub searched_start : (marks marks2 : List Bool) (order2 : List Pair) (from2 : List ℕ) → length marks ≡ width * length a.letters → AreListed width marks2 order2
      → Grows (IsPairOf (length a.letters) a.first m.first m.covers.items) marks marks2 [] order2
      → HasEach (IsPairOf (length a.letters) a.first m.first m.covers.items) order2 → Fills [] from2 (length order2) 0
      → IsUnderway a b m width marks2 order2 from2 0
  searched_start marks marks2 order2 from2 size listed grows each fills = record {
    listed = listed;
    size = grows.size ∙ size;
    starts = each;
    closed = λ x h. absurd (omega (arith, h.1));
    placed = λ x h. placed a b m ok (length a.letters) refl a.first m.first x (starting x h);
    len = fills.len;
    came = λ k x e.
        let within = slice_get_within order2 k x e in
        inl (fills.filled k (omega arith) within, starting x (contains_at order2 k x e));
  }
    where
      starting : (x : Pair) → Contains order2 x → IsPairOf (length a.letters) a.first m.first m.covers.items x
      starting x h = elim (either (IsPairOf (length a.letters) a.first m.first m.covers.items) marks marks2 [] order2 grows x h) [
        | inl k ↦ absurd (omega (arith, k.1))
        | inr k ↦ k
      ]

  done_still : (order order2 : List Pair) → ((x : Pair) → Contains order x → Contains order2 x) → (x : Pair) → IsDone a b m order x → IsDone a b m order2 x
  done_still order order2 f x d = record {
    ends = d.ends;
    reach = d.reach;
    is_reach = d.is_reach;
    each = λ q small has. f (pair_at m d.reach q) (d.each q small has);
  }

  pub searched_turn : (marks marks2 : List Bool) (order order2 : List Pair) (from from2 : List ℕ) (done : ℕ) (x : Pair) (follow : List ℕ) (reach : ℕ)
      → IsUnderway a b m width marks order from done → done < length order → x ≡ get_or order done x
      → (Has a.last x.position → Finishes b x.set []) → IsReach m.next.items x.set reach
      → ((q : ℕ) → Has follow q ↔ Has (row a.next x.position) q) → AreListed width marks2 order2
      → Grows (IsPairOf (length a.letters) follow reach m.covers.items) marks marks2 order order2
      → HasEach (IsPairOf (length a.letters) follow reach m.covers.items) order2 → Fills from from2 (length order2) (done + 1)
      → IsUnderway a b m width marks2 order2 from2 (done + 1)
  searched_turn marks marks2 order order2 from from2 done x follow reach s small here ends is_reach after listed grows each fills = record {
    listed = listed;
    size = grows.size ∙ s.size;
    starts = λ y h. kept y (s.starts y h);
    closed = λ y h. elim (Contains-push_cases (take done order) x y (subst (λ xs. Contains xs y) firsts h)) [
      | inl k ↦ done_still order order2 kept y (s.closed y k)
      | inr e ↦ subst (IsDone a b m order2) e (record {
        ends = ends;
        reach = reach;
        is_reach = is_reach;
        each = λ q within has. each (pair_at m reach q) (q, within, (after q).1 has, refl);
      })
    ];
    placed = λ y h. elim (either (IsPairOf (length a.letters) follow reach m.covers.items) marks marks2 order order2 grows y h) [
      | inl k ↦ s.placed y k
      | inr k ↦ placed a b m ok (length a.letters) refl follow reach y k
    ];
    len = fills.len;
    came = λ k y e. came k y e (subst (λ xs. slice_get xs k ≡ Some y) grows.more.1 e) (le_or_less (length order) k);
  }
    where
      kept : (y : Pair) → Contains order y → Contains order2 y
      kept = still_has (IsPairOf (length a.letters) follow reach m.covers.items) marks marks2 order order2 grows

      got : slice_get order done ≡ Some x
      got = slice_get-get_or order done x small ∙ ap Some (sym here)

      still : (k : ℕ) (y : Pair) → slice_get order k ≡ Some y → slice_get order2 k ≡ Some y
      still k y e =
          subst (λ xs. slice_get xs k ≡ Some y) (sym grows.more.1) (get_left order grows.more.0 k (slice_get_within order k y e) ∙ e)

      step : (y : Pair) → IsPairOf (length a.letters) follow reach m.covers.items y → IsStep a m x y
      step y (q, within, has, e) = subst (IsStep a m x) (sym e) (record {
        reach = reach;
        is_reach = is_reach;
        place = within;
        follows = (after q).0 has;
        set = refl;
      })

      came : (k : ℕ) (y : Pair) → slice_get order2 k ≡ Some y → slice_get (order ++ grows.more.0) k ≡ Some y
          → (length order ≤ k) ⊎ (k < length order) → CameFrom a m order2 from2 k y
      came k y f e (inr old) =
          let number : slice_index from2 k ≡ slice_index from k = fills.kept k (omega (arith, s.len)) in
          elim (s.came k y (sym (get_left order grows.more.0 k old) ∙ e)) [
            | inl h ↦ inl (number ∙ h.0, h.1)
            | inr h ↦ inr (h.0, h.1, number ∙ h.2, h.3, still h.0 h.1 h.4, h.5)
          ]
      came k y f e (inl new) =
          let within = slice_get_within order2 k y f in
          let number : slice_index from2 k ≡ done + 1 = fills.filled k (omega (arith, s.len)) within in
          inr (done, x, number, omega arith, still done x got, step y (grows.more.2 y (get_right order grows.more.0 k y new e)))

      firsts : take (done + 1) order2 ≡ take done order ++ x ∷ []
      firsts =
          let within : done + 1 ≤ length order = omega arith in
          ap (λ xs. take (done + 1) xs) grows.more.1 ∙ take-append-le (done + 1) order grows.more.0 within
          ∙ take_more order done x small ∙ ap (λ y. take done order ++ y ∷ []) (sym here)

  pub searched_all : (marks : List Bool) (order : List Pair) (from : List ℕ) (done : ℕ) → (IsTrue a.has_empty → IsTrue b.has_empty)
      → IsUnderway a b m width marks order from done → length order ≤ done → (w : Word) → HasWord a w → HasWord b w
  searched_all marks order from done empty s past =
      each_word a b m ok order empty s.starts (λ x h. s.closed x (subst (λ xs. Contains xs x) (sym (take_all done order past)) h))

  -- where the masks meet, a word may end in the second
  pub ends_too : (x : Pair) → x.set < 2 ^ 32 → (bit_and x.set m.last ≡ 0 → ⊥) → Finishes b x.set []
  ends_too x small off =
      let k = have_common x.set m.last small off in
      let h = (ok.last k.0).0 k.2 in
      (k.0, h.0, k.1, h.1)

  -- the trail of the pair at the place
  pub trail_to : (marks : List Bool) (order : List Pair) (from : List ℕ) (done : ℕ) (x : Pair) → IsUnderway a b m width marks order from done
      → done < length order → x ≡ get_or order done x → Has a.last x.position → bit_and x.set m.last ≡ 0 → IsTrail a b order from done
  trail_to marks order from done x s small here last none = record {
    masks = m;
    are = ok;
    len = s.len;
    came = s.came;
    within = small;
    ends = λ y e.
        let same : x ≡ y = here ∙ get_or_from_slice_get order done y x e in
        subst (λ z. Has a.last z.position × (bit_and z.set m.last ≡ 0)) same (last, none);
  }
