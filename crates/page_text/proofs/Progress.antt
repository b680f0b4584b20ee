-- What is still to be written, and that it ends.
use Rattle.std.proofs.Common.{◌≡◌, ◌⊎◌, ℕ, zero, suc, ◌+◌, ◌<◌, ◌≤◌, List, [], ◌∷◌, ◌++◌, length, get_or, take, drop, inl, inr, sym, ap, ◌∙◌, refl, subst, arith, append_assoc, append-nil, length-append, add-one, length-take}
use Rattle.std.specs.Prelude.{All, flat_map}
use Rattle.std.proofs.Math.Seq.{drop-cons}
use Rattle.std.proofs.lemmas.List.Elements.{All-nil, All-head, All-tail, All-drop}
use Rattle.page_spec.specs.declared.TheConstants.{PAGE_LIMIT}
use Rattle.page_text.specs.declared.draft.Draft.{Draft}
use Rattle.page_text.specs.declared.draft.Fragment.{Fragment}
use Rattle.page_text.specs.declared.draft.Fragment.TheVariants.{Stretch, Whole}
use Rattle.page_text.specs.declared.writing.Cursor.{Cursor}
use Rattle.page_text.specs.Texts.{text_at, fragment_text, IsBefore, AreTexts}
use Rattle.page_text.specs.Places.{fragments_at, after, after_all, steps, steps_of, steps_after, steps_after_all}
use Rattle.page_text.proofs.Drafts.{draft_at, before_more}

-- ---- fragments of a text

pub fragments_get : (ds : List Draft) (i : ℕ) (d : Draft) → i < length ds → d ≡ get_or ds i d → fragments_at ds i ≡ d.fragments.items
fragments_get [] i d lt is = absurd (omega (arith, lt))
fragments_get (e ∷ ds) zero d lt is = ap (λ (x : Draft). x.fragments.items) (sym is)
fragments_get (e ∷ ds) (suc i) d lt is = fragments_get ds i d (omega (arith, lt)) is

draft_there : (ds : List Draft) (i : ℕ) → (length ds ≤ i) ⊎ ((i < length ds) × ((d : Draft) × (d ≡ get_or ds i d)))
draft_there [] i = inl (omega arith)
draft_there (d ∷ ds) zero = inr (omega arith, (d, refl))
draft_there (d ∷ ds) (suc i) = by_rest (draft_there ds i)
  where
    by_rest : (length ds ≤ i) ⊎ ((i < length ds) × ((e : Draft) × (e ≡ get_or ds i e))) → (length (d ∷ ds) ≤ suc i) ⊎ ((suc i < length (d ∷ ds)) × ((e : Draft) × (e ≡ get_or (d ∷ ds) (suc i) e)))
    by_rest (inl h) = inl (omega (arith, h))
    by_rest (inr h) = inr (omega (arith, h.0), h.1)

no_fragments : (ds : List Draft) (i : ℕ) → length ds ≤ i → fragments_at ds i ≡ []
no_fragments [] i le = refl
no_fragments (d ∷ ds) zero le = absurd (omega (arith, le))
no_fragments (d ∷ ds) (suc i) le = no_fragments ds i (omega (arith, le))

-- each text has parts of texts before it alone
abbrev pub Ordered : List Draft → Type 0
Ordered ds = (i : ℕ) → All (IsBefore i) (fragments_at ds i)

pub ordered : (ds : List Draft) (ts : List (List ℕ)) → AreTexts ds ts → Ordered ds
ordered ds ts all i = by_place (draft_there ds i)
  where
    by_place : (length ds ≤ i) ⊎ ((i < length ds) × ((d : Draft) × (d ≡ get_or ds i d))) → All (IsBefore i) (fragments_at ds i)
    by_place (inl le) = subst (All (IsBefore i)) (sym (no_fragments ds i le)) (All-nil (IsBefore i))
    by_place (inr (lt, (d, is))) =
        let small : length (take i ts) ≤ i = omega (arith, length-take i ts) in
        subst (All (IsBefore i)) (sym (fragments_get ds i d lt is)) (before_more (length (take i ts)) i small d.fragments.items (all.drafts i d lt is).before)

pub whole_after : (ds : List Draft) (ts : List (List ℕ)) (k : ℕ) → AreTexts ds ts → k < length ds → length (text_at ts k) ≤ PAGE_LIMIT → flat_map (fragment_text ts) (fragments_at ds k) ≡ text_at ts k
whole_after ds ts k all lt short = by_place (draft_there ds k)
  where
    by_place : (length ds ≤ k) ⊎ ((k < length ds) × ((d : Draft) × (d ≡ get_or ds k d))) → flat_map (fragment_text ts) (fragments_at ds k) ≡ text_at ts k
    by_place (inl le) = absurd (omega (arith, le, lt))
    by_place (inr (l, (d, is))) = ap (flat_map (fragment_text ts)) (fragments_get ds k d l is) ∙ sym ((draft_at ds ts k d all l is).parts short)

pub next_before : (ds : List Draft) (n at k : ℕ) (fs : List Fragment) → Ordered ds → drop at (fragments_at ds n) ≡ Whole k ∷ fs → k < n
next_before ds n at k fs o e = All-head (IsBefore n) (Whole k) fs (subst (All (IsBefore n)) e (All-drop (IsBefore n) at (fragments_at ds n) (o n)))

-- ---- the stack

pub after_push : (ts : List (List ℕ)) (ds : List Draft) (ps : List Cursor) (p : Cursor) → after_all ts ds (ps ++ p ∷ []) ≡ after ts ds p ++ after_all ts ds ps
after_push ts ds [] p = sym (append-nil (after ts ds p))
after_push ts ds (q ∷ ps) p = ap (λ z. z ++ after ts ds q) (after_push ts ds ps p) ∙ append_assoc (after ts ds p) (after_all ts ds ps) (after ts ds q)

pub steps_push : (ds : List Draft) (ps : List Cursor) (p : Cursor) → steps_after_all ds (ps ++ p ∷ []) ≡ steps_after_all ds ps + steps_after ds p
steps_push ds [] p = omega arith
steps_push ds (q ∷ ps) p = omega (arith, steps_push ds ps p)

-- ---- the steps

steps_same : (c e : ℕ → ℕ) (n : ℕ) (fs : List Fragment) → All (IsBefore n) fs → ((k : ℕ) → k < n → c k ≡ e k) → steps c fs ≡ steps e fs
steps_same c e n [] all same = refl
steps_same c e n (Stretch t ∷ fs) all same = ap (λ z. 1 + z) (steps_same c e n fs (All-tail (IsBefore n) (Stretch t) fs all) same)
steps_same c e n (Whole k ∷ fs) all same =
    rw (same k (All-head (IsBefore n) (Whole k) fs all), steps_same c e n fs (All-tail (IsBefore n) (Whole k) fs all) same) refl

-- as many for each greater depth
pub steps_stable : (ds : List Draft) → Ordered ds → (h g k : ℕ) → k < h → k < g → steps_of ds h k ≡ steps_of ds g k
steps_stable ds o zero g k lt lt' = absurd (omega (arith, lt))
steps_stable ds o (suc h) zero k lt lt' = absurd (omega (arith, lt'))
steps_stable ds o (suc h) (suc g) k lt lt' =
    ap (λ z. 1 + z) (steps_same (steps_of ds h) (steps_of ds g) k (fragments_at ds k) (o k) (λ j l. steps_stable ds o h g j (omega (arith, l, lt)) (omega (arith, l, lt'))))

pub entering_steps : (ds : List Draft) (n at k : ℕ) (fs : List Fragment) → Ordered ds → drop at (fragments_at ds n) ≡ Whole k ∷ fs → steps_after ds record { number = k; at = 0 } ≡ steps_of ds n k
entering_steps ds n at k fs o e = steps_stable ds o (suc k) n k (omega arith) (next_before ds n at k fs o e)

pub next_step : (fs : List Fragment) (i : ℕ) (x : Fragment) → i < length fs → x ≡ get_or fs i x → drop i fs ≡ x ∷ drop (i + 1) fs
next_step fs i x lt is = drop-cons fs i x lt ∙ ap (λ z. z ∷ drop (suc i) fs) (sym is) ∙ ap (λ j. x ∷ drop j fs) (sym (add-one i))

part_short : (a b c d t : List ℕ) → a ++ ((b ++ c) ++ d) ≡ t → length t ≤ PAGE_LIMIT → length b ≤ PAGE_LIMIT
part_short a b c d t e short = omega (arith, ap length e, length-append a ((b ++ c) ++ d), length-append (b ++ c) d, length-append b c, short)

pub entered : (ts : List (List ℕ)) (ds : List Draft) (out : List ℕ) (n at k : ℕ) (ps : List Cursor) (t : List ℕ) → AreTexts ds ts → k < length ds
    → drop at (fragments_at ds n) ≡ Whole k ∷ drop (at + 1) (fragments_at ds n)
    → out ++ (after ts ds record { number = n; at = at } ++ after_all ts ds ps) ≡ t → length t ≤ PAGE_LIMIT
    → out ++ (after ts ds record { number = k; at = 0 } ++ after_all ts ds (ps ++ record { number = n; at = at + 1 } ∷ [])) ≡ t
entered ts ds out n at k ps t all there e rest short =
    let p : Cursor = record { number = n; at = at + 1 } in
    let whole : List ℕ = text_at ts k in
    let now : after ts ds record { number = n; at = at } ≡ whole ++ after ts ds p = ap (flat_map (fragment_text ts)) e in
    let rest' : out ++ ((whole ++ after ts ds p) ++ after_all ts ds ps) ≡ t = ap (λ z. out ++ (z ++ after_all ts ds ps)) (sym now) ∙ rest in
    let inner : after ts ds record { number = k; at = 0 } ≡ whole = whole_after ds ts k all there (part_short out whole (after ts ds p) (after_all ts ds ps) t rest' short) in
    ap (λ z. out ++ (z ++ after_all ts ds (ps ++ p ∷ []))) inner
    ∙ ap (λ z. out ++ (whole ++ z)) (after_push ts ds ps p)
    ∙ ap (λ z. out ++ z) (sym (append_assoc whole (after ts ds p) (after_all ts ds ps)))
    ∙ rest'

pub left_again : (ts : List (List ℕ)) (ds : List Draft) (out : List ℕ) (top p : Cursor) (qs ps : List Cursor) (t : List ℕ)
    → drop top.at (fragments_at ds top.number) ≡ [] → qs ≡ ps ++ p ∷ []
    → out ++ (after ts ds top ++ after_all ts ds qs) ≡ t → out ++ (after ts ds p ++ after_all ts ds ps) ≡ t
left_again ts ds out top p qs ps t e popped rest =
    let none : after ts ds top ≡ [] = ap (flat_map (fragment_text ts)) e in
    ap (λ z. out ++ z) (sym (ap (after_all ts ds) popped ∙ after_push ts ds ps p)) ∙ ap (λ z. out ++ (z ++ after_all ts ds qs)) (sym none) ∙ rest
