-- Drafts and the texts before them.
use Rattle.std.proofs.Common.{◌≡◌, ◌⊎◌, ℕ, ◌<◌, ◌≤◌, List, [], ◌∷◌, ◌++◌, length, get_or, take, drop, inl, inr, sym, ap, ◌∙◌, refl, subst, arith, length-append}
use Rattle.std.specs.Prelude.{All, flat_map}
use Rattle.std.proofs.lemmas.Bool.{cases_order}
use Rattle.std.proofs.lemmas.List.{get_or_append_left, take-append-le, take-append-drop}
use Rattle.std.proofs.Math.Seq.{get_or-append_seam, take-append_seam}
use Rattle.std.proofs.lemmas.List.Elements.{All-head, All-tail, All-weaker}
use Rattle.page_text.specs.declared.draft.Draft.{Draft}
use Rattle.page_text.specs.declared.draft.Numbered.{Numbered}
use Rattle.page_text.specs.declared.draft.Fragment.{Fragment}
use Rattle.page_text.specs.declared.draft.Fragment.TheVariants.{Stretch, Whole}
use Rattle.page_text.specs.Texts.{text_at, fragment_text, IsBefore, Measures, IsDraft, AreTexts, IsNumbered, Keeps}

-- ---- more texts

before_one : (n m : ℕ) → n ≤ m → (x : Fragment) → IsBefore n x → IsBefore m x
before_one n m le (Stretch t) h = h
before_one n m le (Whole k) h = omega (arith, h, le)

pub before_more : (n m : ℕ) → n ≤ m → (fs : List Fragment) → All (IsBefore n) fs → All (IsBefore m) fs
before_more n m le fs all = All-weaker (IsBefore n) (IsBefore m) (before_one n m le) fs all

fragment_more : (ts us : List (List ℕ)) (x : Fragment) → IsBefore (length ts) x → fragment_text (ts ++ us) x ≡ fragment_text ts x
fragment_more ts us (Stretch t) h = refl
fragment_more ts us (Whole k) h = get_or_append_left ts us [] k h

fragments_more : (ts us : List (List ℕ)) (fs : List Fragment) → All (IsBefore (length ts)) fs → flat_map (fragment_text (ts ++ us)) fs ≡ flat_map (fragment_text ts) fs
fragments_more ts us [] all = refl
fragments_more ts us (x ∷ fs) all =
    rw (fragment_more ts us x (All-head (IsBefore (length ts)) x fs all), fragments_more ts us fs (All-tail (IsBefore (length ts)) x fs all)) refl

pub draft_more : (ts us : List (List ℕ)) (d : Draft) (t : List ℕ) → IsDraft ts d t → IsDraft (ts ++ us) d t
draft_more ts us d t h = record {
  before = before_more (length ts) (length (ts ++ us)) (omega (arith, length-append ts us)) d.fragments.items h.before;
  measured = h.measured;
  parts = λ short. h.parts short ∙ sym (fragments_more ts us d.fragments.items h.before);
}

pub numbered_more : (ts us : List (List ℕ)) (n : Numbered) (t : List ℕ) → IsNumbered ts n t → IsNumbered (ts ++ us) n t
numbered_more ts us n t h = record {
  there = omega (arith, length-append ts us, h.there);
  text = get_or_append_left ts us [] n.number h.there ∙ h.text;
  measured = h.measured;
}

-- ---- the drafts of texts

pub draft_at : (ds : List Draft) (ts : List (List ℕ)) (i : ℕ) (d : Draft) → AreTexts ds ts → i < length ds → d ≡ get_or ds i d → IsDraft ts d (text_at ts i)
draft_at ds ts i d all lt is =
    subst (λ (us : List (List ℕ)). IsDraft us d (text_at ts i)) (take-append-drop i ts) (draft_more (take i ts) (drop i ts) d (text_at ts i) (all.drafts i d lt is))

pub texts_push : (ds : List Draft) (ts : List (List ℕ)) (d : Draft) (t : List ℕ) → AreTexts ds ts → IsDraft ts d t → AreTexts (ds ++ d ∷ []) (ts ++ t ∷ [])
texts_push ds ts d t all h = record {
  one_each = omega (arith, length-append ts (t ∷ []), length-append ds (d ∷ []), all.one_each);
  drafts = λ i e lt is. by_order i e lt is (cases_order i (length ds));
}
  where
    old : (i : ℕ) (e : Draft) → i < length ds → e ≡ get_or (ds ++ d ∷ []) i e → IsDraft (take i (ts ++ t ∷ [])) e (text_at (ts ++ t ∷ []) i)
    old i e lt is =
        let small : i < length ts = omega (arith, all.one_each, lt) in
        let front : take i (ts ++ t ∷ []) ≡ take i ts = take-append-le i ts (t ∷ []) (omega (arith, small)) in
        let text : text_at (ts ++ t ∷ []) i ≡ text_at ts i = get_or_append_left ts (t ∷ []) [] i small in
        subst (λ (us : List (List ℕ)). IsDraft us e (text_at (ts ++ t ∷ []) i)) (sym front)
        (subst (IsDraft (take i ts) e) (sym text) (all.drafts i e lt (is ∙ get_or_append_left ds (d ∷ []) e i lt)))

    last : (i : ℕ) (e : Draft) → i ≡ length ds → e ≡ get_or (ds ++ d ∷ []) i e → IsDraft (take i (ts ++ t ∷ [])) e (text_at (ts ++ t ∷ []) i)
    last i e eq is =
        let at : i ≡ length ts = eq ∙ sym all.one_each in
        let same : e ≡ d = is ∙ ap (λ j. get_or (ds ++ d ∷ []) j e) eq ∙ get_or-append_seam ds d [] e in
        let front : take i (ts ++ t ∷ []) ≡ ts = ap (λ j. take j (ts ++ t ∷ [])) at ∙ take-append_seam ts (t ∷ []) in
        let text : text_at (ts ++ t ∷ []) i ≡ t = ap (text_at (ts ++ t ∷ [])) at ∙ get_or-append_seam ts t [] [] in
        subst (λ (us : List (List ℕ)). IsDraft us e (text_at (ts ++ t ∷ []) i)) (sym front)
        (subst (IsDraft ts e) (sym text) (subst (λ x. IsDraft ts x t) (sym same) h))

    by_order : (i : ℕ) (e : Draft) → i < length (ds ++ d ∷ []) → e ≡ get_or (ds ++ d ∷ []) i e → (i ≡ length ds) ⊎ ((i < length ds) ⊎ (length ds < i)) → IsDraft (take i (ts ++ t ∷ [])) e (text_at (ts ++ t ∷ []) i)
    by_order i e lt is (inl eq) = last i e eq is
    by_order i e lt is (inr (inl small)) = old i e small is
    by_order i e lt is (inr (inr big)) = absurd (omega (arith, length-append ds (d ∷ []), lt, big))

pub keeps_new : (ds : List Draft) (ts : List (List ℕ)) (d : Draft) (t : List ℕ) (n : Numbered) → AreTexts ds ts → IsDraft ts d t → n.number ≡ length ds → n.size ≡ d.size → Keeps ts t (ds ++ d ∷ []) n
keeps_new ds ts d t n all h at size = (
  t ∷ [],
  texts_push ds ts d t all h,
  record {
    there = omega (arith, length-append ts (t ∷ []), at, all.one_each);
    text = ap (text_at (ts ++ t ∷ [])) (at ∙ sym all.one_each) ∙ get_or-append_seam ts t [] [];
    measured = subst (λ m. Measures m t) (sym size) h.measured;
  },
)
