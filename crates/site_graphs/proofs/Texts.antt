-- Whether a test of two texts holds.
use Rattle.std.proofs.Common.{◌≡◌, ℕ, List, [], ◌∷◌, ◌++◌, refl, ap, subst}
use Rattle.std.specs.Prelude.{◌⊎◌, Option, Some, None}
use Rattle.std.proofs.Common.{inl, inr}
use Rattle.sd_value.specs.Order.{bytes_cmp}
use Rattle.sd_value.specs.OrderLaws.{bytes_cmp-total, bytes_cmp-exact}
use Rattle.value_texts.specs.declared.TextTest.{TextTest}
use Rattle.value_texts.specs.declared.TextTest.TheVariants.{Starts, Ends, Has}
use Rattle.value_texts.specs.Texts.{TextHolds}
use Rattle.site_graphs.proofs.Decide.{Dec, yes, no, dec_as, dec_both, dec_either, dec_same, dec_nat}

same_text : (a b : List ℕ) → Dec (a ≡ b)
same_text = dec_same bytes_cmp bytes_cmp-total bytes_cmp-exact

dec_starts : (text part : List ℕ) → Dec (TextHolds Starts text part)
dec_starts text [] = yes (text, refl)
dec_starts [] (p ∷ part) = no (λ h. let e = h.1 in cc)
dec_starts (t ∷ text) (p ∷ part) =
    dec_as (λ h. (h.1.0, λ i. h.0 i ∷ h.1.1 i))
    (λ h. (first h.0 h.1, (h.0, rest h.0 h.1)))
    (dec_both (dec_nat t p) (dec_starts text part))
  where
    first : (after : List ℕ) → t ∷ text ≡ (p ∷ part) ++ after → t ≡ p
    first after e = cc

    rest : (after : List ℕ) → t ∷ text ≡ (p ∷ part) ++ after → text ≡ part ++ after
    rest after e = cc

dec_ends : (text part : List ℕ) → Dec (TextHolds Ends text part)
dec_ends [] part = dec_as (λ e. ([], e)) (λ h. none h.0 h.1) (same_text [] part)
  where
    none : (before : List ℕ) → [] ≡ before ++ part → [] ≡ part
    none [] e = e
    none (b ∷ before) e = absurd cc
dec_ends (t ∷ text) part = dec_as to (λ h. from h.0 h.1) (dec_either (same_text (t ∷ text) part) (dec_ends text part))
  where
    to : (t ∷ text ≡ part) ⊎ TextHolds Ends text part → TextHolds Ends (t ∷ text) part
    to (inl e) = ([], e)
    to (inr h) = (t ∷ h.0, ap (λ l. t ∷ l) h.1)

    from : (before : List ℕ) → t ∷ text ≡ before ++ part → (t ∷ text ≡ part) ⊎ TextHolds Ends text part
    from [] e = inl e
    from (b ∷ before) e = inr (before, let tails : text ≡ before ++ part = cc in tails)

dec_has : (text part : List ℕ) → Dec (TextHolds Has text part)
dec_has [] part = dec_as (λ h. ([], h.0, h.1)) (λ h. none h.0 h.1 h.2) (dec_starts [] part)
  where
    none : (before after : List ℕ) → [] ≡ before ++ (part ++ after) → TextHolds Starts [] part
    none [] after e = (after, e)
    none (b ∷ before) after e = absurd cc
dec_has (t ∷ text) part = dec_as to (λ h. from h.0 h.1 h.2) (dec_either (dec_starts (t ∷ text) part) (dec_has text part))
  where
    to : TextHolds Starts (t ∷ text) part ⊎ TextHolds Has text part → TextHolds Has (t ∷ text) part
    to (inl h) = ([], h.0, h.1)
    to (inr h) = (t ∷ h.0, h.1, ap (λ l. t ∷ l) h.2)

    from : (before after : List ℕ) → t ∷ text ≡ before ++ (part ++ after) → TextHolds Starts (t ∷ text) part ⊎ TextHolds Has text part
    from [] after e = inl (after, e)
    from (b ∷ before) after e = inr (before, after, let tails : text ≡ before ++ (part ++ after) = cc in tails)

dec_text : (test : TextTest) (text part : List ℕ) → Dec (TextHolds test text part)
dec_text Starts text part = dec_starts text part
dec_text Ends text part = dec_ends text part
dec_text Has text part = dec_has text part

-- both are there, and the test holds of them
pub dec_texts : (test : TextTest) (a b : Option (List ℕ))
    → Dec ((text part : List ℕ) × (a ≡ Some text) × (b ≡ Some part) × TextHolds test text part)
dec_texts test None b = no (λ h. let e = h.2 in cc)
dec_texts test (Some s) None = no (λ h. let e = h.3 in cc)
dec_texts test (Some s) (Some p) = dec_as (λ h. (s, p, refl, refl, h)) (λ h. from h.0 h.1 h.2 h.3 h.4) (dec_text test s p)
  where
    from : (text part : List ℕ) → Some s ≡ Some text → Some p ≡ Some part → TextHolds test text part → TextHolds test s p
    from text part e f h =
        let same : text ≡ s = cc in let one : part ≡ p = cc in
        subst (λ z. TextHolds test s z) one (subst (λ z. TextHolds test z part) same h)
