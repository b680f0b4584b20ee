-- A text with another one in place of each of one in it.
use Rattle.std.proofs.Common.{◌≡◌, ◌++◌, ◌+◌, ◌<◌, ◌≤◌, List, ℕ, length, drop, flat_map, ◌∙◌, ap, subst, arith, Option}
use Rattle.std.specs.List.{join_by}
use Rattle.sd_value.specs.declared.Value.{Value}
use Rattle.function_spec.specs.Cuts.{AreParts}
use Rattle.function_spec.specs.Functions.{IsText, Replaced, longest}
use Rattle.text_functions.specs.Told.{Tells}
use Rattle.text_functions.proofs.Found.{parts_same, each_long, each_drop}
use Rattle.text_functions.proofs.Telling.{told_as, text_as}

module _ (u s t : List ℕ) (ps : List (List ℕ)) (h : AreParts s t ps) where
  pub replaced_none : longest + length u < length (flat_map (λ y. u ++ y) ps) → (v : Value) → Replaced ((t, s), u) v → ⊥
  replaced_none long v (qs, also, (fits, is)) =
      let same = parts_same s t qs ps also h in
      let short : length (join_by (λ y. y) u ps) ≤ longest = subst (λ l. length (join_by (λ y. y) u l) ≤ longest) same fits in
      let whole = each_long u s t ps h in
      absurd (omega (arith, whole, short, long))

  pub replaced_some : (b : List ℕ) (r : Option Value) → b ≡ join_by (λ y. y) u ps → Tells (IsText b) r → Tells (Replaced ((t, s), u)) r
  replaced_some b r e told =
      told_as r (text_as b (join_by (λ y. y) u ps) r told e) (λ v p. (ps, h, p))
      (λ v q. subst (λ l. IsText (join_by (λ y. y) u l) v) (parts_same s t q.0 ps q.1 h) q.2)

  pub made_long : (m : List ℕ) → m ≡ flat_map (λ y. u ++ y) ps → length u ≤ length m
  made_long m e = let whole = each_long u s t ps h in let same : length m ≡ length (flat_map (λ y. u ++ y) ps) = ap length e in omega arith

  pub made_rest : (m b : List ℕ) → m ≡ flat_map (λ y. u ++ y) ps → b ≡ drop (length u) m → b ≡ join_by (λ y. y) u ps
  made_rest m b e d = d ∙ ap (drop (length u)) e ∙ each_drop u s t ps h
