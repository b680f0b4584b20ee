-- The lines of one mention less.
use Rattle.std.proofs.Common.{◌≡◌, ℕ, suc, ◌+◌, ◌<◌, ◌≤◌, List, [], ◌∷◌, ◌++◌, length, map, drop, get_or, refl, sym, ap, ◌∙◌, arith, append_assoc, length-drop, drop-cons, add-one}
use Rattle.std.proofs.lemmas.List.{append-nil}
use Rattle.query_spec.specs.declared.Variable.{Variable}
use Rattle.constraint_spec.specs.Use.{LinkUse}
use Rattle.certificate_text.specs.declared.terms.WrittenTerm.{WrittenTerm}
use Rattle.certificate_text.specs.Lines.{PlacedTerm, proof_line, proof_lines}
use Rattle.certificate_text.specs.Written.{placed_of}

abbrev left : List (List Variable) → List WrittenTerm → List (List LinkUse) → ℕ → List ℕ
left all ms ps i = proof_lines all (map placed_of (drop i ms)) (drop i ps)

left_is : (all : List (List Variable)) (ms : List WrittenTerm) (ps : List (List LinkUse)) (i : ℕ) (m : WrittenTerm) (p : List LinkUse) → i < length ms → i < length ps → m ≡ get_or ms i m → p ≡ get_or ps i p
    → left all ms ps i ≡ proof_line all (placed_of m) p ++ left all ms ps (i + 1)
left_is all ms ps i m p long longer here there =
    let ds : drop i ms ≡ m ∷ drop (suc i) ms = drop-cons ms i m long ∙ ap (λ (x : WrittenTerm). x ∷ drop (suc i) ms) (sym here) in
    let es : drop i ps ≡ p ∷ drop (suc i) ps = drop-cons ps i p longer ∙ ap (λ (x : List LinkUse). x ∷ drop (suc i) ps) (sym there) in
    rw (ds, es, add-one) refl

-- one line less is left
pub line_less : (all : List (List Variable)) (ms : List WrittenTerm) (ps : List (List LinkUse)) (i : ℕ) (m : WrittenTerm) (p : List LinkUse) (whole out new : List ℕ) → i < length ms → i < length ps → m ≡ get_or ms i m → p ≡ get_or ps i p
    → out ++ left all ms ps i ≡ whole → new ≡ out ++ proof_line all (placed_of m) p
    → new ++ left all ms ps (i + 1) ≡ whole
line_less all ms ps i m p whole out new long longer here there so_far more =
    ap (λ x. x ++ left all ms ps (i + 1)) more ∙ (append_assoc out (proof_line all (placed_of m) p) (left all ms ps (i + 1))
    ∙ (ap (λ x. out ++ x) (sym (left_is all ms ps i m p long longer here there)) ∙ so_far))

none_left : (all : List (List Variable)) (ms : List PlacedTerm) (ps : List (List LinkUse)) → (length ms ≡ 0 → proof_lines all ms ps ≡ []) × (length ps ≡ 0 → proof_lines all ms ps ≡ [])
none_left all [] [] = (λ _. refl, λ _. refl)
none_left all [] (p ∷ ps) = (λ _. refl, λ _. refl)
none_left all (m ∷ ms) [] = (λ _. refl, λ _. refl)
none_left all (m ∷ ms) (p ∷ ps) = (λ e. absurd (omega (arith, e)), λ e. absurd (omega (arith, e)))

-- nor behind the last proof
pub proofs_end : (all : List (List Variable)) (ms : List WrittenTerm) (ps : List (List LinkUse)) (i : ℕ) (out whole : List ℕ) → length ps ≤ i → out ++ left all ms ps i ≡ whole → out ≡ whole
proofs_end all ms ps i out whole long so_far =
    let none : length (drop i ps) ≡ 0 = omega (arith, length-drop {A = List LinkUse}) in
    sym (ap (λ x. out ++ x) ((none_left all (map placed_of (drop i ms)) (drop i ps)).1 none) ∙ append-nil out) ∙ so_far
