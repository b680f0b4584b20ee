-- Reports that grow by a line.
use Rattle.std.proofs.Common.{◌≡◌, ◌↔◌, ℕ, suc, ◌+◌, ◌<◌, ◌≤◌, Bool, true, false, ◌&&◌, List, [], ◌∷◌, ◌++◌, length, get_or, take, refl, sym, ap, ◌∙◌, subst, arith}
use Rattle.std.specs.Prelude.{IsTrue}
use Rattle.std.specs.List.{AllZip, list_all}
use Rattle.std.proofs.lemmas.List.{take_more, take_all, append-nil, append_assoc, length-take-le}
use Rattle.constraint_spec.specs.declared.Constraint.{Constraint}
use Rattle.constraint_report.specs.Report.{verdict_line, verdict_lines, IsReport}

module _ {A B : Type 0} (R : A → B → Type 0) where
  zip_push : (xs : List A) (ys : List B) (x : A) (y : B) → AllZip R xs ys → R x y → AllZip R (xs ++ x ∷ []) (ys ++ y ∷ [])
  zip_push [] [] x y h r = (r, tt)
  zip_push [] (b ∷ ys) x y h r = absurd h
  zip_push (a ∷ xs) [] x y h r = absurd h
  zip_push (a ∷ xs) (b ∷ ys) x y h r = (h.0, zip_push xs ys x y h.1 r)

  zip_length : (xs : List A) (ys : List B) → AllZip R xs ys → length ys ≡ length xs
  zip_length [] [] h = refl
  zip_length [] (b ∷ ys) h = absurd h
  zip_length (a ∷ xs) [] h = absurd h
  zip_length (a ∷ xs) (b ∷ ys) h = ap suc (zip_length xs ys h.1)

  zip_as : (S : A → B → Type 0) → ((x : A) (y : B) → R x y → S x y) → (xs : List A) (ys : List B) → AllZip R xs ys → AllZip S xs ys
  zip_as S f [] [] h = tt
  zip_as S f [] (b ∷ ys) h = absurd h
  zip_as S f (a ∷ xs) [] h = absurd h
  zip_as S f (a ∷ xs) (b ∷ ys) h = (f a b h.0, zip_as S f xs ys h.1)

lines_push : (k : ℕ) (vs : List Bool) (met : Bool) → verdict_lines k (vs ++ met ∷ []) ≡ verdict_lines k vs ++ verdict_line (k + length vs) met
lines_push k [] met =
    let here : k ≡ k + 0 = omega arith in
    append-nil (verdict_line k met) ∙ ap (λ (n : ℕ). verdict_line n met) here
lines_push k (v ∷ vs) met =
    let here : suc k + length vs ≡ k + suc (length vs) = omega arith in
    ap (λ (z : List ℕ). verdict_line k v ++ z) (lines_push (suc k) vs met)
    ∙ sym (append_assoc (verdict_line k v) (verdict_lines (suc k) vs) (verdict_line (suc k + length vs) met))
    ∙ ap (λ (n : ℕ). (verdict_line k v ++ verdict_lines (suc k) vs) ++ verdict_line n met) here

abbrev all_true : List Bool → Bool
all_true vs = list_all (λ (met : Bool). met) vs

all_push : (vs : List Bool) (met : Bool) → all_true (vs ++ met ∷ []) ≡ (all_true vs && met)
all_push [] true = refl
all_push [] false = refl
all_push (true ∷ vs) met = all_push vs met
all_push (false ∷ vs) met = refl

module _ (P : Constraint → Type 0) where
  pub no_lines : IsReport P [] [] true
  no_lines = record { verdicts = []; decided = tt; told = refl; all = refl }

  pub one_line_more : (cs : List Constraint) (i : ℕ) (c : Constraint) (text text2 : List ℕ) (all all2 met : Bool) → i < length cs → c ≡ get_or cs i c
      → IsReport P (take i cs) text all → IsTrue met ↔ P c → text2 ≡ text ++ verdict_line (i + 1) met → all2 ≡ (all && met) → IsReport P (take (i + 1) cs) text2 all2
  one_line_more cs i c text text2 all all2 met l is r decided longer both = record {
    verdicts = r.verdicts ++ met ∷ [];
    decided = subst (λ (zs : List Constraint). AllZip (λ c met. IsTrue met ↔ P c) zs (r.verdicts ++ met ∷ [])) (sym front)
        (zip_push (λ c met. IsTrue met ↔ P c) (take i cs) r.verdicts c met r.decided decided);
    told = longer ∙ ap (λ (z : List ℕ). z ++ verdict_line (i + 1) met) r.told ∙ ap (λ (n : ℕ). verdict_lines 1 r.verdicts ++ verdict_line n met) number ∙ sym (lines_push 1 r.verdicts met);
    all = both ∙ ap (λ (b : Bool). b && met) r.all ∙ sym (all_push r.verdicts met);
  }
    where
      front : take (i + 1) cs ≡ take i cs ++ c ∷ []
      front = take_more cs i c l ∙ ap (λ (z : Constraint). take i cs ++ z ∷ []) (sym is)

      number : i + 1 ≡ 1 + length r.verdicts
      number = let n = zip_length (λ c met. IsTrue met ↔ P c) (take i cs) r.verdicts r.decided in let m = length-take-le i cs (omega arith) in omega (arith, n, m, l)

  pub all_lines : (cs : List Constraint) (i : ℕ) (text : List ℕ) (all : Bool) → length cs ≤ i → IsReport P (take i cs) text all → IsReport P cs text all
  all_lines cs i text all l r = subst (λ (zs : List Constraint). IsReport P zs text all) (take_all i cs l) r

  pub report_as : (Q : Constraint → Type 0) (cs : List Constraint) (text : List ℕ) (all : Bool) → ((c : Constraint) → P c ↔ Q c) → IsReport P cs text all → IsReport Q cs text all
  report_as Q cs text all same r = record {
    verdicts = r.verdicts;
    decided = zip_as (λ c met. IsTrue met ↔ P c) (λ c met. IsTrue met ↔ Q c) (λ c met d. (λ b. (same c).0 (d.0 b), λ q. d.1 ((same c).1 q))) cs r.verdicts r.decided;
    told = r.told;
    all = r.all;
  }
