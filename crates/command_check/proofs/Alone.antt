-- A report of one constraint alone.
use Rattle.std.proofs.Common.{◌≡◌, ◌↔◌, ℕ, List, [], ◌∷◌, Bool, true, false, refl, sym, ap, ◌∙◌, subst}
use Rattle.std.specs.Prelude.{IsTrue}
use Rattle.std.specs.List.{AllZip, list_all}
use Rattle.constraint_spec.specs.declared.Constraint.{Constraint}
use Rattle.constraint_report.specs.Report.{IsReport, verdict_lines}

and_true : (b : Bool) → list_all (λ (met : Bool). met) (b ∷ []) ≡ b
and_true true = refl
and_true false = refl

module _ (P : Constraint → Type 0) (c : Constraint) where
  one_verdict : (verdicts : List Bool) (all : Bool) → AllZip (λ c met. IsTrue met ↔ P c) (c ∷ []) verdicts → all ≡ list_all (λ (met : Bool). met) verdicts → IsTrue all ↔ P c
  one_verdict [] all d e = absurd d
  one_verdict (b ∷ []) all d e = subst (λ (x : Bool). IsTrue x ↔ P c) (sym (e ∙ and_true b)) d.0
  one_verdict (b ∷ b2 ∷ bs) all d e = absurd d.1

  -- all constraints of the report are met exactly where the one is
  pub alone : (cs : List Constraint) (text : List ℕ) (all : Bool) → cs ≡ c ∷ [] → IsReport P cs text all → IsTrue all ↔ P c
  alone cs text all e r = one_verdict r.verdicts all (subst (λ (l : List Constraint). AllZip (λ c met. IsTrue met ↔ P c) l r.verdicts) e r.decided) r.all
