-- Constraints over one query have one report, and a file of them one end.
use Rattle.std.proofs.Common.{◌≡◌, ◌↔◌, ℕ, Bool, true, false, List, [], ◌∷◌, refl, sym, ap, ◌∙◌}
use Rattle.std.specs.Prelude.{IsTrue, Result, Ok, Err, Option, Some}
use Rattle.std.specs.List.{AllZip, list_all}
use Rattle.edge_io.specs.Files.{FileMap}
use Rattle.command_spec.specs.Limits.{text_limit}
use Rattle.query_spec.specs.Query.{Query}
use Rattle.constraint_spec.specs.declared.Constraint.{Constraint}
use Rattle.token_reader.specs.declared.refusal.TextRefusal.TheVariants as text
use Rattle.constraints.specs.declared.refusal.ConstraintRefusal.{ConstraintRefusal}
use Rattle.constraints.specs.declared.refusal.ConstraintRefusal.TheVariants as constraints
use Rattle.constraints.specs.Constraints.{IsSettled}
use Rattle.constraints.proofs.Once.{one_answer}
use Rattle.run_report.specs.declared.status.Place.TheVariants.{At}
use Rattle.site_inputs.specs.declared.fault.Fault.{Fault}
use Rattle.site_inputs.specs.declared.fault.Fault.TheVariants.{Refused, Unread, Faulty, NotFound, NoMemory}
use Rattle.site_inputs.specs.declared.fault.Refusal.{Refusal}
use Rattle.data_source.specs.declared.numbered.NumberedFault.{NumberedFault}
use Rattle.site_inputs.specs.Runs.{FileEnds, IsDecided, Decides}
use Rattle.site_inputs.proofs.Decided.{then_decides}
use Rattle.site_inputs.proofs.DecidedInputs.{file_decides}
use Rattle.run_report.specs.declared.reports.Report.{Report}
use Rattle.constraint_report.specs.Report.{verdict_lines, IsReport}
use Rattle.command_check.specs.ConstraintFile.{constraints_told, ConstraintsTaken, ConstraintsEnd}

-- ---- the report

pub same_test : (a b : Bool) (P : Type 0) → IsTrue a ↔ P → IsTrue b ↔ P → a ≡ b
same_test true true P h k = refl
same_test true false P h k = sym (k.1 (h.0 refl))
same_test false true P h k = h.1 (k.0 refl)
same_test false false P h k = refl

module _ (P : Constraint → Type 0) where
  same_verdicts : (cs : List Constraint) (vs ws : List Bool) → AllZip (λ c met. IsTrue met ↔ P c) cs vs → AllZip (λ c met. IsTrue met ↔ P c) cs ws → vs ≡ ws
  same_verdicts [] [] [] h k = refl
  same_verdicts [] (v ∷ vs) ws h k = absurd h
  same_verdicts [] [] (w ∷ ws) h k = absurd k
  same_verdicts (c ∷ cs) [] ws h k = absurd h
  same_verdicts (c ∷ cs) (v ∷ vs) [] h k = absurd k
  same_verdicts (c ∷ cs) (v ∷ vs) (w ∷ ws) h k =
      ap (λ (x : Bool). x ∷ vs) (same_test v w (P c) h.0 k.0) ∙ ap (λ (xs : List Bool). w ∷ xs) (same_verdicts cs vs ws h.1 k.1)

  pub one_report : (cs : List Constraint) (r s : Report) → IsReport P cs r.text r.passed → IsReport P cs s.text s.passed → r ≡ s
  one_report cs r s h k =
      let same = same_verdicts cs h.verdicts k.verdicts h.decided k.decided in
      let text : r.text ≡ s.text = h.told ∙ ap (verdict_lines 1) same ∙ sym k.told in
      let all : r.passed ≡ s.passed = h.all ∙ ap (λ (vs : List Bool). list_all (λ (met : Bool). met) vs) same ∙ sym k.all in
      λ i. record { text = text i; passed = all i }

-- ---- the file

ok_is : (A E : Type 0) (a b : A) → ◌≡◌ {A = Result A E} (Ok a) (Ok b) → a ≡ b
ok_is A E a b same = cc

err_is : (A E : Type 0) (e f : E) → ◌≡◌ {A = Result A E} (Err e) (Err f) → e ≡ f
err_is A E e f same = cc

no_err : (A E : Type 0) (a : A) (e : E) → ◌≡◌ {A = Result A E} (Ok a) (Err e) → ⊥
no_err A E a e same = cc

some_is : (a b : NumberedFault) → ◌≡◌ {A = Option NumberedFault} (Some a) (Some b) → a ≡ b
some_is a b same = cc

settled : (e : ConstraintRefusal) (told : NumberedFault) → constraints_told e ≡ Some told → IsSettled (Err e)
settled (constraints.Text (text.TooLong at)) told h = tt
settled (constraints.Text (text.BadByte at)) told h = tt
settled (constraints.Text (text.OpenString at)) told h = tt
settled (constraints.Text (text.IntOutOfRange at)) told h = tt
settled (constraints.Text (text.Expected at)) told h = tt
settled (constraints.UnknownFunction at) told h = tt
settled (constraints.RootHasArguments at) told h = tt
settled (constraints.Text text.NoMemory) told h = absurd cc

module _ (query : Query) (path bytes : List ℕ) where
  abbrev refusal_of : NumberedFault → Refusal
  refusal_of told = record { file = path; number = told.number; place = At told.at }

  constraints_once : (one other : Result (List Constraint) Fault) → ConstraintsTaken query path bytes one → ConstraintsTaken query path bytes other → IsDecided one → IsDecided other → one ≡ other
  constraints_once (Ok a) (Ok b) s t _ _ = ap Ok (ok_is (List Constraint) ConstraintRefusal a b (one_answer query text_limit bytes (Ok a) (Ok b) s t tt tt))
  constraints_once (Ok a) (Err (Refused g)) s (told, is, x, r, tells) _ _ =
      absurd (no_err (List Constraint) ConstraintRefusal a x (one_answer query text_limit bytes (Ok a) (Err x) s r tt (settled x told tells)))
  constraints_once (Err (Refused f)) (Ok b) (told, is, x, r, tells) t _ _ =
      absurd (no_err (List Constraint) ConstraintRefusal b x (one_answer query text_limit bytes (Ok b) (Err x) t r tt (settled x told tells)))
  constraints_once (Err (Refused f)) (Err (Refused g)) (told, is, x, r, tells) (other, is2, y, q, tells2) _ _ =
      let refusals : x ≡ y =
      err_is (List Constraint) ConstraintRefusal x y (one_answer query text_limit bytes (Err x) (Err y) r q (settled x told tells) (settled y other tells2)) in
      let same : told ≡ other = some_is told other (sym tells ∙ ap constraints_told refusals ∙ tells2) in
      ap (λ (z : Refusal). Err (Refused z)) (is ∙ ap refusal_of same ∙ sym is2)
  constraints_once (Err (Unread p)) other s t d e = absurd d
  constraints_once (Err NoMemory) other s t d e = absurd d
  constraints_once (Err NotFound) other s t d e = absurd s
  constraints_once (Err (Faulty term kind)) other s t d e = absurd s
  constraints_once one (Err (Unread p)) s t d e = absurd e
  constraints_once one (Err NoMemory) s t d e = absurd e
  constraints_once one (Err NotFound) s t d e = absurd t
  constraints_once one (Err (Faulty term kind)) s t d e = absurd t

pub constraints_decide : (query : Query) (map : FileMap) (path : List ℕ) → Decides (ConstraintsEnd query map path)
constraints_decide query map path =
    then_decides (FileEnds text_limit map path) (ConstraintsTaken query path) (file_decides text_limit map path) (λ bytes. record { once = constraints_once query path bytes })
