-- The command `page`: the text of the page at an address.
use Rattle.std.specs.Prelude.{◌≡◌, ◌⊎◌, ℕ, List, Result, Ok, Err}
use Rattle.sd_value.specs.declared.Term.{Term}
use Rattle.edge_io.specs.Files.{FileMap}
use Rattle.site_spec.specs.Root.{root_function}
use Rattle.page_spec.specs.Address.{TermOf}
use Rattle.page_spec.specs.Page.{IsOutcome}
use Rattle.page_spec.specs.declared.Outcome.{Outcome}
use Rattle.page_spec.specs.declared.Outcome.TheVariants as outcome
use Rattle.run_report.specs.declared.status.PageKind.TheVariants.{Cyclic, TooLong}
use Rattle.command_spec.specs.declared.PageCommand.{PageCommand}
use Rattle.site_inputs.specs.declared.fault.Fault.{Fault}
use Rattle.site_inputs.specs.declared.fault.Fault.TheVariants.{Faulty, NotFound, NoMemory}
use Rattle.site_inputs.specs.Runs.{Then}
use Rattle.site_inputs.specs.Sites.{Inputs, InputsEnd, site_at}

-- what an outcome of a term's page is answered
abbrev pub answer_of : Term → Outcome → Result (List ℕ) Fault
answer_of t (outcome.Page text) = Ok text
answer_of t outcome.Missing = Err NotFound
answer_of t (outcome.Cyclic value) = Err (Faulty t (Cyclic value))
answer_of t outcome.TooLong = Err (Faulty t TooLong)

-- the term that the address names has this answer
pub record IsPageAnswer (s : Inputs) (address : List ℕ) (answer : Result (List ℕ) Fault) : Type 0 where
  pub term : Term
  pub named : TermOf (root_function s.query) address term
  pub its : Outcome
  pub is_its : IsOutcome (site_at s) s.templates term its
  pub is : answer ≡ answer_of term its

-- the address names no term
pub record IsNoTerm (s : Inputs) (address : List ℕ) (answer : Result (List ℕ) Fault) : Type 0 where
  pub none : (t : Term) → TermOf (root_function s.query) address t → ⊥
  pub is : answer ≡ Err NotFound

-- How a page ends: by the outcome of its term in the whole site, not found where the address names none, or because memory ran
-- out.
abbrev pub PageTaken : Inputs → List ℕ → Result (List ℕ) Fault → Type 0
PageTaken s address answer =
    IsPageAnswer s address answer ⊎ (IsNoTerm s address answer ⊎ (answer ≡ Err NoMemory))

-- How the command ends: the inputs are read, and then the page is taken from their site.
abbrev pub PageEnds : FileMap → PageCommand → Result (List ℕ) Fault → Type 0
PageEnds map command =
    Then (InputsEnd map command.sources command.over command.query command.templates)
    (λ s. PageTaken s command.address)
