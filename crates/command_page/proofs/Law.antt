-- The inputs decide one page.
use Rattle.std.proofs.Common.{◌≡◌, ℕ, List, inl, inr, sym, ap, ◌∙◌}
use Rattle.std.specs.Prelude.{Result}
use Rattle.edge_io.specs.Files.{FileMap}
use Rattle.page_spec.proofs.Addresses.{term_of_unique}
use Rattle.page_spec.proofs.Texts.{outcome_unique}
use Rattle.site_spec.specs.Root.{root_function}
use Rattle.command_spec.specs.declared.PageCommand.{PageCommand}
use Rattle.site_inputs.specs.declared.fault.Fault.{Fault}
use Rattle.site_inputs.specs.Runs.{IsDecided, Decides}
use Rattle.site_inputs.specs.Sites.{Inputs, InputsEnd, site_at}
use Rattle.site_inputs.proofs.Decided.{then_decides, no_memory}
use Rattle.site_inputs.proofs.DecidedInputs.{inputs_decide}
use Rattle.command_page.specs.Ends.{answer_of, PageTaken, PageEnds}

module _ (s : Inputs) (address : List ℕ) where
  page_once : (one other : Result (List ℕ) Fault) → PageTaken s address one → PageTaken s address other → IsDecided one → IsDecided other → one ≡ other
  page_once one other (inl a) (inl b) d e =
      let terms : b.term ≡ a.term = term_of_unique (root_function s.query) address b.term a.term b.named a.named in
      let outcomes : a.its ≡ b.its = outcome_unique (site_at s) s.templates a.term a.its b.its a.is_its (rw terms at b.is_its) in
      a.is ∙ ap (λ o. answer_of a.term o) outcomes ∙ ap (λ t. answer_of t b.its) (sym terms) ∙ sym b.is
  page_once one other (inl a) (inr (inl b)) d e = absurd (b.none a.term a.named)
  page_once one other (inl a) (inr (inr b)) d e = absurd (no_memory other b e)
  page_once one other (inr (inl a)) (inl b) d e = absurd (a.none b.term b.named)
  page_once one other (inr (inl a)) (inr (inl b)) d e = a.is ∙ sym b.is
  page_once one other (inr (inl a)) (inr (inr b)) d e = absurd (no_memory other b e)
  page_once one other (inr (inr a)) b d e = absurd (no_memory one a d)

pub page_decides : (map : FileMap) (command : PageCommand) → Decides (PageEnds map command)
page_decides map command =
    then_decides (InputsEnd map command.sources command.over command.query command.templates) (λ s. PageTaken s command.address)
    (inputs_decide map command.sources command.over command.query command.templates) (λ s. record { once = page_once s command.address })
