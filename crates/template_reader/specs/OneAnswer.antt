-- What it means that a file of templates has one answer.
use Rattle.std.specs.Prelude.{◌≡◌, ℕ, List, Result}
use Rattle.tmpl.specs.Body.{TemplateFile}
use Rattle.template_layouts.specs.declared.refusal.TmplRefusal.{TmplRefusal}
use Rattle.template_reader.specs.Faults.{IsTemplatesAnswer}

-- two answers to the same bytes are equal
abbrev pub HasOneAnswer : ℕ → List ℕ → Type 0
HasOneAnswer limit bytes =
    (r s : Result TemplateFile TmplRefusal) → IsTemplatesAnswer limit bytes r → IsTemplatesAnswer limit bytes s
    → r ≡ s
