-- Names and numbers of variables in a second copy.
use Rattle.std.proofs.Common.{◌≡◌, ℕ, ◌+◌, List, ◌++◌, sym, ap, ◌∙◌}
use Rattle.std.specs.Prelude.{Bool, codes, if◌then◌else◌}
use Rattle.std.specs.Borrow.{Bor}
use Rattle.std.specs.List.{list_any}
use Rattle.sd_value.specs.Names.{Name}
use Rattle.struql_ast.specs.declared.Operand.{Operand}
use Rattle.struql_ast.specs.Reading.{operand_of}
use Rattle.counterexample_spec.specs.Values.{is_variable, name_in, number_in}
use Rattle.refute_site.specs.declared.freezing.ChainCopy.{ChainCopy}
use Rattle.refute_site.specs.declared.freezing.ChainCopy.TheVariants.{Second}
use Rattle.refute_site.specs.Patterns.{copy_of}
use Rattle.refute_site.proofs.Found.{any_mapped}

module _ (copy : ChainCopy) (shared : Bor (List Operand)) (x : Name) (among b : Bool) (is : copy ≡ Second shared) (e : among ≡ list_any (λ o. is_variable x (operand_of o)) shared.now) (f : among ≡ b) where
  pub name_by : name_in (copy_of copy) x ≡ (if b then x else x ++ codes "_2")
  name_by =
      ap (λ (c : ChainCopy). name_in (copy_of c) x) is
      ∙ ap (λ (b : Bool). if b then x else x ++ codes "_2") (any_mapped (is_variable x) operand_of shared.now ∙ sym e ∙ f)

  pub number_by : (i : ℕ) → number_in (copy_of copy) x i ≡ (if b then i else i + 32)
  number_by i =
      ap (λ (c : ChainCopy). number_in (copy_of c) x i) is
      ∙ ap (λ (b : Bool). if b then i else i + 32) (any_mapped (is_variable x) operand_of shared.now ∙ sym e ∙ f)
