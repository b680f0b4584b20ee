use Rattle.std.proofs.Common.{◌≡◌, List, ℕ, IfOk, ap, ◌∙◌, subst}
use Rattle.function_spec.specs.Folding.{fold}
use Rattle.sort_keys.proofs.Folds.{folded_utf8, not_folded}
use Rattle.sort_keys.proofs.key.folded_text.Goals as goal

pub returns-in_ok-folded-in-Ok-2 : goal.returns-in_ok-folded-in-Ok-2
returns-in_ok-folded-in-Ok-2 c =
    folded_utf8 c.args.text.now c.in_ok-folded-in-Ok-2.folded (rw c.bytes.ensures at c.in-Ok.ensures.cases.1)
    (c.in_ok-folded-in-Ok-2.ensures ∙ c.as_bytes.ensures.value ∙ c.in_ok-folded-in-Ok.ensures
    ∙ ap fold (c.in-Ok.ensures.cases.0 ∙ c.bytes.ensures))

pub returns-in-Err : goal.returns-in-Err
returns-in-Err c =
    subst (λ (z : List ℕ). IfOk c.copy.result (λ t. t ≡ z)) (not_folded c.args.text.now (rw c.bytes.ensures at c.in-Err.ensures.cases.0)) c.copy.ensures
