use Rattle.std.proofs.Common.{◌∙◌, List, subst}
use Rattle.std.specs.Prelude.{Err}
use Rattle.std.specs.List.{flat_map}
use Rattle.std.proofs.lemmas.Result.{err_from_is_err_and}
use Rattle.sd_value.specs.declared.Value.{Value}
use Rattle.counterexample_spec.specs.Values.{Pattern, assigned, values_of}
use Rattle.counterexample_spec.specs.Frozen.{declared, all_asked}
use Rattle.refute_site.specs.Adding.{AddsAll}
use Rattle.refute_site.specs.Patterns.{pattern_of}
use Rattle.refute_site.proofs.Adding.{adds_stopped}
use Rattle.refute_site.proofs.freezing.freeze.Goals as goal

pub returns-in_err-add_values : goal.returns-in_err-add_values
returns-in_err-add_values c =
    let p = err_from_is_err_and c.from_residual-in_err-add_values.result c.from_residual-in_err-add_values.ensures.1 in
    let it : Pattern = pattern_of c.args.pattern.now in
    rw (p.1, p.2)
    (adds_stopped (flat_map declared (values_of it)) (all_asked (assigned it) it.copy it.repeats 0 it.conditions) c.args.builder.now c.add_values.new.builder c.in_err-add_values.field-0.0
    (subst (λ (values : List Value). AddsAll (flat_map declared values) c.args.builder.now c.add_values.new.builder (Err c.in_err-add_values.field-0.0)) (c.deref.ensures.value ∙ c.in_ok-values.ensures) c.in_err-add_values.ensures))
