use Rattle.std.proofs.Common.{◌≡◌, ◌∷◌, ◌++◌, [], List, false, take, sym, ap, ◌∙◌, subst, ⊎_elim, arith}
use Rattle.std.specs.Prelude.{Contains, IsTrue}
use Rattle.std.proofs.lemmas.List.{take_more, take_all}
use Rattle.std.proofs.lemmas.List.Elements.{Contains-append_cases}
use Rattle.sd_value.specs.declared.Value.{Value}
use Rattle.render.proofs.Keys.{only}
use Rattle.render.proofs.choices.have_common.Goals as goal

pub loop-value-preserved : goal.loop-value-preserved
loop-value-preserved c = λ up v among other.
    let i = c.loop-value.value-index in
    let values = c.args.values.now in
    let x = c.value-item.result in
    let next = take_more values i x c.loop-value-test.true ∙ ap (λ (z : Value). take i values ++ z ∷ []) (sym c.value-item.is) in
    ⊎_elim (λ (k : Contains (take i values) v). c.loop-value.invariant up v k other)
    (λ (k : Contains (x ∷ []) v).
    let here : IsTrue c.is_among.result = (c.is_among.ensures up).1 (subst (Contains c.args.others.now) (sym (only x v k)) other) in
    let no : c.is_among.result ≡ false = c.if-is_among.false in
    let f : ⊥ = cc in f)
    (Contains-append_cases (take i values) (x ∷ []) v (subst (λ (l : List Value). Contains l v) next among))

pub returns : goal.returns
returns c = λ up. (
  (λ t. let f : ⊥ = cc in absurd f),
  (λ (v, a, b). absurd (c.loop-value.invariant up v (subst (λ (l : List Value). Contains l v) (sym (take_all c.loop-value.value-index c.args.values.now (omega arith))) a) b)),
)
