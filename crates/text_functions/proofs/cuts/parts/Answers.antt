use Rattle.std.proofs.Common.{[], ◌∷◌, map, refl, sym, subst, ap, ◌∙◌}
use Rattle.std.proofs.lemmas.List.{map-append}
use Rattle.function_spec.specs.Cuts.{AreParts}
use Rattle.text_functions.proofs.cuts.parts.Goals as goal

pub returns : goal.returns
returns c =
    let all = c.loop-part.invariant.1 (c.loop-part.rest.now ∷ []) (refl, c.in_default.ensures) in
    subst (AreParts c.args.by.now c.args.text.now) (sym (ap (map (λ p. p.now)) c.in_ok-push-2.ensures.items ∙ map-append (λ p. p.now) c.loop-part.found.items (c.loop-part.rest ∷ []))) all
