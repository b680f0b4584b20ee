use Rattle.std.proofs.Common.{◌++◌, flat_map, encode_utf8_all, sym, ap, ◌∙◌, map-id}
use Rattle.std.proofs.lemmas.Iterator.{YieldsList-from_chars}
use Rattle.std.proofs.lemmas.Iterator.Consumers.{YieldsList-end}
use Rattle.function_spec.specs.Folding.{unmarked}
use Rattle.text_functions.proofs.Letters.{one_more}
use Rattle.text_functions.proofs.folding.unmarked.Goals as goal

pub loop-character-preserved : goal.loop-character-preserved
loop-character-preserved c =
    c.in_ok-push_unmarked.ensures ∙ ap (λ t. t ++ encode_utf8_all (unmarked c.in-Some.character)) c.loop-character.invariant
    ∙ sym (one_more unmarked c.loop-character.yielded c.in-Some.character)

pub returns : goal.returns
returns c =
    let end = YieldsList-end (YieldsList-from_chars c.args.text.now c.utf8.text cc) c.loop-character.yielded _ c.loop-character.yielded_by _ _ c.in-None.is c.next.ensures.steps in
    c.loop-character.invariant ∙ ap (λ cs. encode_utf8_all (flat_map unmarked cs)) (sym (map-id c.loop-character.yielded) ∙ end.0)
