use Rattle.std.proofs.Common.{rules, tests, ap, ◌∙◌, map}
use Rattle.std.specs.List.{filter, join_with_byte}
use Rattle.std.proofs.lemmas.Iterator.Consumers.{map_from_collect}
use Rattle.std.proofs.lemmas.Iterator.Splits.{YieldsList-from_slice_split}
use Rattle.function_spec.specs.Words.{is_filled, is_blank}
use Rattle.text_functions.proofs.words.trim.Goals as goal

pub returns : goal.returns
returns c =
    let words = map_from_collect _ c.collect.ensures.ran (YieldsList-from_slice_split _ is_blank c.args.text.now c.split.ensures.rest c.split.ensures.done c.split.ensures.closure (λ x b q k. search (rules, tests))) in
    c.in_ok-trimmed.ensures ∙ ap (λ ws. join_with_byte 32 (filter is_filled (map (λ w. w.now) ws))) c.deref.ensures.value ∙ ap (λ ws. join_with_byte 32 (filter is_filled ws)) (rw c.in_ok-words.was at words)
