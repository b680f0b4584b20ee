use Rattle.std.proofs.Common.{flat_map, encode_utf8_all, ap, ◌∙◌}
use Rattle.caseless.specs.Caseless.{default_case_fold}
use Rattle.function_spec.specs.Folding.{unmarked, fold}
use Rattle.text_functions.proofs.Letters.{chars_of}
use Rattle.text_functions.proofs.folding.fold.Goals as goal

pub returns : goal.returns
unfolding fold
returns c =
    let decomposed = chars_of _ _ c.as_str.utf8 (c.as_str.ensures.value ∙ c.in_ok-decomposed.ensures) in
    let bare = chars_of _ _ c.as_str-2.utf8 (c.as_str-2.ensures.value ∙ c.in_ok-bare.ensures) in
    c.in_ok-folded.ensures ∙ ap (λ cs. encode_utf8_all (default_case_fold cs)) (bare ∙ ap (flat_map unmarked) decomposed)
