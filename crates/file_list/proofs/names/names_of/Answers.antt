use Rattle.std.proofs.Common.{rules, tests, ap, ◌∙◌, ◌==◌, map}
use Rattle.std.specs.List.{filter}
use Rattle.std.proofs.lemmas.Iterator.Consumers.{map_from_collect}
use Rattle.std.proofs.lemmas.Iterator.Splits.{YieldsList-from_slice_split}
use Rattle.file_list.specs.Lists.{is_listable}
use Rattle.file_list.proofs.names.names_of.Goals as goal

pub returns : goal.returns
returns c =
    let lines = map_from_collect _ c.collect.ensures.ran (YieldsList-from_slice_split _ (λ b. b == 10) c.args.text.now c.split.ensures.rest c.split.ensures.done c.split.ensures.closure (λ x b q k. search (rules, tests))) in
    c.in_ok-names.ensures ∙ ap (λ ls. filter is_listable (map (λ w. w.now) ls)) c.deref.ensures.value ∙ ap (filter is_listable) (rw c.in_ok-lines.was at lines)
