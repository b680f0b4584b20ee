use Rattle.std.proofs.Common.{rules, tests, ◌==◌}
use Rattle.std.specs.Prelude.{codes}
use Rattle.std.proofs.lemmas.Iterator.Search.{any_from_yields_List}
use Rattle.std.proofs.lemmas.Iterator.Splits.{YieldsList-from_slice_split}
use Rattle.httparse.specs.Grammar.{trim_ows}
use Rattle.http_spec.specs.Words.{has_close_word, same_word}
use Rattle.http_reply.proofs.ask.has_close_word.Goals as goal

pub returns : goal.returns
unfolding has_close_word
returns c =
    any_from_yields_List (λ word. same_word (trim_ows word) (codes "close")) _ _ _ c.any.ensures.ran
    (YieldsList-from_slice_split _ (λ b. b == 44) c.args.value.now c.split.ensures.rest c.split.ensures.done c.split.ensures.closure
    (λ x b q k. search (rules, tests)))
    (λ x b q k. search (rules, tests))
