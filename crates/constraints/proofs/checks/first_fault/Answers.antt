use Rattle.std.proofs.Common.{sym, ◌∙◌}
use Rattle.constraints.proofs.Names.{none_so_far, first_found}
use Rattle.constraints.proofs.checks.first_fault.Goals as goal

pub returns-in-Some : goal.returns-in-Some
returns-in-Some c =
    sym (first_found c.args.functions.now c.args.phrases.now c.loop-phrase.phrase-index c.phrase-item.result c.in-Some.fault c.loop-phrase-test.true c.phrase-item.is c.loop-phrase.invariant (sym c.phrase_fault.ensures ∙ c.in-Some.is))

pub loop-phrase-preserved : goal.loop-phrase-preserved
loop-phrase-preserved c =
    none_so_far c.args.functions.now c.args.phrases.now c.loop-phrase.phrase-index c.phrase-item.result c.loop-phrase-test.true c.phrase-item.is c.loop-phrase.invariant
    (sym c.phrase_fault.ensures ∙ c.in_default.is)
