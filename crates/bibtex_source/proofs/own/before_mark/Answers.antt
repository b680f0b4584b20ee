use Rattle.std.proofs.Common.{◌∙◌, sym, ap}
use Rattle.bibtex_source.specs.Source.{before_mark}
use Rattle.bibtex_source.proofs.Marks.{at_mark, at_other}
use Rattle.bibtex_source.proofs.own.before_mark.Goals as goal

pub returns-then-b-eq64 : goal.returns-then-b-eq64
returns-then-b-eq64 c =
    sym (at_mark c.in-Some.earlier.now c.in-Some.b.now c.if-b-eq64.true) ∙ sym (ap before_mark c.in-Some.ensures.cases.0) ∙ c.bytes.invariant

pub bytes-preserved : goal.bytes-preserved
bytes-preserved c =
    sym (at_other c.in-Some.earlier.now c.in-Some.b.now c.if-b-eq64.false) ∙ sym (ap before_mark c.in-Some.ensures.cases.0) ∙ c.bytes.invariant
