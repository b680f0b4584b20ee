use Rattle.std.proofs.Common.{◌++◌, sym, ◌∙◌}
use Rattle.page_spec.specs.Show.{arguments}
use Rattle.page_spec.proofs.Addresses.{name_no_stops}
use Rattle.address.proofs.Parsed.{segments_same, ends_or_slash}
use Rattle.address.proofs.named.candidate.Goals as goal

pub returns-in-None-2-clause-is : goal.returns-in-None-2-clause-is
returns-in-None-2-clause-is c = λ t k e.
    let text = c.in-Some.ensures (t.function ++ arguments t.args) (sym e) in
    let same = segments_same c.segment.result.0.now t.function c.segment.result.1.now (arguments t.args) c.segment.ensures.first (name_no_stops t.function k.0) c.segment.ensures.rest (ends_or_slash t.args) (sym c.segment.ensures.parts ∙ text) in
    let is = rw c.in-None-2.is at c.in_ok-arguments-in-Some.ensures.is in
    is t.args k.1 (sym same.1)

pub returns-in_ok-new-in-Some-2-clause-is : goal.returns-in_ok-new-in-Some-2-clause-is
returns-in_ok-new-in-Some-2-clause-is c = λ t k e.
    let text = c.in-Some.ensures (t.function ++ arguments t.args) (sym e) in
    let same = segments_same c.segment.result.0.now t.function c.segment.result.1.now (arguments t.args) c.segment.ensures.first (name_no_stops t.function k.0) c.segment.ensures.rest (ends_or_slash t.args) (sym c.segment.ensures.parts ∙ text) in
    let is = rw c.in-Some-2.is at c.in_ok-arguments-in-Some.ensures.is in
    let f = c.in_ok-function-in-Some.ensures ∙ same.0 in
    let a = c.in_ok-new-in-Some-2.ensures ∙ is t.args k.1 (sym same.1) in
    λ i. record { function = f i; args = a i }
