use Rattle.std.proofs.Common.{sym, ◌∙◌}
use Rattle.page_spec.specs.Show.{kind_letter, show_datum, in_address}
use Rattle.page_spec.proofs.Addresses.{head_same, rests_same}
use Rattle.address.proofs.Parsed.{datum_bytes}
use Rattle.address.proofs.argument.argument.Goals as goal

pub returns-in_ok-datum-in-Some-clause-is : goal.returns-in_ok-datum-in-Some-clause-is
returns-in_ok-datum-in-Some-clause-is c = λ d k e.
    let l = c.in-Some.letter.now in
    let r = c.in-Some.rest.now in
    let e' = e ∙ c.in-Some.ensures.cases.0 in
    let head = head_same (kind_letter d) l (in_address (show_datum d)) r e' in
    let rest = rests_same (kind_letter d) l (in_address (show_datum d)) r e' in
    c.in_ok-datum-in-Some.ensures.is d k head (sym (c.in_ok-bytes-in-Some.ensures.is (show_datum d) (datum_bytes d k) rest))
