use Rattle.std.proofs.Common.{sym, ap, ◌∙◌, refl, subst, w64}
use Rattle.std.specs.Fmt.{signed_decimal}
use Rattle.std.specs.Str.{IsUtf8}
use Rattle.std.proofs.lemmas.Str.{IsUtf8-from_ascii}
use Rattle.std.proofs.lemmas.Fmt.{IsAscii-signed, parse-signed_decimal}
use Rattle.std.specs.Result.{result_ok}
use Rattle.address.specs.Targets.{IsSame}
use Rattle.address.proofs.argument.number_of.Goals as goal

pub returns-in-Err : goal.returns-in-Err
returns-in-Err c = λ z small e. c.in-Err.ensures.cases.0 (subst IsUtf8 e (IsUtf8-from_ascii (signed_decimal z) (IsAscii-signed z small)))

pub returns-in-Ok : goal.returns-in-Ok
returns-in-Ok c = λ z small e.
    let r = parse-signed_decimal w64 z c.in-Ok.digits.now c.parse.result record { sfits = small } small (c.in-Ok.ensures.cases.0 ∙ sym e) c.parse.ensures.value.0 in
    subst (IsSame z) (sym (c.ok.ensures.value ∙ ap result_ok r)) refl
