use Rattle.std.proofs.Common.{◌∙◌, ap, w64}
use Rattle.std.proofs.lemmas.Int.{to_z-of_z}
use Rattle.std.specs.Fmt.{signed_decimal}
use Rattle.inclusion.proofs.Numbers.{compared_is}
use Rattle.inclusion.proofs.twins.spells.Goals as goal

pub returns : goal.returns
returns c =
    compared_is c.args.n c.args.text.now c.eq.result c.as_bytes.result.now c.bytes.result.now c.ranges.n c.eq.ensures
    (c.as_bytes.ensures.value ∙ c.format.ensures.text ∙ ap signed_decimal (to_z-of_z w64 c.args.n c.ranges.n)) c.bytes.ensures
