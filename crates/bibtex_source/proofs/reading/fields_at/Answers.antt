use Rattle.std.proofs.Common.{◌≡◌, true, sym, ◌∙◌, arith}
use Rattle.std.specs.Prelude.{nat_eq}
use Rattle.grammar.specs.Reading.{starts}
use Rattle.bibtex_spec.specs.Reading.{read_fields}
use Rattle.bibtex_source.proofs.Loops.{field_listed}
use Rattle.bibtex_source.proofs.reading.fields_at.Goals as goal

pub fields-preserved : goal.fields-preserved
fields-preserved c =
    let is : starts (nat_eq 44) c.fields.rest.now ≡ true = sym c.has_mark.ensures ∙ c.fields-test.true in (
      rw c.in_ok-push.ensures.items
          (field_listed c.args.macros.now c.fields.fields.items c.fields.rest.now c.in_ok-inner.inner.now c.in_ok-field.after.now 44 c.in_ok-field.field
          (read_fields c.args.macros.now c.args.bytes.now) is c.in_ok-inner.ensures.is (sym c.if-not-begins_field.ensures) c.in_ok-field.ensures.is
          (omega (arith, c.in_ok-inner.ensures.shorter, c.in_ok-field.ensures.shorter)) c.fields.invariant.0),
      omega (arith, c.in_ok-inner.ensures.shorter, c.in_ok-field.ensures.shorter, c.fields.invariant.1),
    )
