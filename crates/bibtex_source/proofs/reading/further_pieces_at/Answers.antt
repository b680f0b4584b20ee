use Rattle.std.proofs.Common.{◌≡◌, true, sym, ◌∙◌, arith}
use Rattle.std.specs.Prelude.{nat_eq}
use Rattle.grammar.specs.Reading.{starts, iterate}
use Rattle.bibtex_spec.specs.Reading.{read_further}
use Rattle.bibtex_source.proofs.Loops.{starts_so, goes_on}
use Rattle.bibtex_source.proofs.reading.further_pieces_at.Goals as goal

pub pieces-init : goal.pieces-init
pieces-init c = (starts_so (nat_eq 35) (read_further c.args.macros.now) c.args.first.items c.args.bytes.now, omega arith)

pub pieces-preserved : goal.pieces-preserved
pieces-preserved c =
    let is : starts (nat_eq 35) c.pieces.rest.now ≡ true = sym c.has_mark.ensures ∙ c.pieces-test.true in (
      goes_on (nat_eq 35) (read_further c.args.macros.now) c.pieces.text.items c.in_ok-longer.longer.items c.pieces.rest.now c.in_ok-longer.after.now
          (iterate (nat_eq 35) (read_further c.args.macros.now) c.args.first.items c.args.bytes.now) is c.in_ok-longer.ensures.is c.in_ok-longer.ensures.shorter c.pieces.invariant.0,
      omega (arith, c.in_ok-longer.ensures.shorter, c.pieces.invariant.1),
    )
