use Rattle.std.proofs.Common.{subst}
use Rattle.inclusion.specs.Known.{AreKnownBlocks}
use Rattle.inclusion.specs.Answers.{AreRows}
use Rattle.inclusion.proofs.Whole.{is_table}
use Rattle.inclusion.proofs.table.Inclusions.of.Goals as goal

pub returns : goal.returns
returns c =
    is_table c.args.query.now record { expressions = c.in_ok-expressions.expressions; rows = c.in_ok-rows.rows } c.in_ok-expressions.ensures.any_label
    (subst (AreKnownBlocks c.in_ok-expressions.expressions.items) c.deref.ensures.value c.in_ok-expressions.ensures.known)
    (subst (λ l. AreRows l c.in_ok-rows.rows.items) c.deref-2.ensures.value c.in_ok-rows.ensures)
