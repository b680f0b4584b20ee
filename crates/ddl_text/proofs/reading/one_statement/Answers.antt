use Rattle.std.proofs.Common.{length, sym}
use Rattle.std.proofs.lemmas.Bool.{eqb-true}
use Rattle.std.proofs.lemmas.List.{nil_from_length}
use Rattle.ddl_text.proofs.Whole.{is_one}
use Rattle.ddl_text.proofs.reading.one_statement.Goals as goal

pub returns-then-is_empty : goal.returns-then-is_empty
returns-then-is_empty c =
    is_one c.args.tokens.now c.in-Ok.rest.now c.in-Ok.statement c.in-Ok.ensures
    (nil_from_length c.in-Ok.rest.now (eqb-true (length c.in-Ok.rest.now) 0 (sym c.if-is_empty.ensures)))
