use Rattle.struql_ast.specs.Reading.{term_of}
use Rattle.site_build.proofs.Written.{names_nothing, names_known, names_one}
use Rattle.site_build.proofs.terms.add_target.Goals as goal

pub returns-in-Plain : goal.returns-in-Plain
returns-in-Plain c = rw c.in-Plain.is (names_nothing c.args.variables.now c.args.rows.now c.args.made.now.keys)

pub returns-in-Summed : goal.returns-in-Summed
returns-in-Summed c = rw c.in-Summed.is (names_nothing c.args.variables.now c.args.rows.now c.args.made.now.keys)

pub returns-then-is_among : goal.returns-then-is_among
returns-then-is_among c =
    rw c.in-Made.is (names_known c.args.variables.now c.args.rows.now c.args.creates.now (term_of c.in-Made.written) c.args.made.now.keys c.requires (c.is_among.ensures c.if-is_among.true))

pub returns-in_ok-add_clause-in-Made : goal.returns-in_ok-add_clause-in-Made
returns-in_ok-add_clause-in-Made c = rw c.in-Made.is (names_one c.args.variables.now c.args.rows.now (term_of c.in-Made.written) _ _ c.in_ok-add_clause-in-Made.ensures)
