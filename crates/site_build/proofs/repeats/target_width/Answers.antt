use Rattle.struql_ast.specs.Reading.{operand_of, term_of}
use Rattle.site_build.proofs.RowReads.{asks_plain, asks_made}
use Rattle.site_build.proofs.repeats.target_width.Goals as goal

pub returns-in-Plain : goal.returns-in-Plain
returns-in-Plain c = rw c.in-Plain.is (asks_plain c.args.variables.now _ (operand_of c.in-Plain.operand) c.operand_width.ensures)

pub returns-in-Made : goal.returns-in-Made
returns-in-Made c = rw c.in-Made.is (asks_made c.args.variables.now _ (term_of c.in-Made.written) c.term_width.ensures)
