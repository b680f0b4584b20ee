use Rattle.struql_ast.specs.Reading.{operand_of}
use Rattle.struql_print.specs.Texts.{operand_text}
use Rattle.struql_print.proofs.BlockTexts.{map_twice}
use Rattle.struql_print.proofs.terms.print_arguments.Goals as goal

pub returns : goal.returns
returns c = rw (map_twice operand_text operand_of c.args.args.now) c.print_listed.ensures
