use Rattle.command_words.proofs.Subcommands.{next_leaf}
use Rattle.command_words.proofs.program.with_command.Goals as goal

pub returns : goal.returns
returns c = next_leaf _ _ _ _ c.row-row.result c.in_ok-program.ensures c.in_ok-leaf.ensures c.row-row.ensures
