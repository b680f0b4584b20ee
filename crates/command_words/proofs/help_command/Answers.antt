use Rattle.command_words.proofs.Line.{no_help}
use Rattle.command_words.proofs.help_command.Goals as goal

pub returns-in_default-clause-exact : goal.returns-in_default-clause-exact
returns-in_default-clause-exact c = no_help c.args.words.now c.in_default.len_at_least
