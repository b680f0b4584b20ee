use Rattle.std.proofs.Common.{◌∙◌, ap}
use Rattle.clap.proofs.WalkLemmas.{first_value-rows}
use Rattle.clap.specs.Words.{first_value, found_of}
use Rattle.command_spec.specs.Values.{option_name}
use Rattle.command_words.proofs.numbers.text_in.Goals as goal

pub returns : goal.returns
returns c = c.get_str.ensures ∙ ap (first_value (found_of c.args.matches.now)) c.name.ensures ∙ first_value-rows (found_of c.args.matches.now) (option_name c.args.option)
