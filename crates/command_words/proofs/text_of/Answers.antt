use Rattle.std.proofs.Common.{◌∙◌, ap}
use Rattle.std.specs.Str.{is_utf8}
use Rattle.command_words.proofs.Text.{is_utf8-text, is_utf8-no_text}
use Rattle.command_words.proofs.Matched.{non_empty_word, no_text}
use Rattle.command_words.proofs.text_of.Goals as goal

pub returns-in-Ok : goal.returns-in-Ok
returns-in-Ok c = non_empty_word c.non_empty.result c.in-Ok.text.now c.args.word.now (c.in-Ok.ensures.cases.0 ∙ c.bytes.ensures) (is_utf8-text _ c.in-Ok.ensures.cases.1 ∙ ap is_utf8 c.bytes.ensures) c.non_empty.ensures

pub returns-in-Err : goal.returns-in-Err
returns-in-Err c = no_text c.args.word.now (is_utf8-no_text _ c.in-Err.ensures.cases.0 ∙ ap is_utf8 c.bytes.ensures)
