use Rattle.std.proofs.Common.{◌≡◌, take, true}
use Rattle.std.specs.List.{list_all}
use Rattle.clap.specs.Walk.{texts}
use Rattle.command_spec.specs.Words as specs
use Rattle.command_words.proofs.texts_of.Given as goal

abbrev pub invariant-loop-word : goal.invariant-loop-word
invariant-loop-word l = record {
  same : texts l.found.items ≡ take l.word-index l.words;
  words : list_all specs.is_word (take l.word-index l.words) ≡ true;
}
