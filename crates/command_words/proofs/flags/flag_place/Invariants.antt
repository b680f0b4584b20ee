use Rattle.clap.specs.Walk.{texts}
use Rattle.command_words.proofs.FlagWords.{IsPast}
use Rattle.command_words.proofs.flags.flag_place.Given as goal

abbrev pub invariant-loop-i : goal.invariant-loop-i
invariant-loop-i l = IsPast l.flag (texts l.words) l.i
