use Rattle.std.proofs.Common.{◌+◌, ◌-◌, arith, length, drop}
use Rattle.std.proofs.lemmas.List.{take_all, length-drop}
use Rattle.command_words.proofs.FlagWords.{rest_is}
use Rattle.command_words.proofs.flags.without.Goals as goal

pub returns : goal.returns
returns c =
    let words = c.args.words.now in
    let from = c.args.at + 1 in
    rest_is words c.in_ok-rest.rest.items _ c.extend_from_slice.new.self.items c.args.at c.in_ok-rest.ensures.items
    (take_all (length words - from) (drop from words) (omega (arith, length-drop from words))) c.in_ok-extend_from_slice.ensures.items
