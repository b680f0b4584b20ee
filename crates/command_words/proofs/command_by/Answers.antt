use Rattle.std.proofs.Common.{◌∙◌, ap}
use Rattle.command_spec.specs.Rows.{Row, lenient_flag}
use Rattle.command_words.proofs.Line.{words_left}
use Rattle.command_words.proofs.command_by.Goals as goal

pub named_command-requires : goal.named_command-requires
named_command-requires c =
    words_left c.args.name c.args.words.now c.deref.result.now c.in_ok-lenient.lenient.rest.items c.deref-2.result.now c.in_ok-own.own.rest.items c.in_ok-lenient.lenient.set c.in_ok-own.own.set _ _
    (c.lenient_flag.ensures ∙ ap lenient_flag c.row-row.ensures) (ap (λ (r : Row). r.flag) c.row-row.ensures)
    c.in_ok-lenient.ensures c.deref.ensures.value c.in_ok-own.ensures c.deref-2.ensures.value c.requires
