use Rattle.std.proofs.Common.{[], Ok, sym, ap, ◌∙◌}
use Rattle.sd_lex.proofs.Texts.{spells_itself}
use Rattle.sd_lex.proofs.lexing.read_text.Goals as goal

pub returns-then-not-has_escape : goal.returns-then-not-has_escape
returns-then-not-has_escape c =
    ap Ok c.in_ok-new.ensures
    ∙ sym (spells_itself c.args.at [] c.args.bytes.now (sym c.has_escape.ensures ∙ c.if-not-has_escape.true))
