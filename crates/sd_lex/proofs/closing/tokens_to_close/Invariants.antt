use Rattle.std.proofs.Common.{◌≡◌, false, length}
use Rattle.std.specs.List.{list_any}
use Rattle.sd_lex.specs.Closing.{is_close}
use Rattle.sd_lex.proofs.WholeText.{Reached}
use Rattle.sd_lex.proofs.closing.tokens_to_close.Given as goal

abbrev pub invariant-tokens : goal.invariant-tokens
invariant-tokens l =
    Reached l.rest.at l.rest.bytes.now l.at l.bytes l.tokens.items × (list_any is_close l.tokens.items ≡ false)

abbrev pub decreases-tokens : goal.decreases-tokens
decreases-tokens l = length l.bytes
