use Rattle.std.proofs.Common.{◌≡◌, [], ◌∷◌, length}
use Rattle.sd_lex.specs.declared.token.Sign.TheVariants as signs
use Rattle.grammar.specs.Reading.{repeat, with_front}
use Rattle.token_reader.specs.Terminals.{is_sign}
use Rattle.struql_orders.specs.Reading.{read_further_label}
use Rattle.struql_orders.proofs.labels.further_labels_at.Given as goal

abbrev pub invariant-labels : goal.invariant-labels
invariant-labels l = with_front l.labels.items (repeat (is_sign signs.Dot) read_further_label l.rest) ≡ with_front (l.fn.first ∷ []) (repeat (is_sign signs.Dot) read_further_label l.tokens)

abbrev pub decreases-labels : goal.decreases-labels
decreases-labels l = length l.rest
