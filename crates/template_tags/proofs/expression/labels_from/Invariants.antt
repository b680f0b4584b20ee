use Rattle.std.proofs.Common.{◌≡◌, length}
use Rattle.grammar.specs.Reading.{repeat, with_front}
use Rattle.template_tags.specs.Terminals.{is_dot}
use Rattle.template_tags.specs.Reading.{read_dotted}
use Rattle.template_tags.proofs.expression.labels_from.Given as goal

abbrev pub invariant-labels : goal.invariant-labels
invariant-labels l = with_front l.labels.items (repeat is_dot read_dotted l.rest) ≡ with_front l.fn.labels.items (repeat is_dot read_dotted l.fn.items)

abbrev pub decreases-labels : goal.decreases-labels
decreases-labels l = length l.rest
