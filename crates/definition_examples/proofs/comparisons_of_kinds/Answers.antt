use Rattle.definition_examples.proofs.Comparisons.{differ, not_below, not_above, by_number, by_bytes}
use Rattle.definition_examples.proofs.comparisons_of_kinds.Goals as goal

pub returns : goal.returns
returns c = record { differ = differ; not_below = not_below; not_above = not_above; by_number = by_number; by_bytes = by_bytes }
