use Rattle.definition_examples.proofs.Keys.{last_ascending, first_descending, last_downwards}
use Rattle.definition_examples.proofs.pages.missing_keys.Goals as goal

pub returns : goal.returns
returns c = record { ascending = last_ascending; descending = first_descending; downwards = last_downwards }
