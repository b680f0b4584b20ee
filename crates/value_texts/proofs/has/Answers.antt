use Rattle.std.proofs.lemmas.Str.Pattern.{contains_text}
use Rattle.value_texts.proofs.has.Goals as goal

pub returns : goal.returns
returns c = contains_text _ _ _ c.contains.ensures.cases
