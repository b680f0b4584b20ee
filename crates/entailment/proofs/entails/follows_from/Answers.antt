use Rattle.entailment.proofs.entails.follows_from.Goals as goal

pub returns-in-OneOf : goal.returns-in-OneOf
returns-in-OneOf g c = rw (c.in-OneOf.is, ← c.items.ensures) c.follows_list.ensures
