use Rattle.list_lookup.specs.PickedLaws.{part-of_rest}
use Rattle.list_lookup.proofs.part.Goals as goal

pub returns : goal.returns
returns g c = part-of_rest (g.Q.Query.at c.args.query.now) c.args.items.now _ _ _ c.first_past-start.ensures c.reach-near.ensures c.first_past-end.ensures
