use Rattle.live_store.proofs.ValueLaws.{label_there}
use Rattle.live_store.proofs.answers.LiveStoreStore.is_label.Goals as goal

pub returns : goal.returns
returns c = label_there c.args.self.now.graph c.args.label.now c.edges_of.result c.edges_of.ensures
