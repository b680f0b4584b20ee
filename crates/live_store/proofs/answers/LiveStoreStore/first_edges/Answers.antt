use Rattle.live_store.proofs.answers.LiveStoreStore.first_edges.Goals as goal

pub returns : goal.returns
returns c = (_, c.in_ok-edges.ensures, c.first_of.ensures)
