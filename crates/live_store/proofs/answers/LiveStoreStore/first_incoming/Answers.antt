use Rattle.live_store.proofs.answers.LiveStoreStore.first_incoming.Goals as goal

pub returns : goal.returns
returns c = (_, c.in_ok-starts.ensures, c.first_of.ensures)
