use Rattle.live_store.proofs.answers.LiveStoreStore.first_members.Goals as goal

pub returns : goal.returns
returns c = (_, c.in_ok-nodes.ensures, c.first_of.ensures)
