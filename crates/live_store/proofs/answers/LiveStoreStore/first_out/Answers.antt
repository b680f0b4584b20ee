use Rattle.live_store.proofs.answers.LiveStoreStore.first_out.Goals as goal

pub returns : goal.returns
returns c = (_, c.in_ok-ends.ensures, c.first_of.ensures)
