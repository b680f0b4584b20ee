use Rattle.live_store.proofs.answers.LiveStoreStore.first_values.Goals as goal

pub returns : goal.returns
returns c = (_, c.in_ok-values.ensures, c.first_of.ensures)
