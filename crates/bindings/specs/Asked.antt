-- What an asker over a store shows: the store that it asks, and how much it has handed out.
use Rattle.std.specs.Prelude.{ℕ}
use Rattle.bindings.specs.declared.store_asker.StoreAsker.{StoreAsker}

abbrev pub store_of : {S : Type 0} → StoreAsker S → S
store_of a = a.store

abbrev pub handed_out : {S : Type 0} → StoreAsker S → ℕ
handed_out a = a.given
