-- What an asker ends as, where its store is lent for writing.
use Rattle.std.specs.Borrow.{Lends, MutBor, Fml, RattleType}
use Rattle.bindings.specs.declared.store_asker.StoreAsker.{StoreAsker}
use Rattle.bindings.specs.contracts.store_asker.StoreAsker.{the_row}

-- the asker with another store, and the same count
abbrev pub with_store : {S : Type 0} → StoreAsker S → S → StoreAsker S
with_store a s = record a { store = s }

-- once the borrow r ends, the store is what r shows last
abbrev pub lends_store : (S : RattleType) → MutBor (StoreAsker S.Denot) → MutBor S.Denot → Fml
lends_store S a r = Lends (the_row S) S a r (with_store a.now)
