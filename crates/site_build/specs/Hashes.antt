-- What a link, and a value under a name, feed a hasher: their parts in turn.
use Rattle.std.specs.Prelude.{◌≡◌, IsTrue, ◌++◌}
use Rattle.std.proofs.Common.{ap}
use Rattle.std.specs.Ordering.{is_eq}
use Rattle.std.specs.Cmp.{Equal-is}
use Rattle.std.specs.Hash as fed
use Rattle.sd_value.specs.Hashes.{term_writes, value_writes}
use Rattle.site_build.specs.declared.ordered.Joined.{Joined}
use Rattle.site_build.specs.declared.ordered.Put.{Put}
use Rattle.site_build.specs.Ordered.{joined_cmp, joined_cmp-exact, put_cmp, put_cmp-exact}

abbrev pub joined_writes : Joined → fed.HashWrites
joined_writes j = term_writes j.from ++ fed.str j.label ++ value_writes j.to

abbrev pub put_writes : Put → fed.HashWrites
put_writes p = fed.str p.collection ++ value_writes p.value

-- what `==` finds equal feeds alike, since it is one thing
pub joined_fed : (x y : Joined) → IsTrue (is_eq (joined_cmp x y))
    → joined_writes x ≡ joined_writes y
joined_fed x y h = ap joined_writes (joined_cmp-exact x y ((Equal-is (joined_cmp x y)).0 h))

pub put_fed : (x y : Put) → IsTrue (is_eq (put_cmp x y)) → put_writes x ≡ put_writes y
put_fed x y h = ap put_writes (put_cmp-exact x y ((Equal-is (put_cmp x y)).0 h))
