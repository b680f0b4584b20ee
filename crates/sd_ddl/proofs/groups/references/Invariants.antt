use Rattle.std.proofs.Common.{◌≡◌, take, map}
use Rattle.sd_ddl.proofs.groups.references.Given as goal

abbrev pub invariant-loop-member : goal.invariant-loop-member
invariant-loop-member l = map (λ m. m.now) l.all.items ≡ take l.member-index l.members
