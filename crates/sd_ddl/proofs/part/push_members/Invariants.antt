use Rattle.std.proofs.Common.{◌≡◌, ◌++◌, take, map}
use Rattle.sd_ddl.specs.Parts.{member_part}
use Rattle.sd_ddl.proofs.part.push_members.Given as goal

abbrev pub invariant-loop-collection : goal.invariant-loop-collection
invariant-loop-collection l = l.parts.items ≡ l.fn.parts.items ++ map (member_part l.object) (take l.collection-index l.collections)
