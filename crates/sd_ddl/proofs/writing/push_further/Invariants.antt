use Rattle.std.proofs.Common.{◌≡◌, ◌++◌, take, map}
use Rattle.std.specs.List.{flat_map}
use Rattle.sd_ddl.specs.Groups.{collection_in}
use Rattle.sd_ddl.specs.Written.{further_text}
use Rattle.sd_ddl.proofs.writing.push_further.Given as goal

abbrev pub invariant-loop-member : goal.invariant-loop-member
invariant-loop-member l = l.out.items ≡ l.fn.out.items ++ flat_map further_text (map collection_in (take l.member-index l.members))
