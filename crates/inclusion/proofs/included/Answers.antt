use Rattle.std.proofs.Common.{inl, inr}
use Rattle.rpe.specs.Reading.{regex_of}
use Rattle.inclusion.proofs.Large.{beyond, large_decided}
use Rattle.inclusion.proofs.included.Goals as goal
use Rattle.inclusion.proofs.included.Goals.{then-not-is_searched-via-then-not-is_searched, then-not-is_searched-via-else-not-is_searched+then-not-is_searched-2}

pub returns-then-not-is_searched : goal.returns-then-not-is_searched
returns-then-not-is_searched c =
    large_decided (regex_of c.args.a.now) (regex_of c.args.b.now) c.same_rpe.result c.same_rpe.ensures
    (elim c.then-not-is_searched.branch [
      | then-not-is_searched-via-then-not-is_searched w ↦ inl (beyond _ _ c.is_searched.ensures w.if-not-is_searched.true)
      | then-not-is_searched-via-else-not-is_searched+then-not-is_searched-2 w ↦ inr (beyond _ _ w.is_searched-else-not-is_searched.ensures w.if-not-is_searched-2.true)
    ])
