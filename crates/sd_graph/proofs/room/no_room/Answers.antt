use Rattle.std.proofs.Common.{◌≡◌, ◌+◌, length, sym, ◌∙◌, subst, arith}
use Rattle.std.specs.BTreeSet.{insert_key}
use Rattle.sd_graph.specs.Inserted.{length-inserted, length-inserted_known, length-inserted_most}
use Rattle.sd_graph.specs.Statement.{Refuses}
use Rattle.sd_graph.proofs.room.no_room.Goals.{then-contains, else-contains}
use Rattle.sd_graph.proofs.room.no_room.Goals as goal

pub returns-then-size-limits : goal.returns-then-size-limits
returns-then-size-limits g c =
    let most = length-inserted_most g.K.Ord.cmp c.args.key.now c.args.set.now.keys in
    let len = c.len.ensures.len in
    (c.if-nodes-limits.true, omega (arith, most, len, c.if-size-limits.true))

pub returns : goal.returns
returns g c =
    let size : c.len.result + c.args.others + c.if-contains.more ≡ length (insert_key g.K.Ord.cmp c.args.set.now.keys c.args.key.now) + c.args.others =
    elim c.if-contains.branch [
      | then-contains w ↦ let l = length-inserted_known g.K.Ord.cmp g.met.K.Ord.total c.args.key.now c.args.set.now.keys c.len.ensures.ordered (sym c.contains.ensures ∙ w.if-contains.true) in let m = w.more-is in let n = c.len.ensures.len in omega arith
      | else-contains w ↦ let l = length-inserted g.K.Ord.cmp c.args.key.now c.args.set.now.keys (sym c.contains.ensures ∙ w.if-contains.false) in let m = w.more-is in let n = c.len.ensures.len in omega arith
    ] in
    subst (λ edges. Refuses c.args.limits c.args.nodes edges c.over.result) size c.over.ensures
