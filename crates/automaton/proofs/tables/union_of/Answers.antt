use Rattle.std.proofs.Common.{arith, ◌≡◌, ◌<◌, [], length, refl}
use Rattle.std.proofs.lemmas.List.{get_or_read}
use Rattle.automaton.specs.Table.{row}
use Rattle.automaton.proofs.Words.{followers_turn, followers_skip}
use Rattle.automaton.proofs.tables.union_of.Goals as goal
use Rattle.automaton.proofs.tables.union_of.Goals.{then-contains, else-contains}

pub loop-p-preserved : goal.loop-p-preserved
loop-p-preserved c =
    let rows = c.args.rows.now.items in
    let small : c.loop-p.p < length rows = omega (arith, c.args.rows.now.ok.0) in
    elim c.if-contains.branch [
      | then-contains w ↦
          let here : w.index.result.now ≡ row rows c.loop-p.p = get_or_read rows c.loop-p.p _ small w.index.ensures [] in
          rw w.union-is (followers_turn rows c.args.set.now c.loop-p.p _ _ _ c.loop-p.invariant here (w.if-contains.ensures.0 refl) w.add_all.ensures)
      | else-contains w ↦
          rw w.union-is (followers_skip rows c.args.set.now c.loop-p.p _ c.loop-p.invariant (λ h. let off = w.if-contains.ensures.1 h in cc))
    ]
