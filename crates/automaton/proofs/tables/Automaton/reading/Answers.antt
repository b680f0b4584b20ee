use Rattle.std.proofs.Common.{arith, ◌≡◌, ◌<◌, length, refl, Some, slice_get}
use Rattle.std.proofs.lemmas.Option.{slice_get_read, slice_get_within}
use Rattle.automaton.proofs.Words.{readers_turn, readers_skip, reads_at}
use Rattle.automaton.proofs.tables.Automaton.reading.Goals as goal
use Rattle.automaton.proofs.tables.Automaton.reading.Goals.{then-contains+then-fits, else-contains, else-contains-via-then-contains+else-fits, else-contains-via-else-contains}

pub loop-p-preserved : goal.loop-p-preserved
loop-p-preserved c =
    let letters = c.self.inside.letters.items in
    let p = c.loop-p.p in
    let small : p < length letters = omega (arith, c.self.inside.letters.ok.0) in
    elim c.if-contains.branch [
      | then-contains+then-fits w ↦
          let here : slice_get letters p ≡ Some w.index.result.now = slice_get_read letters _ p _ refl small w.index.ensures in
          rw w.kept-is (readers_turn letters c.args.label.now c.args.set.now p _ _ c.loop-p.invariant (w.if-contains.ensures.0 refl) (w.index.result.now, here, w.if-fits.ensures.0 refl) w.insert.ensures)
      | else-contains w ↦
          rw w.kept-is (readers_skip letters c.args.label.now c.args.set.now p _ c.loop-p.invariant
          (elim w.else-contains.branch [
            | else-contains-via-then-contains+else-fits v ↦
                let here : slice_get letters p ≡ Some v.index.result.now = slice_get_read letters _ p _ refl small v.index.ensures in
                (λ h r. let off = v.if-fits.ensures.1 (reads_at letters p _ _ here r) in cc)
            | else-contains-via-else-contains v ↦ (λ h r. let off = v.if-contains.ensures.1 h in cc)
          ]))
    ]

pub returns : goal.returns
returns c =
    rw (← c.self.view_is) (λ q. (
      λ h. let k = (c.loop-p.invariant q).0 h in (k.1, k.2),
      λ h. (c.loop-p.invariant q).1 (omega (arith, c.self.inside.letters.ok.0, slice_get_within c.self.inside.letters.items q h.1.0 h.1.1), h.0, h.1),
    ))
