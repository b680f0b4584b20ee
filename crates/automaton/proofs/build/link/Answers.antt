use Rattle.std.proofs.Common.{arith, ◌≡◌, ◌<◌, [], inl, inr, ap, refl, ◌∙◌, vec_len, length, get_or-set_other, get_or-set_same}
use Rattle.std.proofs.lemmas.List.{get_or_read}
use Rattle.automaton.specs.Table.{row}
use Rattle.automaton.proofs.AddedLemmas.{links_turn}
use Rattle.automaton.proofs.build.link.Goals as goal
use Rattle.automaton.proofs.build.link.Goals.{then-contains, else-contains}

pub loop-p-preserved : goal.loop-p-preserved
loop-p-preserved c =
    elim c.if-contains.branch [
      | then-contains w ↦
          let p = c.loop-p.p in
          let xs = c.loop-p.next.items in
          let small : p < length xs = omega (arith, c.loop-p.next.ok.0) in
          let was : w.index_mut.result.now ≡ row xs p = get_or_read xs p _ small w.index_mut.ensures.value [] in
          let same : row c.if-contains.next.items p ≡ w.add_all.new.self =
          ap (λ v. row v.items p) w.next-is ∙ get_or-set_same xs p _ [] small in
          record {
            len = ap vec_len w.next-is ∙ c.loop-p.invariant.len;
            done = links_turn c.args.next.now.items xs c.if-contains.next.items p c.args.ones.now c.args.others.now
                c.loop-p.invariant.done c.loop-p.invariant.rest
                (λ r n. ap (λ v. row v.items r) w.next-is ∙ get_or-set_other xs p r _ [] n)
                (λ q.
                let k = w.add_all.ensures q in
                let on = w.if-contains.ensures.0 refl in
                rw (same, ← was) (λ h. elim (k.0 h) [ inl g ↦ inl g | inr g ↦ inr (on, g) ], λ h. k.1 (elim h [ inl g ↦ inl g | inr g ↦ inr g.1 ])));
            rest = λ r large. ap (λ v. row v.items r) w.next-is ∙ (get_or-set_other xs p r _ [] (λ e. omega arith) ∙ c.loop-p.invariant.rest r (omega arith));
          }
      | else-contains w ↦
          let e = ap (λ v. v.items) w.next-is in
          record {
            len = ap vec_len w.next-is ∙ c.loop-p.invariant.len;
            done = links_turn c.args.next.now.items c.loop-p.next.items c.if-contains.next.items c.loop-p.p c.args.ones.now c.args.others.now
                c.loop-p.invariant.done c.loop-p.invariant.rest
                (λ r n. ap (λ v. row v r) e)
                (λ q. rw e (λ h. inl h, λ h. elim h [ inl g ↦ g | inr g ↦ (let off = w.if-contains.ensures.1 g.0 in cc) ]));
            rest = λ r large. ap (λ v. row v r) e ∙ c.loop-p.invariant.rest r (omega arith);
          }
    ]
