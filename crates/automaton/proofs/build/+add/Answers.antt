use Rattle.std.proofs.Common.{arith, refl, ◌≡◌, length}
use Rattle.rpe.specs.Reading.{regex_of}
use Rattle.automaton.specs.Building.{IsAdded}
use Rattle.automaton.proofs.AddedLemmas.{seq_added, alt_added, star_added}
use Rattle.automaton.proofs.build.+add.Goals as goal

pub returns-in_ok-other-in-Seq-clause-added : goal.returns-in_ok-other-in-Seq-clause-added
returns-in_ok-other-in-Seq-clause-added t c =
    let one : IsAdded (regex_of c.deref.result.now) c.args.letters.now.items c.add.new.letters.items c.args.next.now.items c.add.new.next.items c.in_ok-one-in-Seq.one = c.in_ok-one-in-Seq.ensures.added in
    let other : IsAdded (regex_of c.deref-in-Seq.result.now) c.add.new.letters.items c.add-in-Seq.new.letters.items c.add.new.next.items c.add-in-Seq.new.next.items c.in_ok-other-in-Seq.other = c.in_ok-other-in-Seq.ensures.added in
    let len : length c.link.new.next.items ≡ length c.add-in-Seq.new.next.items = omega (arith, c.link.new.next.ok.0, c.add-in-Seq.new.next.ok.0, c.link.ensures.len) in
    rw (c.in-Seq.is, ← c.deref.ensures, ← c.deref-in-Seq.ensures)
    (seq_added _ _ _ _ _ _ _ _ _ _ _ _ one other c.link.ensures.links len c.in_sequence.ensures)

pub returns-in_ok-other-in-Alt-clause-added : goal.returns-in_ok-other-in-Alt-clause-added
returns-in_ok-other-in-Alt-clause-added t c =
    let one : IsAdded (regex_of c.deref-in-Alt.result.now) c.args.letters.now.items c.add-in-Alt.new.letters.items c.args.next.now.items c.add-in-Alt.new.next.items c.in_ok-one-in-Alt.one = c.in_ok-one-in-Alt.ensures.added in
    let other : IsAdded (regex_of c.deref-in-Alt-2.result.now) c.add-in-Alt.new.letters.items c.add-in-Alt-2.new.letters.items c.add-in-Alt.new.next.items c.add-in-Alt-2.new.next.items c.in_ok-other-in-Alt.other = c.in_ok-other-in-Alt.ensures.added in
    rw (c.in-Alt.is, ← c.deref-in-Alt.ensures, ← c.deref-in-Alt-2.ensures)
    (alt_added _ _ _ _ _ _ _ _ c.add-in-Alt-2.new.next.items _ _ _ one other c.in_choice.ensures)

pub returns-in_ok-body-in-Star-clause-added : goal.returns-in_ok-body-in-Star-clause-added
returns-in_ok-body-in-Star-clause-added t c =
    let body : IsAdded (regex_of c.deref-in-Star.result.now) c.args.letters.now.items c.add-in-Star.new.letters.items c.args.next.now.items c.add-in-Star.new.next.items c.in_ok-body-in-Star.body = c.in_ok-body-in-Star.ensures.added in
    let len : length c.link-in-Star.new.next.items ≡ length c.add-in-Star.new.next.items = omega (arith, c.link-in-Star.new.next.ok.0, c.add-in-Star.new.next.ok.0, c.link-in-Star.ensures.len) in
    rw (c.in-Star.is, ← c.deref-in-Star.ensures)
    (star_added _ _ _ _ _ _ _ _ body c.link-in-Star.ensures.links len refl refl refl)
