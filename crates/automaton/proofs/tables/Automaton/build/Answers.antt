use Rattle.std.proofs.Common.{arith, ◌≡◌, ◌≤◌, [], length, ap, ◌∙◌}
use Rattle.rpe.specs.Language.{positions}
use Rattle.rpe.specs.Reading.{regex_of}
use Rattle.automaton.specs.Building.{IsAdded}
use Rattle.automaton.proofs.Spelling.{length-letters_of}
use Rattle.automaton.proofs.Words.{rows_within, turned_rows, stands_for}
use Rattle.automaton.proofs.tables.Automaton.build.Goals as goal

pub invariant_of-result : goal.invariant_of-result
invariant_of-result c =
    let e = regex_of c.args.expression.now in
    let rows = c.add.new.next.items in
    let turned = c.in_ok-previous.previous.items in
    let added : IsAdded e [] c.add.new.letters.items [] rows c.in_ok-ends.ends =
    rw (c.new-letters.ensures.items, c.new-next.ensures.items) at c.in_ok-ends.ensures.added in
    let count : length c.add.new.letters.items ≡ positions e = ap length added.letters ∙ length-letters_of e in
    let few : positions e ≤ 256 = c.requires in
    let same : length turned ≡ length rows = omega (arith, c.in_ok-previous.ensures.len, c.in_ok-previous.previous.ok.0, c.add.new.next.ok.0) in (
      added.paired,
      same ∙ added.paired,
      omega (arith, count, few),
      turned_rows rows turned same (rows_within e c.add.new.letters.items rows c.in_ok-ends.ends added)
          (λ p small. c.in_ok-previous.ensures.turned p (omega (arith, small, c.add.new.next.ok.0))),
    )

pub returns : goal.returns
returns c =
    let e = regex_of c.args.expression.now in
    let added : IsAdded e [] c.add.new.letters.items [] c.add.new.next.items c.in_ok-ends.ends =
    rw (c.new-letters.ensures.items, c.new-next.ensures.items) at c.in_ok-ends.ensures.added in
    stands_for e c.add.new.letters.items c.add.new.next.items c.in_ok-ends.ends added
