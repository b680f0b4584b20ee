use Rattle.std.proofs.Common.{◌≡◌, [], ◌∷◌, refl}
use Rattle.walks.proofs.Selected.{Selects, takes_one, skips_one, selects_all, no_entries}
use Rattle.walks.proofs.search.select.Goals as goal

pub loop-value-preserved-in-Continue-1 : goal.loop-value-preserved-in-Continue-1
loop-value-preserved-in-Continue-1 c =
    let popped : c.loop-value.seen.entries ≡ (c.in-Some.value, c.in-Some.positions) ∷ c.pop_first.new.self.entries = c.in-Some.ensures.removal in
    rw c.in_ok-push.ensures.items
    (takes_one c.args.automaton.now c.args.direction c.args.start.now c.args.seen.entries c.loop-value.values.items c.loop-value.seen.entries c.pop_first.new.self.entries
    c.in-Some.value c.in-Some.positions popped c.loop-value.invariant (c.if-is_end.ensures.0 refl))

pub loop-value-preserved : goal.loop-value-preserved
loop-value-preserved c =
    let popped : c.loop-value.seen.entries ≡ (c.in-Some.value, c.in-Some.positions) ∷ c.pop_first.new.self.entries = c.in-Some.ensures.removal in
    skips_one c.args.automaton.now c.args.direction c.args.start.now c.args.seen.entries c.loop-value.values.items c.loop-value.seen.entries c.pop_first.new.self.entries
    c.in-Some.value c.in-Some.positions popped c.loop-value.invariant (λ h. let off = c.if-is_end.ensures.1 h in cc)

pub returns : goal.returns
returns c =
    let none : c.loop-value.seen.entries ≡ [] = no_entries _ (λ h. let off = c.in_default.ensures.variant.1 h in cc) in
    let s : Selects c.args.automaton.now c.args.direction c.args.start.now c.args.seen.entries c.loop-value.values.items [] = rw none at c.loop-value.invariant in
    selects_all _ _ _ c.args.seen _ c.len-count.ensures.ordered s
