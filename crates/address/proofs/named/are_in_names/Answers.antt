use Rattle.std.proofs.Common.{rules, ◌≡◌, ℕ, length, get_or, take, take_all, refl, subst, arith}
use Rattle.std.specs.Prelude.{IsTrue, All, ◌||◌}
use Rattle.std.proofs.lemmas.List.Elements.{All-more}
use Rattle.page_spec.specs.Address.{is_letter, is_digit}
use Rattle.address.proofs.named.are_in_names.Goals as goal

abbrev IsInName : ℕ → Type 0
IsInName b = IsTrue (is_letter b || is_digit b)

pub loop-b-preserved : goal.loop-b-preserved
loop-b-preserved c =
    let t = c.args.text.now in
    let i = c.loop-b.b-index in
    let this : IsTrue (is_letter (get_or t i 0) || is_digit (get_or t i 0)) = search rules in
    All-more IsInName t i 0 c.loop-b-test.true c.loop-b.invariant this

pub returns : goal.returns
returns c =
    let t = c.args.text.now in
    let whole : take c.loop-b.b-index t ≡ t = take_all c.loop-b.b-index t (omega (arith, c.loop-b-test.false)) in
    (λ _. subst (All IsInName) whole c.loop-b.invariant, λ _. refl)
