use Rattle.std.proofs.Common.{◌≡◌, [], length, drop, refl, sym, ap, ◌∙◌, arith, false-eqb}
use Rattle.std.proofs.lemmas.Bool.{eqb-true}
use Rattle.std.proofs.lemmas.List.{nil_from_length}
use Rattle.sd_lex.proofs.Gaps.{Behind}
use Rattle.sd_lex.proofs.Fronts.{drop_front}
use Rattle.sd_lex.proofs.WholeText.{first_reached, next_reached, refusal_says, token_len}
use Rattle.sd_lex.proofs.ToClose.{still_open, same_fault, all_left, closed}
use Rattle.sd_lex.proofs.closing.tokens_to_close.Goals as goal

pub tokens-init : goal.tokens-init
tokens-init c =
    let b = c.behind_gaps-bytes.ensures in
    rw c.clear.ensures.items (
      first_reached c.args.rest.at c.args.rest.bytes.now c.behind_gaps-bytes.result.now _ refl b.stops
          (record { within = b.within; passed = b.passed; only = b.only }),
      refl,
    )

pub token_of-requires : goal.token_of-requires
token_of-requires c = omega (arith, c.tokens.invariant.0.place, c.requires)

pub returns-in-Err : goal.returns-in-Err
returns-in-Err c =
    let some : c.tokens.bytes.now ≡ []
    → ⊥ = λ e. omega (arith, ap length e, false-eqb (length c.tokens.bytes.now) 0 c.tokens-test.ensures) in
    same_fault c.args.rest.at c.args.rest.bytes.now c.tokens.tokens.items c.in-Err.refusal
    (refusal_says c.args.rest.at c.args.rest.bytes.now c.tokens.at c.tokens.bytes.now c.tokens.tokens.items
    c.in-Err.refusal c.tokens.invariant.0 some c.in-Err.ensures.exact c.in-Err.ensures.only).0

pub returns-then-closes : goal.returns-then-closes
returns-then-closes c =
    let some : c.tokens.bytes.now ≡ []
    → ⊥ = λ e. omega (arith, ap length e, false-eqb (length c.tokens.bytes.now) 0 c.tokens-test.ensures) in
    let f = c.in-Ok.ensures.exact in
    let later : c.skip-after.result.now ≡ f.1 = c.skip-after.ensures
    ∙ ap (λ n. drop n c.tokens.bytes.now) (token_len c.tokens.at f.0 f.1 c.in-Ok.token f.3)
    ∙ ap (drop (length f.0)) f.2 ∙ drop_front f.0 f.1 in
    let b = c.behind_gaps-bytes-in-tokens.ensures in
    let behind : Behind f.1 c.behind_gaps-bytes-in-tokens.result.now = rw (sym later)
    (record { within = b.within; passed = b.passed; only = b.only }) in
    rw (c.in_ok-push.ensures.items, later) (
    let next = next_reached c.args.rest.at c.args.rest.bytes.now c.tokens.at c.tokens.bytes.now c.tokens.tokens.items
    c.in-Ok.token f.0 f.1 c.behind_gaps-bytes-in-tokens.result.now _
    c.tokens.invariant.0 some f.2 f.3 c.in-Ok.ensures.only behind b.stops refl in
    closed c.args.rest.at c.args.rest.bytes.now _ c.behind_gaps-bytes-in-tokens.result.now c.tokens.tokens.items
    c.in-Ok.token next c.tokens.invariant.1 (sym c.is_close-closes.ensures ∙ c.if-closes.true)
    )

pub tokens-preserved : goal.tokens-preserved
tokens-preserved c =
    let some : c.tokens.bytes.now ≡ []
    → ⊥ = λ e. omega (arith, ap length e, false-eqb (length c.tokens.bytes.now) 0 c.tokens-test.ensures) in
    let f = c.in-Ok.ensures.exact in
    let later : c.skip-after.result.now ≡ f.1 = c.skip-after.ensures
    ∙ ap (λ n. drop n c.tokens.bytes.now) (token_len c.tokens.at f.0 f.1 c.in-Ok.token f.3)
    ∙ ap (drop (length f.0)) f.2 ∙ drop_front f.0 f.1 in
    let b = c.behind_gaps-bytes-in-tokens.ensures in
    let behind : Behind f.1 c.behind_gaps-bytes-in-tokens.result.now = rw (sym later)
    (record { within = b.within; passed = b.passed; only = b.only }) in
    rw (c.in_ok-push.ensures.items, later) (
    let next = next_reached c.args.rest.at c.args.rest.bytes.now c.tokens.at c.tokens.bytes.now c.tokens.tokens.items
    c.in-Ok.token f.0 f.1 c.behind_gaps-bytes-in-tokens.result.now _
    c.tokens.invariant.0 some f.2 f.3 c.in-Ok.ensures.only behind b.stops refl in (
      next,
      still_open c.tokens.tokens.items c.in-Ok.token c.tokens.invariant.1
          (sym c.is_close-closes.ensures ∙ c.if-closes.false),
    )
    )

pub returns : goal.returns
returns c =
    all_left c.args.rest.at c.args.rest.bytes.now c.tokens.at c.tokens.bytes.now c.tokens.tokens.items
    c.tokens.invariant.0 c.tokens.invariant.1
    (nil_from_length c.tokens.bytes.now (eqb-true (length c.tokens.bytes.now) 0 (sym c.tokens-test.ensures)))
