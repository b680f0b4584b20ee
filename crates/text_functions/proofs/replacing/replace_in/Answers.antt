use Rattle.std.proofs.Common.{◌≡◌, ◌++◌, ◌+◌, ◌<◌, List, ℕ, length, map, flat_map, subst, ap, ◌∙◌, string_bytes, MatchOption}
use Rattle.function_spec.specs.Functions.{longest}
use Rattle.text_functions.proofs.Replacements.{replaced_none, replaced_some, made_long, made_rest}
use Rattle.text_functions.proofs.replacing.replace_in.Goals as goal

pub returns-in_default : goal.returns-in_default
returns-in_default c =
    let ps = map (λ p. p.now) c.in_ok-found.found.items in
    let whole = λ (l : List (List ℕ)). flat_map (λ t. c.args.by.now ++ t) l in
    let long = subst (λ r. MatchOption r (longest + length c.args.by.now < length (whole (map (λ p. p.now) c.as_slice.result.now))) (λ t. string_bytes t ≡ whole (map (λ p. p.now) c.as_slice.result.now))) c.in_default.is c.in_ok-made.ensures in
    replaced_none c.args.by.now c.args.part.now c.args.text.now ps c.in_ok-found.ensures
    (subst (λ l. longest + length c.args.by.now < length (whole (map (λ p. p.now) l))) c.as_slice.ensures.value long)

pub split_at-requires : goal.split_at-requires
split_at-requires c =
    let ps = map (λ p. p.now) c.in_ok-found.found.items in
    let whole = λ (l : List (List ℕ)). flat_map (λ t. c.args.by.now ++ t) l in
    let made = subst (λ r. MatchOption r (longest + length c.args.by.now < length (whole (map (λ p. p.now) c.as_slice.result.now))) (λ t. string_bytes t ≡ whole (map (λ p. p.now) c.as_slice.result.now))) c.in-Some.is c.in_ok-made.ensures in
    let is = c.as_bytes.ensures.value ∙ made ∙ ap (λ l. whole (map (λ p. p.now) l)) c.as_slice.ensures.value in
    made_long c.args.by.now c.args.part.now c.args.text.now ps c.in_ok-found.ensures c.as_bytes.result.now is

pub returns : goal.returns
returns c =
    let ps = map (λ p. p.now) c.in_ok-found.found.items in
    let whole = λ (l : List (List ℕ)). flat_map (λ t. c.args.by.now ++ t) l in
    let made = subst (λ r. MatchOption r (longest + length c.args.by.now < length (whole (map (λ p. p.now) c.as_slice.result.now))) (λ t. string_bytes t ≡ whole (map (λ p. p.now) c.as_slice.result.now))) c.in-Some.is c.in_ok-made.ensures in
    let is = c.as_bytes.ensures.value ∙ made ∙ ap (λ l. whole (map (λ p. p.now) l)) c.as_slice.ensures.value in
    replaced_some c.args.by.now c.args.part.now c.args.text.now ps c.in_ok-found.ensures c.split_at.result.1.now c.in_ok-value.value
    (made_rest c.args.by.now c.args.part.now c.args.text.now ps c.in_ok-found.ensures c.as_bytes.result.now c.split_at.result.1.now is c.split_at.ensures.back) c.in_ok-value.ensures
