-- Items of a file of templates, one after another.
use Rattle.std.proofs.Common.{◌≡◌, ◌∙◌, ◌-◌, ◌<◌, List, [], ◌∷◌, ◌++◌, length, get_or, take, drop, ap, arith, append_assoc}
use Rattle.std.proofs.lemmas.List.{take_all}
use Rattle.template_items.specs.declared.item.Item.{Item}
use Rattle.lint_spec.specs.declared.Before.{Before}
use Rattle.lint_spec.specs.declared.Claim.{Claim}
use Rattle.lint_spec.specs.TemplateClaims.{item_claims, before_next, items_claims}

-- one item more of a file of templates
pub items_more : (before next : Before) (item : Item) (rest later : List Item) (found new total : List Claim) → 0 < length rest → item ≡ get_or rest 0 item → later ≡ take (length rest - 1) (drop 1 rest)
    → new ≡ found ++ item_claims before item.kind item.place later → next ≡ before_next before item.kind later → found ++ items_claims before rest ≡ total → new ++ items_claims next later ≡ total
items_more before next item [] later found new total some is rest_is added moved so_far =
    let none : ⊥ = omega (arith, some) in
    absurd none
items_more before next item (x ∷ xs) later found new total some is rest_is added moved so_far =
    let less : length (x ∷ xs) - 1 ≡ length xs = omega arith in
    let tail : later ≡ xs = rest_is ∙ ap (λ n. take n xs) less ∙ take_all (length xs) xs (omega arith) in
    let all : new ≡ found ++ item_claims before x.kind x.place xs = added ∙ ap (λ (l : List Item). found ++ item_claims before item.kind item.place l) tail ∙ ap (λ (i : Item). found ++ item_claims before i.kind i.place xs) is in
    let on : next ≡ before_next before x.kind xs = moved ∙ ap (λ (l : List Item). before_next before item.kind l) tail ∙ ap (λ (i : Item). before_next before i.kind xs) is in
    ap (λ (l : List Item). new ++ items_claims next l) tail ∙ ap (λ (s : Before). new ++ items_claims s xs) on ∙ ap (λ z. z ++ items_claims (before_next before x.kind xs) xs) all
    ∙ append_assoc found (item_claims before x.kind x.place xs) (items_claims (before_next before x.kind xs) xs) ∙ so_far
