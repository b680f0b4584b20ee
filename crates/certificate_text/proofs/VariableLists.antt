-- The variables of the links of one block more, and those of a link by its number.
use Rattle.std.proofs.Common.{◌≡◌, ℕ, zero, suc, ◌+◌, ◌-◌, ◌<◌, ◌≤◌, List, [], ◌∷◌, ◌++◌, length, map, take, get_or, refl, sym, ap, subst, ◌∙◌, arith, Bor}
use Rattle.std.specs.Prelude.{Contains, slice_get, Some, option_map}
use Rattle.std.specs.List.{flat_map}
use Rattle.std.proofs.lemmas.List.{append-nil, take_more, map-append}
use Rattle.std.proofs.lemmas.List.Elements.{Contains-get_or}
use Rattle.std.proofs.lemmas.Option.{slice_get-map, slice_get_read}
use Rattle.std.proofs.lemmas.Grind.{flat_map-append}
use Rattle.query_spec.specs.declared.Variable.{Variable}
use Rattle.query_spec.specs.Query.{Condition, Chain}
use Rattle.query_spec.specs.Mentions.{variables_of}
use Rattle.struql_ast.specs.declared.Link.{Link as WrittenLink}
use Rattle.struql_ast.specs.Reading.{link_of}
use Rattle.query_blocks.specs.declared.QueryBlock.{QueryBlock}
use Rattle.query_blocks.specs.Blocks.{body_of, AreCheckedBlocks}
use Rattle.constraint_spec.specs.Placed.{PlacedLink, body_links}
use Rattle.certificate_text.specs.Lines.{variables_of_links, or_none, variables_at}

repeated : (variables : List Variable) (conditions : List Condition) (ks : List WrittenLink) → variables ≡ variables_of conditions
    → flat_map (λ k. variables ∷ []) ks ≡ variables_of_links (map (λ k. record { conditions = conditions; link = k }) (map link_of ks))
repeated variables conditions [] is = refl
repeated variables conditions (k ∷ ks) is = let later = repeated variables conditions ks is in λ j. is j ∷ later j

-- a checked block's variables are those of its conditions
pub own_variables : (version : ℕ) (blocks : List QueryBlock) (i : ℕ) (s : QueryBlock) → AreCheckedBlocks version blocks → i < length blocks → s ≡ get_or blocks i s
    → s.chain.variables ≡ variables_of s.chain.conditions
own_variables version blocks i s checked long here =
    let P : QueryBlock → Type 0 = λ b. Contains blocks b in
    let within : Contains blocks s = subst P (sym here) (Contains-get_or blocks i s long) in
    ap (λ (c : Chain). c.variables) (checked s within).chain

-- the links of one block more
pub links_more : (version : ℕ) (blocks : List QueryBlock) (i : ℕ) (s : QueryBlock) (variables : List Variable) (ks : List WrittenLink) (found new : List (List Variable)) → AreCheckedBlocks version blocks
    → i < length blocks → s ≡ get_or blocks i s → variables ≡ s.chain.variables → ks ≡ s.links.items
    → found ≡ variables_of_links (flat_map body_links (map body_of (take i blocks)))
    → new ≡ found ++ flat_map (λ k. variables ∷ []) ks
    → new ≡ variables_of_links (flat_map body_links (map body_of (take (i + 1) blocks)))
links_more version blocks i s variables ks found new checked long here vs ls so_far more =
    let bs : take (i + 1) blocks ≡ take i blocks ++ s ∷ [] = take_more blocks i s long ∙ ap (λ (b : QueryBlock). take i blocks ++ b ∷ []) (sym here) in
    let before = map body_of (take i blocks) in
    let bodies : map body_of (take (i + 1) blocks) ≡ before ++ body_of s ∷ [] = ap (map body_of) bs ∙ map-append body_of (take i blocks) (s ∷ []) in
    let flat : flat_map body_links (map body_of (take (i + 1) blocks)) ≡ flat_map body_links before ++ body_links (body_of s) =
    ap (flat_map body_links) bodies ∙ (flat_map-append body_links before (body_of s ∷ []) ∙ ap (λ ys. flat_map body_links before ++ ys) (append-nil (body_links (body_of s)))) in
    let V : PlacedLink → List Variable = λ k. variables_of k.conditions in
    let own = own_variables version blocks i s checked long here in
    let last : flat_map (λ k. variables ∷ []) ks ≡ variables_of_links (body_links (body_of s)) =
    ap (λ (xs : List WrittenLink). flat_map (λ k. variables ∷ []) xs) ls ∙ repeated variables s.chain.conditions s.links.items (vs ∙ own) in
    more ∙ (ap (λ xs. xs ++ flat_map (λ k. variables ∷ []) ks) so_far ∙ (ap (λ ys. variables_of_links (flat_map body_links before) ++ ys) last
    ∙ (sym (map-append V (flat_map body_links before) (body_links (body_of s))) ∙ ap variables_of_links (sym flat))))

-- those of a link by its number
pub at_number : (all : List (Bor (List Variable))) (n : ℕ) (v : Bor (List Variable)) → (n ≡ 0 → ⊥) → n ≤ length all → v ≡ get_or all (n - 1) v
    → v.now ≡ variables_at (map (λ v. v.now) all) n
at_number all zero v some few is = absurd (some refl)
at_number all (suc m) v some few is =
    let e : suc m - 1 ≡ m = omega arith in
    let at : slice_get all m ≡ Some v = slice_get_read all (length all) m v refl (omega arith) (is ∙ ap (λ i. get_or all i v) e) in
    let N : Bor (List Variable) → List Variable = λ v. v.now in
    sym (ap or_none (slice_get-map N all m ∙ ap (option_map N) at))
