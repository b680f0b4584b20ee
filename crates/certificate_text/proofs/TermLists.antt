-- The terms of a function: those of one part of a block more, and of one block more.
use Rattle.std.proofs.Common.{◌≡◌, ℕ, ◌+◌, ◌<◌, List, [], ◌∷◌, ◌++◌, length, map, take, get_or, sym, ap, ◌∙◌, arith, append_assoc, length-take}
use Rattle.std.specs.Prelude.{filter}
use Rattle.std.specs.List.{flat_map}
use Rattle.std.proofs.lemmas.List.{append-nil, take_more, map-append, length-map}
use Rattle.std.proofs.lemmas.List.Elements.{filter-append}
use Rattle.std.proofs.lemmas.List.Concat.{flat_map_single}
use Rattle.std.proofs.lemmas.List.Folds.{flat_map-map}
use Rattle.query_spec.specs.Query.{SkolemTerm, Body, Collect}
use Rattle.query_spec.specs.Mentions.{same_name}
use Rattle.site_spec.specs.Site.{target_terms, ends_of, terms_of}
use Rattle.struql_ast.specs.declared.SkolemTerm.{SkolemTerm as WrittenSkolem}
use Rattle.struql_ast.specs.declared.Link.{Link as WrittenLink}
use Rattle.struql_ast.specs.declared.Collect.{Collect as WrittenCollect}
use Rattle.struql_ast.specs.Reading.{term_of, target_of, link_of, collect_of}
use Rattle.query_blocks.specs.declared.QueryBlock.{QueryBlock}
use Rattle.query_blocks.specs.Blocks.{body_of}
use Rattle.certificate_text.specs.Lines.{PlacedTerm, terms_named, placed_terms}

pub named_append : (f path : List ℕ) (xs ys : List SkolemTerm) → terms_named f path (xs ++ ys) ≡ terms_named f path xs ++ terms_named f path ys
named_append f path xs ys =
    let is : SkolemTerm → _ = λ (t : SkolemTerm). same_name t.function f in
    let placed : SkolemTerm → PlacedTerm = λ t. record { path = path; term = t } in
    ap (map placed) (filter-append is xs ys) ∙ map-append placed (filter is xs) (filter is ys)

-- a block's terms are those of its parts
pub block_named : (f path : List ℕ) (s : QueryBlock) (cs : List WrittenSkolem) (ks : List WrittenLink) (ps : List WrittenCollect) (start creates links new : List PlacedTerm)
    → cs ≡ s.creates.items → ks ≡ s.links.items → ps ≡ s.collects.items
    → creates ≡ start ++ terms_named f path (flat_map (λ t. term_of t ∷ []) cs)
    → links ≡ creates ++ terms_named f path (flat_map (λ k. ends_of (link_of k)) ks)
    → new ≡ links ++ terms_named f path (flat_map (λ k. target_terms (target_of k.target)) ps)
    → new ≡ start ++ terms_named f path (terms_of (body_of s))
block_named f path s cs ks ps start creates links new ci ki pi c l n =
    let N = terms_named f path in
    let one = map term_of s.creates.items in
    let two = flat_map ends_of (map link_of s.links.items) in
    let three = flat_map (λ (k : Collect). target_terms k.target) (map collect_of s.collects.items) in
    let c2 : creates ≡ start ++ N one = c ∙ ap (λ ts. start ++ N ts) (flat_map_single term_of cs ∙ ap (map term_of) ci) in
    let l2 : links ≡ creates ++ N two = l ∙ ap (λ ts. creates ++ N ts) (sym (flat_map-map ends_of link_of ks) ∙ ap (λ (xs : List WrittenLink). flat_map ends_of (map link_of xs)) ki) in
    let n2 : new ≡ links ++ N three = n ∙ ap (λ ts. links ++ N ts) (sym (flat_map-map (λ (k : Collect). target_terms k.target) collect_of ps) ∙ ap (λ (xs : List WrittenCollect). flat_map (λ (k : Collect). target_terms k.target) (map collect_of xs)) pi) in
    let front : links ≡ start ++ N (one ++ two) =
    l2 ∙ (ap (λ ms. ms ++ N two) c2 ∙ (append_assoc start (N one) (N two) ∙ ap (λ ms. start ++ ms) (sym (named_append f path one two)))) in
    n2 ∙ (ap (λ ms. ms ++ N three) front ∙ (append_assoc start (N (one ++ two)) (N three) ∙ ap (λ ms. start ++ ms) (sym (named_append f path (one ++ two) three))))

placed_push : (f : List ℕ) (paths : List (List ℕ)) (bodies : List Body) (path : List ℕ) (b : Body) → length paths ≡ length bodies
    → placed_terms f (paths ++ path ∷ []) (bodies ++ b ∷ []) ≡ placed_terms f paths bodies ++ terms_named f path (terms_of b)
placed_push f [] [] path b same = append-nil (terms_named f path (terms_of b))
placed_push f [] (c ∷ bodies) path b same = absurd (omega (arith, same))
placed_push f (p ∷ paths) [] path b same = absurd (omega (arith, same))
placed_push f (p ∷ paths) (c ∷ bodies) path b same =
    let here = terms_named f p (terms_of c) in
    ap (λ ms. here ++ ms) (placed_push f paths bodies path b (omega (arith, same))) ∙ sym (append_assoc here (placed_terms f paths bodies) (terms_named f path (terms_of b)))

-- one block more
pub placed_more : (f : List ℕ) (paths : List (List ℕ)) (blocks : List QueryBlock) (i : ℕ) (path : List ℕ) (s : QueryBlock) (found new : List PlacedTerm) → length paths ≡ length blocks → i < length blocks
    → path ≡ get_or paths i path → s ≡ get_or blocks i s
    → found ≡ placed_terms f (take i paths) (map body_of (take i blocks))
    → new ≡ found ++ terms_named f path (terms_of (body_of s))
    → new ≡ placed_terms f (take (i + 1) paths) (map body_of (take (i + 1) blocks))
placed_more f paths blocks i path s found new same long at here so_far more =
    let ps : take (i + 1) paths ≡ take i paths ++ path ∷ [] = take_more paths i path (omega (arith, same, long)) ∙ ap (λ p. take i paths ++ p ∷ []) (sym at) in
    let bs : take (i + 1) blocks ≡ take i blocks ++ s ∷ [] = take_more blocks i s long ∙ ap (λ (b : QueryBlock). take i blocks ++ b ∷ []) (sym here) in
    let bodies = map body_of (take i blocks) in
    let ms : map body_of (take (i + 1) blocks) ≡ bodies ++ body_of s ∷ [] = ap (map body_of) bs ∙ map-append body_of (take i blocks) (s ∷ []) in
    let equal : length (take i paths) ≡ length bodies = omega (arith, length-take {A = List ℕ}, length-take {A = QueryBlock}, length-map (take i blocks) body_of, same) in
    let right : placed_terms f (take (i + 1) paths) (map body_of (take (i + 1) blocks)) ≡ placed_terms f (take i paths) bodies ++ terms_named f path (terms_of (body_of s)) =
    (λ j. placed_terms f (ps j) (ms j)) ∙ placed_push f (take i paths) bodies path (body_of s) equal in
    more ∙ (ap (λ xs. xs ++ terms_named f path (terms_of (body_of s))) so_far ∙ sym right)
