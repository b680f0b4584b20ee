-- The paths of one block more, and how many paths there are.
use Rattle.std.proofs.Common.{◌≡◌, ℕ, ◌+◌, ◌<◌, List, [], ◌∷◌, ◌++◌, length, take, get_or, refl, sym, ap, ◌∙◌, arith, append_assoc, length-append}
use Rattle.std.specs.Prelude.{codes}
use Rattle.std.specs.Fmt.{decimal}
use Rattle.std.proofs.lemmas.List.{append-nil, take_more, length-take-le}
use Rattle.query_spec.specs.Query as plain
use Rattle.query_spec.specs.Query.{no_blocks, block, with_outer, Condition}
use Rattle.struql_ast.specs.declared.Block.{Block, Block'}
use Rattle.struql_ast.specs.declared.Block.TheViews.{out-Block}
use Rattle.struql_ast.specs.Reading.{block_onto, blocks_of}
use Rattle.query_scoping.specs.Blocks.{own_body, inner_blocks}
use Rattle.query_scoping.proofs.Parts.{inner_is}
use Rattle.site_spec.specs.Paths.{paths_from}

onto_is : (b : Block) (after : plain.Blocks) → block_onto b after ≡ block (own_body b) (inner_blocks b) after
onto_is (Block' conditions creates links collects shape inner span) after = refl

abbrev path_at : List ℕ → ℕ → List ℕ
path_at front number = front ++ decimal number

-- the paths of a block and of those in it
abbrev pub paths_under : List ℕ → ℕ → Block → List (List ℕ)
paths_under front number b = path_at front number ∷ paths_from (path_at front number ++ codes ".") 1 (inner_blocks b)

pub paths_push : (front : List ℕ) (first : ℕ) (xs : List Block) (b : Block) (number : ℕ) → number ≡ first + length xs
    → paths_from front first (blocks_of (xs ++ b ∷ [])) ≡ paths_from front first (blocks_of xs) ++ paths_under front number b
paths_push front first [] b number is =
    let same : first ≡ number = omega arith in
    rw (onto_is b no_blocks, same) (ap (λ (paths : List (List ℕ)). path_at front number ∷ paths) (append-nil _))
paths_push front first (x ∷ xs) b number is =
    rw (onto_is x (blocks_of (xs ++ b ∷ [])), onto_is x (blocks_of xs), paths_push front (first + 1) xs b number (omega arith))
    (ap (λ (paths : List (List ℕ)). path_at front first ∷ paths)
    (sym (append_assoc (paths_from (path_at front first ++ codes ".") 1 (inner_blocks x)) (paths_from front (first + 1) (blocks_of xs)) (paths_under front number b))))

-- one path for each block
pub paths_length : (front : List ℕ) (first : ℕ) (outer : List Condition) (bs : plain.Blocks) → length (paths_from front first bs) ≡ length (with_outer outer bs)
paths_length front first outer no_blocks = refl
paths_length front first outer (block body inner after) =
    let within = paths_length (path_at front first ++ codes ".") 1 (outer ++ body.conditions) inner in
    let later = paths_length front (first + 1) outer after in
    simp (length-append, within, later)

-- the paths after one block more
pub paths_more : (front : List ℕ) (bs : List Block) (i : ℕ) (b : Block) (start found pushed new : List (List ℕ)) (path within within2 : List ℕ) (inner : List Block) → i < length bs → b ≡ get_or bs i b
    → found ≡ start ++ paths_from front 1 (blocks_of (take i bs)) → path ≡ front ++ decimal (i + 1) → within ≡ path ++ codes "." → within2 ≡ within → inner ≡ (out-Block b).blocks.items
    → pushed ≡ found ++ path ∷ [] → new ≡ pushed ++ paths_from within2 1 (blocks_of inner) → new ≡ start ++ paths_from front 1 (blocks_of (take (i + 1) bs))
paths_more front bs i b start found pushed new path within within2 inner long here f p w w2 inside more whole =
    let all : take (i + 1) bs ≡ take i bs ++ b ∷ [] = take_more bs i b long ∙ ap (λ (y : Block). take i bs ++ y ∷ []) (sym here) in
    let count : length (take i bs) ≡ i = length-take-le i bs (omega arith) in
    let before = paths_from front 1 (blocks_of (take i bs)) in
    let under = paths_from (path_at front (i + 1) ++ codes ".") 1 (inner_blocks b) in
    let at : within2 ≡ path_at front (i + 1) ++ codes "." = w2 ∙ (w ∙ ap (λ x. x ++ codes ".") p) in
    let in_it : blocks_of inner ≡ inner_blocks b = ap blocks_of inside ∙ sym (inner_is b) in
    let last : paths_from within2 1 (blocks_of inner) ≡ under = ap (λ x. paths_from x 1 (blocks_of inner)) at ∙ ap (λ (x : plain.Blocks). paths_from (path_at front (i + 1) ++ codes ".") 1 x) in_it in
    let so_far : pushed ≡ (start ++ before) ++ path_at front (i + 1) ∷ [] = more ∙ (ap (λ x. x ++ path ∷ []) f ∙ ap (λ x. (start ++ before) ++ x ∷ []) p) in
    let left : new ≡ ((start ++ before) ++ path_at front (i + 1) ∷ []) ++ under = whole ∙ (ap (λ x. x ++ paths_from within2 1 (blocks_of inner)) so_far ∙ ap (λ x. ((start ++ before) ++ path_at front (i + 1) ∷ []) ++ x) last) in
    let right : paths_from front 1 (blocks_of (take (i + 1) bs)) ≡ before ++ paths_under front (i + 1) b = ap (λ (x : List Block). paths_from front 1 (blocks_of x)) all ∙ paths_push front 1 (take i bs) b (i + 1) (omega (arith, count)) in
    left ∙ (append_assoc (start ++ before) (path_at front (i + 1) ∷ []) under ∙ (append_assoc start before (path_at front (i + 1) ∷ under) ∙ sym (ap (λ x. start ++ x) right)))
