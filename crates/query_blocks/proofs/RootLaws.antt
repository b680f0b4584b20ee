-- The first term without arguments, block by block.
use Rattle.std.proofs.Common.{◌∙◌, ◌≡◌, ℕ, ◌+◌, ◌<◌, List, [], ◌∷◌, ◌++◌, length, drop, get_or, Bool, true, false, refl, sym, ap}
use Rattle.std.proofs.lemmas.List.{drop_more}
use Rattle.std.specs.Prelude.{Option, Some, None, map, option_map, if◌then◌else◌}
use Rattle.std.specs.List.{flat_map}
use Rattle.query_spec.specs.Query.{SkolemTerm, Body}
use Rattle.site_spec.specs.Root.{has_no_args}
use Rattle.struql_ast.specs.Reading.{term_of}
use Rattle.query_blocks.specs.declared.QueryBlock.{QueryBlock}
use Rattle.query_blocks.specs.Blocks.{body_of}
use Rattle.query_blocks.specs.Roots.{first_root, root_of_bodies}

found_by : (x : SkolemTerm) (xs ys : List SkolemTerm) (t : SkolemTerm) → (Some t ≡ first_root xs → first_root (xs ++ ys) ≡ Some t)
    → (b : Bool) → has_no_args x.args ≡ b → Some t ≡ first_root (x ∷ xs) → first_root (x ∷ (xs ++ ys)) ≡ Some t
found_by x xs ys t rest true is e = rw is (let h : ◌≡◌ {A = Option SkolemTerm} (Some t) (Some x) = rw is at e in sym h)
found_by x xs ys t rest false is e = rw is (rest (let h : Some t ≡ first_root xs = rw is at e in h))

found : (xs ys : List SkolemTerm) (t : SkolemTerm) → Some t ≡ first_root xs → first_root (xs ++ ys) ≡ Some t
found [] ys t e = absurd (let h : ◌≡◌ {A = Option SkolemTerm} (Some t) None = e in cc)
found (x ∷ xs) ys t e = found_by x xs ys t (found xs ys t) (has_no_args x.args) refl e

skipped_by : (x : SkolemTerm) (xs ys : List SkolemTerm) → (None ≡ first_root xs → first_root (xs ++ ys) ≡ first_root ys)
    → (b : Bool) → has_no_args x.args ≡ b → None ≡ first_root (x ∷ xs) → first_root (x ∷ (xs ++ ys)) ≡ first_root ys
skipped_by x xs ys rest true is e = absurd (let h : ◌≡◌ {A = Option SkolemTerm} None (Some x) = rw is at e in cc)
skipped_by x xs ys rest false is e = rw is (rest (let h : None ≡ first_root xs = rw is at e in h))

skipped : (xs ys : List SkolemTerm) → None ≡ first_root xs → first_root (xs ++ ys) ≡ first_root ys
skipped [] ys e = refl
skipped (x ∷ xs) ys e = skipped_by x xs ys (skipped xs ys) (has_no_args x.args) refl e

split : (blocks : List QueryBlock) (i : ℕ) (block : QueryBlock) → i < length blocks → block ≡ get_or blocks i block → drop i blocks ≡ block ∷ drop (i + 1) blocks
split blocks i block within is = drop_more blocks i block within ∙ ap (λ b. b ∷ drop (i + 1) blocks) (sym is)

abbrev creates_of : List QueryBlock → List SkolemTerm
creates_of blocks = flat_map (λ (b : Body). b.creates) (map body_of blocks)

pub root_here : (blocks : List QueryBlock) (i : ℕ) (block : QueryBlock) (t : SkolemTerm) → i < length blocks → block ≡ get_or blocks i block → Some t ≡ first_root (map term_of block.creates.items)
    → root_of_bodies (map body_of (drop i blocks)) ≡ Some t.function
root_here blocks i block t within is e =
    ap (λ bs. root_of_bodies (map body_of bs)) (split blocks i block within is)
    ∙ ap (option_map (λ (x : SkolemTerm). x.function)) (found (map term_of block.creates.items) (creates_of (drop (i + 1) blocks)) t e)

pub root_next : (blocks : List QueryBlock) (i : ℕ) (block : QueryBlock) → i < length blocks → block ≡ get_or blocks i block → None ≡ first_root (map term_of block.creates.items)
    → root_of_bodies (map body_of (drop i blocks)) ≡ root_of_bodies (map body_of (drop (i + 1) blocks))
root_next blocks i block within is e =
    ap (λ bs. root_of_bodies (map body_of bs)) (split blocks i block within is)
    ∙ ap (option_map (λ (x : SkolemTerm). x.function)) (skipped (map term_of block.creates.items) (creates_of (drop (i + 1) blocks)) e)
