-- Blocks where they are written, and one block more.
use Rattle.std.proofs.Common.{◌≡◌, ℕ, ◌+◌, List, [], ◌∷◌, ◌++◌, length, refl, sym, ap, ◌∙◌, arith, append_assoc}
use Rattle.std.proofs.lemmas.List.{append-nil}
use Rattle.struql_ast.specs.declared.Block.{Block, Block'}
use Rattle.struql_ast.specs.declared.Block.TheViews.{out-Block, roll-out-Block}
use Rattle.struql_ast.specs.Written.{Blocks, block, block_written, blocks_written, block_clauses, block_inner, block_span, inner_made}
use Rattle.lint_spec.specs.declared.Claim.{Claim}
use Rattle.lint_spec.specs.QueryClaims.{PlacedBlock, blocks_within, block_claims, numbered_claims}

pub inner_of : (b : Block) → block_inner b ≡ blocks_written (out-Block b).blocks.items
inner_of b = ap block_inner (sym (roll-out-Block b)) ∙ inner_made (out-Block b)

written_of : (b : Block) (after : Blocks) → block_written b after ≡ block (block_clauses b) (block_inner b) (block_span b) after
written_of (Block' conditions creates links collects shape inner span) after = refl

abbrev itself : Block → PlacedBlock
itself b = record { clauses = block_clauses b; span = block_span b }

-- the blocks of a list that has one more
pub blocks_push : (xs : List Block) (b : Block) → blocks_within (blocks_written (xs ++ b ∷ [])) ≡ blocks_within (blocks_written xs) ++ (record { clauses = block_clauses b; span = block_span b } ∷ blocks_within (block_inner b))
blocks_push [] b = rw (written_of b (blocks_written [])) (ap (λ (bs : List PlacedBlock). itself b ∷ bs) (append-nil (blocks_within (block_inner b))))
blocks_push (x ∷ xs) b =
    rw (written_of x (blocks_written (xs ++ b ∷ [])), written_of x (blocks_written xs), blocks_push xs b)
    (ap (λ (bs : List PlacedBlock). itself x ∷ bs) (sym (append_assoc (blocks_within (block_inner x)) (blocks_within (blocks_written xs)) (itself b ∷ blocks_within (block_inner b)))))

-- what was had, and one block more with those in it
pub joined : (had found more inner : List PlacedBlock) (x : PlacedBlock) → found ≡ had ++ more → (found ++ x ∷ []) ++ inner ≡ had ++ (more ++ (x ∷ inner))
joined had found more inner x e = rw e (simp append_assoc)

-- what a list that has one more block asks for
pub numbered_push : (n : ℕ) (xs : List PlacedBlock) (b : PlacedBlock) → numbered_claims n (xs ++ b ∷ []) ≡ numbered_claims n xs ++ block_claims (n + length xs) b
numbered_push n [] b =
    let e : n + 0 ≡ n = omega arith in
    append-nil (block_claims n b) ∙ ap (λ (k : ℕ). block_claims k b) (sym e)
numbered_push n (x ∷ xs) b =
    let e : n + 1 + length xs ≡ n + length (x ∷ xs) = omega arith in
    ap (λ (l : List Claim). block_claims n x ++ l) (numbered_push (n + 1) xs b ∙ ap (λ (k : ℕ). numbered_claims (n + 1) xs ++ block_claims k b) e)
    ∙ sym (append_assoc (block_claims n x) (numbered_claims (n + 1) xs) (block_claims (n + length (x ∷ xs)) b))
