-- A block's parts as its fields have them, and one block more.
use Rattle.std.proofs.Common.{◌≡◌, List, [], ◌∷◌, ◌++◌, refl, sym, ap, ◌∙◌, append_assoc}
use Rattle.std.specs.Prelude.{map}
use Rattle.std.proofs.lemmas.List.{append-nil}
use Rattle.struql_ast.specs.declared.Block.{Block, Block'}
use Rattle.struql_ast.specs.declared.Block.TheViews.{out-Block, roll-out-Block}
use Rattle.struql_ast.specs.Written.{Blocks, block, condition_written, term_written, link_written, collect_written, block_written, blocks_written, block_clauses, block_inner, block_span, inner_made, clauses_made}
use Rattle.struql_check.specs.Scope.{terms_within, clause_terms, within, ScopedBlock}
use Rattle.struql_check.specs.Known.{here}
use Rattle.struql_check.specs.declared.mentions.VariableUse.{VariableUse}

pub clauses_of : (b : Block) → block_clauses b ≡ record {
  conditions = map condition_written (out-Block b).conditions.items;
  creates = map term_written (out-Block b).creates.items;
  links = map link_written (out-Block b).links.items;
  collects = map collect_written (out-Block b).collects.items;
}
clauses_of b = ap block_clauses (sym (roll-out-Block b)) ∙ clauses_made (out-Block b)

pub inner_of : (b : Block) → block_inner b ≡ blocks_written (out-Block b).blocks.items
inner_of b = ap block_inner (sym (roll-out-Block b)) ∙ inner_made (out-Block b)

pub written_of : (b : Block) (after : Blocks) → block_written b after ≡ block (block_clauses b) (block_inner b) (block_span b) after
written_of (Block' conditions creates links collects shape inner span) after = refl

pub terms_push : (xs : List Block) (b : Block) → terms_within (blocks_written (xs ++ b ∷ [])) ≡ terms_within (blocks_written xs) ++ (clause_terms (block_clauses b) ++ terms_within (block_inner b))
terms_push [] b = rw (written_of b (blocks_written [])) (append-nil _)
terms_push (x ∷ xs) b =
    rw (written_of x (blocks_written (xs ++ b ∷ [])), written_of x (blocks_written xs), terms_push xs b)
    (sym (append_assoc _ (terms_within (blocks_written xs)) _))

pub within_push : (round : List (List VariableUse)) (xs : List Block) (b : Block)
    → within round (blocks_written (xs ++ b ∷ [])) ≡ within round (blocks_written xs) ++ (record { round = here round b; clauses = block_clauses b } ∷ within (here round b) (block_inner b))
within_push round [] b = rw (written_of b (blocks_written [])) (ap (λ (bs : List ScopedBlock). record { round = here round b; clauses = block_clauses b } ∷ bs) (append-nil _))
within_push round (x ∷ xs) b =
    rw (written_of x (blocks_written (xs ++ b ∷ [])), written_of x (blocks_written xs), within_push round xs b)
    (ap (λ (bs : List ScopedBlock). record { round = here round x; clauses = block_clauses x } ∷ bs) (sym (append_assoc (within (here round x) (block_inner x)) (within round (blocks_written xs)) _)))

pub parts_joined : {X : Type 0} (f t c l k i found : List X) → found ≡ f ++ t → (((found ++ c) ++ l) ++ k) ++ i ≡ f ++ (t ++ (((c ++ l) ++ k) ++ i))
parts_joined f t c l k i found e = rw e (simp append_assoc)
