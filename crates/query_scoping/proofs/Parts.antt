-- A block's parts as its fields have them, and one block more.
use Rattle.std.proofs.Common.{◌≡◌, List, [], ◌∷◌, ◌++◌, refl, sym, ap, ◌∙◌, append_assoc}
use Rattle.std.specs.Prelude.{map}
use Rattle.std.proofs.lemmas.List.{append-nil}
use Rattle.query_spec.specs.Query as plain
use Rattle.query_spec.specs.Query.{Body, with_outer}
use Rattle.struql_ast.specs.declared.Block.{Block, Block'}
use Rattle.struql_ast.specs.declared.Block.TheViews.{out-Block, roll-out-Block}
use Rattle.struql_ast.specs.Reading.{condition_of, term_of, link_of, collect_of, block_onto, blocks_of}
use Rattle.struql_ast.specs.Written.{block_clauses, block_inner, clauses_made, inner_made, condition_written, term_written, link_written, collect_written}
use Rattle.query_scoping.specs.Blocks.{own_body, inner_blocks}
use Rattle.query_scoping.proofs.Plain.{condition_plain, term_plain, link_plain, collect_plain, clauses_plain, blocks_plain, map_through, condition_same, term_same, link_same, collect_same, row_same, blocks_same}

own_plain : (b : Block) → clauses_plain (block_clauses b) ≡ own_body b
own_plain (Block' conditions creates links collects shape inner span) =
    let k = map_through condition_plain condition_written condition_of condition_same conditions.items in
    let t = map_through term_plain term_written term_of term_same creates.items in
    let l = map_through link_plain link_written link_of link_same links.items in
    let o = map_through collect_plain collect_written collect_of collect_same collects.items in
    rw (k, t, l, o) refl

pub own_is : (b : Block) → own_body b ≡ record {
  conditions = map condition_of (out-Block b).conditions.items;
  creates = map term_of (out-Block b).creates.items;
  links = map link_of (out-Block b).links.items;
  collects = map collect_of (out-Block b).collects.items;
}
own_is b =
    let k = map_through condition_plain condition_written condition_of condition_same (out-Block b).conditions.items in
    let t = map_through term_plain term_written term_of term_same (out-Block b).creates.items in
    let l = map_through link_plain link_written link_of link_same (out-Block b).links.items in
    let o = map_through collect_plain collect_written collect_of collect_same (out-Block b).collects.items in
    sym (own_plain b) ∙ (ap clauses_plain (ap block_clauses (sym (roll-out-Block b)) ∙ clauses_made (out-Block b)) ∙ rw (k, t, l, o) refl)

inner_plain : (b : Block) → blocks_plain (block_inner b) ≡ inner_blocks b
inner_plain (Block' conditions creates links collects shape inner span) = row_same _ inner

pub inner_is : (b : Block) → inner_blocks b ≡ blocks_of (out-Block b).blocks.items
inner_is b = sym (inner_plain b) ∙ (ap blocks_plain (ap block_inner (sym (roll-out-Block b)) ∙ inner_made (out-Block b)) ∙ blocks_same (out-Block b).blocks.items)

onto_is : (b : Block) (after : plain.Blocks) → block_onto b after ≡ plain.block (own_body b) (inner_blocks b) after
onto_is (Block' conditions creates links collects shape inner span) after = refl

pub outer_push : (outer : List plain.Condition) (xs : List Block) (b : Block)
    → with_outer outer (blocks_of (xs ++ b ∷ [])) ≡ with_outer outer (blocks_of xs) ++ (record (own_body b) { conditions = outer ++ (own_body b).conditions } ∷ with_outer (outer ++ (own_body b).conditions) (inner_blocks b))
outer_push outer [] b = rw (onto_is b (blocks_of [])) (ap (λ (bs : List Body). record (own_body b) { conditions = outer ++ (own_body b).conditions } ∷ bs) (append-nil _))
outer_push outer (x ∷ xs) b =
    rw (onto_is x (blocks_of (xs ++ b ∷ [])), onto_is x (blocks_of xs), outer_push outer xs b)
    (ap (λ (bs : List Body). record (own_body x) { conditions = outer ++ (own_body x).conditions } ∷ bs) (sym (append_assoc (with_outer (outer ++ (own_body x).conditions) (inner_blocks x)) (with_outer outer (blocks_of xs)) _)))

pub joined_blocks : (f x m : List Body) (s b : Body) (w v : List Body) → m ≡ f ++ x → s ≡ b → w ≡ v → (m ++ s ∷ []) ++ w ≡ f ++ (x ++ (b ∷ v))
joined_blocks f x m s b w v e g h = rw (e, g, h) (simp append_assoc)
