-- The program's blocks as plain blocks, by way of the trees that keep the places.
use Rattle.std.proofs.Common.{◌≡◌, List, [], ◌∷◌, refl, sym, ap, ◌∙◌}
use Rattle.std.specs.Prelude.{map}
use Rattle.struql_ast.specs.declared.Block.{Block, Block', Row_of-Block, end_of-Block, more_of-Block}
use Rattle.struql_ast.specs.declared.Block.TheViews.{out-Block, roll-out-Block}
use Rattle.struql_ast.specs.declared.Condition as declared
use Rattle.struql_ast.specs.declared.PathStep.{PathStep}
use Rattle.struql_ast.specs.declared.PathStep.TheVariants as step
use Rattle.struql_ast.specs.declared.Target as target
use Rattle.struql_ast.specs.declared.Target.TheVariants.{Plain, Made, Summed}
use Rattle.struql_ast.specs.declared.Link as link
use Rattle.struql_ast.specs.declared.Collect as collect
use Rattle.struql_ast.specs.Written as tree
use Rattle.struql_ast.specs.Written.{step_written, condition_written, term_written, target_written, link_written, collect_written, block_written, row_written, blocks_written, block_clauses, block_inner, inner_made, clauses_made}
use Rattle.struql_ast.specs.Reading.{operand_of, step_of, condition_of, term_of, target_of, aggregate_of, label_of, link_of, collect_of, block_onto, row_of_blocks, blocks_of}
use Rattle.query_spec.specs.Query as plain
use Rattle.query_spec.specs.Query.{Body, Blocks}

abbrev step_kept : tree.Step → plain.PathStep
step_kept (tree.arc_variable x span) = plain.arc_variable x
step_kept (tree.expression r span) = plain.expression r

abbrev condition_kept : tree.Condition → plain.Condition
condition_kept (tree.member c x x_span span) = plain.member c x
condition_kept (tree.path t s u span) = plain.path (operand_of t) (step_kept s) (operand_of u)
condition_kept (tree.compare t o u span) = plain.compare (operand_of t) o (operand_of u)
condition_kept (tree.one_of t vs span) = plain.one_of (operand_of t) vs
condition_kept (tree.kind k x x_span span) = plain.kind k x
condition_kept (tree.negation c span) = plain.negation (condition_kept c)

abbrev term_kept : tree.Term → plain.SkolemTerm
term_kept t = record { function = t.function; args = map operand_of t.args }

abbrev target_kept : tree.Target → plain.Target
target_kept (tree.plain o) = plain.plain (operand_of o)
target_kept (tree.made t) = plain.made (term_kept t)
target_kept (tree.summed a span) = plain.summed (aggregate_of a)

abbrev link_kept : tree.Link → plain.Link
link_kept k = record { source = target_kept k.source; label = label_of k.label; target = target_kept k.target }

abbrev collect_kept : tree.Collect → plain.Collect
collect_kept c = record { collection = c.collection; target = target_kept c.target }

abbrev body_kept : tree.Clauses → Body
body_kept c = record { conditions = map condition_kept c.conditions; creates = map term_kept c.creates; links = map link_kept c.links; collects = map collect_kept c.collects }

abbrev blocks_kept : tree.Blocks → Blocks
blocks_kept tree.no_blocks = plain.no_blocks
blocks_kept (tree.block c inner span after) = plain.block (body_kept c) (blocks_kept inner) (blocks_kept after)

step_same : (s : PathStep) → step_kept (step_written s) ≡ step_of s
step_same (step.ArcVariable x span) = refl
step_same (step.Expression r span) = refl

condition_same : (c : declared.Condition) → condition_kept (condition_written c) ≡ condition_of c
condition_same (declared.Member c x x_span span) = refl
condition_same (declared.Path t s u span) = ap (λ z. plain.path (operand_of t) z (operand_of u)) (step_same s)
condition_same (declared.Compare t o u span) = refl
condition_same (declared.OneOf t vs span) = refl
condition_same (declared.Kind k x x_span span) = refl
condition_same (declared.Not' p c span) = ap plain.negation (condition_same c)

target_same : (t : target.Target) → target_kept (target_written t) ≡ target_of t
target_same (Plain o) = refl
target_same (Made t) = refl
target_same (Summed a span) = refl

link_same : (k : link.Link) → link_kept (link_written k) ≡ link_of k
link_same k = rw (target_same k.source, target_same k.target) refl

collect_same : (c : collect.Collect) → collect_kept (collect_written c) ≡ collect_of c
collect_same c = rw (target_same c.target) refl

maps_same : {A B C : Type 0} (f : B → C) (g : A → B) (h : A → C) → ((x : A) → f (g x) ≡ h x) → (xs : List A) → map f (map g xs) ≡ map h xs
maps_same f g h same [] = refl
maps_same f g h same (x ∷ xs) = rw (same x, maps_same f g h same xs) refl

abbrev plain_body : Block → Body
plain_body (Block' conditions creates links collects shape inner span) =
    record { conditions = map condition_of conditions.items; creates = map term_of creates.items; links = map link_of links.items; collects = map collect_of collects.items }

abbrev plain_inner : Block → Blocks
plain_inner (Block' conditions creates links collects shape inner span) = row_of_blocks inner

onto_is : (b : Block) (after : Blocks) → block_onto b after ≡ plain.block (plain_body b) (plain_inner b) after
onto_is (Block' conditions creates links collects shape inner span) after = refl

body_same : (b : Block) → body_kept (block_clauses b) ≡ plain_body b
body_same (Block' conditions creates links collects shape inner span) =
    rw (
      maps_same condition_kept condition_written condition_of condition_same conditions.items,
      maps_same term_kept term_written term_of (λ t. refl) creates.items,
      maps_same link_kept link_written link_of link_same links.items,
      maps_same collect_kept collect_written collect_of collect_same collects.items,
    ) refl

mutual
  block_same : (b : Block) (after : tree.Blocks) → blocks_kept (block_written b after) ≡ block_onto b (blocks_kept after)
  block_same (Block' conditions creates links collects shape inner span) after =
      rw (body_same (Block' conditions creates links collects shape inner span), row_same inner) refl

  row_same : {n : _} (row : Row_of-Block n) → blocks_kept (row_written row) ≡ row_of_blocks row
  row_same end_of-Block = refl
  row_same (more_of-Block b rest) = block_same b (row_written rest) ∙ ap (block_onto b) (row_same rest)

blocks_same : (bs : List Block) → blocks_kept (blocks_written bs) ≡ blocks_of bs
blocks_same [] = refl
blocks_same (b ∷ bs) = block_same b (blocks_written bs) ∙ ap (block_onto b) (blocks_same bs)

inner_same : (b : Block) → blocks_kept (block_inner b) ≡ plain_inner b
inner_same (Block' conditions creates links collects shape inner span) = row_same inner

pub inner_is : (b : Block) → plain_inner b ≡ blocks_of (out-Block b).blocks.items
inner_is b = sym (inner_same b) ∙ ap blocks_kept (ap block_inner (sym (roll-out-Block b)) ∙ inner_made (out-Block b)) ∙ blocks_same (out-Block b).blocks.items

pub body_is : (b : Block) → plain_body b ≡ record {
  conditions = map condition_of (out-Block b).conditions.items;
  creates = map term_of (out-Block b).creates.items;
  links = map link_of (out-Block b).links.items;
  collects = map collect_of (out-Block b).collects.items;
}
body_is b =
    sym (body_same b) ∙ ap body_kept (ap block_clauses (sym (roll-out-Block b)) ∙ clauses_made (out-Block b))
    ∙ rw (
      maps_same condition_kept condition_written condition_of condition_same (out-Block b).conditions.items,
      maps_same term_kept term_written term_of (λ t. refl) (out-Block b).creates.items,
      maps_same link_kept link_written link_of link_same (out-Block b).links.items,
      maps_same collect_kept collect_written collect_of collect_same (out-Block b).collects.items,
    ) refl

-- a block in front of others, by its fields
pub onto_fields : (b : Block) (after : Blocks) → block_onto b after ≡ plain.block (record {
  conditions = map condition_of (out-Block b).conditions.items;
  creates = map term_of (out-Block b).creates.items;
  links = map link_of (out-Block b).links.items;
  collects = map collect_of (out-Block b).collects.items;
}) (blocks_of (out-Block b).blocks.items) after
onto_fields b after = onto_is b after ∙ rw (body_is b, inner_is b) refl
