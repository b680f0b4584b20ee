-- A query as it is written, and its plain tree.
use Rattle.std.proofs.Common.{◌≡◌, List, [], ◌∷◌, refl, ap, ◌∙◌}
use Rattle.std.specs.Prelude.{map}
use Rattle.query_spec.specs.Query as plain
use Rattle.struql_ast.specs.declared.Condition as declared
use Rattle.struql_ast.specs.declared.PathStep.{PathStep}
use Rattle.struql_ast.specs.declared.PathStep.TheVariants.{ArcVariable, Expression}
use Rattle.struql_ast.specs.declared.SkolemTerm.{SkolemTerm as WrittenTerm}
use Rattle.struql_ast.specs.declared.Target as declared_target
use Rattle.struql_ast.specs.declared.Target.TheVariants.{Plain, Made, Summed}
use Rattle.struql_ast.specs.declared.Link as declared_link
use Rattle.struql_ast.specs.declared.Collect as declared_collect
use Rattle.struql_ast.specs.declared.Block.{Block, Block', Row_of-Block, end_of-Block, more_of-Block}
use Rattle.struql_ast.specs.declared.Query as declared_query
use Rattle.struql_ast.specs.Reading.{operand_of, step_of, condition_of, term_of, aggregate_of, target_of, label_of, link_of, collect_of, block_onto, row_of_blocks, blocks_of, query_of}
use Rattle.struql_ast.specs.Written as written
use Rattle.struql_ast.specs.Written.{arc_variable, expression, member, path, compare, one_of, kind, negation, made, summed, Clauses, Blocks, no_blocks, block, step_written, condition_written, term_written, target_written, link_written, collect_written, block_written, row_written, blocks_written, query_written}

abbrev pub step_plain : written.Step → plain.PathStep
step_plain (arc_variable x span) = plain.arc_variable x
step_plain (expression r span) = plain.expression r

abbrev pub condition_plain : written.Condition → plain.Condition
condition_plain (member c x x_span span) = plain.member c x
condition_plain (path t s u span) = plain.path (operand_of t) (step_plain s) (operand_of u)
condition_plain (compare t o u span) = plain.compare (operand_of t) o (operand_of u)
condition_plain (one_of t vs span) = plain.one_of (operand_of t) vs
condition_plain (kind k x x_span span) = plain.kind k x
condition_plain (negation c span) = plain.negation (condition_plain c)

abbrev pub term_plain : written.Term → plain.SkolemTerm
term_plain t = record { function = t.function; args = map operand_of t.args }

abbrev pub target_plain : written.Target → plain.Target
target_plain (written.plain o) = plain.plain (operand_of o)
target_plain (made t) = plain.made (term_plain t)
target_plain (summed a span) = plain.summed (aggregate_of a)

abbrev pub link_plain : written.Link → plain.Link
link_plain k = record { source = target_plain k.source; label = label_of k.label; target = target_plain k.target }

abbrev pub collect_plain : written.Collect → plain.Collect
collect_plain o = record { collection = o.collection; target = target_plain o.target }

abbrev pub clauses_plain : Clauses → plain.Body
clauses_plain c = record {
  conditions = map condition_plain c.conditions;
  creates = map term_plain c.creates;
  links = map link_plain c.links;
  collects = map collect_plain c.collects;
}

abbrev pub blocks_plain : Blocks → plain.Blocks
blocks_plain no_blocks = plain.no_blocks
blocks_plain (block c inner span after) = plain.block (clauses_plain c) (blocks_plain inner) (blocks_plain after)

pub map_through : {X Y Z : Type 0} (f : Y → Z) (g : X → Y) (h : X → Z) → ((x : X) → f (g x) ≡ h x) → (xs : List X) → map f (map g xs) ≡ map h xs
map_through f g h e [] = refl
map_through f g h e (x ∷ xs) = let here = e x in let rest = map_through f g h e xs in cc

step_same : (s : PathStep) → step_plain (step_written s) ≡ step_of s
step_same (ArcVariable x span) = refl
step_same (Expression r span) = refl

pub condition_same : (c : declared.Condition) → condition_plain (condition_written c) ≡ condition_of c
condition_same (declared.Member collection x x_span span) = refl
condition_same (declared.Path from step to span) = ap (λ s. plain.path (operand_of from) s (operand_of to)) (step_same step)
condition_same (declared.Compare left op right span) = refl
condition_same (declared.OneOf operand constants span) = refl
condition_same (declared.Kind test x x_span span) = refl
condition_same (declared.Not' p c span) = ap plain.negation (condition_same c)

target_same : (t : declared_target.Target) → target_plain (target_written t) ≡ target_of t
target_same (Plain o) = refl
target_same (Made t) = refl
target_same (Summed a span) = refl

pub link_same : (k : declared_link.Link) → link_plain (link_written k) ≡ link_of k
link_same k = let s = target_same k.source in let t = target_same k.target in cc

pub collect_same : (o : declared_collect.Collect) → collect_plain (collect_written o) ≡ collect_of o
collect_same o = let t = target_same o.target in cc

pub term_same : (t : WrittenTerm) → term_plain (term_written t) ≡ term_of t
term_same t = refl

mutual
  block_same : (b : Block) (after : Blocks) → blocks_plain (block_written b after) ≡ block_onto b (blocks_plain after)
  block_same (Block' conditions creates links collects shape inner span) after =
      let k = map_through condition_plain condition_written condition_of condition_same conditions.items in
      let t = map_through term_plain term_written term_of term_same creates.items in
      let l = map_through link_plain link_written link_of link_same links.items in
      let o = map_through collect_plain collect_written collect_of collect_same collects.items in
      let r = row_same _ inner in
      rw (k, t, l, o, r) refl

  pub row_same : (n : _) (row : Row_of-Block n) → blocks_plain (row_written row) ≡ row_of_blocks row
  row_same n end_of-Block = refl
  row_same n (more_of-Block b rest) = block_same b (row_written rest) ∙ ap (block_onto b) (row_same _ rest)

pub blocks_same : (bs : List Block) → blocks_plain (blocks_written bs) ≡ blocks_of bs
blocks_same [] = refl
blocks_same (b ∷ bs) = block_same b (blocks_written bs) ∙ ap (block_onto b) (blocks_same bs)

abbrev pub query_plain : written.Query → plain.Query
query_plain q = record { version = q.version; input = q.input; blocks = blocks_plain q.blocks; output = q.output }

-- the plain tree of what is written is the query's
pub query_same : (q : declared_query.Query) → query_plain (query_written q) ≡ query_of q
query_same q = ap (λ (bs : plain.Blocks). record { version = q.version; input = q.input; blocks = bs; output = q.output }) (blocks_same q.blocks.items)
