use Rattle.std.proofs.Common.{◌≡◌, List, [], ◌∷◌, ◌++◌, ◌+◌, take, sym, ap, ◌∙◌, subst, arith}
use Rattle.std.proofs.lemmas.List.{take_more, take_all}
use Rattle.struql_ast.specs.declared.Block.{Block}
use Rattle.struql_ast.specs.declared.Block.TheViews.{out-Block}
use Rattle.struql_ast.specs.Written.{blocks_written, block_clauses, block_inner}
use Rattle.struql_check.specs.declared.mentions.VariableUse.{VariableUse}
use Rattle.struql_check.specs.Scope.{within}
use Rattle.struql_check.specs.Faults.{SomeIn, BlockFault}
use Rattle.struql_check.specs.First.{IsFirst}
use Rattle.struql_check.specs.Known.{here}
use Rattle.struql_check.proofs.BlockParts.{within_push, inner_of}
use Rattle.struql_check.proofs.Firsts.{first_append}
use Rattle.struql_check.proofs.WalkParts.{first_cons}
use Rattle.struql_check.proofs.walk.+walk.Goals as goal

pub first_of_block-returns-clause-first : goal.first_of_block-returns-clause-first
first_of_block-returns-clause-first t c =
    let b = c.args.block.now in
    let round : c.enter.new.levels.items ≡ here c.args.levels.now.items b = c.in_ok-names.ensures.levels in
    let own : c.deref.result.now ≡ here c.args.levels.now.items b = c.deref.ensures.value ∙ round in
    let inner : c.deref-2.result.now ≡ (out-Block b).blocks.items = c.deref-2.ensures.value in
    let by_clause : IsFirst (BlockFault c.args.version (record { round = here c.args.levels.now.items b; clauses = block_clauses b })) c.in_ok-by_clause.by_clause =
    subst (λ (r : List (List VariableUse)). IsFirst (BlockFault c.args.version (record { round = r; clauses = block_clauses b })) c.in_ok-by_clause.by_clause) own c.in_ok-by_clause.ensures in
    let by_block : IsFirst (SomeIn (BlockFault c.args.version) (within (here c.args.levels.now.items b) (block_inner b))) c.in_ok-by_block.by_block =
    rw (inner_of b, ← inner) (subst (λ (r : List (List VariableUse)). IsFirst (SomeIn (BlockFault c.args.version) (within r (blocks_written c.deref-2.result.now))) c.in_ok-by_block.by_block) round c.in_ok-by_block.ensures.first) in
    rw c.earlier.ensures (first_cons (BlockFault c.args.version) _ _ c.in_ok-by_clause.by_clause c.in_ok-by_block.by_block by_clause by_block)

pub first_of_blocks-loop-block-preserved : goal.first_of_blocks-loop-block-preserved
first_of_blocks-loop-block-preserved t c =
    let bs = c.args.blocks.now in
    let i = c.loop-block.block-index in
    let b = c.block-item.result in
    let round = c.args.levels.now.items in
    let e : take (i + 1) bs ≡ take i bs ++ b ∷ [] = take_more bs i b (omega arith) ∙ ap (λ (y : Block). take i bs ++ y ∷ []) (sym c.block-item.is) in
    record {
      levels = c.in_ok-first_of_block.ensures.levels ∙ c.loop-block.invariant.levels;
      first = rw (e, within_push round (take i bs) b, c.earlier-first.ensures)
          (first_append (BlockFault c.args.version) (within round (blocks_written (take i bs))) _ c.loop-block.first c.in_ok-first_of_block.field-0 c.loop-block.invariant.first
          (rw c.loop-block.invariant.levels at c.in_ok-first_of_block.ensures.first));
    }

pub first_of_blocks-returns-clause-first : goal.first_of_blocks-returns-clause-first
first_of_blocks-returns-clause-first t c =
    let e : take c.loop-block.block-index c.args.blocks.now ≡ c.args.blocks.now = take_all c.loop-block.block-index c.args.blocks.now c.loop-block-test.false in
    rw e at c.loop-block.invariant.first
