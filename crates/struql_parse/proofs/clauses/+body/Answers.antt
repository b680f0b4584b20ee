use Rattle.std.proofs.Common.{refl, sym, ◌∙◌}
use Rattle.std.proofs.lemmas.Result.{err_from_is_err_and}
use Rattle.struql_ast.specs.Written.{blocks_written, clauses_made, inner_made, span_made}
use Rattle.struql_parse.specs.Found.{placed_found}
use Rattle.struql_parse.specs.Reading.{read_block}
use Rattle.struql_parse.proofs.BlockLoop.{blocks_written-snoc, blocks_end, blocks_go_on, blocks_smaller, blocks_done, block_by_room, block_past}
use Rattle.struql_parse.proofs.clauses.+body.Goals as goal

pub block_at-returns-then-depth-eq0 : goal.block_at-returns-then-depth-eq0
block_at-returns-then-depth-eq0 t c = block_past c.args.version c.args.depth c.args.tokens.now c.if-depth-eq0.true

pub block_at-returns-else-depth-eq0 : goal.block_at-returns-else-depth-eq0
block_at-returns-else-depth-eq0 t c = rw (block_by_room c.args.version c.args.depth c.args.tokens.now c.if-depth-eq0.false) c.braces_at.ensures

pub blocks_at-returns-in_err-block : goal.blocks_at-returns-in_err-block
blocks_at-returns-in_err-block t c =
    let p = err_from_is_err_and c.from_residual.result c.from_residual.ensures.1 in
    rw (p.1, p.2) (blocks_end c.args.version c.args.depth c.in_err-block.field-0.0 (blocks_written c.list.blocks.items) c.list.rest.now _ (sym c.has_sign.ensures ∙ c.list-test.true) c.in_err-block.ensures c.list.invariant)

pub blocks_at-list-smaller : goal.blocks_at-list-smaller
blocks_at-list-smaller t c = blocks_smaller c.args.version c.args.depth c.list.rest.now (placed_found c.in_ok-block.block) c.in_ok-block.after.now (sym c.has_sign.ensures ∙ c.list-test.true) c.in_ok-block.ensures

pub blocks_at-list-preserved : goal.blocks_at-list-preserved
blocks_at-list-preserved t c =
    rw (c.in_ok-push.ensures.items, blocks_written-snoc c.list.blocks.items c.in_ok-block.block)
    (blocks_go_on c.args.version c.args.depth (blocks_written c.list.blocks.items) c.list.rest.now (placed_found c.in_ok-block.block) c.in_ok-block.after.now _ (sym c.has_sign.ensures ∙ c.list-test.true) c.in_ok-block.ensures c.list.invariant)

pub blocks_at-returns : goal.blocks_at-returns
blocks_at-returns t c = blocks_done c.args.version c.args.depth (blocks_written c.list.blocks.items) c.list.rest.now _ (sym c.has_sign.ensures ∙ c.list-test.false) c.list.invariant

pub braces_at-returns : goal.braces_at-returns
unfolding read_block
braces_at-returns t c = rw (clauses_made _, inner_made _, span_made _, c.in_ok-open.ensures, c.in_ok-inner.ensures, c.in_ok-close.ensures, c.from_to-span.ensures) refl
