use Rattle.std.proofs.Common.{◌≡◌, List, ◌++◌, ◌∷◌, [], take, sym, ap, ◌∙◌, arith, ◌+◌}
use Rattle.std.specs.Borrow.{Bor}
use Rattle.std.specs.Prelude.{map}
use Rattle.std.proofs.lemmas.List.{take_more, map-append}
use Rattle.struql_ast.specs.declared.Block.{Block}
use Rattle.struql_ast.specs.Written.{blocks_written, block_inner}
use Rattle.lint_spec.specs.QueryClaims.{blocks_within}
use Rattle.text_claims.specs.Blocks.{placed}
use Rattle.text_claims.proofs.Parts.{inner_of, blocks_push, joined}
use Rattle.text_claims.proofs.blocks.+push_blocks.Goals as goal

pub loop-block-preserved : goal.loop-block-preserved
loop-block-preserved t c =
    let b = c.block-item.result in
    let bs = c.args.blocks.now in
    let i = c.loop-block.block-index in
    let found = c.loop-block.found.items in
    let e : take (i + 1) bs ≡ take i bs ++ b ∷ [] = take_more bs i b (omega arith) ∙ ap (λ (y : Block). take i bs ++ y ∷ []) (sym c.block-item.is) in
    let inner : blocks_written c.deref.result.now ≡ block_inner b = ap blocks_written c.deref.ensures.value ∙ sym (inner_of b) in
    rw (e, blocks_push (take i bs) b)
    (c.in_ok-push_blocks.ensures
    ∙ (ap (λ (ys : List (Bor Block)). map placed ys ++ blocks_within (blocks_written c.deref.result.now)) c.in_ok-push.ensures.items
    ∙ rw (map-append placed, inner) (joined (map placed c.args.found.now.items) (map placed found) _ _ _ c.loop-block.invariant)))
