use Rattle.std.proofs.Common.{◌≡◌, ℕ, List, [], ◌∷◌, ◌++◌, ◌+◌, take, sym, ap, ◌∙◌, arith}
use Rattle.std.specs.Prelude.{codes}
use Rattle.std.specs.List.{flat_map}
use Rattle.std.proofs.lemmas.List.{take_more}
use Rattle.struql_ast.specs.declared.Block.{Block}
use Rattle.struql_ast.specs.Reading.{blocks_of}
use Rattle.struql_print.specs.Texts.{block_texts}
use Rattle.struql_print.specs.Block.{block_text}
use Rattle.struql_print.proofs.BlockTexts.{texts_push, flat_push, appended}
use Rattle.struql_print.proofs.query.+block.Goals as goal

pub print_inner-loop-block-preserved : goal.print_inner-loop-block-preserved
print_inner-loop-block-preserved t c =
    let bs = c.args.blocks.now in
    let i = c.loop-block.block-index in
    let b = c.block-item.result in
    let e : take (i + 1) bs ≡ take i bs ++ b ∷ [] = take_more bs i b (omega arith) ∙ ap (λ (y : Block). take i bs ++ y ∷ []) (sym c.block-item.is) in
    rw (e, texts_push c.args.version (take i bs) b, flat_push (λ (text : List ℕ). codes " " ++ text) (block_texts c.args.version (blocks_of (take i bs))) (block_text c.args.version b), c.in_ok-print_block.ensures, c.in_ok-put.ensures, c.loop-block.invariant)
    (appended c.args.out.now.items (flat_map (λ (text : List ℕ). codes " " ++ text) (block_texts c.args.version (blocks_of (take i bs)))) (codes " ") (block_text c.args.version b))
