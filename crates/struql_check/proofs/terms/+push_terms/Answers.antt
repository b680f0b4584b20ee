use Rattle.std.proofs.Common.{◌≡◌, ◌++◌, ◌∷◌, [], take, sym, ap, ◌∙◌, arith, ◌+◌}
use Rattle.std.proofs.lemmas.List.{take_more}
use Rattle.struql_ast.specs.declared.Block.{Block}
use Rattle.struql_check.proofs.BlockParts.{clauses_of, inner_of, terms_push, parts_joined}
use Rattle.struql_check.proofs.terms.+push_terms.Goals as goal

pub loop-block-preserved : goal.loop-block-preserved
loop-block-preserved t c =
    let b = c.block-item.result in
    let bs = c.args.blocks.now in
    let i = c.loop-block.block-index in
    let e : take (i + 1) bs ≡ take i bs ++ b ∷ [] = take_more bs i b (omega arith) ∙ ap (λ (y : Block). take i bs ++ y ∷ []) (sym c.block-item.is) in
    rw (
      e,
      terms_push (take i bs) b,
      clauses_of b,
      inner_of b,
      c.in_ok-push_terms.ensures,
      c.in_ok-push_collects.ensures,
      c.in_ok-push_links.ensures,
      c.in_ok-push_creates.ensures,
      c.deref.ensures.value,
      c.deref-in-loop-block.ensures.value,
      c.deref-in-loop-block-2.ensures.value,
      c.deref-in-loop-block-3.ensures.value,
    )
    (parts_joined _ _ _ _ _ _ _ c.loop-block.invariant)
