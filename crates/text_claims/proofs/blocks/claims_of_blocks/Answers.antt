use Rattle.std.proofs.Common.{◌≡◌, ℕ, List, ◌++◌, ◌∷◌, [], take, length, sym, ap, ◌∙◌, arith, ◌+◌}
use Rattle.std.specs.Borrow.{Bor}
use Rattle.std.specs.Prelude.{map}
use Rattle.std.proofs.lemmas.List.{take_more, map-append, length-map, length-take}
use Rattle.struql_ast.specs.declared.Block.{Block}
use Rattle.lint_spec.specs.declared.Claim.{Claim}
use Rattle.lint_spec.specs.QueryClaims.{block_claims}
use Rattle.text_claims.specs.Blocks.{placed}
use Rattle.text_claims.proofs.Parts.{numbered_push}
use Rattle.text_claims.proofs.blocks.claims_of_blocks.Goals as goal

pub loop-i-preserved : goal.loop-i-preserved
loop-i-preserved c =
    let bs = c.args.blocks.now in
    let i = c.loop-i.i in
    let r = c.index-blocks-i.result in
    let e : take (i + 1) bs ≡ take i bs ++ r ∷ [] = take_more bs i r (omega arith) ∙ ap (λ (y : Bor Block). take i bs ++ y ∷ []) (sym c.index-blocks-i.is) in
    let n : 0 + length (map placed (take i bs)) ≡ i = omega (arith, length-map (take i bs) placed, length-take i bs) in
    rw (e, map-append placed (take i bs) (r ∷ []), numbered_push 0 (map placed (take i bs)) (placed r), n)
    (c.in_ok-push_block.ensures ∙ ap (λ (l : List Claim). l ++ block_claims i (placed r)) c.loop-i.invariant)
