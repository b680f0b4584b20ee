use Rattle.std.proofs.Common.{◌≡◌, List, [], ◌∷◌, ◌++◌, ◌+◌, take, refl, sym, ap, ◌∙◌, arith}
use Rattle.std.specs.Prelude.{map}
use Rattle.std.proofs.lemmas.List.{take_more, map-append}
use Rattle.std.proofs.lemmas.List.Elements.{All-push}
use Rattle.query_spec.specs.Query as plain
use Rattle.query_spec.specs.Query.{Body, with_outer}
use Rattle.query_spec.specs.Mentions.{chain_of}
use Rattle.struql_ast.specs.declared.Block.{Block}
use Rattle.struql_ast.specs.Reading.{condition_of, blocks_of}
use Rattle.query_blocks.specs.declared.QueryBlock.{QueryBlock}
use Rattle.query_blocks.specs.Blocks.{body_of}
use Rattle.query_scoping.specs.Blocks.{own_body, inner_blocks}
use Rattle.query_scoping.proofs.Parts.{outer_push, inner_is, joined_blocks}
use Rattle.query_scoping.proofs.blocks.+push_blocks.Goals as goal

pub loop-block-preserved : goal.loop-block-preserved
loop-block-preserved t c =
    let bs = c.args.blocks.now in
    let i = c.loop-block.block-index in
    let b = c.block-item.result in
    let s = c.in_ok-block_under.field-0 in
    let found = c.loop-block.found.items in
    let O = map condition_of c.args.outer.now in
    let e : take (i + 1) bs ≡ take i bs ++ b ∷ [] = take_more bs i b (omega arith) ∙ ap (λ (y : Block). take i bs ++ y ∷ []) (sym c.block-item.is) in
    let all : map condition_of c.in_ok-here.here.items ≡ O ++ (own_body b).conditions = c.in_ok-here.ensures in
    let body : body_of s ≡ record (own_body b) { conditions = O ++ (own_body b).conditions } =
    c.in_ok-block_under.ensures.body ∙ ap (λ (ks : List plain.Condition). record (own_body b) { conditions = ks }) (ap (map condition_of) c.deref.ensures.value ∙ all) in
    let at_inner : blocks_of c.deref-in-loop-block.result.now ≡ inner_blocks b = ap blocks_of c.deref-in-loop-block.ensures.value ∙ sym (inner_is b) in
    let at_outer : map condition_of c.deref-in-loop-block-2.result.now ≡ O ++ (own_body b).conditions = ap (map condition_of) c.deref-in-loop-block-2.ensures.value ∙ all in
    let below : with_outer (map condition_of c.deref-in-loop-block-2.result.now) (blocks_of c.deref-in-loop-block.result.now) ≡ with_outer (O ++ (own_body b).conditions) (inner_blocks b) = rw (at_inner, at_outer) refl in
    record {
      bodies = rw (e, outer_push O (take i bs) b)
          (c.in_ok-push_blocks.ensures.bodies
          ∙ (ap (λ (ys : List QueryBlock). map body_of ys ++ with_outer (map condition_of c.deref-in-loop-block-2.result.now) (blocks_of c.deref-in-loop-block.result.now)) c.in_ok-push.ensures.items
          ∙ rw (map-append body_of found (s ∷ [])) (joined_blocks (map body_of c.args.found.now.items) (with_outer O (blocks_of (take i bs))) (map body_of found) (body_of s) _ _ _ c.loop-block.invariant.bodies body below)));
      chains = λ h. c.in_ok-push_blocks.ensures.chains
          (rw c.in_ok-push.ensures.items (All-push (λ (q : QueryBlock). q.chain ≡ chain_of c.args.version q.chain.conditions) found s (c.loop-block.invariant.chains h) c.in_ok-block_under.ensures.chain));
    }
