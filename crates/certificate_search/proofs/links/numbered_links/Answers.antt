use Rattle.std.proofs.Common.{◌≡◌, ◌+◌, ◌<◌, ◌++◌, length, get_or, ap, sym, ◌∙◌, subst, take, arith}
use Rattle.std.specs.Prelude.{map, All, Contains}
use Rattle.std.specs.List.{flat_map}
use Rattle.std.proofs.lemmas.List.{length-map, take_all}
use Rattle.std.proofs.lemmas.List.Elements.{All-nil, Contains-get_or}
use Rattle.query_spec.specs.Query.{Chain}
use Rattle.query_blocks.specs.Blocks.{body_of}
use Rattle.constraint_spec.specs.Placed.{body_links}
use Rattle.constraint_recheck.specs.Search.{numbered_from}
use Rattle.certificate_search.specs.Links.{numbered_of, IsPrepared}
use Rattle.certificate_search.proofs.Numbers.{flat_more, block_more}
use Rattle.certificate_search.proofs.links.numbered_links.Goals as goal

pub loop-block-init : goal.loop-block-init
loop-block-init c = record {
  all = ap (λ zs. map numbered_of zs) c.new-links.ensures.items;
  prepared = subst (All IsPrepared) (sym c.new-links.ensures.items) (All-nil IsPrepared);
}

pub add_block-requires-clause-chain : goal.add_block-requires-clause-chain
add_block-requires-clause-chain c =
    let bs = c.args.blocks.now.blocks.items in
    let b = c.block-item.result in
    let items = c.deref-block-items.ensures.value in
    let i = c.loop-block.block-index in
    let lt : i < length bs = omega (arith, ap length items, c.loop-block-test.true) in
    let at : b ≡ get_or bs i b = c.block-item.is ∙ ap (λ zs. get_or zs i b) items in
    ap (λ (ch : Chain). ch.variables)
    (c.requires b (subst (λ z. Contains bs z) (sym at) (Contains-get_or bs i b lt))).chain

pub loop-block-preserved : goal.loop-block-preserved
loop-block-preserved c =
    let bs = c.args.blocks.now.blocks.items in
    let b = c.block-item.result in
    let i = c.loop-block.block-index in
    let old = c.loop-block.links.items in
    let items = c.deref-block-items.ensures.value in
    let lt : i < length bs = omega (arith, ap length items, c.loop-block-test.true) in
    let at : b ≡ get_or bs i b = c.block-item.is ∙ ap (λ zs. get_or zs i b) items in
    record {
      all =
          block_more (map numbered_of old) (map numbered_of c.add_block.new.links.items) (flat_map body_links (map body_of (take i bs))) (body_links (body_of b)) c.loop-block.invariant.all
          (c.in_ok-add_block.ensures.all ∙ ap (λ n. map numbered_of old ++ numbered_from (n + 1) (body_links (body_of b))) (sym (length-map old numbered_of)))
          ∙ ap (λ zs. numbered_from 1 zs) (sym (flat_more body_links body_of bs i b lt at));
      prepared = c.in_ok-add_block.ensures.prepared;
    }

pub returns : goal.returns
returns c = record {
  all = c.loop-block.invariant.all ∙ ap (λ xs. numbered_from 1 (flat_map body_links (map body_of xs))) (take_all c.loop-block.block-index c.args.blocks.now.blocks.items (omega (arith, ap length c.deref-block-items.ensures.value, c.loop-block-test.false)));
  prepared = c.loop-block.invariant.prepared;
}
