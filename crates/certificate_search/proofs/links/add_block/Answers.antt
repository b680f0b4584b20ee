use Rattle.std.proofs.Common.{◌≡◌, ◌+◌, ◌<◌, ◌++◌, length, get_or, take, ap, sym, ◌∙◌, subst, arith}
use Rattle.std.specs.Prelude.{map, All}
use Rattle.std.proofs.lemmas.List.{append-nil, map_push, length_push, take_all}
use Rattle.std.proofs.lemmas.List.Elements.{All-push}
use Rattle.struql_ast.specs.Reading.{link_of}
use Rattle.constraint_recheck.specs.Search.{numbered_from}
use Rattle.certificate_search.specs.Links.{numbered_of, IsPrepared}
use Rattle.certificate_search.proofs.Numbers.{placed, mapped_more, mapped_length, link_more}
use Rattle.certificate_search.proofs.links.add_block.Goals as goal

pub loop-link-init : goal.loop-link-init
loop-link-init c = record { all = sym (append-nil (map numbered_of c.args.links.now.items)); prepared = c.requires.prepared; count = omega arith }

pub loop-link-preserved : goal.loop-link-preserved
loop-link-preserved c =
    let S = c.args.block.now.chain.conditions in
    let ks = c.args.block.now.links.items in
    let i = c.loop-link.link-index in
    let k = c.link-item.result in
    let old = map numbered_of c.args.links.now.items in
    let first = length c.args.links.now.items + 1 in
    let before = map (placed S) (map link_of (take i ks)) in
    let new = c.in_ok-numbered.field-0 in
    let items = c.deref-link-items.ensures.value in
    let lt : i < length ks = omega (arith, ap length items, c.loop-link-test.true) in
    let at : k ≡ get_or ks i k = c.link-item.is ∙ ap (λ zs. get_or zs i k) items in
    let size : length before ≡ i = mapped_length (placed S) link_of ks i (omega (arith, lt)) in
    let number : c.len-number.result + 1 ≡ length before + first = omega (arith, c.len-number.ensures, c.loop-link.links.ok.0, c.loop-link.invariant.count) in
    record {
      all =
          ap (λ zs. map numbered_of zs) c.in_ok-push.ensures.items
          ∙ map_push numbered_of c.loop-link.links.items new
          ∙ link_more old (map numbered_of c.loop-link.links.items) first before (placed S (link_of k)) (numbered_of new) c.loop-link.invariant.all
          (c.in_ok-numbered.ensures.numbered ∙ ap (λ n. record { number = n; link = placed S (link_of k) }) number)
          ∙ ap (λ zs. old ++ numbered_from first zs) (sym (mapped_more (placed S) link_of ks i k lt at));
      prepared = subst (All IsPrepared) (sym c.in_ok-push.ensures.items) (All-push IsPrepared c.loop-link.links.items new c.loop-link.invariant.prepared c.in_ok-numbered.ensures.prepared);
      count = omega (arith, ap length c.in_ok-push.ensures.items, length_push c.loop-link.links.items new, c.loop-link.invariant.count);
    }

pub returns : goal.returns
returns c =
    let S = c.args.block.now.chain.conditions in
    let first = length c.args.links.now.items + 1 in
    record {
      all =
          c.loop-link.invariant.all
          ∙ ap (λ xs. map numbered_of c.args.links.now.items ++ numbered_from first (map (placed S) (map link_of xs))) (take_all c.loop-link.link-index c.args.block.now.links.items (omega (arith, ap length c.deref-link-items.ensures.value, c.loop-link-test.false)));
      prepared = c.loop-link.invariant.prepared;
    }
