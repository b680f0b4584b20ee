use Rattle.std.proofs.Common.{◌∙◌, List, subst}
use Rattle.std.specs.Prelude.{Contains, ◌↔◌}
use Rattle.std.proofs.lemmas.List.Elements.{Contains-append_left}
use Rattle.sd_value.specs.declared.Value.{Value}
use Rattle.sd_value.specs.declared.Value.TheVariants.{Page}
use Rattle.struql_ast.specs.declared.Link.{Link}
use Rattle.struql_ast.specs.Reading.{link_of, target_of}
use Rattle.site_spec.specs.Site.{IsJoined, target_terms}
use Rattle.sd_value.specs.Gathered.{Gathered}
use Rattle.site_lookups.proofs.Some.{item_in}
use Rattle.site_lookups.proofs.Blocks.{contains_link, contains_map}
use Rattle.sd_value.proofs.Gathering.{gathered_next, gathered_end}
use Rattle.std.proofs.Common.{◌+◌, refl}
use Rattle.weight_spec.specs.CountsAtMost.{CountsAtMost, IsAt}
use Rattle.weight_spec.proofs.Handing.{hands_next, hands_all, hands_begin}
use Rattle.site_lookups.specs.Counts.{IsLinkRow}
use Rattle.sd_value.proofs.Gathering.{gathered_none}
use Rattle.site_lookups.proofs.linked.ends_of_block.Goals as goal

pub ends_of_link-requires-clause-made : goal.ends_of_link-requires-clause-made
ends_of_link-requires-clause-made g c = c.requires.scoped.1.sources (link_of c.link-item.result) (contains_map c.args.block.now c.link-item.result (subst (λ (ks : List Link). Contains ks c.link-item.result) c.as_slice-links.ensures.value (item_in _ _ _ c.loop-link-test.true c.link-item.is)))

pub ends_of_link-requires-clause-declared : goal.ends_of_link-requires-clause-declared
ends_of_link-requires-clause-declared g c = λ t h. c.requires.scoped.1.terms t (contains_link c.args.block.now c.link-item.result t (subst (λ (ks : List Link). Contains ks c.link-item.result) c.as_slice-links.ensures.value (item_in _ _ _ c.loop-link-test.true c.link-item.is)) (Contains-append_left (target_terms (target_of c.link-item.result.source)) (target_terms (target_of c.link-item.result.target)) t h))

pub loop-link-preserved : goal.loop-link-preserved
loop-link-preserved g c =
    let here : (v : Value) → Contains c.in_ok-more.more.items v ↔ IsJoined (g.A.Asker.graph c.args.asker.now) c.args.block.now.chain (Page c.args.term.now) c.args.label.now v (link_of c.link-item.result) = subst (λ G. (v : Value) → Contains c.in_ok-more.more.items v ↔ IsJoined G c.args.block.now.chain (Page c.args.term.now) c.args.label.now v (link_of c.link-item.result)) c.loop-link.invariant.graph c.in_ok-more.ensures.ends in
    record {
      graph = c.in_ok-more.ensures.graph ∙ c.loop-link.invariant.graph;
      gathered = rw c.in_ok-append.ensures.items (gathered_next (λ (k : Link) (v : Value). IsJoined (g.A.Asker.graph c.args.asker.now) c.args.block.now.chain (Page c.args.term.now) c.args.label.now v (link_of k)) c.as_slice-links.result.now c.loop-link.link-index c.link-item.result c.loop-link.ends.items c.in_ok-more.more.items c.loop-link-test.true c.link-item.is c.loop-link.invariant.gathered (λ v h. (here v).0 h) (λ v h. (here v).1 h));
      counted = hands_next c.as_slice-links.result.now (λ k. IsLinkRow (g.A.Asker.graph c.args.asker.now) c.args.block.now.chain c.args.term.now c.args.label.now (link_of k)) c.loop-link.link-index c.link-item.result (g.A.Asker.count c.args.asker.now) (g.A.Asker.count c.loop-link.asker) (g.A.Asker.count c.ends_of_link.new.asker) c.loop-link-test.true c.link-item.is c.loop-link.invariant.counted (subst (λ G. CountsAtMost (IsLinkRow G c.args.block.now.chain c.args.term.now c.args.label.now (link_of c.link-item.result)) (g.A.Asker.count c.loop-link.asker) (g.A.Asker.count c.ends_of_link.new.asker)) c.loop-link.invariant.graph c.in_ok-more.ensures.counted);
    }

pub returns-clause-ends : goal.returns-clause-ends
returns-clause-ends g c = subst (λ (ks : List Link). Gathered (λ (k : Link) (v : Value). IsJoined (g.A.Asker.graph c.args.asker.now) c.args.block.now.chain (Page c.args.term.now) c.args.label.now v (link_of k)) ks c.loop-link.ends.items) c.as_slice-links.ensures.value (gathered_end (λ (k : Link) (v : Value). IsJoined (g.A.Asker.graph c.args.asker.now) c.args.block.now.chain (Page c.args.term.now) c.args.label.now v (link_of k)) c.as_slice-links.result.now c.loop-link.link-index c.loop-link.ends.items c.loop-link-test.false c.loop-link.invariant.gathered)

pub returns-in_err-more-clause-counted : goal.returns-in_err-more-clause-counted
returns-in_err-more-clause-counted g c =
    subst (λ (ks : List Link). CountsAtMost (IsAt ks (λ k. IsLinkRow (g.A.Asker.graph c.args.asker.now) c.args.block.now.chain c.args.term.now c.args.label.now (link_of k))) (g.A.Asker.count c.args.asker.now) (g.A.Asker.count c.ends_of_link.new.asker)) c.as_slice-links.ensures.value (hands_all c.as_slice-links.result.now (λ k. IsLinkRow (g.A.Asker.graph c.args.asker.now) c.args.block.now.chain c.args.term.now c.args.label.now (link_of k)) (c.loop-link.link-index + 1) (g.A.Asker.count c.args.asker.now) (g.A.Asker.count c.ends_of_link.new.asker) (hands_next c.as_slice-links.result.now (λ k. IsLinkRow (g.A.Asker.graph c.args.asker.now) c.args.block.now.chain c.args.term.now c.args.label.now (link_of k)) c.loop-link.link-index c.link-item.result (g.A.Asker.count c.args.asker.now) (g.A.Asker.count c.loop-link.asker) (g.A.Asker.count c.ends_of_link.new.asker) c.loop-link-test.true c.link-item.is c.loop-link.invariant.counted (subst (λ G. CountsAtMost (IsLinkRow G c.args.block.now.chain c.args.term.now c.args.label.now (link_of c.link-item.result)) (g.A.Asker.count c.loop-link.asker) (g.A.Asker.count c.ends_of_link.new.asker)) c.loop-link.invariant.graph c.in_err-more.ensures.counted)))

pub returns-in_err-append-clause-counted : goal.returns-in_err-append-clause-counted
returns-in_err-append-clause-counted g c =
    subst (λ (ks : List Link). CountsAtMost (IsAt ks (λ k. IsLinkRow (g.A.Asker.graph c.args.asker.now) c.args.block.now.chain c.args.term.now c.args.label.now (link_of k))) (g.A.Asker.count c.args.asker.now) (g.A.Asker.count c.ends_of_link.new.asker)) c.as_slice-links.ensures.value (hands_all c.as_slice-links.result.now (λ k. IsLinkRow (g.A.Asker.graph c.args.asker.now) c.args.block.now.chain c.args.term.now c.args.label.now (link_of k)) (c.loop-link.link-index + 1) (g.A.Asker.count c.args.asker.now) (g.A.Asker.count c.ends_of_link.new.asker) (hands_next c.as_slice-links.result.now (λ k. IsLinkRow (g.A.Asker.graph c.args.asker.now) c.args.block.now.chain c.args.term.now c.args.label.now (link_of k)) c.loop-link.link-index c.link-item.result (g.A.Asker.count c.args.asker.now) (g.A.Asker.count c.loop-link.asker) (g.A.Asker.count c.ends_of_link.new.asker) c.loop-link-test.true c.link-item.is c.loop-link.invariant.counted (subst (λ G. CountsAtMost (IsLinkRow G c.args.block.now.chain c.args.term.now c.args.label.now (link_of c.link-item.result)) (g.A.Asker.count c.loop-link.asker) (g.A.Asker.count c.ends_of_link.new.asker)) c.loop-link.invariant.graph c.in_ok-more.ensures.counted)))

pub returns-clause-counted : goal.returns-clause-counted
returns-clause-counted g c =
    subst (λ (ks : List Link). CountsAtMost (IsAt ks (λ k. IsLinkRow (g.A.Asker.graph c.args.asker.now) c.args.block.now.chain c.args.term.now c.args.label.now (link_of k))) (g.A.Asker.count c.args.asker.now) (g.A.Asker.count c.loop-link.asker)) c.as_slice-links.ensures.value (hands_all c.as_slice-links.result.now (λ k. IsLinkRow (g.A.Asker.graph c.args.asker.now) c.args.block.now.chain c.args.term.now c.args.label.now (link_of k)) (c.loop-link.link-index) (g.A.Asker.count c.args.asker.now) (g.A.Asker.count c.loop-link.asker) (c.loop-link.invariant.counted))

pub loop-link-init : goal.loop-link-init
loop-link-init g c = record { graph = refl; counted = hands_begin c.as_slice-links.result.now (λ k. IsLinkRow (g.A.Asker.graph c.args.asker.now) c.args.block.now.chain c.args.term.now c.args.label.now (link_of k)) (g.A.Asker.count c.args.asker.now); gathered = rw c.new-ends.ensures.items (gathered_none (λ (k : Link) (v : Value). IsJoined (g.A.Asker.graph c.args.asker.now) c.args.block.now.chain (Page c.args.term.now) c.args.label.now v (link_of k))) }
