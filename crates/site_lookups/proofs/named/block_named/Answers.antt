use Rattle.std.proofs.Common.{◌∙◌, subst}
use Rattle.std.specs.Prelude.{◌↔◌, IsTrue, List}
use Rattle.struql_ast.specs.declared.SkolemTerm.{SkolemTerm}
use Rattle.struql_ast.specs.declared.Link.{Link}
use Rattle.struql_ast.specs.declared.Collect.{Collect}
use Rattle.struql_ast.specs.Reading.{term_of, link_of, collect_of}
use Rattle.site_spec.specs.Site.{IsNamed, SomeOf, terms_of, ends_of, target_terms}
use Rattle.query_blocks.specs.Blocks.{body_of}
use Rattle.site_lookups.proofs.Some.{true_is}
use Rattle.site_lookups.proofs.Blocks.{from_creates, from_links, last_is, contains_create, contains_link, contains_collect}
use Rattle.site_lookups.specs.Counts.{HasFunction, IsTermOf, IsEndOf}
use Rattle.site_lookups.proofs.Counts.{block_creates, block_links, block_all}
use Rattle.weight_spec.specs.CountsAtMost.{CountsAtMost, IsAt}
use Rattle.site_lookups.proofs.named.block_named.Goals as goal
use Rattle.std.specs.Prelude.{Contains}

pub any_named-requires-clause-declared : goal.any_named-requires-clause-declared
any_named-requires-clause-declared g c = λ w h. c.requires.scoped.1.terms (term_of w) (contains_create c.args.block.now w (subst (λ (ws : List SkolemTerm). Contains ws w) c.as_slice.ensures.value h))

pub any_link_named-requires-clause-declared : goal.any_link_named-requires-clause-declared
any_link_named-requires-clause-declared g c = λ k t h i. c.requires.scoped.1.terms t (contains_link c.args.block.now k t (subst (λ (ks : List Link). Contains ks k) c.as_slice-2.ensures.value h) i)

pub any_collect_named-requires-clause-declared : goal.any_collect_named-requires-clause-declared
any_collect_named-requires-clause-declared g c = λ k t h i. c.requires.scoped.1.terms t (contains_collect c.args.block.now k t (subst (λ (ks : List Collect). Contains ks k) c.as_slice-3.ensures.value h) i)

pub returns-then-branch-clause-answer : goal.returns-then-branch-clause-answer
returns-then-branch-clause-answer g c =
    true_is (SomeOf (IsNamed (g.A.Asker.graph c.args.asker.now) c.args.block.now.chain c.args.term.now) (terms_of (body_of c.args.block.now))) (from_creates (IsNamed (g.A.Asker.graph c.args.asker.now) c.args.block.now.chain c.args.term.now) c.args.block.now ((subst (λ (ws : List SkolemTerm). IsTrue c.in_ok-any_named.field-0 ↔ SomeOf (λ w. IsNamed (g.A.Asker.graph c.args.asker.now) c.args.block.now.chain c.args.term.now (term_of w)) ws) c.as_slice.ensures.value c.in_ok-any_named.ensures.answer).0 c.if-branch.true))

pub returns-then-branch-2-clause-answer : goal.returns-then-branch-2-clause-answer
returns-then-branch-2-clause-answer g c =
    true_is (SomeOf (IsNamed (g.A.Asker.graph c.args.asker.now) c.args.block.now.chain c.args.term.now) (terms_of (body_of c.args.block.now))) (from_links (IsNamed (g.A.Asker.graph c.args.asker.now) c.args.block.now.chain c.args.term.now) c.args.block.now ((subst (λ (ks : List Link). IsTrue c.in_ok-any_link_named.field-0 ↔ SomeOf (λ k. SomeOf (IsNamed (g.A.Asker.graph c.args.asker.now) c.args.block.now.chain c.args.term.now) (ends_of (link_of k))) ks) c.as_slice-2.ensures.value (subst (λ G. IsTrue c.in_ok-any_link_named.field-0 ↔ SomeOf (λ k. SomeOf (IsNamed G c.args.block.now.chain c.args.term.now) (ends_of (link_of k))) c.as_slice-2.result.now) c.in_ok-any_named.ensures.graph c.in_ok-any_link_named.ensures.answer)).0 c.if-branch-2.true))

pub returns-clause-answer : goal.returns-clause-answer
returns-clause-answer g c =
    last_is (IsNamed (g.A.Asker.graph c.args.asker.now) c.args.block.now.chain c.args.term.now) c.args.block.now c.in_ok-any_named.field-0 c.in_ok-any_link_named.field-0 c.in_ok-found.found c.if-branch.false c.if-branch-2.false
    (subst (λ (ws : List SkolemTerm). IsTrue c.in_ok-any_named.field-0 ↔ SomeOf (λ w. IsNamed (g.A.Asker.graph c.args.asker.now) c.args.block.now.chain c.args.term.now (term_of w)) ws) c.as_slice.ensures.value c.in_ok-any_named.ensures.answer)
    (subst (λ (ks : List Link). IsTrue c.in_ok-any_link_named.field-0 ↔ SomeOf (λ k. SomeOf (IsNamed (g.A.Asker.graph c.args.asker.now) c.args.block.now.chain c.args.term.now) (ends_of (link_of k))) ks) c.as_slice-2.ensures.value (subst (λ G. IsTrue c.in_ok-any_link_named.field-0 ↔ SomeOf (λ k. SomeOf (IsNamed G c.args.block.now.chain c.args.term.now) (ends_of (link_of k))) c.as_slice-2.result.now) c.in_ok-any_named.ensures.graph c.in_ok-any_link_named.ensures.answer))
    (subst (λ (ks : List Collect). IsTrue c.in_ok-found.found ↔ SomeOf (λ k. SomeOf (IsNamed (g.A.Asker.graph c.args.asker.now) c.args.block.now.chain c.args.term.now) (target_terms (collect_of k).target)) ks) c.as_slice-3.ensures.value (subst (λ G. IsTrue c.in_ok-found.found ↔ SomeOf (λ k. SomeOf (IsNamed G c.args.block.now.chain c.args.term.now) (target_terms (collect_of k).target)) c.as_slice-3.result.now) (c.in_ok-any_link_named.ensures.graph ∙ c.in_ok-any_named.ensures.graph) c.in_ok-found.ensures.answer))

pub returns-in_err-any_named-clause-counted : goal.returns-in_err-any_named-clause-counted
returns-in_err-any_named-clause-counted g c =
    block_creates c.args.block.now c.args.term.now (g.A.Asker.count c.args.asker.now) (g.A.Asker.count c.any_named.new.asker) (g.A.Asker.count c.any_named.new.asker) (g.A.Asker.count c.any_named.new.asker) (subst (λ (ws : List SkolemTerm). CountsAtMost (IsAt ws (HasFunction c.args.term.now)) (g.A.Asker.count c.args.asker.now) (g.A.Asker.count c.any_named.new.asker)) c.as_slice.ensures.value c.in_err-any_named.ensures.counted)

pub returns-then-branch-clause-counted : goal.returns-then-branch-clause-counted
returns-then-branch-clause-counted g c =
    block_creates c.args.block.now c.args.term.now (g.A.Asker.count c.args.asker.now) (g.A.Asker.count c.any_named.new.asker) (g.A.Asker.count c.any_named.new.asker) (g.A.Asker.count c.any_named.new.asker) (subst (λ (ws : List SkolemTerm). CountsAtMost (IsAt ws (HasFunction c.args.term.now)) (g.A.Asker.count c.args.asker.now) (g.A.Asker.count c.any_named.new.asker)) c.as_slice.ensures.value c.in_ok-any_named.ensures.counted)

pub returns-in_err-any_link_named-clause-counted : goal.returns-in_err-any_link_named-clause-counted
returns-in_err-any_link_named-clause-counted g c =
    block_links c.args.block.now c.args.term.now (g.A.Asker.count c.args.asker.now) (g.A.Asker.count c.any_named.new.asker) (g.A.Asker.count c.any_link_named.new.asker) (g.A.Asker.count c.any_link_named.new.asker) (subst (λ (ws : List SkolemTerm). CountsAtMost (IsAt ws (HasFunction c.args.term.now)) (g.A.Asker.count c.args.asker.now) (g.A.Asker.count c.any_named.new.asker)) c.as_slice.ensures.value c.in_ok-any_named.ensures.counted) (subst (λ (ks : List Link). CountsAtMost (IsAt ks (λ k. IsEndOf c.args.term.now (link_of k))) (g.A.Asker.count c.any_named.new.asker) (g.A.Asker.count c.any_link_named.new.asker)) c.as_slice-2.ensures.value c.in_err-any_link_named.ensures.counted)

pub returns-then-branch-2-clause-counted : goal.returns-then-branch-2-clause-counted
returns-then-branch-2-clause-counted g c =
    block_links c.args.block.now c.args.term.now (g.A.Asker.count c.args.asker.now) (g.A.Asker.count c.any_named.new.asker) (g.A.Asker.count c.any_link_named.new.asker) (g.A.Asker.count c.any_link_named.new.asker) (subst (λ (ws : List SkolemTerm). CountsAtMost (IsAt ws (HasFunction c.args.term.now)) (g.A.Asker.count c.args.asker.now) (g.A.Asker.count c.any_named.new.asker)) c.as_slice.ensures.value c.in_ok-any_named.ensures.counted) (subst (λ (ks : List Link). CountsAtMost (IsAt ks (λ k. IsEndOf c.args.term.now (link_of k))) (g.A.Asker.count c.any_named.new.asker) (g.A.Asker.count c.any_link_named.new.asker)) c.as_slice-2.ensures.value c.in_ok-any_link_named.ensures.counted)

pub returns-in_err-found-clause-counted : goal.returns-in_err-found-clause-counted
returns-in_err-found-clause-counted g c =
    block_all c.args.block.now c.args.term.now (g.A.Asker.count c.args.asker.now) (g.A.Asker.count c.any_named.new.asker) (g.A.Asker.count c.any_link_named.new.asker) (g.A.Asker.count c.any_collect_named.new.asker) (subst (λ (ws : List SkolemTerm). CountsAtMost (IsAt ws (HasFunction c.args.term.now)) (g.A.Asker.count c.args.asker.now) (g.A.Asker.count c.any_named.new.asker)) c.as_slice.ensures.value c.in_ok-any_named.ensures.counted) (subst (λ (ks : List Link). CountsAtMost (IsAt ks (λ k. IsEndOf c.args.term.now (link_of k))) (g.A.Asker.count c.any_named.new.asker) (g.A.Asker.count c.any_link_named.new.asker)) c.as_slice-2.ensures.value c.in_ok-any_link_named.ensures.counted) (subst (λ (ks : List Collect). CountsAtMost (IsAt ks (λ k. IsTermOf c.args.term.now (collect_of k).target)) (g.A.Asker.count c.any_link_named.new.asker) (g.A.Asker.count c.any_collect_named.new.asker)) c.as_slice-3.ensures.value c.in_err-found.ensures.counted)

pub returns-clause-counted : goal.returns-clause-counted
returns-clause-counted g c =
    block_all c.args.block.now c.args.term.now (g.A.Asker.count c.args.asker.now) (g.A.Asker.count c.any_named.new.asker) (g.A.Asker.count c.any_link_named.new.asker) (g.A.Asker.count c.any_collect_named.new.asker) (subst (λ (ws : List SkolemTerm). CountsAtMost (IsAt ws (HasFunction c.args.term.now)) (g.A.Asker.count c.args.asker.now) (g.A.Asker.count c.any_named.new.asker)) c.as_slice.ensures.value c.in_ok-any_named.ensures.counted) (subst (λ (ks : List Link). CountsAtMost (IsAt ks (λ k. IsEndOf c.args.term.now (link_of k))) (g.A.Asker.count c.any_named.new.asker) (g.A.Asker.count c.any_link_named.new.asker)) c.as_slice-2.ensures.value c.in_ok-any_link_named.ensures.counted) (subst (λ (ks : List Collect). CountsAtMost (IsAt ks (λ k. IsTermOf c.args.term.now (collect_of k).target)) (g.A.Asker.count c.any_link_named.new.asker) (g.A.Asker.count c.any_collect_named.new.asker)) c.as_slice-3.ensures.value c.in_ok-found.ensures.counted)
