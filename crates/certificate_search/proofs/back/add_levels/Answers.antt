use Rattle.std.proofs.Common.{◌≡◌, ◌+◌, ◌-◌, drop, length, ap, sym, ◌∙◌, subst, arith}
use Rattle.std.specs.Prelude.{map}
use Rattle.std.proofs.lemmas.List.{length-map}
use Rattle.std.proofs.lemmas.Result.{err_from_is_err_and}
use Rattle.query_blocks.specs.Blocks.{scope_of}
use Rattle.constraint_recheck.specs.Options.{fold_over, tried_over}
use Rattle.constraint_recheck.specs.Search.{add_links, links_tried, levels, levels_tried}
use Rattle.certificate_search.specs.Reaching.{reached_of}
use Rattle.certificate_search.proofs.Growing.{Grows, level_grows, levels_more, levels_tried_more, grown_length}
use Rattle.certificate_search.proofs.Spending.{stopped}
use Rattle.certificate_search.proofs.back.add_levels.Goals as goal

pub loop-level-init : goal.loop-level-init
loop-level-init g c =
    let n = length c.args.query.now.links.now in
    let e : n - 0 ≡ n = omega arith in
    let tried = ap (λ k. levels_tried (g.J.Judge.tests c.args.query.now.judge.now) (scope_of c.args.query.now.blocks.now) c.args.given.now.conditions k 0 (map reached_of c.args.seen.now.items)) e in
    record {
      all = ap (λ k. levels (g.J.Judge.tests c.args.query.now.judge.now) (scope_of c.args.query.now.blocks.now) c.args.given.now.conditions k 0 (map reached_of c.args.seen.now.items)) e;
      place = omega arith;
      spent = omega (arith, tried);
    }

pub loop-level-preserved : goal.loop-level-preserved
loop-level-preserved g c =
    let T = g.J.Judge.tests c.args.query.now.judge.now in
    let q = scope_of c.args.query.now.blocks.now in
    let S = c.args.given.now.conditions in
    let n = length c.args.query.now.links.now in
    let m = c.loop-level._level in
    let place = c.loop-level.place in
    let now = map reached_of c.loop-level.seen.items in
    let next = fold_over (add_links T q S) now (drop place now) in
    let new = c.add_level.new.seen.items in
    let size = length-map c.loop-level.seen.items reached_of in
    let end : c.len-end.result ≡ length now = omega (arith, c.len-end.ensures, c.loop-level.seen.ok.0) in
    let grown : Grows now (map reached_of new) = subst (Grows now) (sym c.in_ok-add_level.ensures.added) (level_grows T q S (drop place now) now) in
    let one = levels_tried_more T q S n m place now (omega (arith, c.loop-level-test.true)) in
    let after = ap (λ k. levels_tried T q S (n - (m + 1)) k (map reached_of new)) end ∙ ap (λ r. levels_tried T q S (n - (m + 1)) (length now) r) c.in_ok-add_level.ensures.added in
    record {
      all =
          ap (λ k. levels T q S (n - (m + 1)) k (map reached_of new)) end
          ∙ ap (λ r. levels T q S (n - (m + 1)) (length now) r) c.in_ok-add_level.ensures.added
          ∙ sym (levels_more T q S n m place now (omega (arith, c.loop-level-test.true)))
          ∙ c.loop-level.invariant.all;
      place = omega (arith, end, grown_length now new grown);
      spent = omega (arith, c.loop-level.invariant.spent, c.in_ok-add_level.ensures.spent, one, after);
    }

pub returns-in_err-add_level-clause-spent : goal.returns-in_err-add_level-clause-spent
returns-in_err-add_level-clause-spent g c =
    let T = g.J.Judge.tests c.args.query.now.judge.now in
    let q = scope_of c.args.query.now.blocks.now in
    let S = c.args.given.now.conditions in
    let n = length c.args.query.now.links.now in
    let m = c.loop-level._level in
    let place = c.loop-level.place in
    let now = map reached_of c.loop-level.seen.items in
    let next = fold_over (add_links T q S) now (drop place now) in
    let one = levels_tried_more T q S n m place now (omega (arith, c.loop-level-test.true)) in
    let p = err_from_is_err_and c.from_residual.result c.from_residual.ensures.1 in
    rw (p.1, p.2)
    (stopped c.args.budget.now c.loop-level.budget (levels_tried T q S (n - m) place now) (tried_over (add_links T q S) (links_tried T q S) now (drop place now)) (levels_tried T q S (n - (m + 1)) (length now) next) (levels_tried T q S n 0 (map reached_of c.args.seen.now.items)) c.in_err-add_level.field-0.0
    c.loop-level.invariant.spent one c.in_err-add_level.ensures.spent)

pub returns-clause-spent : goal.returns-clause-spent
returns-clause-spent g c =
    let T = g.J.Judge.tests c.args.query.now.judge.now in
    let q = scope_of c.args.query.now.blocks.now in
    let S = c.args.given.now.conditions in
    let n = length c.args.query.now.links.now in
    let e : n - c.loop-level._level ≡ 0 = omega (arith, c.loop-level-test.false) in
    let none = ap (λ k. levels_tried T q S k c.loop-level.place (map reached_of c.loop-level.seen.items)) e in
    omega (arith, c.loop-level.invariant.spent, none)

pub returns-clause-added : goal.returns-clause-added
returns-clause-added g c =
    let T = g.J.Judge.tests c.args.query.now.judge.now in
    let q = scope_of c.args.query.now.blocks.now in
    let S = c.args.given.now.conditions in
    let n = length c.args.query.now.links.now in
    let e : 0 ≡ n - c.loop-level._level = omega (arith, c.loop-level-test.false) in
    ap (λ k. levels T q S k c.loop-level.place (map reached_of c.loop-level.seen.items)) e ∙ c.loop-level.invariant.all
