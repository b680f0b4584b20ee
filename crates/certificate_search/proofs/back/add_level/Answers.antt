use Rattle.std.proofs.Common.{◌≡◌, ◌+◌, drop, get_or, length, refl, ap, sym, ◌∙◌, subst, arith}
use Rattle.std.specs.Prelude.{map}
use Rattle.std.proofs.lemmas.List.{length-map, drop_all}
use Rattle.std.proofs.lemmas.Result.{err_from_is_err_and}
use Rattle.query_blocks.specs.Blocks.{scope_of}
use Rattle.constraint_recheck.specs.Options.{fold_over, tried_over}
use Rattle.constraint_recheck.specs.Search.{add_links, links_tried}
use Rattle.certificate_search.specs.Reaching.{reached_of}
use Rattle.certificate_search.proofs.Growing.{Grows, grows_none, grows_on, links_grow, level_more, grown_length}
use Rattle.certificate_search.proofs.Spending.{stopped}
use Rattle.certificate_search.proofs.back.add_level.Goals as goal

pub loop-from-init : goal.loop-from-init
loop-from-init g c = record { seen = refl; grown = grows_none (map reached_of c.args.seen.now.items); spent = refl }

pub copied_at-requires : goal.copied_at-requires
copied_at-requires g c =
    let first = map reached_of c.args.seen.now.items in
    let size = length-map c.args.seen.now.items reached_of in
    omega (arith, c.deref.ensures.len, ap length c.deref.ensures.value, c.len-from-end.ensures, c.args.seen.now.ok.0, c.loop-from-test.true, grown_length first c.loop-from.seen.items c.loop-from.invariant.grown)

pub loop-from-preserved : goal.loop-from-preserved
loop-from-preserved g c =
    let T = g.J.Judge.tests c.args.query.now.judge.now in
    let q = scope_of c.args.query.now.blocks.now in
    let S = c.args.given.now.conditions in
    let first = map reached_of c.args.seen.now.items in
    let now = map reached_of c.loop-from.seen.items in
    let from = c.loop-from.from in
    let e = reached_of c.in_ok-reached.reached in
    let size = length-map c.args.seen.now.items reached_of in
    let there = level_more first now from e c.loop-from.invariant.grown (omega (arith, c.len-from-end.ensures, c.args.seen.now.ok.0, c.loop-from-test.true)) (c.in_ok-reached.ensures ∙ ap (λ zs. get_or (map reached_of zs) from e) c.deref.ensures.value) in
    let added = add_links T q S in
    let tries = links_tried T q S in
    let one : tried_over added tries now (drop from first) ≡ tries now e + tried_over added tries (added now e) (drop (from + 1) first) = ap (λ zs. tried_over added tries now zs) there in
    let after = ap (λ r. tried_over added tries r (drop (from + 1) first)) c.in_ok-add_links.ensures.added in
    record {
      seen =
          ap (λ r. fold_over (add_links T q S) r (drop (from + 1) first)) c.in_ok-add_links.ensures.added
          ∙ ap (λ zs. fold_over (add_links T q S) now zs) (sym there)
          ∙ c.loop-from.invariant.seen;
      grown = subst (Grows first) (sym c.in_ok-add_links.ensures.added) (grows_on first now (add_links T q S now e) c.loop-from.invariant.grown (links_grow T q S now e));
      spent = omega (arith, c.loop-from.invariant.spent, c.in_ok-add_links.ensures.spent, one, after);
    }

pub returns-in_err-add_links-clause-spent : goal.returns-in_err-add_links-clause-spent
returns-in_err-add_links-clause-spent g c =
    let T = g.J.Judge.tests c.args.query.now.judge.now in
    let q = scope_of c.args.query.now.blocks.now in
    let S = c.args.given.now.conditions in
    let first = map reached_of c.args.seen.now.items in
    let now = map reached_of c.loop-from.seen.items in
    let from = c.loop-from.from in
    let e = reached_of c.in_ok-reached.reached in
    let size = length-map c.args.seen.now.items reached_of in
    let there = level_more first now from e c.loop-from.invariant.grown (omega (arith, c.len-from-end.ensures, c.args.seen.now.ok.0, c.loop-from-test.true)) (c.in_ok-reached.ensures ∙ ap (λ zs. get_or (map reached_of zs) from e) c.deref.ensures.value) in
    let added = add_links T q S in
    let tries = links_tried T q S in
    let one : tried_over added tries now (drop from first) ≡ tries now e + tried_over added tries (added now e) (drop (from + 1) first) = ap (λ zs. tried_over added tries now zs) there in
    let p = err_from_is_err_and c.from_residual-in_err-add_links.result c.from_residual-in_err-add_links.ensures.1 in
    rw (p.1, p.2)
    (stopped c.args.budget.now c.loop-from.budget (tried_over added tries now (drop from first)) (tries now e) (tried_over added tries (added now e) (drop (from + 1) first)) (tried_over added tries first (drop c.args.place first)) c.in_err-add_links.field-0.0
    c.loop-from.invariant.spent one c.in_err-add_links.ensures.spent)

pub returns-clause-spent : goal.returns-clause-spent
returns-clause-spent g c =
    let T = g.J.Judge.tests c.args.query.now.judge.now in
    let q = scope_of c.args.query.now.blocks.now in
    let S = c.args.given.now.conditions in
    let first = map reached_of c.args.seen.now.items in
    let size = length-map c.args.seen.now.items reached_of in
    let none = ap (λ zs. tried_over (add_links T q S) (links_tried T q S) (map reached_of c.loop-from.seen.items) zs) (drop_all c.loop-from.from first (omega (arith, c.len-from-end.ensures, c.args.seen.now.ok.0, c.loop-from-test.false))) in
    omega (arith, c.loop-from.invariant.spent, none)

pub returns-clause-added : goal.returns-clause-added
returns-clause-added g c =
    let T = g.J.Judge.tests c.args.query.now.judge.now in
    let q = scope_of c.args.query.now.blocks.now in
    let S = c.args.given.now.conditions in
    let first = map reached_of c.args.seen.now.items in
    let size = length-map c.args.seen.now.items reached_of in
    ap (λ zs. fold_over (add_links T q S) (map reached_of c.loop-from.seen.items) zs) (sym (drop_all c.loop-from.from first (omega (arith, c.len-from-end.ensures, c.args.seen.now.ok.0, c.loop-from-test.false))))
    ∙ c.loop-from.invariant.seen
