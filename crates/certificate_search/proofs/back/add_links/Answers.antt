use Rattle.std.proofs.Common.{◌+◌, ap, sym, ◌∙◌, drop, arith}
use Rattle.std.specs.Prelude.{map}
use Rattle.std.proofs.lemmas.Result.{err_from_is_err_and}
use Rattle.query_blocks.specs.Blocks.{scope_of}
use Rattle.constraint_recheck.specs.Options.{fold_over, tried_over}
use Rattle.constraint_recheck.specs.Search.{add_sources, sources_tried}
use Rattle.certificate_search.specs.Links.{numbered_of, IsPrepared}
use Rattle.certificate_search.specs.Reaching.{reached_of}
use Rattle.certificate_search.proofs.Steps.{all_at, fold_one, fold_end}
use Rattle.certificate_search.proofs.Spending.{over_one, over_end, stopped, short_as}
use Rattle.certificate_search.proofs.back.add_links.Goals as goal

pub add_sources-requires-clause-prepared : goal.add_sources-requires-clause-prepared
add_sources-requires-clause-prepared g c =
    all_at IsPrepared c.args.query.now.links.now c.loop-link.link-index c.link-item.result c.loop-link-test.true c.link-item.is c.requires.links.prepared

pub returns-in_err-add_sources-clause-spent : goal.returns-in_err-add_sources-clause-spent
returns-in_err-add_sources-clause-spent g c =
    let added = add_sources (g.J.Judge.tests c.args.query.now.judge.now) (scope_of c.args.query.now.blocks.now) c.args.given.now.conditions (reached_of c.args.from.now) in
    let tries = sources_tried (g.J.Judge.tests c.args.query.now.judge.now) (scope_of c.args.query.now.blocks.now) c.args.given.now.conditions (reached_of c.args.from.now) in
    let links = c.args.query.now.links.now in
    let i = c.loop-link.link-index in
    let first = map reached_of c.args.seen.now.items in
    let now = map reached_of c.loop-link.seen.items in
    let p = err_from_is_err_and c.from_residual.result c.from_residual.ensures.1 in
    let e = c.in_err-add_sources.field-0.0 in
    let n = numbered_of c.link-item.result in
    let total = ap (λ ns. tried_over added tries first ns) c.requires.links.all in
    rw (p.1, p.2)
    (short_as (tried_over added tries first (map numbered_of links)) _ c.args.budget.now e total
    (stopped c.args.budget.now c.loop-link.budget (tried_over added tries now (map numbered_of (drop i links))) (tries now n) (tried_over added tries (added now n) (map numbered_of (drop (i + 1) links))) (tried_over added tries first (map numbered_of links)) e
    c.loop-link.invariant.1 (over_one added tries now numbered_of links i c.link-item.result c.loop-link-test.true c.link-item.is) c.in_err-add_sources.ensures.spent))

pub loop-link-preserved : goal.loop-link-preserved
loop-link-preserved g c =
    let added = add_sources (g.J.Judge.tests c.args.query.now.judge.now) (scope_of c.args.query.now.blocks.now) c.args.given.now.conditions (reached_of c.args.from.now) in
    let tries = sources_tried (g.J.Judge.tests c.args.query.now.judge.now) (scope_of c.args.query.now.blocks.now) c.args.given.now.conditions (reached_of c.args.from.now) in
    let links = c.args.query.now.links.now in
    let i = c.loop-link.link-index in
    let first = map reached_of c.args.seen.now.items in
    let now = map reached_of c.loop-link.seen.items in
    let one = over_one added tries now numbered_of links i c.link-item.result c.loop-link-test.true c.link-item.is in
    let after = ap (λ r. tried_over added tries r (map numbered_of (drop (i + 1) links))) c.in_ok-add_sources.ensures.added in (
      ap (λ r. fold_over added r (map numbered_of (drop (i + 1) links))) c.in_ok-add_sources.ensures.added
          ∙ sym (fold_one added now numbered_of links i c.link-item.result c.loop-link-test.true c.link-item.is)
          ∙ c.loop-link.invariant.0,
      omega (arith, c.loop-link.invariant.1, c.in_ok-add_sources.ensures.spent, one, after),
    )

pub returns-clause-added : goal.returns-clause-added
returns-clause-added g c =
    let added = add_sources (g.J.Judge.tests c.args.query.now.judge.now) (scope_of c.args.query.now.blocks.now) c.args.given.now.conditions (reached_of c.args.from.now) in
    let tries = sources_tried (g.J.Judge.tests c.args.query.now.judge.now) (scope_of c.args.query.now.blocks.now) c.args.given.now.conditions (reached_of c.args.from.now) in
    let links = c.args.query.now.links.now in
    let i = c.loop-link.link-index in
    let first = map reached_of c.args.seen.now.items in
    let now = map reached_of c.loop-link.seen.items in
    sym (fold_end added now numbered_of links i c.loop-link-test.false)
    ∙ c.loop-link.invariant.0
    ∙ ap (λ ns. fold_over added first ns) c.requires.links.all

pub returns-clause-spent : goal.returns-clause-spent
returns-clause-spent g c =
    let added = add_sources (g.J.Judge.tests c.args.query.now.judge.now) (scope_of c.args.query.now.blocks.now) c.args.given.now.conditions (reached_of c.args.from.now) in
    let tries = sources_tried (g.J.Judge.tests c.args.query.now.judge.now) (scope_of c.args.query.now.blocks.now) c.args.given.now.conditions (reached_of c.args.from.now) in
    let links = c.args.query.now.links.now in
    let i = c.loop-link.link-index in
    let first = map reached_of c.args.seen.now.items in
    let now = map reached_of c.loop-link.seen.items in
    let none = over_end added tries now numbered_of links i c.loop-link-test.false in
    let total = ap (λ ns. tried_over added tries first ns) c.requires.links.all in
    omega (arith, c.loop-link.invariant.1, none, total)
