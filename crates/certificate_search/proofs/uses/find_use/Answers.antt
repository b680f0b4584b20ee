use Rattle.std.proofs.Common.{◌+◌, drop, ap, sym, ◌∙◌, arith}
use Rattle.std.specs.Prelude.{map, option_copied}
use Rattle.std.proofs.lemmas.Result.{err_from_is_err_and}
use Rattle.struql_ast.specs.Reading.{term_of}
use Rattle.query_blocks.specs.Blocks.{scope_of}
use Rattle.constraint_spec.specs.Placed.{Mention}
use Rattle.constraint_recheck.specs.Options.{first_of, if_none, tried_until}
use Rattle.certificate_search.specs.Links.{numbered_of, IsPrepared}
use Rattle.certificate_search.specs.Uses.{ends_at, asked_use, asked_tried}
use Rattle.certificate_search.proofs.Steps.{all_at, first_some, first_none, first_end}
use Rattle.certificate_search.proofs.Spending.{until_one, until_end, stopped, short_as}
use Rattle.certificate_search.proofs.uses.find_use.Goals as goal

pub use_of-requires-clause-prepared : goal.use_of-requires-clause-prepared
use_of-requires-clause-prepared g c =
    all_at IsPrepared c.args.query.now.links.now c.loop-link.link-index c.link-item.result c.loop-link-test.true c.link-item.is c.requires.links.prepared

pub returns-in_err-use_of-clause-spent : goal.returns-in_err-use_of-clause-spent
returns-in_err-use_of-clause-spent g c =
    let m : Mention = record { conditions = c.args.given.now.conditions; term = term_of c.args.term.now } in
    let by = asked_use (g.J.Judge.tests c.args.query.now.judge.now) (scope_of c.args.query.now.blocks.now) c.args.label.now (ends_at (option_copied c.args.function)) m in
    let tries = asked_tried (g.J.Judge.tests c.args.query.now.judge.now) (scope_of c.args.query.now.blocks.now) c.args.label.now (ends_at (option_copied c.args.function)) m in
    let links = c.args.query.now.links.now in
    let i = c.loop-link.link-index in
    let p = err_from_is_err_and c.from_residual.result c.from_residual.ensures.1 in
    let e = c.in_err-use_of.field-0.0 in
    let n = numbered_of c.link-item.result in
    let total = ap (λ ns. tried_until by tries ns) c.requires.links.all in
    rw (p.1, p.2)
    (short_as (tried_until by tries (map numbered_of links)) _ c.args.budget.now e total
    (stopped c.args.budget.now c.loop-link.budget (tried_until by tries (map numbered_of (drop i links))) (tries n) (if_none (by n) (tried_until by tries (map numbered_of (drop (i + 1) links)))) (tried_until by tries (map numbered_of links)) e
    c.loop-link.invariant.1 (until_one by tries numbered_of links i c.link-item.result c.loop-link-test.true c.link-item.is) c.in_err-use_of.ensures.spent))

pub returns-in-Some-clause-found : goal.returns-in-Some-clause-found
returns-in-Some-clause-found g c =
    let m : Mention = record { conditions = c.args.given.now.conditions; term = term_of c.args.term.now } in
    let by = asked_use (g.J.Judge.tests c.args.query.now.judge.now) (scope_of c.args.query.now.blocks.now) c.args.label.now (ends_at (option_copied c.args.function)) m in
    let tries = asked_tried (g.J.Judge.tests c.args.query.now.judge.now) (scope_of c.args.query.now.blocks.now) c.args.label.now (ends_at (option_copied c.args.function)) m in
    let links = c.args.query.now.links.now in
    let i = c.loop-link.link-index in
    sym (first_some by numbered_of links i c.link-item.result c.in-Some.found c.loop-link-test.true c.link-item.is (sym c.in_ok-use_of.ensures.found ∙ c.in-Some.is))
    ∙ c.loop-link.invariant.0
    ∙ ap (λ ns. first_of by ns) c.requires.links.all

pub returns-in-Some-clause-spent : goal.returns-in-Some-clause-spent
returns-in-Some-clause-spent g c =
    let m : Mention = record { conditions = c.args.given.now.conditions; term = term_of c.args.term.now } in
    let by = asked_use (g.J.Judge.tests c.args.query.now.judge.now) (scope_of c.args.query.now.blocks.now) c.args.label.now (ends_at (option_copied c.args.function)) m in
    let tries = asked_tried (g.J.Judge.tests c.args.query.now.judge.now) (scope_of c.args.query.now.blocks.now) c.args.label.now (ends_at (option_copied c.args.function)) m in
    let links = c.args.query.now.links.now in
    let i = c.loop-link.link-index in
    let one = until_one by tries numbered_of links i c.link-item.result c.loop-link-test.true c.link-item.is in
    let none = ap (λ o. if_none o (tried_until by tries (map numbered_of (drop (i + 1) links)))) (sym c.in_ok-use_of.ensures.found ∙ c.in-Some.is) in
    let total = ap (λ ns. tried_until by tries ns) c.requires.links.all in
    omega (arith, c.loop-link.invariant.1, c.in_ok-use_of.ensures.spent, one, none, total)

pub loop-link-preserved : goal.loop-link-preserved
loop-link-preserved g c =
    let m : Mention = record { conditions = c.args.given.now.conditions; term = term_of c.args.term.now } in
    let by = asked_use (g.J.Judge.tests c.args.query.now.judge.now) (scope_of c.args.query.now.blocks.now) c.args.label.now (ends_at (option_copied c.args.function)) m in
    let tries = asked_tried (g.J.Judge.tests c.args.query.now.judge.now) (scope_of c.args.query.now.blocks.now) c.args.label.now (ends_at (option_copied c.args.function)) m in
    let links = c.args.query.now.links.now in
    let i = c.loop-link.link-index in
    let one = until_one by tries numbered_of links i c.link-item.result c.loop-link-test.true c.link-item.is in
    let none = ap (λ o. if_none o (tried_until by tries (map numbered_of (drop (i + 1) links)))) (sym c.in_ok-use_of.ensures.found ∙ c.in-None.is) in (
      sym (first_none by numbered_of links i c.link-item.result c.loop-link-test.true c.link-item.is (sym c.in_ok-use_of.ensures.found ∙ c.in-None.is)) ∙ c.loop-link.invariant.0,
      omega (arith, c.loop-link.invariant.1, c.in_ok-use_of.ensures.spent, one, none),
    )

pub returns-clause-found : goal.returns-clause-found
returns-clause-found g c =
    let m : Mention = record { conditions = c.args.given.now.conditions; term = term_of c.args.term.now } in
    let by = asked_use (g.J.Judge.tests c.args.query.now.judge.now) (scope_of c.args.query.now.blocks.now) c.args.label.now (ends_at (option_copied c.args.function)) m in
    let tries = asked_tried (g.J.Judge.tests c.args.query.now.judge.now) (scope_of c.args.query.now.blocks.now) c.args.label.now (ends_at (option_copied c.args.function)) m in
    let links = c.args.query.now.links.now in
    let i = c.loop-link.link-index in
    sym (first_end by numbered_of links i c.loop-link-test.false)
    ∙ c.loop-link.invariant.0
    ∙ ap (λ ns. first_of by ns) c.requires.links.all

pub returns-clause-spent : goal.returns-clause-spent
returns-clause-spent g c =
    let m : Mention = record { conditions = c.args.given.now.conditions; term = term_of c.args.term.now } in
    let by = asked_use (g.J.Judge.tests c.args.query.now.judge.now) (scope_of c.args.query.now.blocks.now) c.args.label.now (ends_at (option_copied c.args.function)) m in
    let tries = asked_tried (g.J.Judge.tests c.args.query.now.judge.now) (scope_of c.args.query.now.blocks.now) c.args.label.now (ends_at (option_copied c.args.function)) m in
    let links = c.args.query.now.links.now in
    let i = c.loop-link.link-index in
    let none = until_end by tries numbered_of links i c.loop-link-test.false in
    let total = ap (λ ns. tried_until by tries ns) c.requires.links.all in
    omega (arith, c.loop-link.invariant.1, none, total)
