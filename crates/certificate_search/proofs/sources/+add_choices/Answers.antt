use Rattle.std.proofs.Common.{◌+◌, ◌-◌, [], ◌∷◌, ◌++◌, length, take, drop, ap, sym, ◌∙◌, arith}
use Rattle.std.specs.Prelude.{map}
use Rattle.std.specs.List.{flat_map}
use Rattle.std.proofs.lemmas.Result.{err_from_is_err_and}
use Rattle.struql_ast.specs.Reading.{operand_of, term_of}
use Rattle.query_blocks.specs.Blocks.{scope_of}
use Rattle.constraint_recheck.specs.Options.{fold_over, tried_over}
use Rattle.constraint_recheck.specs.Search.{choices, add_source, source_tried}
use Rattle.certificate_search.specs.Links.{numbered_of}
use Rattle.certificate_search.specs.Reaching.{reached_of, with_args}
use Rattle.certificate_search.proofs.Growing.{choice_more, choice_tried, choice_end, choice_tried_end, left_first}
use Rattle.certificate_search.proofs.Spending.{stopped, short_as}
use Rattle.certificate_search.proofs.sources.+add_choices.Goals as goal

pub loop-choice-preserved : goal.loop-choice-preserved
loop-choice-preserved g t c =
    let added = add_source (g.J.Judge.tests c.args.query.now.judge.now) (scope_of c.args.query.now.blocks.now) c.args.given.now.conditions (reached_of c.args.from.now) (numbered_of c.args.link.now) in
    let tries = source_tried (g.J.Judge.tests c.args.query.now.judge.now) (scope_of c.args.query.now.blocks.now) c.args.given.now.conditions (reached_of c.args.from.now) (numbered_of c.args.link.now) in
    let left = c.args.left.now in
    let rest = take (length left - 1) (drop 1 left) in
    let s = term_of c.args.source.now in
    let vs = c.args.given.now.variables in
    let cs = choices vs (map operand_of rest) in
    let xs = c.deref-choice-items.result.now in
    let i = c.loop-choice.choice-index in
    let first = map reached_of c.args.seen.now.items in
    let now = map reached_of c.loop-choice.seen.items in
    let more = with_args s (flat_map (λ a. map (λ bs. a ∷ bs) cs) (map operand_of (drop (i + 1) xs))) in
    let next = c.in_ok-add_choices.ensures.added ∙ ap (λ z. fold_over added now (with_args z cs)) c.in_ok-longer.ensures in
    let here = ap (λ z. tried_over added tries now (with_args z cs)) c.in_ok-longer.ensures in
    let one = choice_tried added tries now s cs operand_of xs i c.choice-item.result c.loop-choice-test.true c.choice-item.is in
    let after = ap (λ r. tried_over added tries r more) next in (
      ap (λ r. fold_over added r more) next
          ∙ sym (choice_more added now s cs operand_of xs i c.choice-item.result c.loop-choice-test.true c.choice-item.is)
          ∙ c.loop-choice.invariant.0,
      omega (arith, c.loop-choice.invariant.1, c.in_ok-add_choices.ensures.spent, one, here, after),
    )

pub returns-in_err-add_choices-clause-spent : goal.returns-in_err-add_choices-clause-spent
returns-in_err-add_choices-clause-spent g t c =
    let added = add_source (g.J.Judge.tests c.args.query.now.judge.now) (scope_of c.args.query.now.blocks.now) c.args.given.now.conditions (reached_of c.args.from.now) (numbered_of c.args.link.now) in
    let tries = source_tried (g.J.Judge.tests c.args.query.now.judge.now) (scope_of c.args.query.now.blocks.now) c.args.given.now.conditions (reached_of c.args.from.now) (numbered_of c.args.link.now) in
    let left = c.args.left.now in
    let rest = take (length left - 1) (drop 1 left) in
    let s = term_of c.args.source.now in
    let vs = c.args.given.now.variables in
    let cs = choices vs (map operand_of rest) in
    let xs = c.deref-choice-items.result.now in
    let i = c.loop-choice.choice-index in
    let first = map reached_of c.args.seen.now.items in
    let now = map reached_of c.loop-choice.seen.items in
    let all =
    ap (λ zs. flat_map (λ a. map (λ bs. a ∷ bs) cs) (map operand_of zs)) c.deref-choice-items.ensures.value
    ∙ ap (λ zs. flat_map (λ a. map (λ bs. a ∷ bs) cs) zs) c.in_ok-choices.ensures
    ∙ ap (λ zs. choices vs (map operand_of zs)) (sym (left_first left c.operand-item.result c.in-len1-up.len_at_least c.operand-item.is)) in
    let longer = term_of c.in_ok-longer.longer in
    let more = with_args s (flat_map (λ a. map (λ bs. a ∷ bs) cs) (map operand_of (drop (i + 1) xs))) in
    let here = ap (λ z. tried_over added tries now (with_args z cs)) c.in_ok-longer.ensures in
    let left_over = tried_over added tries (fold_over added now (with_args (record { function = s.function; args = s.args ++ operand_of c.choice-item.result ∷ [] }) cs)) more in
    let one = choice_tried added tries now s cs operand_of xs i c.choice-item.result c.loop-choice-test.true c.choice-item.is in
    let remaining = tried_over added tries now (with_args s (flat_map (λ a. map (λ bs. a ∷ bs) cs) (map operand_of (drop i xs)))) in
    let whole = tried_over added tries first (with_args s (flat_map (λ a. map (λ bs. a ∷ bs) cs) (map operand_of xs))) in
    let total = ap (λ zs. tried_over added tries first (with_args s zs)) all in
    let p = err_from_is_err_and c.from_residual-in_err-add_choices.result c.from_residual-in_err-add_choices.ensures.1 in
    let e = c.in_err-add_choices.field-0.0 in
    rw (p.1, p.2)
    (short_as whole _ c.args.budget.now e total
    (stopped c.args.budget.now c.loop-choice.budget remaining (tried_over added tries now (with_args longer cs)) left_over whole e
    c.loop-choice.invariant.1 (omega (arith, one, here)) c.in_err-add_choices.ensures.spent))

pub returns-clause-added : goal.returns-clause-added
returns-clause-added g t c =
    let added = add_source (g.J.Judge.tests c.args.query.now.judge.now) (scope_of c.args.query.now.blocks.now) c.args.given.now.conditions (reached_of c.args.from.now) (numbered_of c.args.link.now) in
    let tries = source_tried (g.J.Judge.tests c.args.query.now.judge.now) (scope_of c.args.query.now.blocks.now) c.args.given.now.conditions (reached_of c.args.from.now) (numbered_of c.args.link.now) in
    let left = c.args.left.now in
    let rest = take (length left - 1) (drop 1 left) in
    let s = term_of c.args.source.now in
    let vs = c.args.given.now.variables in
    let cs = choices vs (map operand_of rest) in
    let xs = c.deref-choice-items.result.now in
    let i = c.loop-choice.choice-index in
    let first = map reached_of c.args.seen.now.items in
    let now = map reached_of c.loop-choice.seen.items in
    let all =
    ap (λ zs. flat_map (λ a. map (λ bs. a ∷ bs) cs) (map operand_of zs)) c.deref-choice-items.ensures.value
    ∙ ap (λ zs. flat_map (λ a. map (λ bs. a ∷ bs) cs) zs) c.in_ok-choices.ensures
    ∙ ap (λ zs. choices vs (map operand_of zs)) (sym (left_first left c.operand-item.result c.in-len1-up.len_at_least c.operand-item.is)) in
    sym (choice_end added now s cs operand_of xs i c.loop-choice-test.false)
    ∙ c.loop-choice.invariant.0
    ∙ ap (λ zs. fold_over added first (with_args s zs)) all

pub returns-clause-spent : goal.returns-clause-spent
returns-clause-spent g t c =
    let added = add_source (g.J.Judge.tests c.args.query.now.judge.now) (scope_of c.args.query.now.blocks.now) c.args.given.now.conditions (reached_of c.args.from.now) (numbered_of c.args.link.now) in
    let tries = source_tried (g.J.Judge.tests c.args.query.now.judge.now) (scope_of c.args.query.now.blocks.now) c.args.given.now.conditions (reached_of c.args.from.now) (numbered_of c.args.link.now) in
    let left = c.args.left.now in
    let rest = take (length left - 1) (drop 1 left) in
    let s = term_of c.args.source.now in
    let vs = c.args.given.now.variables in
    let cs = choices vs (map operand_of rest) in
    let xs = c.deref-choice-items.result.now in
    let i = c.loop-choice.choice-index in
    let first = map reached_of c.args.seen.now.items in
    let now = map reached_of c.loop-choice.seen.items in
    let all =
    ap (λ zs. flat_map (λ a. map (λ bs. a ∷ bs) cs) (map operand_of zs)) c.deref-choice-items.ensures.value
    ∙ ap (λ zs. flat_map (λ a. map (λ bs. a ∷ bs) cs) zs) c.in_ok-choices.ensures
    ∙ ap (λ zs. choices vs (map operand_of zs)) (sym (left_first left c.operand-item.result c.in-len1-up.len_at_least c.operand-item.is)) in
    let none = choice_tried_end added tries now s cs operand_of xs i c.loop-choice-test.false in
    let total = ap (λ zs. tried_over added tries first (with_args s zs)) all in
    omega (arith, c.loop-choice.invariant.1, none, total)
