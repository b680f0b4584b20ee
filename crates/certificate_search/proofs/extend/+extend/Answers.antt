use Rattle.std.proofs.Common.{◌≡◌, ◌+◌, ◌-◌, List, [], ◌∷◌, ◌++◌, length, take, drop, ap, sym, ◌∙◌, subst, arith}
use Rattle.std.specs.Prelude.{Bool, true, ◌&&◌, map, option_copied, option_map}
use Rattle.std.proofs.lemmas.Result.{err_from_is_err_and}
use Rattle.sd_value.specs.Names.{Name}
use Rattle.struql_ast.specs.Reading.{condition_of, term_of, link_of}
use Rattle.constraint_recheck.specs.Recheck.{same_sort}
use Rattle.constraint_recheck.specs.Options.{tried_until}
use Rattle.constraint_recheck.specs.Search.{may_go_on, extend, extend_tried}
use Rattle.certificate_search.proofs.Extending.{extend_by, by_tried, left_first, here, behind, tried_here, here_is, found_with, none_left}
use Rattle.certificate_search.proofs.Spending.{stopped, stopped_then, short_as}
use Rattle.certificate_search.proofs.extend.+extend.Goals as goal

pub returns-in_err-spend-clause-spent : goal.returns-in_err-spend-clause-spent
returns-in_err-spend-clause-spent g t c =
    let s = c.args.search.now in
    let test : List Name → Bool =
    may_go_on s.variables.now (g.J.Judge.tests s.judge.now) s.version (map condition_of s.given.now)
    (map condition_of s.conditions.now) (link_of s.link.now) (term_of s.source.now) (option_map term_of (option_copied s.target)) in
    let targets = s.targets.now in
    let left = c.args.left.now in
    let rest = take (length left - 1) (drop 1 left) in
    let v = c.variable-item.result in
    let ys = c.args.names.now.items in
    let i = c.loop-target.target-index in
    let whole = left_first left v c.in-len1-up.len_at_least c.variable-item.is in
    let total : extend_tried test targets left ys ≡ extend_tried test targets (v ∷ rest) ys = ap (λ xs. extend_tried test targets xs ys) whole in
    let remaining = tried_until (extend_by test targets rest v ys) (by_tried test targets rest v ys) (drop i targets) in
    let w = c.target-item.result in
    let p = err_from_is_err_and c.from_residual.result c.from_residual.ensures.1 in
    let lt = c.loop-target-test.true in
    let at = c.target-item.is in
    let one = tried_here test targets rest v ys i w lt at in
    rw (p.1, p.2)
    (short_as (extend_tried test targets (v ∷ rest) ys) (extend_tried test targets left ys) c.args.budget.now c.in_err-spend.field-0.0 (sym total)
    (stopped c.args.budget.now c.loop-target.budget remaining 1 (here test targets rest v ys i w lt at + behind test targets rest v ys i w lt at) (extend_tried test targets (v ∷ rest) ys) c.in_err-spend.field-0.0
    c.loop-target.invariant.2 (omega (arith, one)) c.in_err-spend.ensures))

pub returns-in_err-extend-clause-spent : goal.returns-in_err-extend-clause-spent
returns-in_err-extend-clause-spent g t c =
    let s = c.args.search.now in
    let test : List Name → Bool =
    may_go_on s.variables.now (g.J.Judge.tests s.judge.now) s.version (map condition_of s.given.now)
    (map condition_of s.conditions.now) (link_of s.link.now) (term_of s.source.now) (option_map term_of (option_copied s.target)) in
    let targets = s.targets.now in
    let left = c.args.left.now in
    let rest = take (length left - 1) (drop 1 left) in
    let v = c.variable-item.result in
    let ys = c.args.names.now.items in
    let i = c.loop-target.target-index in
    let whole = left_first left v c.in-len1-up.len_at_least c.variable-item.is in
    let total : extend_tried test targets left ys ≡ extend_tried test targets (v ∷ rest) ys = ap (λ xs. extend_tried test targets xs ys) whole in
    let remaining = tried_until (extend_by test targets rest v ys) (by_tried test targets rest v ys) (drop i targets) in
    let w = c.target-item.result in
    let mapped_to = (rw c.if-branch.true at c.in_ok-maps.ensures) in
    let may = subst (λ z. (same_sort w.arc v.arc && test (z ++ w.name ∷ [])) ≡ true) c.loop-target.invariant.0 mapped_to.0 in
    let more : c.maps.new.names.items ≡ ys ++ w.name ∷ [] = mapped_to.1 ∙ ap (λ z. z ++ w.name ∷ []) c.loop-target.invariant.0 in
    let inner : extend_tried test targets rest c.maps.new.names.items ≡ extend_tried test targets rest (ys ++ w.name ∷ []) = ap (extend_tried test targets rest) more in
    let p = err_from_is_err_and c.from_residual-in_err-extend.result c.from_residual-in_err-extend.ensures.1 in
    let lt = c.loop-target-test.true in
    let at = c.target-item.is in
    let one = tried_here test targets rest v ys i w lt at in
    let is = here_is test targets rest v ys i w lt at may in
    let e = c.in_err-extend.field-0.0 in
    let step = 1 + extend_tried test targets rest c.maps.new.names.items in
    rw (p.1, p.2)
    (short_as (extend_tried test targets (v ∷ rest) ys) (extend_tried test targets left ys) c.args.budget.now e (sym total)
    (stopped c.args.budget.now c.loop-target.budget remaining step (behind test targets rest v ys i w lt at) (extend_tried test targets (v ∷ rest) ys) e
    c.loop-target.invariant.2 (omega (arith, one, is, inner))
    (stopped_then c.loop-target.budget c.spend.new.left 1 (extend_tried test targets rest c.maps.new.names.items) e c.in_ok-spend.ensures c.in_err-extend.ensures.spent)))

pub returns-then-branch-2-clause-extended : goal.returns-then-branch-2-clause-extended
returns-then-branch-2-clause-extended g t c =
    let s = c.args.search.now in
    let test : List Name → Bool =
    may_go_on s.variables.now (g.J.Judge.tests s.judge.now) s.version (map condition_of s.given.now)
    (map condition_of s.conditions.now) (link_of s.link.now) (term_of s.source.now) (option_map term_of (option_copied s.target)) in
    let targets = s.targets.now in
    let left = c.args.left.now in
    let rest = take (length left - 1) (drop 1 left) in
    let v = c.variable-item.result in
    let ys = c.args.names.now.items in
    let i = c.loop-target.target-index in
    let whole = left_first left v c.in-len1-up.len_at_least c.variable-item.is in
    let total : extend_tried test targets left ys ≡ extend_tried test targets (v ∷ rest) ys = ap (λ xs. extend_tried test targets xs ys) whole in
    let remaining = tried_until (extend_by test targets rest v ys) (by_tried test targets rest v ys) (drop i targets) in
    let w = c.target-item.result in
    let mapped_to = (rw c.if-branch.true at c.in_ok-maps.ensures) in
    let may = subst (λ z. (same_sort w.arc v.arc && test (z ++ w.name ∷ [])) ≡ true) c.loop-target.invariant.0 mapped_to.0 in
    let more : c.maps.new.names.items ≡ ys ++ w.name ∷ [] = mapped_to.1 ∙ ap (λ z. z ++ w.name ∷ []) c.loop-target.invariant.0 in
    let inner : extend_tried test targets rest c.maps.new.names.items ≡ extend_tried test targets rest (ys ++ w.name ∷ []) = ap (extend_tried test targets rest) more in
    let found = ap (λ xs. extend test targets rest xs) (sym more) ∙ (rw c.if-branch-2.true at c.in_ok-extend.ensures.extended) in
    ap (λ xs. extend test targets xs ys) whole
    ∙ sym c.loop-target.invariant.1
    ∙ (found_with test targets rest v ys i w c.loop-target-test.true c.target-item.is may c.extend.new.names.items found).0

pub returns-then-branch-2-clause-spent : goal.returns-then-branch-2-clause-spent
returns-then-branch-2-clause-spent g t c =
    let s = c.args.search.now in
    let test : List Name → Bool =
    may_go_on s.variables.now (g.J.Judge.tests s.judge.now) s.version (map condition_of s.given.now)
    (map condition_of s.conditions.now) (link_of s.link.now) (term_of s.source.now) (option_map term_of (option_copied s.target)) in
    let targets = s.targets.now in
    let left = c.args.left.now in
    let rest = take (length left - 1) (drop 1 left) in
    let v = c.variable-item.result in
    let ys = c.args.names.now.items in
    let i = c.loop-target.target-index in
    let whole = left_first left v c.in-len1-up.len_at_least c.variable-item.is in
    let total : extend_tried test targets left ys ≡ extend_tried test targets (v ∷ rest) ys = ap (λ xs. extend_tried test targets xs ys) whole in
    let remaining = tried_until (extend_by test targets rest v ys) (by_tried test targets rest v ys) (drop i targets) in
    let w = c.target-item.result in
    let mapped_to = (rw c.if-branch.true at c.in_ok-maps.ensures) in
    let may = subst (λ z. (same_sort w.arc v.arc && test (z ++ w.name ∷ [])) ≡ true) c.loop-target.invariant.0 mapped_to.0 in
    let more : c.maps.new.names.items ≡ ys ++ w.name ∷ [] = mapped_to.1 ∙ ap (λ z. z ++ w.name ∷ []) c.loop-target.invariant.0 in
    let inner : extend_tried test targets rest c.maps.new.names.items ≡ extend_tried test targets rest (ys ++ w.name ∷ []) = ap (extend_tried test targets rest) more in
    let found = ap (λ xs. extend test targets rest xs) (sym more) ∙ (rw c.if-branch-2.true at c.in_ok-extend.ensures.extended) in
    let one = (found_with test targets rest v ys i w c.loop-target-test.true c.target-item.is may c.extend.new.names.items found).1 in
    omega (arith, c.loop-target.invariant.2, c.in_ok-spend.ensures, c.in_ok-extend.ensures.spent, one, inner, total)

pub returns-clause-extended : goal.returns-clause-extended
returns-clause-extended g t c =
    let s = c.args.search.now in
    let test : List Name → Bool =
    may_go_on s.variables.now (g.J.Judge.tests s.judge.now) s.version (map condition_of s.given.now)
    (map condition_of s.conditions.now) (link_of s.link.now) (term_of s.source.now) (option_map term_of (option_copied s.target)) in
    let targets = s.targets.now in
    let left = c.args.left.now in
    let rest = take (length left - 1) (drop 1 left) in
    let v = c.variable-item.result in
    let ys = c.args.names.now.items in
    let i = c.loop-target.target-index in
    let whole = left_first left v c.in-len1-up.len_at_least c.variable-item.is in
    let total : extend_tried test targets left ys ≡ extend_tried test targets (v ∷ rest) ys = ap (λ xs. extend_tried test targets xs ys) whole in
    let remaining = tried_until (extend_by test targets rest v ys) (by_tried test targets rest v ys) (drop i targets) in
    (ap (λ xs. extend test targets xs ys) whole ∙ sym c.loop-target.invariant.1 ∙ (none_left test targets rest v ys i c.loop-target-test.false).0, c.loop-target.invariant.0)

pub returns-clause-spent : goal.returns-clause-spent
returns-clause-spent g t c =
    let s = c.args.search.now in
    let test : List Name → Bool =
    may_go_on s.variables.now (g.J.Judge.tests s.judge.now) s.version (map condition_of s.given.now)
    (map condition_of s.conditions.now) (link_of s.link.now) (term_of s.source.now) (option_map term_of (option_copied s.target)) in
    let targets = s.targets.now in
    let left = c.args.left.now in
    let rest = take (length left - 1) (drop 1 left) in
    let v = c.variable-item.result in
    let ys = c.args.names.now.items in
    let i = c.loop-target.target-index in
    let whole = left_first left v c.in-len1-up.len_at_least c.variable-item.is in
    let total : extend_tried test targets left ys ≡ extend_tried test targets (v ∷ rest) ys = ap (λ xs. extend_tried test targets xs ys) whole in
    let remaining = tried_until (extend_by test targets rest v ys) (by_tried test targets rest v ys) (drop i targets) in
    let none = (none_left test targets rest v ys i c.loop-target-test.false).1 in
    omega (arith, c.loop-target.invariant.2, none, total)
