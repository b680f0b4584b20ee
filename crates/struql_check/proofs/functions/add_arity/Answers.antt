use Rattle.std.proofs.Common.{◌≡◌, sym, ap, ◌∙◌}
use Rattle.std.specs.Prelude.{cond, Some, None}
use Rattle.std.specs.BTreeMap as tree
use Rattle.sd_value.specs.Order.{bytes_cmp}
use Rattle.query_spec.specs.Mentions.{same_name}
use Rattle.struql_ast.specs.Written.{Name}
use Rattle.struql_check.proofs.Tables.{arity_new, arity_old, copied_none, copied_some}
use Rattle.struql_check.proofs.functions.add_arity.Goals as goal

pub returns-in_ok-insert : goal.returns-in_ok-insert
returns-in_ok-insert c = λ f.
    let old = tree.get bytes_cmp c.args.arities.now f in
    let g = c.args.term.now.function in
    let name : c.in_ok-function.function ≡ g = c.in_ok-function.ensures in
    let none : tree.get bytes_cmp c.args.arities.now g ≡ None = copied_none c.get.result _ c.is_none.result c.get.ensures.value c.is_none.ensures c.if-is_none.true in
    c.in_ok-insert.ensures.updates.0 f
    ∙ (ap (λ (h : Name). cond (same_name h f) (Some c.args.term.now.arity) old) name
    ∙ arity_new g f old c.args.term.now.arity (λ e. ap (tree.get bytes_cmp c.args.arities.now) e ∙ none))

pub returns-else-is_none : goal.returns-else-is_none
returns-else-is_none c = λ f.
    let g = c.args.term.now.function in
    arity_old g f (tree.get bytes_cmp c.args.arities.now f) c.args.term.now.arity (λ e n. copied_some c.get.result _ c.is_none.result c.get.ensures.value c.is_none.ensures c.if-is_none.false (ap (tree.get bytes_cmp c.args.arities.now) (sym e) ∙ n))
