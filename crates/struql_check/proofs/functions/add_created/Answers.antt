use Rattle.std.proofs.Common.{◌≡◌, ap, ◌∙◌}
use Rattle.std.specs.Prelude.{true, cond}
use Rattle.std.specs.BTreeSet as set
use Rattle.sd_value.specs.Order.{bytes_cmp}
use Rattle.query_spec.specs.Mentions.{same_name}
use Rattle.struql_ast.specs.Written.{Name}
use Rattle.struql_check.proofs.Tables.{created_step}
use Rattle.struql_check.proofs.functions.add_created.Goals as goal

pub returns-in_ok-insert : goal.returns-in_ok-insert
returns-in_ok-insert c = λ f.
    let old = set.contains bytes_cmp c.args.created.now f in
    let name : c.in_ok-function.function ≡ c.args.term.now.function = c.in_ok-function.ensures in
    c.in_ok-insert.ensures.updates.0 f
    ∙ (ap (λ (g : Name). cond (same_name g f) true old) name ∙ created_step old c.args.term.now.function f c.args.term.now.linked c.if-not-term.true)
