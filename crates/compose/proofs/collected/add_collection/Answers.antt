use Rattle.std.proofs.Common.{List, subst}
use Rattle.std.proofs.lemmas.Result.{err_from_is_err_and}
use Rattle.sd_value.specs.declared.Value.{Value}
use Rattle.graph_spec.specs.Statement.{Statement}
use Rattle.site_spec.specs.Site.{SomeOf}
use Rattle.compose.specs.Adding.{AddsAll}
use Rattle.compose.specs.Stated.{IsPutAs}
use Rattle.compose.proofs.Sources.{puts_from}
use Rattle.compose.proofs.collected.add_collection.Goals as goal

pub returns-in_err-values-clause-added : goal.returns-in_err-values-clause-added
returns-in_err-values-clause-added g c =
    let p = err_from_is_err_and c.from_residual.result c.from_residual.ensures.1 in
    rw (p.1, p.2) tt

pub returns-clause-added : goal.returns-clause-added
returns-clause-added g c =
    puts_from c.args.builder.now c.add_values.new.builder c.add_values.result
    (g.V.SiteView.site (g.V.SiteView.fixed c.args.view.now)) c.args.collection.now c.in_ok-values.values.items
    c.in_ok-values.ensures.answer
    (subst (λ (vs : List Value). AddsAll (λ (s : Statement). SomeOf (λ (v : Value). IsPutAs c.args.collection.now v s)
    vs) c.args.builder.now c.add_values.new.builder c.add_values.result)
    c.as_slice.ensures.value c.add_values.ensures)
