use Rattle.std.proofs.Common.{◌≡◌, List, subst}
use Rattle.std.proofs.lemmas.Result.{err_from_is_err_and}
use Rattle.sd_value.specs.declared.Value.{Value}
use Rattle.graph_spec.specs.Statement.{Statement}
use Rattle.site_spec.specs.Site.{SomeOf}
use Rattle.compose.specs.Adding.{AddsAll}
use Rattle.compose.specs.Stated.{link_from}
use Rattle.compose.proofs.Sources.{links_from}
use Rattle.compose.proofs.links.add_links_by.Goals as goal

pub returns-in_err-ends-clause-added : goal.returns-in_err-ends-clause-added
returns-in_err-ends-clause-added g c =
    let p = err_from_is_err_and c.from_residual.result c.from_residual.ensures.1 in
    rw (p.1, p.2) tt

pub returns-clause-added : goal.returns-clause-added
returns-clause-added g c =
    links_from c.args.builder.now c.add_ends.new.builder c.add_ends.result
    (g.V.SiteView.site (g.V.SiteView.fixed c.args.view.now)) c.args.page.now c.args.name.now c.args.label.now
    c.in_ok-ends.ends.items
    c.in_ok-ends.ensures.answer
    (subst (λ (vs : List Value). AddsAll
    (λ (s : Statement). SomeOf (λ (v : Value). link_from c.args.name.now c.args.label.now v ≡ s) vs)
    c.args.builder.now c.add_ends.new.builder c.add_ends.result)
    c.as_slice.ensures.value c.add_ends.ensures)
