use Rattle.std.proofs.Common.{◌∙◌, refl, subst, Err}
use Rattle.std.proofs.lemmas.Result.{err_from_is_err_and}
use Rattle.sd_value.specs.Names.{Name}
use Rattle.graph_spec.specs.Statement.{Statement}
use Rattle.compose.specs.Adding.{Gains, AddsAll}
use Rattle.compose.specs.Stated.{IsPutIn}
use Rattle.compose.proofs.Adding.{each_nil, each_next, each_cut, each_end}
use Rattle.compose.proofs.collected.add_collections.Goals as goal

pub loop-collection-init : goal.loop-collection-init
loop-collection-init g c = record {
  own = c.requires.own;
  fixed = refl;
  added = each_nil (λ (z : Name) (s : Statement). IsPutIn (g.V.SiteView.site (g.V.SiteView.fixed c.args.view.now)) z s)
      c.args.builder.now;
}

pub returns-in_err-add_collection-clause-added : goal.returns-in_err-add_collection-clause-added
returns-in_err-add_collection-clause-added g c =
    let p = err_from_is_err_and c.from_residual.result c.from_residual.ensures.1 in
    let e = c.in_err-add_collection.field-0.0 in
    rw (p.1, p.2)
    (each_cut (λ (z : Name) (s : Statement). IsPutIn (g.V.SiteView.site (g.V.SiteView.fixed c.args.view.now)) z s)
    c.args.collections.now c.loop-collection.collection-index c.collection-item.result c.args.builder.now
    c.loop-collection.builder c.add_collection.new.builder c.add_collection.new.builder
    e c.loop-collection-test.true c.collection-item.is c.loop-collection.invariant.added
    (subst (λ x. AddsAll (IsPutIn (g.V.SiteView.site x) c.collection-item.result) c.loop-collection.builder
    c.add_collection.new.builder (Err e)) c.loop-collection.invariant.fixed c.in_err-add_collection.ensures.added))

pub loop-collection-preserved : goal.loop-collection-preserved
loop-collection-preserved g c = record {
  own = c.add_collection.ensures.own;
  fixed = c.add_collection.ensures.fixed ∙ c.loop-collection.invariant.fixed;
  added =
      each_next (λ (z : Name) (s : Statement). IsPutIn (g.V.SiteView.site (g.V.SiteView.fixed c.args.view.now)) z s)
      c.args.collections.now c.loop-collection.collection-index c.collection-item.result c.args.builder.now
      c.loop-collection.builder c.add_collection.new.builder
      c.loop-collection-test.true c.collection-item.is c.loop-collection.invariant.added
      (subst (λ x. Gains (IsPutIn (g.V.SiteView.site x) c.collection-item.result) c.loop-collection.builder
      c.add_collection.new.builder) c.loop-collection.invariant.fixed c.in_ok-add_collection.ensures.added);
}

pub returns-clause-added : goal.returns-clause-added
returns-clause-added g c =
    each_end (λ (z : Name) (s : Statement). IsPutIn (g.V.SiteView.site (g.V.SiteView.fixed c.args.view.now)) z s)
    c.args.collections.now c.loop-collection.collection-index c.args.builder.now c.loop-collection.builder
    c.loop-collection-test.false c.loop-collection.invariant.added
