use Rattle.tmpl.specs.Reading.{file_of}
use Rattle.query_blocks.specs.Blocks.{scope_of}
use Rattle.edit_touches.specs.Parts.{footprint_of}
use Rattle.edit_spec.specs.Footprint.{TouchesFootprint}
use Rattle.edit_footprint.proofs.Stays.{same_pages, made_sources, in_range, touches_says, spared}
use Rattle.edit_footprint.proofs.pages.touches_pages.Goals as goal

pub touches-requires : goal.touches-requires
touches-requires c =
    let (t, template, is_footprint) = c.in_ok-parts.ensures in
    record {
      within = in_range c.args.scopes.now c.args.function.now t (footprint_of c.in_ok-parts.parts) is_footprint;
      scoped = c.requires;
    }

pub returns-clause-exact : goal.returns-clause-exact
returns-clause-exact c =
    let (t, template, is_footprint) = c.in_ok-parts.ensures in
    touches_says c.args.edit.now (scope_of c.args.scopes.now) (file_of c.args.templates.now) c.args.function.now t
    (footprint_of c.in_ok-parts.parts) c.touches.result template is_footprint c.touches.ensures

pub returns-clause-stays : goal.returns-clause-stays
returns-clause-stays c = λ is_false G H change.
    (let (t, template, is_footprint) = c.in_ok-parts.ensures in
    let q = scope_of c.args.scopes.now in
    same_pages q (file_of c.args.templates.now) c.args.function.now t (footprint_of c.in_ok-parts.parts) G H
    c.args.edit.now (made_sources c.args.scopes.now c.requires) template is_footprint change
    (spared c.touches.result (TouchesFootprint c.args.edit.now q (footprint_of c.in_ok-parts.parts)) c.touches.ensures
    is_false))
