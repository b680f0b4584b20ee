use Rattle.std.proofs.Common.{List, map, Err, refl, subst, ap, ◌∙◌}
use Rattle.std.specs.Option.{option_copied}
use Rattle.std.proofs.lemmas.Result.{err_from_is_err_and}
use Rattle.graph_spec.specs.Statement.{Statement}
use Rattle.order_spec.specs.Order.{Place, edges_at}
use Rattle.graph_order.specs.Adding.{building_of, PutsIn, stated_edge}
use Rattle.order_spec.specs.Read.{place_of}
use Rattle.order_spec.specs.declared.Place.{Place as CodePlace}
use Rattle.graph_order.proofs.Growth.{each_next, each_cut, each_end}
use Rattle.graph_order.proofs.Along.{spread}
use Rattle.graph_order.proofs.adding.add_places.Goals as goal

pub loop-place-init : goal.loop-place-init
loop-place-init c = refl

pub returns-in_err-add_place : goal.returns-in_err-add_place
returns-in_err-add_place c =
    let p = err_from_is_err_and c.from_residual.result c.from_residual.ensures.1 in
    let g = λ (q : Place). edges_at q c.args.number (option_copied c.args.before) c.args.node.now (option_copied c.args.after) in
    rw (p.1, p.2)
    (subst (λ (all : List Statement). PutsIn all c.args.builder.now c.add_place.new.builder (Err c.in_err-add_place.field-0.0)) (spread g c.args.places.now)
    (each_cut (λ (q : CodePlace). map stated_edge (g (place_of q))) c.args.places.now c.loop-place.place-index c.place-item.result
    c.args.builder.now c.loop-place.builder c.add_place.new.builder c.add_place.new.builder c.in_err-add_place.field-0.0
    c.loop-place-test.true c.place-item.is c.loop-place.invariant c.in_err-add_place.ensures))

pub loop-place-preserved : goal.loop-place-preserved
loop-place-preserved c =
    let g = λ (q : Place). edges_at q c.args.number (option_copied c.args.before) c.args.node.now (option_copied c.args.after) in
    each_next (λ (q : CodePlace). map stated_edge (g (place_of q))) c.args.places.now c.loop-place.place-index c.place-item.result
    c.args.builder.now c.loop-place.builder c.add_place.new.builder
    c.loop-place-test.true c.place-item.is c.loop-place.invariant c.in_ok-add_place.ensures

pub returns : goal.returns
returns c =
    let g = λ (q : Place). edges_at q c.args.number (option_copied c.args.before) c.args.node.now (option_copied c.args.after) in
    each_end (λ (q : CodePlace). map stated_edge (g (place_of q))) c.args.places.now c.loop-place.place-index
    c.args.builder.now c.loop-place.builder c.loop-place-test.false c.loop-place.invariant
    ∙ ap (building_of c.args.builder.now) (spread g c.args.places.now)
