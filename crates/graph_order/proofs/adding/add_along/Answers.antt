use Rattle.std.proofs.Common.{◌≡◌, ℕ, ◌+◌, ◌<◌, List, map, length, Option, Err, refl, subst, sym, ap, ◌∙◌, arith}
use Rattle.std.specs.Prelude.{flat_map, slice_get}
use Rattle.std.specs.Option.{option_copied}
use Rattle.std.proofs.lemmas.Result.{err_from_is_err_and}
use Rattle.sd_value.specs.Members.{among_at}
use Rattle.sd_value.specs.Names.{Name}
use Rattle.order_spec.specs.Order.{edges_at}
use Rattle.graph_order.specs.Adding.{building_of, PutsIn, stated_edge}
use Rattle.graph_order.specs.Numbers.{name_before, edges_of_member}
use Rattle.order_spec.specs.Read.{place_of}
use Rattle.graph_order.specs.declared.numbers.Numbered.{Numbered}
use Rattle.graph_order.proofs.Growth.{each_next, each_cut, each_end}
use Rattle.graph_order.proofs.Along.{lent}
use Rattle.graph_order.proofs.adding.add_along.Goals as goal

pub overflow_add-next : goal.overflow_add-next
overflow_add-next c =
    let m = c.member-item.result in
    let below : m.number < length c.args.names.now = c.requires.numbers m (among_at c.args.members.now c.loop-member.member-index m m c.loop-member-test.true c.member-item.is refl) in
    omega (arith, below, c.requires.small)

pub add_places-requires : goal.add_places-requires
add_places-requires c =
    let m = c.member-item.result in
    let below : m.number < length c.args.names.now = c.requires.numbers m (among_at c.args.members.now c.loop-member.member-index m m c.loop-member-test.true c.member-item.is refl) in
    omega (arith, below, c.requires.small)

pub loop-member-init : goal.loop-member-init
loop-member-init c = refl

pub returns-in_err-add_places : goal.returns-in_err-add_places
returns-in_err-add_places c =
    let p = err_from_is_err_and c.from_residual.result c.from_residual.ensures.1 in
    let P = map place_of c.args.places.now in
    let ns = c.args.names.now in
    let m = c.member-item.result in
    let e = c.in_err-add_places.field-0.0 in
    let puts = subst (λ (after : Option Name). PutsIn (map stated_edge (flat_map (λ q. edges_at q m.number (name_before ns m.number) m.node after) P)) c.loop-member.builder c.add_places.new.builder (Err e))
    (lent ns (m.number + 1) c.get-after.result c.get-after.ensures.lookup)
    (subst (λ (before : Option Name). PutsIn (map stated_edge (flat_map (λ q. edges_at q m.number before m.node (option_copied c.get-after.result)) P)) c.loop-member.builder c.add_places.new.builder (Err e))
    c.name_before-before.ensures c.in_err-add_places.ensures) in
    rw (p.1, p.2)
    (each_cut (λ (x : Numbered). map stated_edge (edges_of_member P ns x)) c.args.members.now c.loop-member.member-index m
    c.args.builder.now c.loop-member.builder c.add_places.new.builder c.add_places.new.builder e
    c.loop-member-test.true c.member-item.is c.loop-member.invariant puts)

pub loop-member-preserved : goal.loop-member-preserved
loop-member-preserved c =
    let P = map place_of c.args.places.now in
    let ns = c.args.names.now in
    let m = c.member-item.result in
    let puts = subst (λ (after : Option Name). c.add_places.new.builder ≡ building_of c.loop-member.builder (map stated_edge (flat_map (λ q. edges_at q m.number (name_before ns m.number) m.node after) P)))
    (lent ns (m.number + 1) c.get-after.result c.get-after.ensures.lookup)
    (subst (λ (before : Option Name). c.add_places.new.builder ≡ building_of c.loop-member.builder (map stated_edge (flat_map (λ q. edges_at q m.number before m.node (option_copied c.get-after.result)) P)))
    c.name_before-before.ensures c.in_ok-add_places.ensures) in
    each_next (λ (x : Numbered). map stated_edge (edges_of_member P ns x)) c.args.members.now c.loop-member.member-index m
    c.args.builder.now c.loop-member.builder c.add_places.new.builder
    c.loop-member-test.true c.member-item.is c.loop-member.invariant puts

pub returns : goal.returns
returns c =
    each_end (λ (x : Numbered). map stated_edge (edges_of_member (map place_of c.args.places.now) c.args.names.now x)) c.args.members.now c.loop-member.member-index
    c.args.builder.now c.loop-member.builder c.loop-member-test.false c.loop-member.invariant
