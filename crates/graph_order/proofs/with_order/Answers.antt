use Rattle.std.proofs.Common.{◌≡◌, ◌∙◌, ◌<◌, ℕ, List, map, length, Err, refl, subst, sym, ap}
use Rattle.std.specs.Prelude.{Contains, flat_map}
use Rattle.std.proofs.lemmas.Result.{err_from_is_err_and}
use Rattle.sd_value.specs.Ascending.{ListsExactly}
use Rattle.sd_value.specs.Names.{Name}
use Rattle.graph_spec.specs.Statement.{Statement}
use Rattle.sd_graph.specs.Statement.{Building}
use Rattle.graph_order.specs.Adding.{building_of, PutsIn, stated_edge}
use Rattle.graph_order.specs.Answers.{Fits}
use Rattle.graph_order.specs.Numbers.{numbers_from, edges_of_member, numbered_cmp}
use Rattle.order_spec.specs.Read.{order_of, place_of}
use Rattle.graph_order.specs.declared.numbers.Numbered.{Numbered}
use Rattle.graph_order.proofs.ByNode.{numbers_below}
use Rattle.graph_order.proofs.Whole.{along_made, along_refused, made}
use Rattle.graph_order.proofs.with_order.Goals as goal

pub add_along-requires-clause-numbers : goal.add_along-requires-clause-numbers
add_along-requires-clause-numbers c = λ m h.
    let o = order_of c.args.order.now in
    let all = subst (λ (z : List Name). ListsExactly numbered_cmp (Contains (numbers_from 0 z)) c.in_ok-members.members.items) c.as_slice.ensures.value c.in_ok-members.ensures in
    subst (λ (k : ℕ). m.number < k) (ap length (sym c.as_slice-3.ensures.value))
    (numbers_below o.places c.in_ok-names.names.items c.in_ok-members.members.items all m
    (subst (λ (z : List Numbered). Contains z m) c.as_slice-4.ensures.value h))

pub returns-in_err-add_along : goal.returns-in_err-add_along
returns-in_err-add_along c =
    let p = err_from_is_err_and c.from_residual-in_err-add_along.result c.from_residual-in_err-add_along.ensures.1 in
    let o = order_of c.args.order.now in
    let e = c.in_err-add_along.field-0.0 in
    let all = subst (λ (z : List Name). ListsExactly numbered_cmp (Contains (numbers_from 0 z)) c.in_ok-members.members.items) c.as_slice.ensures.value c.in_ok-members.ensures in
    let puts = subst (λ (zs : List Statement). PutsIn zs c.in_ok-builder.builder c.add_along.new.builder (Err e))
    (λ i. flat_map (λ (m : Numbered). map stated_edge (edges_of_member (map place_of (c.as_slice-2.ensures.value i)) (c.as_slice-3.ensures.value i) m)) (c.as_slice-4.ensures.value i))
    c.in_err-add_along.ensures in
    rw (p.1, p.2)
    (along_refused c.args.limits c.args.graph.now c.builder_of.ensures.well_formed c.requires.fits o c.in_ok-names.names.items c.in_ok-names.ensures
    c.in_ok-members.members.items all c.in_ok-builder.builder c.in_ok-builder.ensures.copy c.add_along.new.builder e puts)

pub returns : goal.returns
returns c =
    let o = order_of c.args.order.now in
    let w = c.builder_of.ensures.well_formed in
    let all = subst (λ (z : List Name). ListsExactly numbered_cmp (Contains (numbers_from 0 z)) c.in_ok-members.members.items) c.as_slice.ensures.value c.in_ok-members.ensures in
    let step = subst (λ (zs : List Statement). c.add_along.new.builder ≡ building_of c.in_ok-builder.builder zs)
    (λ i. flat_map (λ (m : Numbered). map stated_edge (edges_of_member (map place_of (c.as_slice-2.ensures.value i)) (c.as_slice-3.ensures.value i) m)) (c.as_slice-4.ensures.value i))
    c.in_ok-add_along.ensures in
    let whole : c.add_along.new.builder ≡ made c.args.limits c.args.graph.now w c.requires.fits o =
    step ∙ along_made c.args.limits c.args.graph.now w c.requires.fits o c.in_ok-names.names.items c.in_ok-names.ensures
    c.in_ok-members.members.items all c.in_ok-builder.builder c.in_ok-builder.ensures.copy in
    let is : c.in_ok-made.made ≡ (made c.args.limits c.args.graph.now w c.requires.fits o).graph = c.in_ok-made.ensures ∙ ap (λ (b : Building). b.graph) whole in
    let within = subst (λ (b : Building). Fits b.limits b.graph) whole c.limits-limits.ensures.built.within in
    (is, subst (Fits c.args.limits) (sym is) within)
