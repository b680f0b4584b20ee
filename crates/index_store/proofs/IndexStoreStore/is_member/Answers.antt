use Rattle.std.proofs.Common.{◌≡◌, ◌∙◌, ap, subst, sym}
use Rattle.sd_value.specs.Order.{bytes_cmp}
use Rattle.sd_value.specs.declared.Value.TheVariants.{Data}
use Rattle.graph_spec.specs.DataGraph.{node}
use Rattle.graph_spec.specs.Steps.{IsMemberValue}
use Rattle.list_lookup.specs.Picked.{HasOne, IsPlaced}
use Rattle.index_store.proofs.MemberLaws.{placed_named, named_found}
use Rattle.index_store.proofs.IndexStoreStore.is_member.Goals as goal

pub has_named-requires : goal.has_named-requires
has_named-requires c =
    subst (IsPlaced (λ m. bytes_cmp m.node c.in-Data-Node.name)) (sym c.members_in.ensures.members)
    (placed_named c.args.collection.now c.in-Data-Node.name c.args.self.now.members c.members_in.ensures.well_formed.members_ascend)

pub returns-in-Data-Node : goal.returns-in-Data-Node
returns-in-Data-Node c =
    let is : c.args.value.now ≡ node c.in-Data-Node.name = c.in-Data-Node.is ∙ ap Data (rw c.in-Data-Node.is at c.in-Data-Node.field-0-is) in
    let same = c.members_in.ensures.members in
    let found = named_found c.args.self.now c.args.collection.now c.in-Data-Node.name in (
      λ yes. subst (IsMemberValue c.args.self.now c.args.collection.now) (sym is) (found.0 (subst (HasOne (λ m. bytes_cmp m.node c.in-Data-Node.name)) same (c.has_named.ensures.0 yes))),
      λ has. c.has_named.ensures.1 (subst (HasOne (λ m. bytes_cmp m.node c.in-Data-Node.name)) (sym same) (found.1 (subst (IsMemberValue c.args.self.now c.args.collection.now) is has))),
    )
