-- The graph after an edit, as one that differs by one edge or by one member.
use Rattle.std.specs.Prelude.{◌≡◌, Bool, true, false, Contains}
use Rattle.std.proofs.Common.{refl, inl, inr}
use Rattle.sd_value.specs.AscendingLaws.{one_list}
use Rattle.graph_spec.specs.declared.Edge.{Edge}
use Rattle.graph_spec.specs.declared.Member.{Member}
use Rattle.graph_spec.specs.DataGraph.{DataGraph, IsWellFormed}
use Rattle.graph_spec.specs.Orders.{edge_cmp-total, member_cmp-total}
use Rattle.edit_spec.specs.declared.Edit.TheVariants.{Add, Remove, Enter, Leave}
use Rattle.edit_spec.specs.Edited.{Edited}
use Rattle.live_store.specs.Counts.{OneEdge, OneMember}

module _ (L H : DataGraph) (well : IsWellFormed L) where
  module _ (x : Edge) where
    pub added : Edited L (Add x) H → (is : Bool) → is ≡ true → OneEdge L H x is
    added edited is same = record {
      there = (λ t. edited.edges.complete x (inr refl), λ m. same);
      others = λ k other. (
        λ m. edited.edges.complete k (inl m),
        λ m. elim (edited.edges.sound k m) [ inl old ↦ old | inr e ↦ absurd (other e) ],
      );
    }

    pub removed : Edited L (Remove x) H → (is : Bool) → is ≡ false → OneEdge L H x is
    removed edited is same = record {
      there = (λ t. cc, λ m. absurd ((edited.edges.sound x m).1 refl));
      others = λ k other. (λ m. edited.edges.complete k (m, other), λ m. (edited.edges.sound k m).0);
    }

    pub members_added : Edited L (Add x) H → H.members ≡ L.members
    members_added edited = one_list member_cmp-total (Contains L.members) H.members L.members edited.members
        (record { ascending = well.members_ascend; sound = λ k m. m; complete = λ k m. m })

    pub members_removed : Edited L (Remove x) H → H.members ≡ L.members
    members_removed edited = one_list member_cmp-total (Contains L.members) H.members L.members edited.members
        (record { ascending = well.members_ascend; sound = λ k m. m; complete = λ k m. m })

  module _ (x : Member) where
    pub entered : Edited L (Enter x) H → (is : Bool) → is ≡ true → OneMember L H x is
    entered edited is same = record {
      there = (λ t. edited.members.complete x (inr refl), λ m. same);
      others = λ k other. (
        λ m. edited.members.complete k (inl m),
        λ m. elim (edited.members.sound k m) [ inl old ↦ old | inr e ↦ absurd (other e) ],
      );
    }

    pub left : Edited L (Leave x) H → (is : Bool) → is ≡ false → OneMember L H x is
    left edited is same = record {
      there = (λ t. cc, λ m. absurd ((edited.members.sound x m).1 refl));
      others = λ k other. (λ m. edited.members.complete k (m, other), λ m. (edited.members.sound k m).0);
    }

    pub edges_entered : Edited L (Enter x) H → H.edges ≡ L.edges
    edges_entered edited = one_list edge_cmp-total (Contains L.edges) H.edges L.edges edited.edges
        (record { ascending = well.edges_ascend; sound = λ k m. m; complete = λ k m. m })

    pub edges_left : Edited L (Leave x) H → H.edges ≡ L.edges
    edges_left edited = one_list edge_cmp-total (Contains L.edges) H.edges L.edges edited.edges
        (record { ascending = well.edges_ascend; sound = λ k m. m; complete = λ k m. m })
