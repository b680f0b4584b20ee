use Rattle.inclusion.specs.Search.{AreListed, IsPairOf, Grows, HasEach}
use Rattle.inclusion.proofs.search.add_pairs.Given as goal

abbrev pub invariant-loop-p : goal.invariant-loop-p
invariant-loop-p l = record {
  listed : AreListed l.width l.marks.items l.order.items;
  grows : Grows (IsPairOf l.p l.positions l.reach l.masks.covers.items) l.initial.marks.items l.marks.items l.initial.order.items l.order.items;
  each : HasEach (IsPairOf l.p l.positions l.reach l.masks.covers.items) l.order.items;
}
