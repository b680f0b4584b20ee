use Rattle.std.proofs.Common.{sym, subst, List}
use Rattle.std.specs.Prelude.{Contains}
use Rattle.std.proofs.lemmas.List.Elements.{Contains-append_left, Contains-append_right}
use Rattle.graph_spec.specs.DataGraph.{Name}
use Rattle.live_store.proofs.touched.touched_labels.Goals as goal

pub returns : goal.returns
returns c = record {
  ascending = c.sort_and_dedup.ensures.ascending;
  came = λ e m. c.sort_and_dedup.ensures.complete e.label (subst (λ (ls : List Name). Contains ls e.label)
      (sym c.in_ok-append.ensures.items)
      (Contains-append_left c.in_ok-labels.labels.items c.in_ok-labels-2.field-0.items e.label (c.in_ok-labels.ensures e m)));
  gone = λ e m. c.sort_and_dedup.ensures.complete e.label (subst (λ (ls : List Name). Contains ls e.label)
      (sym c.in_ok-append.ensures.items)
      (Contains-append_right c.in_ok-labels.labels.items c.in_ok-labels-2.field-0.items e.label (c.in_ok-labels-2.ensures e m)));
}
