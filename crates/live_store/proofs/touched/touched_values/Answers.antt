use Rattle.std.proofs.Common.{sym, subst, List, ◌++◌, ◌∙◌, ap}
use Rattle.std.specs.Prelude.{Contains}
use Rattle.std.proofs.lemmas.List.Elements.{Contains-append_left, Contains-append_right}
use Rattle.sd_value.specs.declared.Value.{Value}
use Rattle.sd_value.specs.Members.{Contains-mapped}
use Rattle.graph_spec.specs.DataGraph.{node}
use Rattle.live_store.proofs.touched.touched_values.Goals as goal

pub returns : goal.returns
returns c =
    let whole = c.in_ok-append-2.ensures.items
    ∙ ap (λ (vs : List Value). vs ++ c.in_ok-ends-2.field-0.items) c.in_ok-append.ensures.items in
    record {
      ascending = c.sort_and_dedup.ensures.ascending;
      named = λ n m. c.sort_and_dedup.ensures.complete (node n) (subst (λ (vs : List Value). Contains vs (node n)) (sym whole)
          (Contains-append_left (c.in_ok-values.values.items ++ c.in_ok-ends.field-0.items) c.in_ok-ends-2.field-0.items (node n)
          (Contains-append_left c.in_ok-values.values.items c.in_ok-ends.field-0.items (node n)
          (subst (λ (vs : List Value). Contains vs (node n)) (sym c.in_ok-values.ensures)
          (Contains-mapped node c.args.nodes.now.keys n m)))));
      came = λ e m. c.sort_and_dedup.ensures.complete e.to (subst (λ (vs : List Value). Contains vs e.to) (sym whole)
          (Contains-append_left (c.in_ok-values.values.items ++ c.in_ok-ends.field-0.items) c.in_ok-ends-2.field-0.items e.to
          (Contains-append_right c.in_ok-values.values.items c.in_ok-ends.field-0.items e.to (c.in_ok-ends.ensures e m))));
      gone = λ e m. c.sort_and_dedup.ensures.complete e.to (subst (λ (vs : List Value). Contains vs e.to) (sym whole)
          (Contains-append_right (c.in_ok-values.values.items ++ c.in_ok-ends.field-0.items) c.in_ok-ends-2.field-0.items e.to
          (c.in_ok-ends-2.ensures e m)));
    }
