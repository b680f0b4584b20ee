-- Edges in the order of their ends, and in that of their labels.
use Rattle.std.specs.declared.cmp.Ordering.{Ordering}
use Rattle.std.specs.Ordering.{on, then_cmp}
use Rattle.sd_value.specs.Order.{bytes_cmp, value_cmp}
use Rattle.graph_spec.specs.declared.Edge.{Edge}

-- by end, then label, then start
abbrev pub by_end_cmp : Edge → Edge → Ordering
by_end_cmp =
    then_cmp (on (λ e. e.to) value_cmp)
    (then_cmp (on (λ e. e.label) bytes_cmp) (on (λ e. e.from) bytes_cmp))

-- by label, then start, then end
abbrev pub by_label_cmp : Edge → Edge → Ordering
by_label_cmp =
    then_cmp (on (λ e. e.label) bytes_cmp)
    (then_cmp (on (λ e. e.from) bytes_cmp) (on (λ e. e.to) value_cmp))
