use Rattle.std.proofs.Common.{◌≡◌, ◌∙◌, ap, subst, sym}
use Rattle.std.specs.Prelude.{Contains}
use Rattle.sd_value.specs.Ascending.{ListsExactly}
use Rattle.sd_value.specs.Order.{bytes_cmp}
use Rattle.sd_value.specs.declared.Value.TheVariants.{Data}
use Rattle.graph_spec.specs.DataGraph.{node}
use Rattle.edge_queries.specs.Listed.{placed-name, name_found}
use Rattle.index_store.specs.Indexed.{IsNodeOf}
use Rattle.index_store.proofs.is_node.Goals as goal

pub has-requires : goal.has-requires
has-requires c = placed-name _ c.args.nodes.now c.requires

pub returns-in-Data-Node : goal.returns-in-Data-Node
returns-in-Data-Node c =
    let all : ListsExactly bytes_cmp (Contains c.args.nodes.now) c.args.nodes.now = record { ascending = c.requires; sound = λ x h. h; complete = λ x h. h } in
    let found = name_found c.in-Data-Node.name c.args.nodes.now all in
    let is : c.args.value.now ≡ node c.in-Data-Node.name = c.in-Data-Node.is ∙ ap Data (rw c.in-Data-Node.is at c.in-Data-Node.field-0-is) in
    (λ yes. subst (IsNodeOf c.args.nodes.now) (sym is) (found.0 (c.has.ensures.0 yes)), λ at. c.has.ensures.1 (found.1 (subst (IsNodeOf c.args.nodes.now) is at)))
