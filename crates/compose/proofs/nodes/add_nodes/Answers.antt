use Rattle.std.proofs.Common.{◌≡◌, inl, inr}
use Rattle.std.proofs.lemmas.Result.{err_from_is_err_and}
use Rattle.graph_spec.specs.Statement.{Statement}
use Rattle.site_spec.specs.Site.{SomeOf}
use Rattle.sd_value.specs.Names.{Name}
use Rattle.sd_value.specs.declared.Term.{Term}
use Rattle.compose.specs.Stated.{data_node, page_node, IsNodeStated}
use Rattle.compose.proofs.Adding.{cut_as, adds_two}
use Rattle.compose.proofs.nodes.add_nodes.Goals as goal

pub returns-in_err-add_data_nodes : goal.returns-in_err-add_data_nodes
returns-in_err-add_data_nodes c =
    let p = err_from_is_err_and c.from_residual.result c.from_residual.ensures.1 in
    let e = c.in_err-add_data_nodes.field-0.0 in
    rw (p.1, p.2)
    (cut_as (λ (s : Statement). SomeOf (λ (n : Name). data_node n ≡ s) c.args.names.now)
    (IsNodeStated c.args.names.now c.args.pages.now)
    (λ s h. inl h) c.args.builder.now c.add_data_nodes.new.builder c.add_data_nodes.new.builder e
    c.in_err-add_data_nodes.ensures)

pub returns : goal.returns
returns c =
    adds_two (λ (s : Statement). SomeOf (λ (n : Name). data_node n ≡ s) c.args.names.now)
    (λ (s : Statement). SomeOf (λ (t : Term). page_node t ≡ s) c.args.pages.now)
    (IsNodeStated c.args.names.now c.args.pages.now)
    (λ s h. inl h) (λ s h. inr h) c.args.builder.now c.add_data_nodes.new.builder c.add_pages.new.builder
    c.add_pages.result (λ s h. h)
    c.in_ok-add_data_nodes.ensures
    c.add_pages.ensures
