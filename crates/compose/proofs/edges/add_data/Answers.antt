use Rattle.std.proofs.Common.{◌≡◌, List, Err, inl, inr, subst}
use Rattle.std.proofs.lemmas.Result.{err_from_is_err_and}
use Rattle.graph_spec.specs.Statement.{Statement}
use Rattle.site_spec.specs.Site.{SomeOf}
use Rattle.compose.specs.Adding.{Gains, AddsAll}
use Rattle.graph_spec.specs.declared.Edge.{Edge}
use Rattle.graph_spec.specs.declared.Member.{Member}
use Rattle.compose.specs.Stated.{data_edge, data_member, IsDataStated}
use Rattle.compose.proofs.Adding.{cut_as, adds_two}
use Rattle.compose.proofs.edges.add_data.Goals as goal

pub returns-in_err-add_data_edges : goal.returns-in_err-add_data_edges
returns-in_err-add_data_edges c =
    let p = err_from_is_err_and c.from_residual.result c.from_residual.ensures.1 in
    let e = c.in_err-add_data_edges.field-0.0 in
    rw (p.1, p.2)
    (cut_as (λ (s : Statement). SomeOf (λ (e : Edge). data_edge e ≡ s) c.args.graph.now.edges)
    (IsDataStated c.args.graph.now)
    (λ s h. inl h) c.args.builder.now c.add_data_edges.new.builder c.add_data_edges.new.builder e
    (subst (λ (xs : List Edge). AddsAll (λ (s : Statement). SomeOf (λ (e : Edge). data_edge e ≡ s) xs)
    c.args.builder.now c.add_data_edges.new.builder (Err e)) c.edges.ensures.value c.in_err-add_data_edges.ensures))

pub returns : goal.returns
returns c =
    adds_two (λ (s : Statement). SomeOf (λ (e : Edge). data_edge e ≡ s) c.args.graph.now.edges)
    (λ (s : Statement). SomeOf (λ (m : Member). data_member m ≡ s) c.args.graph.now.members)
    (IsDataStated c.args.graph.now)
    (λ s h. inl h) (λ s h. inr h) c.args.builder.now c.add_data_edges.new.builder c.add_data_members.new.builder
    c.add_data_members.result (λ s h. h)
    (subst (λ (xs : List Edge). Gains (λ (s : Statement). SomeOf (λ (e : Edge). data_edge e ≡ s) xs) c.args.builder.now
    c.add_data_edges.new.builder) c.edges.ensures.value c.in_ok-add_data_edges.ensures)
    (subst (λ (xs : List Member). AddsAll (λ (s : Statement). SomeOf (λ (m : Member). data_member m ≡ s) xs)
    c.add_data_edges.new.builder c.add_data_members.new.builder c.add_data_members.result)
    c.member_pairs.ensures.value c.add_data_members.ensures)
