use Rattle.std.proofs.Common.{◌≡◌, sym, subst, ◌∙◌, ap, List}
use Rattle.std.specs.Option.{IfSome}
use Rattle.std.specs.Prelude.{Contains}
use Rattle.sd_value.specs.Order.{bytes_cmp}
use Rattle.sd_value.specs.OrderLaws.{bytes_cmp-total, bytes_cmp-exact}
use Rattle.graph_spec.specs.DataGraph.{Name}
use Rattle.sd_graph.specs.Gathered.{in_order}
use Rattle.sd_graph.specs.Statement.{with_name}
use Rattle.sd_graph.specs.Inserted.{inserted-here, inserted-known}
use Rattle.sd_graph.proofs.ByHash.{in_order-ascends, in_order-has, in_order-from}
use Rattle.sd_graph.proofs.names.Names.begin.Goals as goal

pub returns-then-is_name-clause-names : goal.returns-then-is_name-clause-names
returns-then-is_name-clause-names c =
    let keys = c.self.inside.set.keys in
    let there : Contains keys c.args.name.now = subst (λ latest. IfSome latest (Contains keys)) (c.is_name.ensures.0 c.if-is_name.true) c.self.invariant in
    sym c.self.view_is ∙ sym (inserted-known bytes_cmp bytes_cmp-total c.args.name.now (in_order bytes_cmp keys) (in_order-ascends bytes_cmp-total bytes_cmp-exact keys) (in_order-has bytes_cmp-total bytes_cmp-exact keys c.args.name.now there))
    ∙ ap (with_name c.args.name.now) c.self.view_is

pub invariant_of-self : goal.invariant_of-self
invariant_of-self c =
    let keys = c.self-2.inside.set.keys in
    let is : in_order bytes_cmp keys ≡ with_name c.args.name.now c.args.self.now = c.self-2.view_is ∙ c.in_ok-added.ensures.names in
    let latest : c.in_ok-latest.latest ≡ c.args.name.now = c.in_ok-latest.ensures in
    in_order-from bytes_cmp-total bytes_cmp-exact keys c.in_ok-latest.latest
    (subst (λ (names : List Name). Contains names c.in_ok-latest.latest) (sym is)
    (subst (λ (l : Name). Contains (with_name c.args.name.now c.args.self.now) l) (sym latest) (inserted-here bytes_cmp bytes_cmp-exact c.args.name.now c.args.self.now)))
