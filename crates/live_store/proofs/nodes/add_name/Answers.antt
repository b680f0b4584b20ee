use Rattle.std.proofs.Common.{◌≡◌, not, List, ◌∙◌, ap, sym, subst}
use Rattle.std.specs.Prelude.{Contains}
use Rattle.std.specs.BTreeMap.{is_at}
use Rattle.std.specs.BTreeSet.{insert_key}
use Rattle.std.specs.List.{list_any}
use Rattle.sd_value.specs.Order.{bytes_cmp}
use Rattle.sd_graph.specs.Undone.{undone, unchanged_at}
use Rattle.graph_spec.specs.DataGraph.{DataGraph, Name}
use Rattle.live_store.specs.Live.{NewNames}
use Rattle.live_store.proofs.Names.{name_new}
use Rattle.live_store.proofs.nodes.add_name.Goals as goal

pub returns-clause-new : goal.returns-clause-new
returns-clause-new c =
    let same = c.nodes.ensures.value ∙ ap (λ (G : DataGraph). G.nodes) c.graph.ensures in
    let keys = c.in_ok-added.ensures.keys ∙ ap (insert_key bytes_cmp c.args.names.now.keys) c.in_ok-copy.ensures in
    subst (λ (ns : List Name). NewNames c.args.base.now (λ n. n ≡ c.args.name.now) c.args.names.now.keys ns) (sym keys)
    (name_new c.args.base.now c.args.name.now c.args.names.now.keys
    (λ at. let t = c.is_among.ensures.is.1 (subst (λ (ns : List Name). Contains ns c.args.name.now) (sym same) at) in
    let f = c.if-is_among.false in cc))

pub returns-clause-undone : goal.returns-clause-undone
returns-clause-undone c =
    undone c.args.name.now c.in_ok-added.added c.args.names.now.keys c.insert.new.self.keys
    (c.in_ok-added.ensures.keys ∙ ap (insert_key bytes_cmp c.args.names.now.keys) c.in_ok-copy.ensures)
    (c.in_ok-added.ensures.added ∙ ap (λ n. not (list_any (is_at (bytes_cmp n)) c.args.names.now.keys)) c.in_ok-copy.ensures)
    (λ no. unchanged_at _ no c.in_ok-added.ensures.unchanged)
