use Rattle.std.proofs.Common.{◌≡◌, Bool, true, false, not, refl, ap, sym, subst, ◌∙◌, List, ◌++◌, ◌∷◌, [], if◌then◌else◌}
use Rattle.std.specs.Prelude.{Contains}
use Rattle.std.specs.Ordering.{eq_by_cmp}
use Rattle.std.specs.BTreeSet.{insert_key}
use Rattle.std.specs.List.{list_any}
use Rattle.std.proofs.lemmas.List.Elements.{Contains-append_left}
use Rattle.sd_value.specs.Order.{bytes_cmp}
use Rattle.sd_value.specs.OrderLaws.{bytes_cmp-total, bytes_cmp-exact}
use Rattle.graph_spec.specs.DataGraph.{Name}
use Rattle.indexmap.specs.IndexSet.{insert_key as insert_by_hash}
use Rattle.sd_graph.specs.Gathered.{in_order}
use Rattle.sd_graph.specs.Statement.{with_name}
use Rattle.sd_graph.specs.Undone.{undone}
use Rattle.sd_graph.proofs.ByHash.{in_order-inserted, in_order-any}
use Rattle.sd_graph.proofs.names.declare.Goals as goal

-- the keys after an insertion are those before, and the new one last
kept : (n : Name) (old : List Name) (m : Name) → Contains old m → Contains (insert_by_hash (eq_by_cmp bytes_cmp) old n) m
kept n old m h = by (list_any (eq_by_cmp bytes_cmp n) old)
  where
    by : (b : Bool) → Contains (if b then old else old ++ n ∷ []) m
    by true = h
    by false = Contains-append_left old (n ∷ []) m h

added_to : (n m : Name) (old new : List Name) → m ≡ n → new ≡ insert_by_hash (eq_by_cmp bytes_cmp) old m → in_order bytes_cmp new ≡ with_name n (in_order bytes_cmp old)
added_to n m old new same is = ap (in_order bytes_cmp) is ∙ in_order-inserted bytes_cmp-total bytes_cmp-exact old m ∙ ap (insert_key bytes_cmp (in_order bytes_cmp old)) same

none_added : (b : Bool) (n : Name) (old : List Name) → false ≡ not b → b ≡ list_any (eq_by_cmp bytes_cmp n) old → insert_by_hash (eq_by_cmp bytes_cmp) old n ≡ old
none_added true n old known is = ap (λ b. if b then old else old ++ n ∷ []) (sym is)
none_added false n old known is = cc

pub returns-clause-names : goal.returns-clause-names
returns-clause-names c = added_to c.args.name.now c.in_ok-copy.field-0 c.args.names.now.keys c.insert.new.self.keys c.in_ok-copy.ensures c.in_ok-added.ensures.keys

pub returns-clause-added : goal.returns-clause-added
returns-clause-added c =
    let old = c.args.names.now.keys in
    let same : c.in_ok-copy.field-0 ≡ c.args.name.now = c.in_ok-copy.ensures in
    undone c.args.name.now c.in_ok-added.added (in_order bytes_cmp old) (in_order bytes_cmp c.insert.new.self.keys)
    (added_to c.args.name.now c.in_ok-copy.field-0 old c.insert.new.self.keys same c.in_ok-added.ensures.keys)
    (c.in_ok-added.ensures.added ∙ ap (λ n. not (list_any (eq_by_cmp bytes_cmp n) old)) same ∙ ap not (sym (in_order-any bytes_cmp-total bytes_cmp-exact old c.args.name.now)))
    (λ known. ap (in_order bytes_cmp) (c.in_ok-added.ensures.keys ∙ none_added _ c.in_ok-copy.field-0 old (sym known ∙ c.in_ok-added.ensures.added) refl))

pub returns-clause-kept : goal.returns-clause-kept
returns-clause-kept c = λ m h. subst (λ (keys : List Name). Contains keys m) (sym c.in_ok-added.ensures.keys) (kept c.in_ok-copy.field-0 c.args.names.now.keys m h)
