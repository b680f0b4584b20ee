use Rattle.std.proofs.Common.{◌≡◌, ◌∙◌, sym, ap, subst, map, length}
use Rattle.query_blocks.specs.Blocks.{body_of}
use Rattle.query_spec.specs.Query.{blocks_in_scope}
use Rattle.schema.proofs.Whole.{paths_are, one_path_each, is_schema}
use Rattle.schema.proofs.schema.Goals as goal

pub edges_of-requires : goal.edges_of-requires
edges_of-requires c =
    let paths = paths_are c.in_ok-paths.paths.items c.args.checked.now c.query.result.now c.deref.result.now c.in_ok-paths.ensures c.deref.ensures.value c.query.ensures.same in
    rw (c.deref-4.ensures.value, c.deref-3.ensures.value)
    (one_path_each c.args.checked.now c.in_ok-paths.paths.items c.in_ok-scopes.scopes.blocks.items paths (ap (λ s. s.bodies) c.in_ok-scopes.ensures.scope))

pub returns : goal.returns
returns c =
    let paths = paths_are c.in_ok-paths.paths.items c.args.checked.now c.query.result.now c.deref.result.now c.in_ok-paths.ensures c.deref.ensures.value c.query.ensures.same in
    is_schema c.args.checked.now _ c.in_ok-scopes.scopes.version c.in_ok-paths.paths.items c.in_ok-scopes.scopes.blocks.items c.in_ok-edges.edges.items
    paths (ap (λ s. s.bodies) c.in_ok-scopes.ensures.scope) c.in_ok-scopes.ensures.scoped
    (rw c.deref-2.ensures.value at c.in_ok-functions.ensures) (rw (c.deref-3.ensures.value, c.deref-4.ensures.value, ap (λ s. s.version) c.in_ok-scopes.ensures.scope) at c.in_ok-edges.ensures)
    c.in_ok-sort.ensures.sorted c.in_ok-sort.ensures.stable
