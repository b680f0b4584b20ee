use Rattle.std.proofs.Common.{◌≡◌}
use Rattle.std.specs.List.{flat_map}
use Rattle.struql_ast.specs.Written.{block_clauses}
use Rattle.struql_check.specs.Scope.{mentions, uses}
use Rattle.struql_check.proofs.BlockParts.{clauses_of}
use Rattle.struql_check.proofs.WalkParts.{block_first}
use Rattle.struql_check.proofs.walk.first_of_clauses.Goals as goal

pub returns : goal.returns
returns c =
    let b = c.args.block.now in
    let parts = clauses_of b in
    let own : c.in_ok-own.own.items ≡ flat_map mentions (block_clauses b).conditions = rw (parts, ← c.deref.ensures.value) c.in_ok-own.ensures in
    let used : c.in_ok-uses.uses.items ≡ uses (block_clauses b) = rw (parts, ← c.deref-2.ensures.value, ← c.deref-3.ensures.value, ← c.deref-4.ensures.value) c.in_ok-uses.ensures in
    rw (c.earlier.ensures, c.earlier-by_mention.ensures, c.earlier-by_chain.ensures, c.earlier-by_condition.ensures, c.earlier-by_link.ensures)
    (block_first c.args.version c.args.levels.now (block_clauses b) c.in_ok-own.own.items c.in_ok-uses.uses.items _ _ _ _ _ _ own used
    (rw (← c.deref-5.ensures.value) c.first_of_mentions.ensures)
    (rw (← c.deref-6.ensures.value) c.first_of_mentions-2.ensures)
    (c.first_of_chain.ensures _ c.requires)
    (rw (parts, ← c.deref-9.ensures.value) c.first_of_conditions.ensures)
    (rw (parts, ← c.deref-8.ensures.value) c.first_of_links.ensures)
    (rw (parts, ← c.deref-7.ensures.value) c.first_of_collects-by_collect.ensures))
