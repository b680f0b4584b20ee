use Rattle.std.proofs.Common.{◌≡◌, List, [], ◌∷◌, ◌++◌, sym, ap, ◌∙◌, subst}
use Rattle.std.specs.List.{flat_map}
use Rattle.struql_ast.specs.Written.{block_clauses}
use Rattle.struql_check.specs.declared.mentions.VariableUse.{VariableUse}
use Rattle.struql_check.specs.Scope.{mentions}
use Rattle.struql_check.specs.Known.{AreNames}
use Rattle.struql_check.proofs.BlockParts.{clauses_of}
use Rattle.struql_check.proofs.WalkParts.{concat_push}
use Rattle.struql_check.proofs.walk.enter.Goals as goal

pub returns-clause-levels : goal.returns-clause-levels
returns-clause-levels c =
    let own : c.in_ok-own.own.items ≡ flat_map mentions (block_clauses c.args.block.now).conditions = rw (clauses_of c.args.block.now, ← c.deref.ensures.value) c.in_ok-own.ensures in
    let level : c.in_ok-level.level ≡ c.in_ok-own.own.items = c.in_ok-level.ensures in
    c.in_ok-push.ensures.items ∙ ap (λ (ms : List VariableUse). c.args.levels.now.items ++ ms ∷ []) (level ∙ own)

pub returns-clause-names : goal.returns-clause-names
returns-clause-names c =
    let level : c.in_ok-level.level ≡ c.in_ok-own.own.items = c.in_ok-level.ensures in
    let own : c.deref-2.result.now ≡ c.in_ok-own.own.items = c.deref-2.ensures.value in
    let more = c.in_ok-chain.ensures (flat_map (λ ms. ms) c.args.levels.now.items) c.requires in
    rw (c.in_ok-push.ensures.items, concat_push c.args.levels.now.items c.in_ok-level.level)
    (subst (λ (ms : List VariableUse). AreNames (flat_map (λ ms. ms) c.args.levels.now.items ++ ms) c.in_ok-chain.chain) (own ∙ sym level) more)
