use Rattle.std.proofs.Common.{◌≡◌, List, [], ◌++◌, ap, ◌∙◌, subst}
use Rattle.struql_ast.specs.declared.Block.{Block}
use Rattle.struql_ast.specs.Written.{blocks_written, query_written}
use Rattle.struql_check.specs.declared.mentions.VariableUse.{VariableUse}
use Rattle.struql_check.specs.declared.terms.SeenTerm.{SeenTerm}
use Rattle.struql_check.specs.Scope.{within, terms, scoped, terms_within}
use Rattle.struql_check.specs.Faults.{SomeIn, BlockFault, TermFault}
use Rattle.struql_check.specs.First.{IsFirst}
use Rattle.struql_check.proofs.Firsts.{first_both}
use Rattle.struql_check.proofs.first_fault.Goals as goal

pub returns : goal.returns
returns c =
    let q = query_written c.args.query.now in
    let by_block : IsFirst (SomeIn (BlockFault q.version) (scoped q)) c.in_ok-by_block.by_block =
    subst (λ (bs : List Block). IsFirst (SomeIn (BlockFault q.version) (within [] (blocks_written bs))) c.in_ok-by_block.by_block) c.deref.ensures.value
    (subst (λ (r : List (List VariableUse)). IsFirst (SomeIn (BlockFault q.version) (within r (blocks_written c.deref.result.now))) c.in_ok-by_block.by_block) c.new-levels.ensures.items c.in_ok-by_block.ensures.first) in
    let found : c.deref-3.result.now ≡ terms q =
    c.deref-3.ensures.value ∙ (c.in_ok-push_terms.ensures ∙ (ap (λ (ts : List SeenTerm). ts ++ terms_within (blocks_written c.deref-2.result.now)) c.new-terms.ensures.items
    ∙ ap (λ (bs : List Block). terms_within (blocks_written bs)) c.deref-2.ensures.value)) in
    let by_term : IsFirst (SomeIn (TermFault q.version (terms q)) (terms q)) c.in_ok-by_term.by_term =
    subst (λ (ts : List SeenTerm). IsFirst (SomeIn (TermFault q.version ts) ts) c.in_ok-by_term.by_term) found c.in_ok-by_term.ensures in
    rw c.earlier.ensures (first_both (SomeIn (BlockFault q.version) (scoped q)) (SomeIn (TermFault q.version (terms q)) (terms q)) c.in_ok-by_block.by_block c.in_ok-by_term.by_term by_block by_term)
