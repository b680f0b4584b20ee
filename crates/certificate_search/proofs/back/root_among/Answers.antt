use Rattle.std.proofs.Common.{ap, sym, ◌∙◌}
use Rattle.std.specs.Prelude.{Some, None, if◌then◌else◌}
use Rattle.query_parts.specs.Same.{same_term}
use Rattle.constraint_recheck.specs.Search.{Reached, root_term}
use Rattle.certificate_search.specs.Reaching.{reached_of}
use Rattle.certificate_search.proofs.Steps.{first_some, first_none}
use Rattle.certificate_search.proofs.back.root_among.Goals as goal

pub returns-then-is_root : goal.returns-then-is_root
returns-then-is_root c =
    let r = c.reached-item.result in
    sym (first_some (λ (s : Reached). if same_term s.term (root_term c.args.root.now) then Some s.uses else None) reached_of c.args.seen.now c.loop-reached.reached-index r r.uses.items c.loop-reached-test.true c.reached-item.is
    (ap (λ b. if b then Some r.uses.items else None) (sym c.is_root.ensures ∙ c.if-is_root.true)))
    ∙ c.loop-reached.invariant

pub loop-reached-preserved : goal.loop-reached-preserved
loop-reached-preserved c =
    let r = c.reached-item.result in
    sym (first_none (λ (s : Reached). if same_term s.term (root_term c.args.root.now) then Some s.uses else None) reached_of c.args.seen.now c.loop-reached.reached-index r c.loop-reached-test.true c.reached-item.is
    (ap (λ b. if b then Some r.uses.items else None) (sym c.is_root.ensures ∙ c.if-is_root.false)))
    ∙ c.loop-reached.invariant
