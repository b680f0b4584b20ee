use Rattle.std.proofs.Common.{◌≡◌, ◌∷◌, [], List, Some, subst, ap, ◌∙◌, ◌++◌}
use Rattle.std.specs.Prelude.{◌↔◌, IsTrue, Option}
use Rattle.sd_value.specs.declared.Value.{Value}
use Rattle.graph_spec.specs.DataGraph.{node, Name}
use Rattle.query_spec.specs.Query.{Chain}
use Rattle.query_spec.specs.Rows.{SomeAnswer}
use Rattle.site_lookups.specs.MemberChain.{member_chain}
use Rattle.site_lookups.proofs.MemberRows.{member_chain_well_made, member_asked}
use Rattle.site_lookups.proofs.Counts.{counted_within}
use Rattle.site_lookups.proofs.data_members.is_member.Goals as goal

pub exists-requires-clause-well_made : goal.exists-requires-clause-well_made
exists-requires-clause-well_made g c = rw c.in_ok-chain.ensures (member_chain_well_made c.args.collection.now)

pub returns-clause-answer : goal.returns-clause-answer
returns-clause-answer g c =
    let bound : c.new-bound.result ≡ Some (node c.args.name.now) ∷ [] =
    c.new-bound.ensures ∙ c.in_ok-push.ensures.items ∙ ap (λ (xs : List (Option Value)). xs ++ Some (node c.in_ok-copy.field-0) ∷ []) c.new-values.ensures.items
    ∙ ap (λ (n : Name). Some (node n) ∷ []) c.in_ok-copy.ensures in
    let one = subst (λ (k : Chain). IsTrue c.in_ok-found.found ↔ SomeAnswer (g.A.Asker.graph c.args.asker.now) k c.new-bound.result) c.in_ok-chain.ensures c.in_ok-found.ensures.answer in
    let both = subst (λ (b : List (Option Value)). IsTrue c.in_ok-found.found ↔ SomeAnswer (g.A.Asker.graph c.args.asker.now) (member_chain c.args.collection.now) b) bound one in
    member_asked (g.A.Asker.graph c.args.asker.now) c.args.collection.now c.args.name.now c.in_ok-found.found c.requires both

pub returns-clause-counted : goal.returns-clause-counted
returns-clause-counted g c =
    counted_within (g.A.Asker.count c.args.asker.now) 1 (g.A.Asker.count c.exists.new.self) c.in_ok-found.ensures.counted
