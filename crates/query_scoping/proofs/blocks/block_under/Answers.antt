use Rattle.std.proofs.Common.{◌≡◌, List, ◌++◌, sym, ap, ◌∙◌}
use Rattle.std.specs.Prelude.{map}
use Rattle.query_spec.specs.Mentions.{variables_of}
use Rattle.struql_ast.specs.declared.Condition as declared
use Rattle.struql_ast.specs.Reading.{condition_of, term_of, link_of, collect_of}
use Rattle.query_scoping.specs.Blocks.{own_body}
use Rattle.query_scoping.proofs.Parts.{own_is}
use Rattle.query_scoping.proofs.blocks.block_under.Goals as goal

pub returns-clause-body : goal.returns-clause-body
returns-clause-body c =
    let b = c.args.block.now in
    let k : c.new.result.conditions ≡ map condition_of c.args.conditions.now =
    c.new.ensures.conditions ∙ (c.in_ok-push_conditions.ensures ∙ ap (λ (ks : List declared.Condition). map condition_of ks ++ map condition_of c.args.conditions.now) c.new-copies.ensures.items) in
    let t : map term_of c.in_ok-creates.creates.items ≡ (own_body b).creates = rw (own_is b, ← c.deref.ensures.value) c.in_ok-creates.ensures in
    let l : map link_of c.in_ok-links.links.items ≡ (own_body b).links = rw (own_is b, ← c.deref-2.ensures.value) c.in_ok-links.ensures in
    let o : map collect_of c.in_ok-collects.collects.items ≡ (own_body b).collects = rw (own_is b, ← c.deref-3.ensures.value) c.in_ok-collects.ensures in
    λ i. record { conditions = k i; creates = t i; links = l i; collects = o i }

pub returns-clause-chain : goal.returns-clause-chain
returns-clause-chain c =
    let k : c.new.result.conditions ≡ map condition_of c.args.conditions.now =
    c.new.ensures.conditions ∙ (c.in_ok-push_conditions.ensures ∙ ap (λ (ks : List declared.Condition). map condition_of ks ++ map condition_of c.args.conditions.now) c.new-copies.ensures.items) in
    let v : c.new.result.version ≡ c.args.version = c.new.ensures.version in
    let x : c.new.result.variables ≡ variables_of c.new.result.conditions = c.new.ensures.variables ∙ (c.in_ok-variables.ensures ∙ ap variables_of (sym k)) in
    λ i. record { version = v i; variables = x i; conditions = c.new.result.conditions }
