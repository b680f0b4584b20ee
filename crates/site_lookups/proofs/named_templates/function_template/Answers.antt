use Rattle.std.proofs.Common.{◌≡◌}
use Rattle.tmpl.specs.declared.NamedTemplate.{NamedTemplate}
use Rattle.site_lookups.proofs.Some.{none_more}
use Rattle.site_lookups.proofs.Targets.{name_is}
use Rattle.site_lookups.proofs.Firsts.{first_at, first_end, differs}
use Rattle.site_lookups.proofs.named_templates.function_template.Goals as goal

pub returns-then-eq : goal.returns-then-eq
returns-then-eq c =
    first_at (λ name. name ≡ c.args.function.now) c.args.names.now c.loop-named.named-index c.named-item.result c.loop-named-test.true c.named-item.is c.loop-named.invariant
    ((name_is c.named-item.result.name c.args.function.now c.eq.result c.eq.ensures).0 c.if-eq.true)

pub loop-named-preserved : goal.loop-named-preserved
loop-named-preserved c =
    none_more (λ (n : NamedTemplate). n.name ≡ c.args.function.now) c.args.names.now c.loop-named.named-index c.named-item.result c.loop-named-test.true c.named-item.is c.loop-named.invariant
    (differs c.named-item.result.name c.args.function.now c.eq.result c.eq.ensures c.if-eq.false)

pub returns : goal.returns
returns c = first_end (λ name. name ≡ c.args.function.now) c.args.names.now c.loop-named.named-index c.loop-named-test.false c.loop-named.invariant
