use Rattle.std.proofs.Common.{refl}
use Rattle.sd_value.specs.declared.Value.TheVariants.{Page}
use Rattle.query_blocks.specs.Blocks.{scope_of}
use Rattle.site_lookups.proofs.Stays.{collected_stays}
use Rattle.site_build.proofs.whole.collected_values.Goals as goal

pub returns-clause-stays : goal.returns-clause-stays
returns-clause-stays g c = λ t h. collected_stays (g.A.Asker.graph c.args.asker.now) (scope_of c.args.scopes.now) c.args.scopes.now.blocks.items c.args.name.now t c.requires.scoped refl (c.in_ok-values.ensures.values.sound (Page t) h)
