use Rattle.std.proofs.Common.{refl}
use Rattle.sd_value.specs.declared.Value.TheVariants.{Page}
use Rattle.query_blocks.specs.Blocks.{scope_of}
use Rattle.site_lookups.proofs.Stays.{edge_stays, no_start, none_listed}
use Rattle.site_build.proofs.whole.ends.Goals as goal

pub returns-clause-starts : goal.returns-clause-starts
returns-clause-starts g c = λ n. none_listed c.in_ok-ends.ends.items (λ v h. no_start (g.A.Asker.graph c.args.asker.now) (scope_of c.args.scopes.now) c.args.scopes.now.blocks.items c.args.value.now c.args.label.now v c.requires.scoped refl n (c.in_ok-ends.ensures.ends.sound v h))

pub returns-clause-stays : goal.returns-clause-stays
returns-clause-stays g c = λ t h. edge_stays (g.A.Asker.graph c.args.asker.now) (scope_of c.args.scopes.now) c.args.scopes.now.blocks.items c.args.value.now c.args.label.now t c.requires.scoped refl c.requires.well_formed (c.in_ok-ends.ensures.ends.sound (Page t) h)
