use Rattle.std.proofs.Common.{List}
use Rattle.query_spec.specs.declared.Variable.{Variable}
use Rattle.query_spec.specs.Rows.{value_in}
use Rattle.struql_ast.specs.declared.Collect.{Collect}
use Rattle.struql_ast.specs.Reading.{collect_of}
use Rattle.site_spec.specs.Site.{SomeOf}
use Rattle.site_build.specs.Gains.{Gains}
use Rattle.site_build.specs.Materialised.{IsPutUnder}
use Rattle.site_build.proofs.Site.{at_both}
use Rattle.site_build.proofs.contents.add_puts.Goals as goal

pub returns : goal.returns
returns c =
    at_both (λ (vs : List Variable) (ks : List Collect). Gains (λ p. SomeOf (λ row. SomeOf (λ k. IsPutUnder (collect_of k) (value_in vs row) p) ks) c.args.rows.now) c.args.puts.now.keys c.add_rows.new.made.keys)
    c.variables.result.now c.args.block.now.chain.variables c.as_slice.result.now c.args.block.now.collects.items c.variables.ensures c.as_slice.ensures.value c.in_ok-add_rows.ensures
