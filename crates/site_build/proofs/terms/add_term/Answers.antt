use Rattle.sd_value.specs.declared.Term.{Term}
use Rattle.query_spec.specs.Rows.{value_in}
use Rattle.struql_ast.specs.Reading.{term_of}
use Rattle.site_spec.specs.Site.{IsTermUnder}
use Rattle.site_lookups.proofs.Targets.{term_same}
use Rattle.site_build.proofs.Growing.{gains_one}
use Rattle.site_build.proofs.terms.add_term.Goals as goal

pub returns : goal.returns
returns c =
    gains_one (λ (p : Term). IsTermUnder (value_in c.args.variables.now c.args.row.now) (term_of c.args.written.now) p) c.args.made.now.keys _ c.in_ok-one.one c.in_ok-one.ensures
    (λ p q. term_same (value_in c.args.variables.now c.args.row.now) (term_of c.args.written.now) p q) c.in_ok-insert_one.ensures
