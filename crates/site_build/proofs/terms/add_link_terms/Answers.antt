use Rattle.std.proofs.Common.{List}
use Rattle.sd_value.specs.declared.Term.{Term}
use Rattle.sd_value.specs.declared.Value.{Value}
use Rattle.query_spec.specs.Query.{SkolemTerm}
use Rattle.query_spec.specs.Rows.{value_in}
use Rattle.struql_ast.specs.declared.Link.{Link}
use Rattle.struql_ast.specs.Reading.{link_of}
use Rattle.site_spec.specs.Site.{SomeOf, IsTermUnder, ends_of}
use Rattle.site_build.proofs.Growing.{gains_nil, gains_next, gains_end, gains_turned}
use Rattle.site_build.proofs.Written.{NamedBy}
use Rattle.site_build.proofs.terms.add_link_terms.Goals as goal

pub loop-link-init : goal.loop-link-init
loop-link-init c = gains_nil (λ (k : Link) (p : Term). NamedBy c.args.variables.now c.args.rows.now (ends_of (link_of k)) p) _

pub add_ends-requires : goal.add_ends-requires
add_ends-requires c = λ p s. c.loop-link.invariant.kept p (c.requires p s)

pub loop-link-preserved : goal.loop-link-preserved
loop-link-preserved c =
    gains_next (λ (k : Link) (p : Term). NamedBy c.args.variables.now c.args.rows.now (ends_of (link_of k)) p) c.args.links.now c.loop-link.link-index c.link-item.result _ c.loop-link.made.keys _
    c.loop-link-test.true c.link-item.is c.loop-link.invariant c.in_ok-add_ends.ensures

pub returns : goal.returns
returns c =
    gains_turned (λ (row : List Value) (k : Link) (p : Term). SomeOf (λ (t : SkolemTerm). IsTermUnder (value_in c.args.variables.now row) t p) (ends_of (link_of k))) c.args.rows.now c.args.links.now _ c.loop-link.made.keys
    (gains_end (λ (k : Link) (p : Term). NamedBy c.args.variables.now c.args.rows.now (ends_of (link_of k)) p) c.args.links.now c.loop-link.link-index _ c.loop-link.made.keys c.loop-link-test.false c.loop-link.invariant)
