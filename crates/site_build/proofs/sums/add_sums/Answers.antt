use Rattle.struql_ast.specs.declared.Link.{Link}
use Rattle.struql_ast.specs.Reading.{link_of}
use Rattle.site_build.specs.declared.ordered.Joined.{Joined}
use Rattle.site_build.specs.Materialised.{IsSumUnder}
use Rattle.site_build.proofs.Growing.{gains_nil, gains_next, gains_end}
use Rattle.site_build.proofs.sums.add_sums.Goals as goal

pub loop-link-init : goal.loop-link-init
loop-link-init c = gains_nil (λ (k : Link) (j : Joined). IsSumUnder c.args.variables.now c.args.rows.now (link_of k) (link_of k).target j) _

pub loop-link-preserved : goal.loop-link-preserved
loop-link-preserved c =
    gains_next (λ (k : Link) (j : Joined). IsSumUnder c.args.variables.now c.args.rows.now (link_of k) (link_of k).target j) c.args.links.now c.loop-link.link-index c.link-item.result _ c.loop-link.made.keys _
    c.loop-link-test.true c.link-item.is c.loop-link.invariant c.in_ok-add_sum.ensures

pub returns : goal.returns
returns c = gains_end (λ (k : Link) (j : Joined). IsSumUnder c.args.variables.now c.args.rows.now (link_of k) (link_of k).target j) c.args.links.now c.loop-link.link-index _ c.loop-link.made.keys c.loop-link-test.false c.loop-link.invariant
