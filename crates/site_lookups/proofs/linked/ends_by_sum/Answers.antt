use Rattle.struql_ast.specs.Reading.{aggregate_of, link_of, target_of}
use Rattle.site_lookups.proofs.Sums.{summed_told}
use Rattle.site_lookups.proofs.linked.ends_by_sum.Goals as goal

pub returns-clause-ends : goal.returns-clause-ends
returns-clause-ends g c =
    summed_told (g.A.Asker.graph c.args.asker.now) c.args.chain.now c.args.term.now c.args.label.now (link_of c.args.link.now) (aggregate_of c.args.aggregate.now) (target_of c.in_ok-part.part) c.in_ok-parts.parts.items c.in_ok-ends.ends.items
    c.in_ok-part.ensures c.in_ok-parts.ensures.ends c.in_ok-ends.ensures
