use Rattle.std.proofs.Common.{ap}
use Rattle.struql_ast.specs.Reading.{aggregate_of, link_of, target_of}
use Rattle.site_lookups.proofs.Sums.{joined_by_sum, joined_by_rows}
use Rattle.site_lookups.proofs.linked.ends_of_link.Goals as goal

pub returns-in_ok-ends-in-Summed-clause-ends : goal.returns-in_ok-ends-in-Summed-clause-ends
returns-in_ok-ends-in-Summed-clause-ends g c =
    joined_by_sum (g.A.Asker.graph c.args.asker.now) c.args.chain.now c.args.term.now c.args.label.now (link_of c.args.link.now) (aggregate_of c.in-Summed.aggregate) c.in_ok-ends-in-Summed.ends.items (ap target_of c.in-Summed.is) c.in_ok-ends-in-Summed.ensures.ends

pub returns-in_ok-ends-in-Plain-clause-ends : goal.returns-in_ok-ends-in-Plain-clause-ends
returns-in_ok-ends-in-Plain-clause-ends g c =
    joined_by_rows (g.A.Asker.graph c.args.asker.now) c.args.chain.now c.args.term.now c.args.label.now (link_of c.args.link.now) c.in_ok-ends-in-Plain.ends.items (rw c.in-Plain.is tt) c.in_ok-ends-in-Plain.ensures.ends

pub returns-in_ok-ends-in-Made-clause-ends : goal.returns-in_ok-ends-in-Made-clause-ends
returns-in_ok-ends-in-Made-clause-ends g c =
    joined_by_rows (g.A.Asker.graph c.args.asker.now) c.args.chain.now c.args.term.now c.args.label.now (link_of c.args.link.now) c.in_ok-ends-in-Made.ends.items (rw c.in-Made.is tt) c.in_ok-ends-in-Made.ensures.ends
