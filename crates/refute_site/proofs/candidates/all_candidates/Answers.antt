use Rattle.std.proofs.Common.{List, ◌++◌, ap, ◌∙◌}
use Rattle.std.specs.Prelude.{true, filter}
use Rattle.graph_spec.specs.DataGraph.{DataGraph}
use Rattle.query_blocks.specs.Blocks.{scope_of}
use Rattle.constraint_spec.specs.Placed.{links_of}
use Rattle.constraint_recheck.specs.Recheck.{may_carry}
use Rattle.inclusion.specs.Answers.{tests_of}
use Rattle.refute_site.specs.Links.{frozen_links}
use Rattle.refute_site.proofs.Frozen.{carriers_of}
use Rattle.refute_site.proofs.candidates.all_candidates.Goals as goal

pub returns-clause-graphs : goal.returns-clause-graphs
returns-clause-graphs c =
    let q = scope_of c.args.query.now in
    let may = may_carry (tests_of c.in_ok-judge.judge) q.version c.args.function.now c.in_ok-asked.asked in (
      filter may (links_of q),
      carriers_of q c.in_ok-judge.judge c.in_ok-judge.ensures c.args.function.now c.in_ok-asked.asked c.args.label.now c.in_ok-asked.ensures,
      c.in_ok-push_links.ensures.graphs
          ∙ ap (λ (z : List DataGraph). z ++ frozen_links may true c.args.label.now (links_of q)) c.in_ok-found.ensures.graphs,
    )

pub returns-clause-variables : goal.returns-clause-variables
returns-clause-variables c = c.in_ok-push_links.ensures.variables c.in_ok-found.ensures.variables
