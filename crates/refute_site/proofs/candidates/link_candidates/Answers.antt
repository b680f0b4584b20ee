use Rattle.std.proofs.Common.{List, ◌++◌, sym, ap, ◌∙◌, subst}
use Rattle.std.specs.Prelude.{false, map, filter}
use Rattle.query_blocks.specs.Blocks.{scope_of}
use Rattle.constraint_spec.specs.Placed.{links_of}
use Rattle.constraint_recheck.specs.Recheck.{may_carry}
use Rattle.inclusion.specs.Answers.{tests_of}
use Rattle.refute_site.specs.declared.candidate.Candidate.{Candidate}
use Rattle.refute_site.specs.Candidates.{candidate_graph, HasItsVariables, HaveTheirVariables}
use Rattle.refute_site.specs.Links.{frozen_links}
use Rattle.refute_site.proofs.Frozen.{carriers_of}
use Rattle.std.proofs.lemmas.List.Elements.{All-nil}
use Rattle.refute_site.proofs.candidates.link_candidates.Goals as goal

pub returns-clause-graphs : goal.returns-clause-graphs
returns-clause-graphs c =
    let q = scope_of c.args.query.now in
    let may = may_carry (tests_of c.in_ok-judge.judge) q.version c.args.function.now c.in_ok-asked.asked in (
      filter may (links_of q),
      carriers_of q c.in_ok-judge.judge c.in_ok-judge.ensures c.args.function.now c.in_ok-asked.asked c.args.label.now c.in_ok-asked.ensures,
      c.in_ok-push_links.ensures.graphs ∙ ap (λ (z : List Candidate). map candidate_graph z ++ frozen_links may false c.args.label.now (links_of q)) c.new-found.ensures.items,
    )

pub returns-clause-variables : goal.returns-clause-variables
returns-clause-variables c = c.in_ok-push_links.ensures.variables (subst HaveTheirVariables (sym c.new-found.ensures.items) (All-nil HasItsVariables))
