use Rattle.std.proofs.Common.{◌≡◌, ◌+◌, ◌∷◌, drop, length}
use Rattle.std.specs.Prelude.{map}
use Rattle.std.specs.List.{flat_map}
use Rattle.struql_ast.specs.Reading.{operand_of, term_of}
use Rattle.query_blocks.specs.Blocks.{scope_of}
use Rattle.constraint_recheck.specs.Options.{fold_over, tried_over}
use Rattle.constraint_recheck.specs.Search.{choices, add_source, source_tried}
use Rattle.certificate_search.specs.Links.{numbered_of}
use Rattle.certificate_search.specs.Reaching.{reached_of, with_args}
use Rattle.certificate_search.proofs.sources.+add_choices.Given as goal

abbrev pub invariant-loop-choice : goal.invariant-loop-choice
invariant-loop-choice g l =
    let added = add_source (g.J.Judge.tests l.query.judge.now) (scope_of l.query.blocks.now) l.given.conditions (reached_of l.from) (numbered_of l.link) in
    let tries = source_tried (g.J.Judge.tests l.query.judge.now) (scope_of l.query.blocks.now) l.given.conditions (reached_of l.from) (numbered_of l.link) in
    let cs = choices l.given.variables (map operand_of l.rest) in
    let left = with_args (term_of l.source) (flat_map (λ a. map (λ bs. a ∷ bs) cs) (map operand_of (drop l.choice-index l.choice-items))) in
    let all = with_args (term_of l.source) (flat_map (λ a. map (λ bs. a ∷ bs) cs) (map operand_of l.choice-items)) in
    (fold_over added (map reached_of l.seen.items) left ≡ fold_over added (map reached_of l.initial.seen.items) all)
    × (l.initial.budget + tried_over added tries (map reached_of l.seen.items) left ≡ l.budget + tried_over added tries (map reached_of l.initial.seen.items) all)

abbrev pub decreases-add_choices : goal.decreases-add_choices
decreases-add_choices g l = length l.left.now
