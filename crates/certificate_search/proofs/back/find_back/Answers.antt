use Rattle.std.proofs.Common.{◌≡◌, List, length, ap, sym, ◌∙◌, arith}
use Rattle.std.specs.Prelude.{map, Some, None, if◌then◌else◌}
use Rattle.std.proofs.lemmas.List.{length-map}
use Rattle.std.proofs.lemmas.Result.{err_from_is_err_and}
use Rattle.query_blocks.specs.Blocks.{scope_of}
use Rattle.constraint_spec.specs.Placed.{links_of}
use Rattle.query_parts.specs.Same.{same_term}
use Rattle.constraint_recheck.specs.Options.{first_of}
use Rattle.constraint_recheck.specs.Search.{Reached, levels, levels_tried, root_term}
use Rattle.certificate_search.specs.Links.{numbered_of}
use Rattle.certificate_search.specs.Reaching.{reached_of}
use Rattle.certificate_search.proofs.Numbers.{numbered_length}
use Rattle.certificate_search.proofs.Spending.{short_as}
use Rattle.certificate_search.proofs.back.find_back.Goals as goal

pub returns-clause-found : goal.returns-clause-found
returns-clause-found g c =
    let T = g.J.Judge.tests c.args.query.now.judge.now in
    let q = scope_of c.args.query.now.blocks.now in
    let S = c.args.given.now.conditions in
    let links = c.args.query.now.links.now in
    let n : length links ≡ length (links_of q) = sym (length-map links numbered_of) ∙ ap length c.requires.links.all ∙ numbered_length 1 (links_of q) in
    let all =
    ap (λ zs. map reached_of zs) c.deref.ensures.value
    ∙ c.in_ok-add_levels.ensures.added
    ∙ ap (λ k. levels T q S k 0 (map reached_of c.in_ok-seen.seen.items)) n
    ∙ ap (λ r. levels T q S (length (links_of q)) 0 r) c.in_ok-seen.ensures in
    c.in_ok-uses.ensures ∙ ap (λ (r : List Reached). first_of (λ s. if same_term s.term (root_term c.args.root.now) then Some s.uses else None) r) all

pub returns-clause-spent : goal.returns-clause-spent
returns-clause-spent g c =
    let T = g.J.Judge.tests c.args.query.now.judge.now in
    let q = scope_of c.args.query.now.blocks.now in
    let S = c.args.given.now.conditions in
    let links = c.args.query.now.links.now in
    let n : length links ≡ length (links_of q) = sym (length-map links numbered_of) ∙ ap length c.requires.links.all ∙ numbered_length 1 (links_of q) in
    let total = ap (λ k. levels_tried T q S k 0 (map reached_of c.in_ok-seen.seen.items)) n ∙ ap (λ r. levels_tried T q S (length (links_of q)) 0 r) c.in_ok-seen.ensures in
    omega (arith, c.in_ok-add_levels.ensures.spent, total)

pub returns-in_err-add_levels-clause-spent : goal.returns-in_err-add_levels-clause-spent
returns-in_err-add_levels-clause-spent g c =
    let T = g.J.Judge.tests c.args.query.now.judge.now in
    let q = scope_of c.args.query.now.blocks.now in
    let S = c.args.given.now.conditions in
    let links = c.args.query.now.links.now in
    let n : length links ≡ length (links_of q) = sym (length-map links numbered_of) ∙ ap length c.requires.links.all ∙ numbered_length 1 (links_of q) in
    let total = ap (λ k. levels_tried T q S k 0 (map reached_of c.in_ok-seen.seen.items)) n ∙ ap (λ r. levels_tried T q S (length (links_of q)) 0 r) c.in_ok-seen.ensures in
    let p = err_from_is_err_and c.from_residual-in_err-add_levels.result c.from_residual-in_err-add_levels.ensures.1 in
    rw (p.1, p.2) (short_as (levels_tried T q S (length links) 0 (map reached_of c.in_ok-seen.seen.items)) _ c.args.budget.now c.in_err-add_levels.field-0.0 total c.in_err-add_levels.ensures.spent)
