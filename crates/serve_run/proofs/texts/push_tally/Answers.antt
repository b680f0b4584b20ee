use Rattle.std.proofs.Common.{Bool, [], ◌++◌, codes, ap, sym, ◌∙◌, append-nil}
use Rattle.serve_run.specs.Texts.{count_line, change_lines, tally_text}
use Rattle.serve_run.proofs.Gained.{four_pieces}
use Rattle.serve_run.proofs.texts.push_tally.Goals as goal

pub returns-in_ok-push_changes : goal.returns-in_ok-push_changes
returns-in_ok-push_changes c =
    let tally = c.args.tally.now in
    four_pieces c.args.text.now.items (count_line (codes "connections ") tally.connections) (count_line (codes "replies ") tally.replies) (count_line (codes "hits ") tally.hits) (change_lines tally) _ _ _ _
    c.in_ok-push_number.ensures c.in_ok-push_number-2.ensures c.in_ok-push_number-3.ensures c.in_ok-push_changes.ensures
    ∙ ap (λ (told : Bool). c.args.text.now.items ++ tally_text told tally) (sym c.if-with_changes.true)

pub returns-else-with_changes : goal.returns-else-with_changes
returns-else-with_changes c =
    let tally = c.args.tally.now in
    four_pieces c.args.text.now.items (count_line (codes "connections ") tally.connections) (count_line (codes "replies ") tally.replies) (count_line (codes "hits ") tally.hits) [] _ _ _ _
    c.in_ok-push_number.ensures c.in_ok-push_number-2.ensures c.in_ok-push_number-3.ensures (sym (append-nil _))
    ∙ ap (λ (told : Bool). c.args.text.now.items ++ tally_text told tally) (sym c.if-with_changes.false)
