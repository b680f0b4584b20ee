use Rattle.std.proofs.Common.{◌∙◌, ◌++◌, ap, append_assoc, decimal, codes}
use Rattle.serve_run.proofs.texts.push_line.Goals as goal

pub returns : goal.returns
returns c =
    c.in_ok-push_number-2.ensures ∙ ap (λ t. t ++ (decimal c.args.length ++ codes "\n")) c.in_ok-push_number.ensures
    ∙ append_assoc c.args.text.now.items (codes "connection " ++ decimal c.args.number ++ codes " ") (decimal c.args.length ++ codes "\n")
