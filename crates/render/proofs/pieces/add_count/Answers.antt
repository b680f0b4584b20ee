use Rattle.std.proofs.Common.{◌≡◌, ◌++◌, ◌∙◌, ap, subst, IfOk, List, ℕ}
use Rattle.std.specs.Fmt.{decimal}
use Rattle.page_spec.specs.Pieces.{bytes}
use Rattle.render.specs.Room.{Adds}
use Rattle.render.proofs.pieces.add_count.Goals as goal

pub returns : goal.returns
returns c =
    let digits = decimal c.args.count in
    let e : c.in_ok-of.field-0 ≡ digits = c.in_ok-of.ensures ∙ c.in_ok-put_number.ensures ∙ ap (λ (l : List ℕ). l ++ digits) c.new-text.ensures.items in
    subst (λ (t : List ℕ). IfOk c.add_text.result (λ x. Adds c.args.out.now c.add_text.new.self (bytes t))) e c.add_text.ensures
