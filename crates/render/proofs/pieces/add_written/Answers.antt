use Rattle.std.proofs.Common.{◌≡◌, ◌++◌, ◌∙◌, ap, subst, IfOk, List, ℕ}
use Rattle.page_spec.specs.Show.{show}
use Rattle.page_spec.specs.Written.{written}
use Rattle.page_spec.specs.Pieces.{bytes}
use Rattle.render.specs.Room.{Adds}
use Rattle.render.proofs.pieces.add_written.Goals as goal

pub returns : goal.returns
returns c =
    let shown = written c.args.writing (show c.args.value.now) in
    let e : c.in_ok-of.field-0 ≡ shown = c.in_ok-of.ensures ∙ c.in_ok-push_written.ensures ∙ ap (λ (l : List ℕ). l ++ shown) c.new-text.ensures.items in
    subst (λ (t : List ℕ). IfOk c.add_text.result (λ x. Adds c.args.out.now c.add_text.new.self (bytes t))) e c.add_text.ensures
