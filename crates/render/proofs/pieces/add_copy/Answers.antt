use Rattle.std.proofs.Common.{subst, IfOk, List, ℕ}
use Rattle.page_spec.specs.Pieces.{bytes}
use Rattle.render.specs.Room.{Adds}
use Rattle.render.proofs.pieces.add_copy.Goals as goal

pub returns : goal.returns
returns c = subst (λ (t : List ℕ). IfOk c.add_text.result (λ x. Adds c.args.out.now c.add_text.new.self (bytes t))) c.in_ok-text.ensures c.add_text.ensures
