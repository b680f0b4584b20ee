use Rattle.std.proofs.Common.{subst, IfOk, [], ◌∷◌}
use Rattle.page_spec.specs.Pieces.{embed}
use Rattle.render.specs.Room.{Adds}
use Rattle.render.proofs.pieces.add_embed.Goals as goal

pub returns : goal.returns
returns c = subst (λ v. IfOk c.add_embed.result (λ x. Adds c.args.out.now c.add_embed.new.self (embed v ∷ []))) c.in_ok-value.ensures c.add_embed.ensures
