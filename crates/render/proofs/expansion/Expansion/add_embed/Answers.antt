use Rattle.std.proofs.Common.{refl}
use Rattle.render.specs.declared.expansion.Expansion.{Expansion}
use Rattle.render.proofs.Room.{adds_embed}
use Rattle.render.proofs.expansion.Expansion.add_embed.Goals as goal

pub returns : goal.returns
returns c =
    let b : Expansion = record { pieces = c.push.new.self; size = c.args.self.now.size } in
    adds_embed c.args.self.now b c.args.value refl c.in_ok-push.ensures.items
