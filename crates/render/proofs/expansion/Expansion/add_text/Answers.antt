use Rattle.std.proofs.Common.{◌≡◌, ◌+◌, ◌<◌, length, ap, refl, arith}
use Rattle.page_spec.specs.declared.TheConstants.{PAGE_LIMIT}
use Rattle.render.specs.declared.expansion.Expansion.{Expansion}
use Rattle.render.proofs.Room.{adds_kept, adds_dropped}
use Rattle.render.proofs.expansion.Expansion.add_text.Goals as goal

pub returns-in_ok-push : goal.returns-in_ok-push
returns-in_ok-push c =
    let b : Expansion = record { pieces = c.push.new.self; size = c.saturating_add-self.result } in
    let sum : b.size ≡ c.args.self.now.size + length c.args.text = omega (arith, c.saturating_add-self.ensures, ap length c.bytes.ensures, c.if-self-le-PAGE_LIMIT.true) in
    adds_kept c.args.self.now b c.args.text c.if-self-le-PAGE_LIMIT.true sum c.in_ok-push.ensures.items

pub returns-else-self-le-PAGE_LIMIT : goal.returns-else-self-le-PAGE_LIMIT
returns-else-self-le-PAGE_LIMIT c =
    let b : Expansion = record { pieces = c.args.self.now.pieces; size = c.saturating_add-self.result } in
    let sum : PAGE_LIMIT < c.args.self.now.size + length c.args.text = omega (arith, c.saturating_add-self.ensures, ap length c.bytes.ensures, c.if-self-le-PAGE_LIMIT.false) in
    adds_dropped c.args.self.now b c.args.text c.if-self-le-PAGE_LIMIT.false sum refl
