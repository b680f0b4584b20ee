use Rattle.std.proofs.Common.{inr, refl}
use Rattle.std.proofs.lemmas.Result.{on_ok_weaker}
use Rattle.live_store.specs.Live.{puts}
use Rattle.live_store.proofs.Edits.{as_put}
use Rattle.live_store.proofs.changes.change.Goals as goal

pub returns-clause-changed : goal.returns-clause-changed
returns-clause-changed c = on_ok_weaker c.change-2.result (λ is. inr (
  λ h. (let t = c.item_is_in.ensures.1 h in let f = c.if-item_is_in.false in cc),
  as_put c.puts-2.result (puts c.args.edit.now) c.args.edit.now c.args.came.now c.change-2.new.self c.puts-2.ensures is,
  refl,
)) c.change-2.ensures.changed
