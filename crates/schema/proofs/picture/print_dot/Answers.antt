use Rattle.schema.proofs.Texts.{is_picture}
use Rattle.schema.proofs.picture.print_dot.Goals as goal

pub put_parts-requires : goal.put_parts-requires
put_parts-requires c = rw c.deref-2.ensures.value c.in_ok-schema.ensures.sorted

pub returns : goal.returns
returns c = is_picture c.args.checked.now c.in_ok-schema.schema c.in_ok-schema.ensures _ _ _ _ c.in_ok-put.ensures (rw (c.deref.ensures.value, c.deref-2.ensures.value) at c.in_ok-put_parts.ensures) c.in_ok-put-2.ensures
