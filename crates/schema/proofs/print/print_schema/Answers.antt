use Rattle.schema.proofs.Texts.{is_text}
use Rattle.schema.proofs.print.print_schema.Goals as goal

pub put_all_lines-requires : goal.put_all_lines-requires
put_all_lines-requires c = rw c.deref-2.ensures.value c.in_ok-schema.ensures.sorted

pub returns : goal.returns
returns c = is_text c.args.checked.now c.in_ok-schema.schema c.in_ok-schema.ensures _ _ _ c.in_ok-put.ensures (rw (c.deref.ensures.value, c.deref-2.ensures.value) at c.in_ok-put_all_lines.ensures)
