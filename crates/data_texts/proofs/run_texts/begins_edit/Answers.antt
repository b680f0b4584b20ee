use Rattle.std.proofs.Common.{arith}
use Rattle.data_texts.proofs.Apart.{part_begins, fault_begins, begins_by}
use Rattle.data_texts.proofs.run_texts.begins_edit.Goals as goal

pub returns-in-Ok-tokens_to_close : goal.returns-in-Ok-tokens_to_close
returns-in-Ok-tokens_to_close c =
    let tokens = c.tokens_to_close.new.tokens.items in
    begins_by c.args.text.now tokens c.deref.result.now c.has_word.result c.has_word.ensures c.deref.ensures.value
    (part_begins c.args.text.now c.bytes.result.now c.bytes.ensures c.in-Ok.rest c.in-Ok.ensures tokens c.in-Ok-tokens_to_close.field-0 c.in-Ok-tokens_to_close.ensures)

pub returns : goal.returns
returns c =
    fault_begins c.args.text.now c.bytes.result.now c.bytes.ensures c.in-Ok.rest c.in-Ok.ensures c.tokens_to_close.new.tokens.items c.in-Err.refusal (λ same. grind (arith, c.eq.ensures, c.if-eq.false, same)) c.in-Err.ensures
