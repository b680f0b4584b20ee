use Rattle.data_texts.proofs.TheEdits.{read_none}
use Rattle.data_texts.proofs.edits.edit_in.Goals as goal

pub returns-else-is_out_of_memory : goal.returns-else-is_out_of_memory
returns-else-is_out_of_memory c =
    read_none c.args.text.now c.bytes.result.now c.in-Err.refusal c.bytes.ensures c.in-Err.ensures
    (c.is_out_of_memory.ensures.no c.if-is_out_of_memory.false)
