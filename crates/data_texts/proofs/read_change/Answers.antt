use Rattle.data_texts.proofs.TheReader.{none_from}
use Rattle.data_texts.proofs.read_change.Goals as goal

pub returns-else-is_out_of_memory : goal.returns-else-is_out_of_memory
returns-else-is_out_of_memory c =
    none_from c.args.text.now c.bytes.result.now c.new-graph.result c.read_ddl.new.graph c.in-Err.refusal c.bytes.ensures c.new-graph.ensures.limits c.new-graph.ensures.empty
    c.in-Err.ensures (c.is_out_of_memory.ensures.no c.if-is_out_of_memory.false)
