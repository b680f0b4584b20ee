use Rattle.std.proofs.lemmas.Result.{err_from_is_err_and}
use Rattle.data_source.specs.Formats.{format_of}
use Rattle.data_source.proofs.Names.{no_memory_first}
use Rattle.data_source.proofs.reading.read_source.Goals as goal

pub returns-in_err-format_of : goal.returns-in_err-format_of
returns-in_err-format_of c =
    let p = err_from_is_err_and c.from_residual.result c.from_residual.ensures.1 in
    rw (p.1, p.2) (no_memory_first c.args.rules (format_of c.args.rules c.args.path.now) c.args.limit c.args.bytes.now c.args.graph.now)
