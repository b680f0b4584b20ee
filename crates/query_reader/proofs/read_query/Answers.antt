use Rattle.query_reader.proofs.read_query.Goals as goal

pub returns-in-Ok : goal.returns-in-Ok
returns-in-Ok c = c.check_written.ensures c.args.limit c.args.bytes.now c.in-Ok.ensures.0
