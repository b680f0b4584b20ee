use Rattle.query_reader.proofs.ParsedQueries.{is_written}
use Rattle.query_reader.proofs.read_written.Goals as goal

pub returns : goal.returns
returns c = is_written c.args.limit c.args.bytes.now c.parse.result c.requires c.parse.ensures.exact
