use Rattle.index_store.proofs.SpanLaws.{span_is}
use Rattle.index_store.proofs.spans.span_near.Goals as goal

pub returns : goal.returns
returns g c = span_is (g.Q.Query.at c.args.query.now) c.args.items.now c.end_near-start.result c.end_near-end.result c.end_near-start.ensures c.end_near-end.ensures
