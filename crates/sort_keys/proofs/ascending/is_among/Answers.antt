use Rattle.sort_keys.proofs.Lookups.{among}
use Rattle.sort_keys.proofs.ascending.is_among.Goals as goal

pub returns : goal.returns
returns c = among c.args.values.now c.args.value.now c.binary_search.result c.is_ok.result c.is_ok.ensures.value c.binary_search.ensures.bound c.binary_search.ensures.position
