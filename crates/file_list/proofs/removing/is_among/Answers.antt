use Rattle.file_list.proofs.Ascending.{among}
use Rattle.file_list.proofs.removing.is_among.Goals as goal

pub returns : goal.returns
returns c = among c.args.names.now c.args.name.now c.binary_search.result c.is_ok.result c.is_ok.ensures.value c.binary_search.ensures.bound c.binary_search.ensures.position c.requires.ascending
