use Rattle.file_list.proofs.Lines.{read_again}
use Rattle.file_list.proofs.laws.lists_are_read_again.Goals as goal

pub returns : goal.returns
returns c = read_again
