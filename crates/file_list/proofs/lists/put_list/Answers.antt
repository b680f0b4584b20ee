use Rattle.file_list.specs.Lists.{list_path, list_text}
use Rattle.file_list.proofs.Ones.{no_put_told}
use Rattle.file_list.proofs.lists.put_list.Goals as goal

pub returns-clause-ends : goal.returns-clause-ends
returns-clause-ends g c = λ old told.
    no_put_told (g.F.Files.contents c.write.new.self) c.in_ok-path.path (list_path c.args.folder.now) (list_text c.args.names.now) old c.in_ok-path.ensures (c.in-Err.ensures.elsewhere old told)
