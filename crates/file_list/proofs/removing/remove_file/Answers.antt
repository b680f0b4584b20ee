use Rattle.std.proofs.Common.{ap, ◌∙◌}
use Rattle.file_list.specs.Lists.{under}
use Rattle.file_list.proofs.Ones.{not_gone_told}
use Rattle.file_list.proofs.removing.remove_file.Goals as goal

pub returns-clause-ends : goal.returns-clause-ends
returns-clause-ends g c = λ old told.
    not_gone_told (g.F.Files.contents c.remove.new.self) c.in_ok-path.path (under c.args.folder.now c.args.name.now) old (c.in_ok-path.ensures ∙ ap (under c.args.folder.now) c.bytes.ensures) (c.in-Err.ensures.elsewhere old told)
