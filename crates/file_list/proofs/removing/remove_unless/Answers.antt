use Rattle.std.proofs.Common.{◌∙◌, sym}
use Rattle.std.proofs.lemmas.Bool.{false≢true}
use Rattle.file_list.proofs.Ones.{one_told, one_added}
use Rattle.file_list.proofs.removing.remove_unless.Goals as goal

pub returns-clause-traced : goal.returns-clause-traced
returns-clause-traced g c =
    one_added c.args.folder.now c.args.new.now c.args.name.now (g.F.Files.trace c.args.files.now) (g.F.Files.trace c.remove_file.new.files) c.remove_file.result (λ k. false≢true (sym c.if-is_among.false ∙ c.is_among.ensures.1 k)) c.remove_file.ensures.traced

pub returns-clause-ends : goal.returns-clause-ends
returns-clause-ends g c = λ old told.
    one_told c.args.folder.now c.args.new.now c.args.name.now (g.F.Files.contents c.remove_file.new.files) old c.remove_file.result (λ k. false≢true (sym c.if-is_among.false ∙ c.is_among.ensures.1 k)) (c.remove_file.ensures.ends old told)
