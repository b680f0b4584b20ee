use Rattle.std.proofs.Common.{rules}
use Rattle.std.specs.Prelude.{not}
use Rattle.std.specs.Str.{bytes_eq}
use Rattle.std.proofs.lemmas.Fn.{filter_same}
use Rattle.edge_io.specs.declared.memory.MemFile.{MemFile}
use Rattle.edge_io.proofs.Dropped.{none_left, others_stay}
use Rattle.edge_io.proofs.memory.drop_file.Goals as goal

pub returns-clause-gone : goal.returns-clause-gone
returns-clause-gone c =
    let kept = filter_same _ (λ (file : MemFile). not (bytes_eq file.path c.args.path.now)) _ (λ x b f' k. search rules) _ _ c.retain.ensures.filtered in
    rw kept (none_left c.args.files.now.items c.args.path.now)

pub returns-clause-elsewhere : goal.returns-clause-elsewhere
returns-clause-elsewhere c =
    let kept = filter_same _ (λ (file : MemFile). not (bytes_eq file.path c.args.path.now)) _ (λ x b f' k. search rules) _ _ c.retain.ensures.filtered in
    record { elsewhere = λ other differ. rw kept (others_stay c.args.files.now.items c.args.path.now other differ) }
