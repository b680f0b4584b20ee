use Rattle.std.proofs.Common.{◌∙◌, ◌++◌, ap}
use Rattle.file_list.proofs.Lines.{both_listed}
use Rattle.file_list.proofs.names.union_of.Goals as goal

pub returns : goal.returns
returns c = both_listed c.args.old.now c.args.new.now _ c.sort_and_dedup.new.items.items (c.in_ok-push_all.ensures ∙ ap (λ names. names ++ c.args.new.now) c.in_ok-names.ensures) c.sort_and_dedup.ensures
