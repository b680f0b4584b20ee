use Rattle.std.proofs.Common.{◌≡◌, map, take}
use Rattle.std.specs.List.{filter}
use Rattle.file_list.specs.Lists.{is_listable}
use Rattle.file_list.proofs.names.names_in.Given as goal

abbrev pub invariant-loop-line : goal.invariant-loop-line
invariant-loop-line l = l.names.items ≡ filter is_listable (map (λ line. line.now) (take l.line-index l.lines))
