use Rattle.std.proofs.Common.{◌≡◌, ◌++◌, take}
use Rattle.std.specs.Prelude.{map}
use Rattle.struql_print.specs.Texts.{further}
use Rattle.struql_print.proofs.listed.print_further.Given as goal

abbrev pub invariant-loop-item : goal.invariant-loop-item
invariant-loop-item g l = l.out.items ≡ l.initial.out.items ++ further (map (g.T.Print.text l.fn.version) (take l.item-index l.items))
