use Rattle.std.proofs.Common.{◌≡◌, take}
use Rattle.sd_value.specs.Order.{bytes_cmp}
use Rattle.sd_graph.specs.Gathered.{in_order}
use Rattle.sd_graph.proofs.names.copied.Given as goal

abbrev pub invariant-loop-name : goal.invariant-loop-name
invariant-loop-name l = in_order bytes_cmp l.copied.keys ≡ in_order bytes_cmp (take l.name-index l.names.keys)
