use Rattle.std.proofs.Common.{length}
use Rattle.std.specs.Prelude.{All}
use Rattle.page_spec.specs.Address.{IsDatum}
use Rattle.address.proofs.Parsed.{AreLeft}
use Rattle.address.proofs.named.arguments.Given as goal

abbrev pub invariant-loop-after : goal.invariant-loop-after
invariant-loop-after l = record {
  left : AreLeft l.text l.args.items l.left;
  kinds : All IsDatum l.args.items;
}

abbrev pub decreases-loop-after : goal.decreases-loop-after
decreases-loop-after l = length l.left
