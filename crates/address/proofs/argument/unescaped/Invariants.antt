use Rattle.std.proofs.Common.{◌≤◌, ◌-◌, length, drop}
use Rattle.page_spec.specs.Address.{IsBytes}
use Rattle.address.proofs.Parsed.{IsLeft}
use Rattle.address.proofs.argument.unescaped.Given as goal

abbrev pub invariant-loop-at : goal.invariant-loop-at
invariant-loop-at l = record {
  within : l.at ≤ length l.text;
  left : IsLeft l.text l.bytes.items (drop l.at l.text);
  bytes : IsBytes l.bytes.items;
}

abbrev pub decreases-loop-at : goal.decreases-loop-at
decreases-loop-at l = length l.text - l.at
