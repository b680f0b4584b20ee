use Rattle.std.proofs.Common.{◌≡◌, ◌++◌, length}
use Rattle.bibtex_spec.specs.declared.Spot.TheVariants.{Outside}
use Rattle.bibtex_source.specs.Source.{item_bytes}
use Rattle.bibtex_source.proofs.own.item_bytes.Given as goal

abbrev pub invariant-bytes : goal.invariant-bytes
invariant-bytes l = l.own.items ++ item_bytes l.spot l.left l.rest ≡ item_bytes Outside l.text l.file

abbrev pub decreases-bytes : goal.decreases-bytes
decreases-bytes l = length l.left
