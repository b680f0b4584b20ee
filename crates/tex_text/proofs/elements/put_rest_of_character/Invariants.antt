use Rattle.std.proofs.Common.{◌≡◌, ◌≤◌, ◌++◌, length}
use Rattle.bibtex_spec.specs.Bytes.{run, behind}
use Rattle.tex_text.specs.Elements.{goes_on}
use Rattle.tex_text.proofs.elements.put_rest_of_character.Given as goal

abbrev pub invariant-bytes : goal.invariant-bytes
invariant-bytes l =
    (l.text.items ++ run goes_on l.rest ≡ l.fn.text.items ++ run goes_on l.bytes)
    × (behind goes_on l.rest ≡ behind goes_on l.bytes)
    × (length l.rest ≤ length l.bytes)

abbrev pub decreases-bytes : goal.decreases-bytes
decreases-bytes l = length l.rest
