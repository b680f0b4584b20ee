use Rattle.std.proofs.Common.{◌≡◌, drop, chars}
use denote.Text.{Utf8}
use denote.Shadow.{shadow}
use Rattle.text_functions.proofs.characters.rest.Given as goal

abbrev pub invariant-loop-i : goal.invariant-loop-i
invariant-loop-i l = shadow (Utf8 l.rest) × (chars l.rest ≡ drop l._i (chars l.text))
