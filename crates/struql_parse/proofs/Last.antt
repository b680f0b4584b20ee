-- The place of a clause's last item.
use Rattle.std.proofs.Common.{◌≡◌, ◌≤◌, ◌-◌, List, [], ◌∷◌, length, refl, arith}
use Rattle.std.specs.Prelude.{map}
use Rattle.std.proofs.Math.ListN.{get_or}
use Rattle.std.proofs.Math.Numerals.{sub-one}
use Rattle.sd_lex.specs.declared.token.Span.{Span}
use Rattle.struql_parse.specs.Blocks.{last_span}

pub last_is : {A B : Type 0} (span_of : B → Span) (of : A → B) (place : Span) (xs : List A) (d : A) → 1 ≤ length xs → span_of (of (get_or xs (length xs - 1) d)) ≡ last_span span_of place (map of xs)
last_is span_of of place [] d le = absurd (omega (arith, le))
last_is span_of of place (x ∷ []) d le = refl
last_is span_of of place (x ∷ (y ∷ ys)) d le =
    let before = last_is span_of of (span_of (of x)) (y ∷ ys) d (omega arith) in
    rw sub-one (rw sub-one at before)
