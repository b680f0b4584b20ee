-- A value that is shorter than a host's name is another.
use Rattle.std.proofs.Common.{◌≡◌, ℕ, zero, suc, ◌<◌, ◌≤◌, Bool, true, false, ◌&&◌, List, [], ◌∷◌, length, take, drop, map, refl, sym, ap, ◌∙◌, arith}
use Rattle.std.specs.Char.{to_ascii_lowercase}
use Rattle.std.specs.Str.{bytes_eq}
use Rattle.std.proofs.lemmas.List.{length-map}
use Rattle.std.proofs.lemmas.Slice.Eq.{bytes_eq-Decides}
use Rattle.http_spec.specs.Words.{same_word, is_host, is_port_end}

take_few : (n : ℕ) (xs : List ℕ) → length (take n xs) ≤ length xs
take_few zero xs = omega arith
take_few (suc n) [] = omega arith
take_few (suc n) (x ∷ xs) = let rest = take_few n xs in omega (arith, rest)

same_length : (a b : List ℕ) → same_word a b ≡ true → length a ≡ length b
same_length a b same =
    let equal : map to_ascii_lowercase a ≡ map to_ascii_lowercase b = (bytes_eq-Decides (map to_ascii_lowercase a) (map to_ascii_lowercase b)).0 same in
    sym (length-map a to_ascii_lowercase) ∙ ap length equal ∙ length-map b to_ascii_lowercase

pub shorter_is_another : (value name : List ℕ) → length value < length name → is_host value name ≡ false
shorter_is_another value name short = by (same_word (take (length name) value) name) refl
  where
    by : (t : Bool) → same_word (take (length name) value) name ≡ t → (t && is_port_end (drop (length name) value)) ≡ false
    by true same =
        let lengths = same_length (take (length name) value) name same in
        let few = take_few (length name) value in
        absurd (omega (arith, lengths, few, short))
    by false same = refl
