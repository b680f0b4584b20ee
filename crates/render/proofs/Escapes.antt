-- A text that is escaped chunk by chunk: the bytes from `start` on are not written yet.
use Rattle.std.proofs.Common.{◌≡◌, ℕ, ◌+◌, ◌-◌, ◌<◌, ◌≤◌, List, [], ◌∷◌, ◌++◌, length, get_or, take, drop, sym, ap, ◌∙◌, arith, append_assoc, append-nil}
use Rattle.std.proofs.lemmas.List.{take_more, drop_all, drop-take, drop-append-le, length-take-le}
use Rattle.std.proofs.lemmas.List.Concat.{flat_map-append}
use Rattle.page_spec.specs.Show.{byte_in_html, escaped}

-- one byte more is escaped
escaped_more : (text : List ℕ) (i : ℕ) → i < length text → escaped (take (i + 1) text) ≡ escaped (take i text) ++ byte_in_html (get_or text i 0)
escaped_more text i l =
    let byte = get_or text i 0 in
    ap escaped (take_more text i 0 l) ∙ flat_map-append byte_in_html (take i text) (byte ∷ []) ∙ ap (λ z. escaped (take i text) ++ z) (append-nil (byte_in_html byte))

-- a byte that stands for itself is left for later
pub plain_byte : (text before out : List ℕ) (start i : ℕ) → start ≤ i → i < length text → byte_in_html (get_or text i 0) ≡ get_or text i 0 ∷ [] → out ++ drop start (take i text) ≡ before ++ escaped (take i text) → out ++ drop start (take (i + 1) text) ≡ before ++ escaped (take (i + 1) text)
plain_byte text before out start i s l plain so_far =
    let part = take i text in
    let byte = get_or text i 0 ∷ [] in
    let left = ap (drop start) (take_more text i 0 l) ∙ drop-append-le start part byte (omega (arith, length-take-le i text (omega arith))) in
    ap (λ z. out ++ z) left ∙ sym (append_assoc out (drop start part) byte) ∙ ap (λ z. z ++ byte) so_far ∙ append_assoc before (escaped part) byte
    ∙ ap (λ z. before ++ z) (sym (escaped_more text i l ∙ ap (λ z. escaped part ++ z) plain))

-- the bytes before an entity are written, then it
pub entity_byte : (text before out entity : List ℕ) (start i : ℕ) → start ≤ i → i < length text → byte_in_html (get_or text i 0) ≡ entity → out ++ drop start (take i text) ≡ before ++ escaped (take i text) → ((out ++ take (i - start) (drop start text)) ++ entity) ++ drop (i + 1) (take (i + 1) text) ≡ before ++ escaped (take (i + 1) text)
entity_byte text before out entity start i s l named so_far =
    let part = take i text in
    let chunk = take (i - start) (drop start text) in
    let here : chunk ≡ drop start part = sym (drop-take start (i - start) text) ∙ ap (λ n. drop start (take n text)) (let e : start + (i - start) ≡ i = omega arith in e) in
    let none = drop_all (i + 1) (take (i + 1) text) (omega (arith, length-take-le (i + 1) text (omega arith))) in
    ap (λ z. ((out ++ chunk) ++ entity) ++ z) none ∙ append-nil ((out ++ chunk) ++ entity) ∙ ap (λ z. (out ++ z) ++ entity) here
    ∙ ap (λ z. z ++ entity) so_far ∙ append_assoc before (escaped part) entity
    ∙ ap (λ z. before ++ z) (sym (escaped_more text i l ∙ ap (λ z. escaped part ++ z) named))
