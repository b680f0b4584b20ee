-- Arguments of an address, read one by one.
use Rattle.std.proofs.Common.{◌≡◌, ◌⊎◌, ℕ, suc, ◌+◌, ◌*◌, ◌/◌, ◌%◌, ◌<◌, ◌≤◌, List, [], ◌∷◌, ◌++◌, length, inl, inr, ⊎_elim, sym, ap, ◌∙◌, refl, subst, arith, append_assoc, append-nil}
use Rattle.std.specs.Prelude.{codes, All}
use Rattle.std.specs.Fmt.{signed_decimal}
use Rattle.std.specs.Str.{IsAscii}
use Rattle.std.proofs.lemmas.Fmt.{IsAscii-signed}
use Rattle.std.proofs.lemmas.List.Elements.{All-head, All-tail, All-nil, All-cons}
use Rattle.sd_value.specs.declared.Datum.{Datum}
use Rattle.sd_value.specs.declared.Datum.TheVariants.{Int, Text, Url, File, Node}
use Rattle.sd_value.specs.declared.Term.{Term}
use Rattle.page_spec.specs.Show.{hex_digit, in_address, show_datum, argument, arguments, address}
use Rattle.page_spec.specs.Address.{IsBytes, IsDatum}
use Rattle.page_spec.proofs.Addresses.{NoStops, byte_cases, byte_not_empty, not_tilde, argument_no_stops, head_same, rests_same}
use Rattle.address.specs.Segments.{HasNoSlash, IsEndOrSlash}

-- the text of a term's address, but its first slash and `.html`

pub inner_of : (t : Term) → address t ≡ 47 ∷ ((t.function ++ arguments t.args) ++ codes ".html")
inner_of t = refl

pub ends_or_slash : (ds : List Datum) → IsEndOrSlash (arguments ds)
ends_or_slash [] = tt
ends_or_slash (d ∷ ds) = refl

-- one text begins with a segment without a slash, the other with one without a stop: these are one
pub segments_same : (xs ys rs ss : List ℕ) → HasNoSlash xs → NoStops ys → IsEndOrSlash rs → IsEndOrSlash ss → xs ++ rs ≡ ys ++ ss → (xs ≡ ys) × (rs ≡ ss)
segments_same [] [] rs ss n m r s e = (refl, e)
segments_same [] (y ∷ ys) rs ss n m r s e = absurd (m.0 (inl (subst IsEndOrSlash e r)))
segments_same (x ∷ xs) [] rs ss n m r s e = absurd (All-head (λ b. b ≡ 47 → ⊥) x xs n (subst IsEndOrSlash (sym e) s))
segments_same (x ∷ xs) (y ∷ ys) rs ss n m r s e =
    let h = head_same x y (xs ++ rs) (ys ++ ss) e in
    let q = segments_same xs ys rs ss (All-tail (λ b. b ≡ 47 → ⊥) x xs n) m.1 r s (rests_same x y (xs ++ rs) (ys ++ ss) e) in
    ((let t : x ∷ xs ≡ y ∷ ys = cc (h, q.0) in t), q.1)

-- whoever wrote the text wrote these arguments first, and then `left`
abbrev pub AreLeft : List ℕ → List Datum → List ℕ → Type 0
AreLeft whole args left =
    (ds : List Datum) → All IsDatum ds → arguments ds ≡ whole → (es : List Datum) × (ds ≡ args ++ es) × All IsDatum es × (arguments es ≡ left)

pub all_left : (whole : List ℕ) → AreLeft whole [] whole
all_left whole = λ ds h e. (ds, refl, h, e)

-- the first argument that is left
next_argument : (es : List Datum) (x : ℕ) (after part rest : List ℕ) → arguments es ≡ x ∷ after → after ≡ part ++ rest → HasNoSlash part → IsEndOrSlash rest → All IsDatum es → (d : Datum) × (ds : List Datum) × (es ≡ d ∷ ds) × IsDatum d × All IsDatum ds × (argument d ≡ part) × (arguments ds ≡ rest)
next_argument [] x after part rest e parts n r h = let f : ⊥ = cc in absurd f
next_argument (d ∷ ds) x after part rest e parts n r h =
    let q = segments_same part (argument d) rest (arguments ds) n (argument_no_stops d) r (ends_or_slash ds) (sym parts ∙ sym (rests_same 47 x (argument d ++ arguments ds) after e)) in
    (d, ds, refl, All-head IsDatum d ds h, All-tail IsDatum d ds h, sym q.0, sym q.1)

pub one_less : (whole : List ℕ) (args : List Datum) (x : ℕ) (after part rest : List ℕ) (datum : Datum) → AreLeft whole args (x ∷ after) → after ≡ part ++ rest → HasNoSlash part → IsEndOrSlash rest → ((d : Datum) → IsDatum d → argument d ≡ part → datum ≡ d) → AreLeft whole (args ++ datum ∷ []) rest
one_less whole args x after part rest datum left parts n r is = λ ds h e.
    let (es, p, k, q) = left ds h e in
    let (d, fs, same, kd, ks, a, b) = next_argument es x after part rest q parts n r k in
    (fs, p ∙ ap (λ z. args ++ z) (same ∙ ap (λ z. z ∷ fs) (sym (is d kd a))) ∙ sym (append_assoc args (datum ∷ []) fs), ks, b)

pub no_argument : (whole : List ℕ) (args : List Datum) (x : ℕ) (after part rest : List ℕ) → AreLeft whole args (x ∷ after) → after ≡ part ++ rest → HasNoSlash part → IsEndOrSlash rest → ((d : Datum) → IsDatum d → argument d ≡ part → ⊥) → (ds : List Datum) → All IsDatum ds → arguments ds ≡ whole → ⊥
no_argument whole args x after part rest left parts n r is ds h e =
    let (es, p, k, q) = left ds h e in
    let (d, fs, same, kd, ks, a, b) = next_argument es x after part rest q parts n r k in
    is d kd a

no_arguments : (es : List Datum) → arguments es ≡ [] → es ≡ []
no_arguments [] e = refl
no_arguments (d ∷ ds) e = let f : ⊥ = cc in absurd f

pub none_left : (whole : List ℕ) (args : List Datum) (left : List ℕ) → left ≡ [] → AreLeft whole args left → (ds : List Datum) → All IsDatum ds → arguments ds ≡ whole → args ≡ ds
none_left whole args left none h ds k e =
    let (es, p, ks, q) = h ds k e in
    sym (p ∙ ap (λ z. args ++ z) (no_arguments es (q ∙ none)) ∙ append-nil args)

-- the bytes of an argument

abbrev pub IsLeft : List ℕ → List ℕ → List ℕ → Type 0
IsLeft whole bytes left =
    (s : List ℕ) → IsBytes s → in_address s ≡ whole → (u : List ℕ) × (s ≡ bytes ++ u) × IsBytes u × (in_address u ≡ left)

pub nothing_left : (whole bytes left : List ℕ) → left ≡ [] → IsLeft whole bytes left → (s : List ℕ) → IsBytes s → in_address s ≡ whole → bytes ≡ s
nothing_left whole bytes left none h s k e =
    let (u, p, ks, q) = h s k e in
    let empty : (v : List ℕ) → in_address v ≡ [] → v ≡ [] = λ v. elim v as (λ w. in_address w ≡ [] → w ≡ []) [ [] ↦ λ z. refl | b ∷ w ↦ λ z. absurd (byte_not_empty b (in_address w) z) ] in
    sym (p ∙ ap (λ z. bytes ++ z) (empty u (q ∙ none)) ∙ append-nil bytes)

-- the first byte that is left is plain or escaped
abbrev IsFirst : List ℕ → ℕ → List ℕ → Type 0
IsFirst u x rest =
    (b : ℕ) × (v : List ℕ) × (u ≡ b ∷ v) × (b < 256) × IsBytes v
    × (((x ≡ b) × (x ≡ 126 → ⊥) × (rest ≡ in_address v)) ⊎ ((x ≡ 126) × (rest ≡ hex_digit (b / 16) ∷ hex_digit (b % 16) ∷ in_address v)))

abbrev IsByte : ℕ → Type 0
IsByte b = b < 256

first_left : (u : List ℕ) (x : ℕ) (rest : List ℕ) → IsBytes u → in_address u ≡ x ∷ rest → IsFirst u x rest
first_left [] x rest h e = let f : ⊥ = cc in absurd f
first_left (b ∷ v) x rest h e =
    ⊎_elim
    (λ c. let e' : b ∷ in_address v ≡ x ∷ rest = ap (λ z. z ++ in_address v) (sym c.1) ∙ e in
    let same = head_same b x (in_address v) rest e' in
    (b, v, refl, All-head IsByte b v h, All-tail IsByte b v h, inl (sym same, (λ t. not_tilde b c.0 (same ∙ t)), sym (rests_same b x (in_address v) rest e'))))
    (λ c. let e' : 126 ∷ hex_digit (b / 16) ∷ hex_digit (b % 16) ∷ in_address v ≡ x ∷ rest = ap (λ z. z ++ in_address v) (sym c.1) ∙ e in
    (b, v, refl, All-head IsByte b v h, All-tail IsByte b v h, inr (sym (head_same 126 x _ rest e'), sym (rests_same 126 x _ rest e'))))
    (byte_cases b)

pub plain_taken : (whole bytes : List ℕ) (x : ℕ) (rest : List ℕ) → (x ≡ 126 → length rest ≤ 1) → IsLeft whole bytes (x ∷ rest) → IsLeft whole (bytes ++ x ∷ []) rest
plain_taken whole bytes x rest short left = λ s h e.
    let (u, p, k, q) = left s h e in
    let (b, v, uv, small, kv, cases) = first_left u x rest k q in
    ⊎_elim (λ c. (v, p ∙ ap (λ z. bytes ++ z) (uv ∙ ap (λ z. z ∷ v) (sym c.0)) ∙ sym (append_assoc bytes (x ∷ []) v), kv, sym c.2)) (λ c. absurd (omega (arith, short c.0, ap length c.1))) cases

pub escape_taken : (whole bytes : List ℕ) (x h l n m : ℕ) (rest : List ℕ) → x ≡ 126 → ((d : ℕ) → d < 16 → hex_digit d ≡ h → n ≡ d) → ((d : ℕ) → d < 16 → hex_digit d ≡ l → m ≡ d) → IsLeft whole bytes (x ∷ h ∷ l ∷ rest) → IsLeft whole (bytes ++ (16 * n + m) ∷ []) rest
escape_taken whole bytes x h l n m rest tilde high low left = λ s k e.
    let (u, p, ku, q) = left s k e in
    let (b, v, uv, small, kv, cases) = first_left u x (h ∷ l ∷ rest) ku q in
    ⊎_elim (λ c. absurd (c.1 tilde)) (λ c.
    let e1 = head_same h (hex_digit (b / 16)) (l ∷ rest) _ c.1 in
    let t1 = rests_same h (hex_digit (b / 16)) (l ∷ rest) _ c.1 in
    let e2 = head_same l (hex_digit (b % 16)) rest (in_address v) t1 in
    let t2 = rests_same l (hex_digit (b % 16)) rest (in_address v) t1 in
    let dn = high (b / 16) (omega (arith, small)) (sym e1) in
    let dm = low (b % 16) (omega arith) (sym e2) in
    let same : b ≡ 16 * n + m = omega (arith, dn, dm) in
    (v, p ∙ ap (λ z. bytes ++ z) (uv ∙ ap (λ z. z ∷ v) same) ∙ sym (append_assoc bytes ((16 * n + m) ∷ []) v), kv, sym t2)) cases

-- the bytes of a datum that an address can have

ascii_bytes : (bs : List ℕ) → IsAscii bs → IsBytes bs
ascii_bytes [] h = All-nil IsByte
ascii_bytes (b ∷ bs) h = All-cons IsByte b bs (omega (arith, h 0)) (ascii_bytes bs (λ i. h (suc i)))

pub datum_bytes : (d : Datum) → IsDatum d → IsBytes (show_datum d)
datum_bytes (Int i) h = ascii_bytes (signed_decimal i) (IsAscii-signed i h)
datum_bytes (Text s) h = h
datum_bytes (Url s) h = h
datum_bytes (File s) h = h
datum_bytes (Node s) h = h
