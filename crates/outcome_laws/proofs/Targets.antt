-- Whether a target names a term: one of those that are as short as its path.
use Rattle.std.proofs.Common.{◌≡◌, ℕ, ◌≤◌, ◌<◌, ◌^◌, Bool, true, false, List, [], ◌∷◌, ◌++◌, length, length-append, inl, inr, refl, ap, subst, arith}
use Rattle.std.specs.Prelude.{Contains, All, IsTrue, Option, Some, None, codes, nat_lt, ◌||◌}
use Rattle.std.specs.Int.Signed.{mag}
use Rattle.std.proofs.lemmas.Bool.Decides.{nat_tests}
use Rattle.std.proofs.lemmas.List.Elements.{All-nil, All-cons, All-head, All-tail, All-weaker, All-contains_itself}
use Rattle.std.proofs.lemmas.List.Elements.{Contains-append_left}
use Rattle.sd_value.specs.Names.{Name}
use Rattle.sd_value.specs.Members.{Contains-there}
use Rattle.sd_value.specs.declared.Datum.{Datum}
use Rattle.sd_value.specs.declared.Datum.TheVariants.{Int, Text, Url, File, Node}
use Rattle.sd_value.specs.declared.Term.{Term}
use Rattle.page_spec.specs.Show.{byte_in_address, in_address, argument, arguments, address}
use Rattle.page_spec.specs.Address.{is_letter, is_digit, IsName, IsBytes, IsDatum, IsAddressable, path, asks_root, Named}
use Rattle.page_spec.specs.Address.{TermOf}
use Rattle.page_spec.proofs.Addresses.{byte_cases}
use Rattle.site_graphs.proofs.Decide.{Dec, yes, no, dec_as, dec_both, dec_some, dec_all}
use Rattle.outcome_laws.proofs.Listing.{same_name}
use Rattle.outcome_laws.proofs.Short.{IsShort, Fits, all_fitting}

-- ---- what an address has is as short as the address

byte_written : (b : ℕ) → 1 ≤ length (byte_in_address b)
byte_written b =
    elim (byte_cases b) [
      | inl h ↦ let one = ap length h.1 in omega (arith, one)
      | inr h ↦ let three = ap length h.1 in omega (arith, three)
    ]

text_written : (s : Name) → length s ≤ length (in_address s)
text_written [] = omega arith
text_written (b ∷ s) =
    let rest = text_written s in
    let first = byte_written b in
    let both = length-append (byte_in_address b) (in_address s) in
    omega (arith, rest, first, both)

short_argument : (n : ℕ) (d : Datum) → length (argument d) ≤ n → IsDatum d → IsShort n d
short_argument n (Int i) few h = h
short_argument n (Text s) few h = let whole = text_written s in (omega (arith, few, whole), h)
short_argument n (Url s) few h = let whole = text_written s in (omega (arith, few, whole), h)
short_argument n (File s) few h = let whole = text_written s in (omega (arith, few, whole), h)
short_argument n (Node s) few h = let whole = text_written s in (omega (arith, few, whole), h)

fewer_arguments : (ds : List Datum) → length ds ≤ length (arguments ds)
fewer_arguments [] = omega arith
fewer_arguments (d ∷ ds) =
    let rest = fewer_arguments ds in
    let both = length-append (47 ∷ argument d) (arguments ds) in
    omega (arith, rest, both)

short_arguments : (n : ℕ) (ds : List Datum) → length (arguments ds) ≤ n → All IsDatum ds → All (IsShort n) ds
short_arguments n [] few all = All-nil (IsShort n)
short_arguments n (d ∷ ds) few all =
    let both = length-append (47 ∷ argument d) (arguments ds) in
    All-cons (IsShort n) d ds
    (short_argument n d (omega (arith, few, both)) (All-head IsDatum d ds all))
    (short_arguments n ds (omega (arith, few, both)) (All-tail IsDatum d ds all))

address_fits : (t : Term) → IsAddressable t → Fits (address t) t
address_fits t h =
    let named = length-append t.function (arguments t.args) in
    let whole = length-append (t.function ++ arguments t.args) (codes ".html") in
    let few = fewer_arguments t.args in
    let rest : List ℕ = t.function ++ arguments t.args ++ codes ".html" in (
      (
        omega (arith, named, whole),
        All-weaker (Contains t.function) (Contains (address t))
            (λ b c. Contains-there 47 rest b
            (Contains-append_left (t.function ++ arguments t.args) (codes ".html") b
            (Contains-append_left t.function (arguments t.args) b c)))
            t.function (All-contains_itself t.function),
      ),
      (
        omega (arith, named, whole, few),
        short_arguments (length (address t)) t.args (omega (arith, named, whole)) h.1,
      ),
    )

-- ---- whether a term can be named

pub dec_true : (b : Bool) → Dec (IsTrue b)
dec_true true = yes refl
dec_true false = no (λ h. cc)

pub dec_lt : (a b : ℕ) → Dec (a < b)
dec_lt a b = by (nat_lt a b) refl
  where
    by : (test : Bool) → nat_lt a b ≡ test → Dec (a < b)
    by true is = yes (grind (arith, nat_tests))
    by false is = let over : b ≤ a = grind (arith, nat_tests) in no (λ under. omega (arith, over, under))

dec_name : (name : Name) → Dec (IsName name)
dec_name [] = no (λ h. h)
dec_name (b ∷ bs) =
    dec_both (dec_true (is_letter b))
    (dec_all (λ c. IsTrue (is_letter c || is_digit c)) (λ c. dec_true (is_letter c || is_digit c)) bs)

dec_bytes : (s : Name) → Dec (IsBytes s)
dec_bytes s = dec_all (λ b. b < 256) (λ b. dec_lt b 256) s

dec_datum : (d : Datum) → Dec (IsDatum d)
dec_datum (Int i) = dec_lt (mag i) (2 ^ 63)
dec_datum (Text s) = dec_bytes s
dec_datum (Url s) = dec_bytes s
dec_datum (File s) = dec_bytes s
dec_datum (Node s) = dec_bytes s

named_or_not : (p : List ℕ) → Dec ((t : Term) × Named p t)
named_or_not p =
    let all = all_fitting p in
    dec_as (λ h. (h.0, h.2))
    (λ h. (h.0, all.complete h.0 (subst (λ p. Fits p h.0) h.1.1 (address_fits h.0 h.1.0)), h.1))
    (dec_some (Named p)
    (λ t. dec_both (dec_both (dec_name t.function) (dec_all IsDatum dec_datum t.args)) (same_name (address t) p))
    all.items)

-- whether a target names a term
pub term_or_none : (root : Option Name) (target : List ℕ) → Dec ((t : Term) × TermOf root target t)
term_or_none None target = named_or_not (path target)
term_or_none (Some root) target = by (dec_true (asks_root (path target)))
  where
    by : Dec (IsTrue (asks_root (path target))) → Dec ((t : Term) × TermOf (Some root) target t)
    by (yes asks) = yes (record { function = root; args = [] }, inl (asks, refl))
    by (no other) =
        dec_as (λ h. (h.0, inr (other, h.1)))
        (λ h. (h.0, elim h.1 [ inl asked ↦ absurd (other asked.0) | inr named ↦ named.1 ]))
        (named_or_not (path target))
