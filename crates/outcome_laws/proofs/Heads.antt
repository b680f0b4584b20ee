-- Whether bytes begin with a head: one of those whose parts are of these bytes and no longer.
use Rattle.std.proofs.Common.{◌≡◌, ◌⊎◌, ℕ, suc, ◌≤◌, ◌<◌, Bool, List, [], ◌∷◌, ◌++◌, length, length-append, drop, inl, inr, refl, sym, ap, subst, ◌∙◌, arith}
use Rattle.std.specs.Prelude.{Contains, All, IsTrue, ⊤, IsUtf8}
use Rattle.std.specs.List.{flat_map}
use Rattle.std.specs.Str.{is_utf8}
use Rattle.std.proofs.Math.Seq.{drop-append_seam}
use Rattle.std.proofs.lemmas.Str.{IsUtf8-from_is_utf8, is_utf8-from_IsUtf8}
use Rattle.std.proofs.lemmas.List.Elements.{All-nil, All-cons, All-weaker, All-contains_itself}
use Rattle.std.proofs.lemmas.List.Elements.{Contains-append_left, Contains-append_right}
use Rattle.sd_value.specs.Members.{Contains-here, Contains-there}
use Rattle.httparse.specs.Ascii.{space, colon}
use Rattle.httparse.specs.Grammar.{LineEnd, crlf, lf, print_end, print_blank, print_version, Field, print_field, IsField}
use Rattle.httparse.specs.Grammar.{print_section, RequestHead, print_request, IsRequestHead, IsToken, AllPass}
use Rattle.httparse.specs.Grammar.{is_token_byte, is_uri_byte, is_value_byte}
use Rattle.http_spec.specs.Heads.{max_lines, max_head, IsHead, ReadsHead, AreLineEnds}
use Rattle.site_graphs.proofs.Decide.{Dec, dec_as, dec_both, dec_some, dec_all}
use Rattle.site_graphs.proofs.Lists.{AllOf, all_one, all_in, all_as, all_from}
use Rattle.outcome_laws.proofs.Listing.{same_name}
use Rattle.outcome_laws.proofs.Short.{all_below, all_lists}
use Rattle.outcome_laws.proofs.Targets.{dec_true, dec_lt}

-- ---- all heads whose parts are short

all_line_ends : AllOf (λ (e : LineEnd). ⊤)
all_line_ends = record { items = crlf ∷ lf ∷ []; sound = λ e h. tt; complete = every }
  where
    every : (e : LineEnd) → ⊤ → Contains (crlf ∷ lf ∷ []) e
    every crlf h = Contains-here crlf (lf ∷ [])
    every lf h = Contains-there crlf (lf ∷ []) lf (Contains-here lf [])

-- the part has no more bytes than the whole, and each is one of the whole
abbrev IsPart : List ℕ → List ℕ → Type 0
IsPart whole part = (length part ≤ length whole) × All (Contains whole) part

module _ {X Y : Type 0} (P : X → Type 0) (Q : Y → Type 0) where
  abbrev ArePair : X × Y → Type 0
  ArePair z = P z.0 × Q z.1

  all_pairs : AllOf P → AllOf Q → AllOf ArePair
  all_pairs p q =
      all_as (λ (z : X × Y). (x : X) × P x × ((y : Y) × Q y × ((x, y) ≡ z))) ArePair
      (λ z h. subst ArePair h.2.2 (h.1, h.2.1)) (λ z h. (z.0, h.0, (z.1, h.1, refl)))
      (all_from P (λ (x : X) (z : X × Y). (y : Y) × Q y × ((x, y) ≡ z)) p
      (λ x. all_from Q (λ (y : Y) (z : X × Y). (x, y) ≡ z) q
      (λ y. all_one (x, y) (λ (z : X × Y). (x, y) ≡ z) refl (λ z e. e))))

abbrev IsAnyEnd : LineEnd → Type 0
IsAnyEnd e = ⊤

module _ (whole : List ℕ) where
  all_parts : AllOf (IsPart whole)
  all_parts = all_lists (Contains whole) (all_in whole) (length whole)

  -- ---- fields

  abbrev HasParts : Field → Type 0
  HasParts f = (IsPart whole f.name × IsPart whole f.raw) × IsAnyEnd f.end

  abbrev FieldParts : Type 0
  FieldParts = (List ℕ × List ℕ) × LineEnd

  abbrev field_of : FieldParts → Field
  field_of z = record { name = z.0.0; raw = z.0.1; end = z.1 }

  all_fields : AllOf HasParts
  all_fields =
      all_as (λ (f : Field). (z : FieldParts) × HasParts (field_of z) × (field_of z ≡ f)) HasParts
      (λ f h. subst HasParts h.2 h.1) (λ f h. (((f.name, f.raw), f.end), h, refl))
      (all_from (λ (z : FieldParts). HasParts (field_of z)) (λ (z : FieldParts) (f : Field). field_of z ≡ f)
      (all_pairs (ArePair (IsPart whole) (IsPart whole)) IsAnyEnd
      (all_pairs (IsPart whole) (IsPart whole) all_parts all_parts) all_line_ends)
      (λ z. all_one (field_of z) (λ (f : Field). field_of z ≡ f) refl (λ f e. e)))

  -- ---- heads

  abbrev FewEnds : List LineEnd → Type 0
  FewEnds ends = (length ends ≤ length whole) × All IsAnyEnd ends

  abbrev FewFields : List Field → Type 0
  FewFields fields = (length fields ≤ max_lines) × All HasParts fields

  abbrev IsMinor : ℕ → Type 0
  IsMinor minor = minor < 2

  -- the parts of the head are of these bytes, and no longer
  abbrev IsMadeOf : RequestHead → Type 0
  IsMadeOf h =
      ((FewEnds h.blank × IsPart whole h.method) × (IsPart whole h.target × IsMinor h.minor))
      × ((IsAnyEnd h.line_end × IsAnyEnd h.last) × FewFields h.fields)

  abbrev HeadParts : Type 0
  HeadParts = ((List LineEnd × List ℕ) × (List ℕ × ℕ)) × ((LineEnd × LineEnd) × List Field)

  abbrev head_of : HeadParts → RequestHead
  head_of z = record {
    blank = z.0.0.0;
    method = z.0.0.1;
    target = z.0.1.0;
    minor = z.0.1.1;
    line_end = z.1.0.0;
    last = z.1.0.1;
    fields = z.1.1;
  }

  all_head_parts : AllOf (λ (z : HeadParts). IsMadeOf (head_of z))
  all_head_parts =
      all_pairs
      (ArePair (ArePair FewEnds (IsPart whole)) (ArePair (IsPart whole) IsMinor))
      (ArePair (ArePair IsAnyEnd IsAnyEnd) FewFields)
      (all_pairs (ArePair FewEnds (IsPart whole)) (ArePair (IsPart whole) IsMinor)
      (all_pairs FewEnds (IsPart whole) (all_lists IsAnyEnd all_line_ends (length whole)) all_parts)
      (all_pairs (IsPart whole) IsMinor all_parts (all_below 2)))
      (all_pairs (ArePair IsAnyEnd IsAnyEnd) FewFields
      (all_pairs IsAnyEnd IsAnyEnd all_line_ends all_line_ends) (all_lists HasParts all_fields max_lines))

  all_heads : AllOf IsMadeOf
  all_heads =
      all_as (λ (h : RequestHead). (z : HeadParts) × IsMadeOf (head_of z) × (head_of z ≡ h)) IsMadeOf
      (λ h m. subst IsMadeOf m.2 m.1)
      (λ h m. ((((h.blank, h.method), (h.target, h.minor)), ((h.line_end, h.last), h.fields)), m, refl))
      (all_from (λ (z : HeadParts). IsMadeOf (head_of z)) (λ (z : HeadParts) (h : RequestHead). head_of z ≡ h)
      all_head_parts
      (λ z. all_one (head_of z) (λ (h : RequestHead). head_of z ≡ h) refl (λ h e. e)))

-- ---- what a head's bytes are made of

part_itself : (p : List ℕ) → IsPart p p
part_itself p = (omega arith, All-contains_itself p)

part_in : (p x whole : List ℕ) → length x ≤ length whole → ((b : ℕ) → Contains x b → Contains whole b) → IsPart x p
    → IsPart whole p
part_in p x whole few in_whole h = (omega (arith, few, h.0), All-weaker (Contains x) (Contains whole) in_whole p h.1)

part_left : (p x y : List ℕ) → IsPart x p → IsPart (x ++ y) p
part_left p x y h =
    let both = length-append x y in
    part_in p x (x ++ y) (omega (arith, both)) (λ b c. Contains-append_left x y b c) h

part_right : (p x y : List ℕ) → IsPart y p → IsPart (x ++ y) p
part_right p x y h =
    let both = length-append x y in
    part_in p y (x ++ y) (omega (arith, both)) (λ b c. Contains-append_right x y b c) h

part_behind : (p : List ℕ) (a : ℕ) (y : List ℕ) → IsPart y p → IsPart (a ∷ y) p
part_behind p a y h = part_in p y (a ∷ y) (omega arith) (λ b c. Contains-there a y b c) h

all_ends : (ends : List LineEnd) → All IsAnyEnd ends
all_ends [] = All-nil IsAnyEnd
all_ends (e ∷ ends) = All-cons IsAnyEnd e ends tt (all_ends ends)

end_written : (e : LineEnd) → 1 ≤ length (print_end e)
end_written crlf = omega arith
end_written lf = omega arith

ends_written : (ends : List LineEnd) → length ends ≤ length (print_blank ends)
ends_written [] = omega arith
ends_written (e ∷ ends) =
    let first = end_written e in
    let rest = ends_written ends in
    let both = length-append (print_end e) (print_blank ends) in
    omega (arith, first, rest, both)

field_parts : (whole : List ℕ) (f : Field) → ((p : List ℕ) → IsPart (print_field f) p → IsPart whole p)
    → HasParts whole f
field_parts whole f to =
    let front : List ℕ = f.name ++ colon ∷ f.raw in (
      (
        to f.name (part_left f.name front (print_end f.end)
            (part_left f.name f.name (colon ∷ f.raw) (part_itself f.name))),
        to f.raw (part_left f.raw front (print_end f.end)
            (part_right f.raw f.name (colon ∷ f.raw) (part_behind f.raw colon f.raw (part_itself f.raw)))),
      ),
      tt,
    )

fields_parts : (whole : List ℕ) (fs : List Field) → ((p : List ℕ) → IsPart (flat_map print_field fs) p → IsPart whole p)
    → All (HasParts whole) fs
fields_parts whole [] to = All-nil (HasParts whole)
fields_parts whole (f ∷ fs) to =
    All-cons (HasParts whole) f fs
    (field_parts whole f (λ p h. to p (part_left p (print_field f) (flat_map print_field fs) h)))
    (fields_parts whole fs (λ p h. to p (part_right p (print_field f) (flat_map print_field fs) h)))

module _ (h : RequestHead) where
  abbrev to_method : List ℕ
  to_method = print_blank h.blank ++ h.method

  abbrev to_target : List ℕ
  to_target = to_method ++ space ∷ h.target

  abbrev to_version : List ℕ
  to_version = to_target ++ space ∷ print_version h.minor

  abbrev first_line : List ℕ
  first_line = to_version ++ print_end h.line_end

  part_printed : (p : List ℕ) → IsPart first_line p ⊎ IsPart (print_section h.fields h.last) p → IsPart (print_request h) p
  unfolding print_request
  part_printed p (inl front) = part_left p first_line (print_section h.fields h.last) front
  part_printed p (inr back) = part_right p first_line (print_section h.fields h.last) back

  part_before_version : (p : List ℕ) → IsPart to_target p → IsPart (print_request h) p
  part_before_version p at =
      part_printed p (inl (part_left p to_version (print_end h.line_end)
      (part_left p to_target (space ∷ print_version h.minor) at)))

  pub printed_parts : (whole : List ℕ) → IsHead h → ((p : List ℕ) → IsPart (print_request h) p → IsPart whole p)
      → IsMadeOf whole h
  printed_parts whole valid to =
      let method = to h.method (part_before_version h.method (part_left h.method to_method (space ∷ h.target)
      (part_right h.method (print_blank h.blank) h.method (part_itself h.method)))) in
      let target = to h.target (part_before_version h.target (part_right h.target to_method (space ∷ h.target)
      (part_behind h.target space h.target (part_itself h.target)))) in
      let blank = to (print_blank h.blank) (part_before_version (print_blank h.blank)
      (part_left (print_blank h.blank) to_method (space ∷ h.target)
      (part_left (print_blank h.blank) (print_blank h.blank) h.method (part_itself (print_blank h.blank))))) in
      let few = ends_written h.blank in (
        (((omega (arith, few, blank.0), all_ends h.blank), method), (target, omega (arith, valid.valid.minor))),
        (
          (tt, tt),
          (
            valid.lines,
            fields_parts whole h.fields (λ p at. to p (part_printed p (inr
                (part_left p (flat_map print_field h.fields) (print_end h.last) at)))),
          ),
        ),
      )

-- ---- whether there is a head

dec_le : (a b : ℕ) → Dec (a ≤ b)
dec_le a b = dec_as (λ h. omega (arith, h)) (λ h. omega (arith, h)) (dec_lt a (suc b))

dec_pass : (test : ℕ → Bool) (bytes : List ℕ) → Dec (AllPass test bytes)
dec_pass test bytes = dec_all (λ b. IsTrue (test b)) (λ b. dec_true (test b)) bytes

dec_token : (bytes : List ℕ) → Dec (IsToken bytes)
dec_token bytes = dec_both (dec_lt 0 (length bytes)) (dec_pass is_token_byte bytes)

dec_field : (f : Field) → Dec (IsField f)
dec_field f =
    dec_as (λ h. record { name = h.0; raw = h.1 }) (λ h. (h.name, h.raw))
    (dec_both (dec_token f.name) (dec_pass is_value_byte f.raw))

dec_utf8 : (bytes : List ℕ) → Dec (IsUtf8 bytes)
dec_utf8 bytes = dec_as (IsUtf8-from_is_utf8 bytes) (is_utf8-from_IsUtf8 bytes) (dec_true (is_utf8 bytes))

dec_request : (h : RequestHead) → Dec (IsRequestHead h)
dec_request h =
    dec_as
    (λ d. record { method = d.0; target = d.1.0; target_text = d.1.1.0; minor = d.1.1.1.0; fields = d.1.1.1.1 })
    (λ v. (v.method, (v.target, (v.target_text, (v.minor, v.fields)))))
    (dec_both (dec_token h.method)
    (dec_both (dec_both (dec_lt 0 (length h.target)) (dec_pass is_uri_byte h.target))
    (dec_both (dec_utf8 h.target) (dec_both (dec_le h.minor 1) (dec_all IsField dec_field h.fields)))))

dec_head : (h : RequestHead) → Dec (IsHead h)
dec_head h =
    dec_as (λ d. record { valid = d.0; lines = d.1.0; size = d.1.1 }) (λ v. (v.valid, (v.lines, v.size)))
    (dec_both (dec_request h)
    (dec_both (dec_le (length h.fields) max_lines) (dec_le (length (print_request h)) max_head)))

-- what is behind the head
abbrev pub behind : List ℕ → RequestHead → List ℕ
behind bytes h = drop (length (print_request h)) bytes

abbrev pub BeginsWith : List ℕ → RequestHead → Type 0
BeginsWith bytes h = IsHead h × (bytes ≡ print_request h ++ behind bytes h)

read_begins : (bytes : List ℕ) (h : RequestHead) (rest : List ℕ) → ReadsHead bytes h rest → BeginsWith bytes h
read_begins bytes h rest r =
    let after : behind bytes h ≡ rest =
    ap (drop (length (print_request h))) r.whole ∙ drop-append_seam (print_request h) rest in
    (r.head, r.whole ∙ ap (λ (s : List ℕ). print_request h ++ s) (sym after))

begun_of : (bytes : List ℕ) (h : RequestHead) → BeginsWith bytes h → IsMadeOf bytes h
begun_of bytes h b =
    printed_parts h bytes b.0
    (λ p at. subst (λ s. IsPart s p) (sym b.1) (part_left p (print_request h) (behind bytes h) at))

pub begins_or_not : (bytes : List ℕ) → Dec ((h : RequestHead) × BeginsWith bytes h)
begins_or_not bytes =
    let all = all_heads bytes in
    dec_as (λ h. (h.0, h.2)) (λ h. (h.0, all.complete h.0 (begun_of bytes h.0 h.1), h.1))
    (dec_some (BeginsWith bytes)
    (λ h. dec_both (dec_head h) (same_name bytes (print_request h ++ behind bytes h))) all.items)

pub reads_nothing : (bytes : List ℕ) → ((h : RequestHead) × BeginsWith bytes h → ⊥) → (h : RequestHead) (rest : List ℕ)
    → ReadsHead bytes h rest → ⊥
reads_nothing bytes none h rest r = none (h, read_begins bytes h rest r)

-- a head has a byte
pub some_byte : (h : RequestHead) → IsHead h → 0 < length (print_request h)
some_byte h valid =
    let method = printed_parts h (print_request h) valid (λ p at. at) in
    omega (arith, method.0.0.1.0, valid.valid.method.0)

-- ---- whether there are line ends alone

all_few_ends : (n : ℕ) → AllOf (λ (ends : List LineEnd). (length ends ≤ n) × All IsAnyEnd ends)
all_few_ends n = all_lists IsAnyEnd all_line_ends n

pub are_line_ends_or_not : (bytes : List ℕ) → Dec (AreLineEnds bytes)
are_line_ends_or_not bytes =
    let all = all_few_ends (length bytes) in
    dec_as (λ h. (h.0, h.2))
    (λ h.
    let few = ends_written h.0 in
    let same = ap length h.1 in
    (h.0, all.complete h.0 (omega (arith, few, same), all_ends h.0), h.1))
    (dec_some (λ (ends : List LineEnd). bytes ≡ print_blank ends) (λ ends. same_name bytes (print_blank ends)) all.items)
