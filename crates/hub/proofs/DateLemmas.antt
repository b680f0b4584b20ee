-- The bytes of one event come while the same data are current.
use Rattle.std.proofs.Common.{◌≡◌, ℕ, suc, ◌+◌, ◌-◌, ◌<◌, ◌≤◌, Bool, true, false, List, [], ◌∷◌, ◌++◌, length, refl, sym, ap, ◌∙◌, subst, arith, append_assoc, drop, ◌⊎◌, inl, inr, All}
use Rattle.std.specs.Prelude.{MatchBool}
use Rattle.std.proofs.lemmas.List.{append-nil}
use Rattle.std.proofs.lemmas.List.Elements.{All-head, All-tail}
use Rattle.httparse.specs.Grammar.{RequestHead, print_request}
use Rattle.http_spec.specs.Heads.{IsHead, HasNoHead, print_heads}
use Rattle.http_spec.specs.Sessions.{Showing, closes_after, HasReplies, Session}
use Rattle.http_spec.specs.Streams.{Timed, Request, timed, bytes_in, IsCutTo}
use Rattle.http_spec.proofs.HeadLemmas.{head_last, last_of, later_cut}
use Rattle.http_spec.proofs.StreamLemmas.{bytes-append}
use Rattle.hub.specs.Pieces.{AreReplies}

pub timed-append : {D : Type 0} (d : D) (a b : List ℕ) → timed d (a ++ b) ≡ timed d a ++ timed d b
timed-append d [] b = refl
timed-append d (x ∷ a) b = ap (λ s. record { byte = x; current = d } ∷ s) (timed-append d a b)

pub bytes-timed : {D : Type 0} (d : D) (a : List ℕ) → bytes_in (timed d a) ≡ a
bytes-timed d [] = refl
bytes-timed d (x ∷ a) = ap (λ s. x ∷ s) (bytes-timed d a)

-- the requests whose heads came while these data were current
abbrev pub requests_of : {D : Type 0} → D → List RequestHead → List (Request D)
requests_of d [] = []
requests_of d (h ∷ heads) = record { head = h; current = d } ∷ requests_of d heads

pub requests-length : {D : Type 0} (d : D) (heads : List RequestHead) → length (requests_of d heads) ≡ length heads
requests-length d [] = refl
requests-length d (h ∷ heads) = ap suc (requests-length d heads)

-- a cut, and a cut of its rest with more bytes
pub cut_on : {D : Type 0} (stream p rest after : List (Timed D)) (requests more : List (Request D)) → IsCutTo stream requests rest → IsCutTo (rest ++ p) more after
    → IsCutTo (stream ++ p) (requests ++ more) after
cut_on stream p rest after [] more first second = subst (λ s. IsCutTo (s ++ p) more after) (sym first) second
cut_on stream p rest after (request ∷ requests) more (front, last, tail, head, whole, bytes, d, cut) second = (
  front,
  last,
  tail ++ p,
  head,
  ap (λ s. s ++ p) whole ∙ append_assoc front (last ∷ tail) p,
  bytes,
  d,
  cut_on tail p rest after requests more cut second,
)

-- heads whose bytes came in one event
pub cut_dated : {D : Type 0} (d : D) (heads : List RequestHead) (rest : List ℕ) → All IsHead heads
    → IsCutTo (timed d (print_heads heads ++ rest)) (requests_of d heads) (timed d rest)
cut_dated d [] rest each = refl
cut_dated d (h ∷ heads) rest each =
    let last = head_last h in
    let tail = print_heads heads ++ rest in
    let whole : timed d ((print_request h ++ print_heads heads) ++ rest) ≡ timed d last.0 ++ record { byte = 10; current = d } ∷ timed d tail =
    ap (timed d) (append_assoc (print_request h) (print_heads heads) rest ∙ ap (λ s. s ++ tail) last.1 ∙ append_assoc last.0 (10 ∷ []) tail)
    ∙ timed-append d last.0 (10 ∷ tail) in (
      timed d last.0,
      record { byte = 10; current = d },
      timed d tail,
      All-head IsHead h heads each,
      whole,
      bytes-append (timed d last.0) (record { byte = 10; current = d } ∷ []) ∙ ap (λ s. s ++ 10 ∷ []) (bytes-timed d last.0) ∙ sym last.1,
      refl,
      cut_dated d heads rest (All-tail IsHead h heads each),
    )

-- A rest with no head, and more bytes that came in one event: the heads that are whole then have its data.
pub cut_more : {D : Type 0} (d : D) (rest : List (Timed D)) (piece x : List ℕ) (heads : List RequestHead) → HasNoHead (bytes_in rest) → All IsHead heads
    → bytes_in rest ++ piece ≡ print_heads heads ++ x
    → (after : List (Timed D)) × (bytes_in after ≡ x) × IsCutTo (rest ++ timed d piece) (requests_of d heads) after
cut_more {D} d rest piece x [] none each whole =
    (rest ++ timed d piece, bytes-append rest (timed d piece) ∙ ap (λ s. bytes_in rest ++ s) (bytes-timed d piece) ∙ whole, refl)
cut_more {D} d rest piece x (h ∷ heads) none each whole =
    by_length (le_or_lt (length (bytes_in rest)) (length (print_request h)))
  where
    tail : List ℕ
    tail = print_heads heads ++ x

    at_head : bytes_in rest ++ piece ≡ print_request h ++ tail
    at_head = whole ∙ append_assoc (print_request h) (print_heads heads) x

    le_or_lt : (a b : ℕ) → (a ≤ b) ⊎ (b < a)
    le_or_lt a b = grind arith

    Found : Type 0
    Found = (after : List (Timed D)) × (bytes_in after ≡ x) × IsCutTo (rest ++ timed d piece) (requests_of d (h ∷ heads)) after

    by_last : (m : List ℕ) → print_request h ≡ bytes_in rest ++ m → piece ≡ m ++ tail → (m ≡ []) ⊎ ((front : List ℕ) × (z : ℕ) × (m ≡ front ++ z ∷ [])) → Found
    by_last m head_is piece_is (inl empty) =
        absurd (none h [] record {
          head = All-head IsHead h heads each;
          whole = sym (append-nil (print_request h) ∙ head_is ∙ ap (λ s. bytes_in rest ++ s) empty ∙ append-nil (bytes_in rest));
        })
    by_last m head_is piece_is (inr (front, z, m_is)) = (
      timed d x,
      bytes-timed d x,
      (
        rest ++ timed d front,
        record { byte = z; current = d },
        timed d tail,
        All-head IsHead h heads each,
        ap (λ s. rest ++ timed d s) (piece_is ∙ ap (λ s. s ++ tail) m_is ∙ append_assoc front (z ∷ []) tail)
            ∙ ap (λ s. rest ++ s) (timed-append d front (z ∷ tail)) ∙ sym (append_assoc rest (timed d front) (record { byte = z; current = d } ∷ timed d tail)),
        bytes-append (rest ++ timed d front) (record { byte = z; current = d } ∷ [])
            ∙ ap (λ s. s ++ z ∷ []) (bytes-append rest (timed d front) ∙ ap (λ s. bytes_in rest ++ s) (bytes-timed d front))
            ∙ append_assoc (bytes_in rest) front (z ∷ []) ∙ ap (λ s. bytes_in rest ++ s) (sym m_is) ∙ sym head_is,
        refl,
        cut_dated d heads x (All-tail IsHead h heads each),
      ),
    )

    by_length : (length (bytes_in rest) ≤ length (print_request h)) ⊎ (length (print_request h) < length (bytes_in rest)) → Found
    by_length (inl within) =
        let cut = later_cut (bytes_in rest) piece (print_request h) tail at_head within in
        by_last (drop (length (bytes_in rest)) (print_request h)) cut.0 cut.1 (last_of (drop (length (bytes_in rest)) (print_request h)))
    by_length (inr past) =
        let cut = later_cut (print_request h) tail (bytes_in rest) piece (sym at_head) (let le : length (print_request h) ≤ length (bytes_in rest) = omega arith in le) in
        absurd (none h (drop (length (print_request h)) (bytes_in rest)) record { head = All-head IsHead h heads each; whole = cut.0 })

-- replies while these data were current
pub replies_dated : {D : Type 0} (page : D → Showing) (d : D) (left : ℕ) (heads : List RequestHead) (replies : List (List ℕ)) (closed : Bool)
    → AreReplies (page d) left heads replies closed → HasReplies page left (requests_of d heads) replies closed
replies_dated page d left [] [] closed same = same
replies_dated page d left [] (r ∷ rs) closed never = absurd never
replies_dated page d left (h ∷ heads) [] closed never = absurd never
replies_dated page d left (h ∷ heads) (r ∷ rs) closed both = (both.0, choose (closes_after (page d) left h) (λ goes. replies_dated page d (left - 1) heads rs closed goes) both.1)
  where
    choose : (b : Bool) → (AreReplies (page d) (left - 1) heads rs closed → HasReplies page (left - 1) (requests_of d heads) rs closed)
        → MatchBool b ((heads ≡ []) × (rs ≡ []) × (closed ≡ true)) (AreReplies (page d) (left - 1) heads rs closed)
        → MatchBool b ((requests_of d heads ≡ []) × (rs ≡ []) × (closed ≡ true)) (HasReplies page (left - 1) (requests_of d heads) rs closed)
    choose true more (none, sent, over) = (ap (requests_of d) none, sent, over)
    choose false more goes = more goes

-- the second fact of a choice, changed, where the first cannot be
matched : (b : Bool) (X A Z C : Type 0) → MatchBool b X A → (X → ⊥) → (A → C) → MatchBool b Z C
matched true X A Z C x never f = absurd (never x)
matched false X A Z C a never f = f a

-- replies to more requests, after replies that closed nothing
pub has_append : {D : Type 0} (page : D → Showing) (limit left : ℕ) (requests more : List (Request D)) (replies others : List (List ℕ)) (closed : Bool)
    → left + length requests ≡ limit → HasReplies page limit requests replies false → HasReplies page left more others closed
    → HasReplies page limit (requests ++ more) (replies ++ others) closed
has_append page limit left [] more [] others closed e first second =
    subst (λ n. HasReplies page n more others closed) (let same : left ≡ limit = omega arith in same) second
has_append page limit left [] more (r ∷ rs) others closed e first second = absurd first
has_append page limit left (h ∷ hs) more [] others closed e first second = absurd first
has_append page limit left (h ∷ hs) more (r ∷ rs) others closed e first second = (
  first.0,
  matched (closes_after (page h.current) limit h.head) _ _ _ _ first.1 (λ never. cc) (λ stands.
      has_append page (limit - 1) left hs more rs others closed (omega arith) stands second),
)

-- one event more of a session that nothing closed
pub session_more : {D : Type 0} (page : D → Showing) (d : D) (limit left : ℕ) (stream rest : List (Timed D)) (requests : List (Request D)) (replies others : List (List ℕ)) (piece x : List ℕ)
    (heads : List RequestHead) (closed : Bool)
    → Session page limit stream requests rest replies false → left + length requests ≡ limit → HasNoHead (bytes_in rest)
    → All IsHead heads → bytes_in rest ++ piece ≡ print_heads heads ++ x → AreReplies (page d) left heads others closed
    → (after : List (Timed D)) × (bytes_in after ≡ x) × Session page limit (stream ++ timed d piece) (requests ++ requests_of d heads) after (replies ++ others) closed
session_more page d limit left stream rest requests replies others piece x heads closed session count none each whole answered =
    let more = cut_more d rest piece x heads none each whole in (
      more.0,
      more.1,
      record {
        cut = cut_on stream (timed d piece) rest more.0 requests (requests_of d heads) session.cut more.2;
        answered = has_append page limit left requests (requests_of d heads) replies others closed count session.answered (replies_dated page d left heads others closed answered);
      },
    )
