-- What the bytes of a head look like, and that no head begins another.
use Rattle.std.proofs.Common.{◌≡◌, ℕ, ◌<◌, ◌≤◌, true, List, [], ◌∷◌, ◌++◌, length, refl, sym, ap, ◌∙◌, arith, append_assoc, take, drop, ◌⊎◌, inl, inr, ◌≢◌, length-append, false}
use Rattle.std.specs.Prelude.{All}
use Rattle.std.specs.List.{flat_map, AllByRecursion}
use Rattle.std.proofs.lemmas.Bool.{cases_lt}
use Rattle.std.proofs.lemmas.List.{append-nil, same_from_push, take-append-drop, take-append-le, take_at, append_cancel_left}
use Rattle.std.proofs.lemmas.List.Elements.{All-head, recursion_from_All}
use Rattle.httparse.specs.Grammar.{LineEnd, crlf, lf, print_end, print_blank, print_version, print_field, print_section, RequestHead, IsRequestHead, print_request}
use Rattle.httparse.specs.Grammar.{IsToken, is_token_byte}
use Rattle.httparse.proofs.PieceLemmas.{token_is_no_newline}
use Rattle.httparse.proofs.GrammarLemmas.{request_unique, print_request-append}
use Rattle.http_spec.specs.Heads.{max_head, IsHead, HasNoHead, CannotBecomeHead, Cuts, print_heads, is_line_end_byte}

-- a line end has a line feed last
pub end_last : (e : LineEnd) → (front : List ℕ) × (print_end e ≡ front ++ 10 ∷ [])
end_last crlf = (13 ∷ [], refl)
end_last lf = ([], refl)

-- so has a head
pub head_last : (h : RequestHead) → (front : List ℕ) × (print_request h ≡ front ++ 10 ∷ [])
unfolding print_request
head_last h =
    let last = end_last h.last in
    let start = print_blank h.blank ++ h.method ++ 32 ∷ h.target ++ 32 ∷ print_version h.minor ++ print_end h.line_end in
    let lines = flat_map print_field h.fields in (
      start ++ (lines ++ last.0),
      ap (λ e. start ++ (lines ++ e)) last.1
          ∙ ap (λ e. start ++ e) (sym (append_assoc lines last.0 (10 ∷ [])))
          ∙ sym (append_assoc start (lines ++ last.0) (10 ∷ [])),
    )

-- a head has a space
pub head_space : (h : RequestHead) → (front : List ℕ) × (back : List ℕ) × (print_request h ≡ front ++ 32 ∷ back)
head_space h =
    let back = h.target ++ 32 ∷ (print_version h.minor ++ (print_end h.line_end ++ (print_section h.fields h.last ++ []))) in (
      print_blank h.blank ++ h.method,
      back,
      sym (append-nil (print_request h)) ∙ print_request-append h []
          ∙ sym (append_assoc (print_blank h.blank) h.method (32 ∷ back)),
    )

-- no bytes are no head
pub no_head_nil : HasNoHead []
no_head_nil h rest reads =
    let space = head_space h in
    let size : length (space.0 ++ 32 ∷ space.1 ++ rest) ≡ 0 = ap length (sym (reads.whole ∙ ap (λ s. s ++ rest) space.2)) in
    absurd (omega (arith, simp length-append at size))

-- a list is empty, or has a last element
pub last_of : (xs : List ℕ) → (xs ≡ []) ⊎ ((front : List ℕ) × (x : ℕ) × (xs ≡ front ++ x ∷ []))
last_of [] = inl refl
last_of (x ∷ xs) =
    elim (last_of xs) [
      | inl e ↦ inr ([], x, ap (λ ys. x ∷ ys) e)
      | inr w ↦ inr (x ∷ w.0, w.1, ap (λ ys. x ∷ ys) w.2)
    ]

-- where no head stood, one more byte gives a head only if the whole is one
pub no_head_more : (bytes : List ℕ) (b : ℕ) → HasNoHead bytes
    → ((h : RequestHead) → IsHead h → bytes ++ b ∷ [] ≡ print_request h → ⊥) → HasNoHead (bytes ++ b ∷ [])
no_head_more bytes b none whole h rest reads =
    elim (last_of rest) [
      | inl e ↦ whole h reads.head (reads.whole ∙ ap (λ r. print_request h ++ r) e ∙ append-nil (print_request h))
      | inr w ↦
          let same = reads.whole ∙ ap (λ r. print_request h ++ r) w.2 ∙ sym (append_assoc (print_request h) w.0 (w.1 ∷ [])) in
          none h w.0 (record { head = reads.head; whole = (same_from_push bytes (print_request h ++ w.0) b w.1 same).0 })
    ]

-- a text whose last byte is no line feed is no head
pub no_line_feed_no_head : (bytes : List ℕ) (b : ℕ) (h : RequestHead) → b ≢ 10 → bytes ++ b ∷ [] ≡ print_request h → ⊥
no_line_feed_no_head bytes b h other e =
    let last = head_last h in other (same_from_push bytes last.0 b 10 (e ∙ last.1)).1

-- what follows a doomed rest does not help
pub doomed_more : (bytes more : List ℕ) → CannotBecomeHead bytes → CannotBecomeHead (bytes ++ more)
doomed_more bytes more doomed = record {
  no_head = λ next h head e. doomed.no_head (more ++ next) h head (sym (append_assoc bytes more next) ∙ e);
  no_line_ends = λ next ends. doomed.no_line_ends (more ++ next) (ends.0, sym (append_assoc bytes more next) ∙ ends.1);
}

-- the bytes are cut in one way
cut_once : (bytes : List ℕ) (hs ks : List RequestHead) (r q : List ℕ)
    → AllByRecursion IsHead hs → AllByRecursion IsHead ks → bytes ≡ print_heads hs ++ r → bytes ≡ print_heads ks ++ q
    → HasNoHead r → HasNoHead q → (hs ≡ ks) × (r ≡ q)
cut_once bytes [] [] r q hh kk x y none last = (refl, sym x ∙ y)
cut_once bytes [] (k ∷ ks) r q hh kk x y none last =
    absurd (none k (print_heads ks ++ q) (record {
      head = kk.0;
      whole = sym x ∙ y ∙ append_assoc (print_request k) (print_heads ks) q;
    }))
cut_once bytes (h ∷ hs) [] r q hh kk x y none last =
    absurd (last h (print_heads hs ++ r) (record {
      head = hh.0;
      whole = sym y ∙ x ∙ append_assoc (print_request h) (print_heads hs) r;
    }))
cut_once bytes (h ∷ hs) (k ∷ ks) r q hh kk x y none last =
    let first = request_unique bytes h k (print_heads hs ++ r) (print_heads ks ++ q)
    (hh.0.valid, x ∙ append_assoc (print_request h) (print_heads hs) r)
    (kk.0.valid, y ∙ append_assoc (print_request k) (print_heads ks) q) in
    let others = cut_once (print_heads hs ++ r) hs ks r q hh.1 kk.1 refl first.1 none last in
    (λ i. first.0 i ∷ others.0 i, others.1)

pub cuts_unique : (bytes : List ℕ) (hs ks : List RequestHead) (r q : List ℕ) → Cuts bytes hs r → Cuts bytes ks q → (hs ≡ ks) × (r ≡ q)
cuts_unique bytes hs ks r q x y =
    cut_once bytes hs ks r q (recursion_from_All IsHead hs x.each) (recursion_from_All IsHead ks y.each) x.whole y.whole x.last y.last

-- and no list of heads at the front is longer: each is a front of the list that the cut has
longest_once : (bytes : List ℕ) (hs ks : List RequestHead) (r q : List ℕ)
    → AllByRecursion IsHead hs → AllByRecursion IsHead ks → bytes ≡ print_heads hs ++ r → bytes ≡ print_heads ks ++ q
    → HasNoHead r → (more : List RequestHead) × (hs ≡ ks ++ more)
longest_once bytes hs [] r q hh kk x y none = (hs, refl)
longest_once bytes [] (k ∷ ks) r q hh kk x y none =
    absurd (none k (print_heads ks ++ q) (record {
      head = kk.0;
      whole = sym x ∙ y ∙ append_assoc (print_request k) (print_heads ks) q;
    }))
longest_once bytes (h ∷ hs) (k ∷ ks) r q hh kk x y none =
    let first = request_unique bytes h k (print_heads hs ++ r) (print_heads ks ++ q)
    (hh.0.valid, x ∙ append_assoc (print_request h) (print_heads hs) r)
    (kk.0.valid, y ∙ append_assoc (print_request k) (print_heads ks) q) in
    let others = longest_once (print_heads hs ++ r) hs ks r q hh.1 kk.1 refl first.1 none in
    (others.0, λ i. first.0 i ∷ others.1 i)

pub cuts_longest : (bytes : List ℕ) (hs ks : List RequestHead) (r q : List ℕ) → Cuts bytes hs r → All IsHead ks
    → bytes ≡ print_heads ks ++ q → (more : List RequestHead) × (hs ≡ ks ++ more)
cuts_longest bytes hs ks r q x each y =
    longest_once bytes hs ks r q (recursion_from_All IsHead hs x.each) (recursion_from_All IsHead ks each) x.whole y x.last

-- the line ends before a head, apart
pub blank_apart : (h : RequestHead) → print_request h ≡ print_blank h.blank ++ print_request (record h { blank = [] })
blank_apart h =
    let plain : RequestHead = record h { blank = [] } in
    let same : print_request plain ≡ print_request plain ++ [] = sym (append-nil (print_request plain)) in
    sym (append-nil (print_request h)) ∙ print_request-append h []
    ∙ ap (λ s. print_blank h.blank ++ s) (sym (same ∙ print_request-append plain []))

-- the rest begins with a byte of the method
pub begins_with_token : (h : RequestHead) → IsRequestHead h → h.blank ≡ []
    → (b : ℕ) × (others : List ℕ) × (print_request h ≡ b ∷ others) × (is_line_end_byte b ≡ false)
begins_with_token h valid none = by_method h.method valid.method refl
  where
    tail : List ℕ
    tail = 32 ∷ (h.target ++ 32 ∷ (print_version h.minor ++ (print_end h.line_end ++ (print_section h.fields h.last ++ []))))

    by_method : (m : List ℕ) → IsToken m → h.method ≡ m → (b : ℕ) × (others : List ℕ) × (print_request h ≡ b ∷ others) × (is_line_end_byte b ≡ false)
    by_method [] token e = let some = token.0 in absurd (omega arith)
    by_method (b ∷ bs) token e = (
      b,
      bs ++ tail,
      sym (append-nil (print_request h)) ∙ print_request-append h [] ∙ ap (λ ends. print_blank ends ++ (h.method ++ tail)) none ∙ ap (λ m. m ++ tail) e,
      token_is_no_newline b (All-head (λ x. is_token_byte x ≡ true) b bs token.1),
    )

-- of two cuts of a text, the later has the earlier in it
pub later_cut : (a b c d : List ℕ) → a ++ b ≡ c ++ d → length a ≤ length c → (c ≡ a ++ drop (length a) c) × (b ≡ drop (length a) c ++ d)
later_cut a b c d e short =
    let front : take (length a) c ≡ a =
    sym (take-append-le (length a) c d short) ∙ ap (take (length a)) (sym e) ∙ take_at a b (length a) refl in
    let is : c ≡ a ++ drop (length a) c = sym (take-append-drop (length a) c) ∙ ap (λ x. x ++ drop (length a) c) front in (
      is,
      append_cancel_left a b (drop (length a) c ++ d) (e ∙ ap (λ x. x ++ d) is ∙ append_assoc a (drop (length a) c) d),
    )

-- where no head stands and none can come, none stands in a longer text
pub no_head_stays : (bytes more : List ℕ) → HasNoHead bytes → (max_head ≤ length bytes) ⊎ CannotBecomeHead bytes → HasNoHead (bytes ++ more)
no_head_stays bytes more none why h rest reads = by_length (cases_lt (length bytes) (length text))
  where
    text : List ℕ
    text = print_request h

    within : length text ≤ length bytes → ⊥
    within short =
        let cut = later_cut text rest bytes more (sym reads.whole) short in
        none h (drop (length text) bytes) (record { head = reads.head; whole = cut.0 })

    by_why : length bytes < length text → (max_head ≤ length bytes) ⊎ CannotBecomeHead bytes → ⊥
    by_why long (inl full) = let size = reads.head.size in absurd (omega arith)
    by_why long (inr doomed) =
        let cut = later_cut bytes more text rest reads.whole (omega arith) in
        doomed.no_head (drop (length bytes) text) h reads.head (sym cut.0)

    by_length : (length bytes < length text) ⊎ (length text ≤ length bytes) → ⊥
    by_length (inl long) = by_why long why
    by_length (inr short) = within short
