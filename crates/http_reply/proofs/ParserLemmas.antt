-- What the parser's answers say of heads.
use Rattle.std.proofs.Common.{◌≡◌, ℕ, ◌<◌, true, List, [], ◌∷◌, ◌++◌, length, refl, sym, ap, ◌∙◌, subst, arith, append_assoc, get_or, length-append, false, lit<, lit≤}
use Rattle.std.proofs.lemmas.List.{append-nil, get_or_at}
use Rattle.std.proofs.lemmas.List.Elements.{All-cons, All-nil}
use Rattle.httparse.specs.Grammar.{LineEnd, lf, print_version, RequestHead, IsRequestHead, print_request}
use Rattle.httparse.specs.Grammar.{IsField, is_token_byte, is_uri_byte}
use Rattle.httparse.specs.Spans.{RequestOverflows}
use Rattle.httparse.proofs.GrammarLemmas.{print_request-append}
use Rattle.http_spec.specs.Heads.{HasNoHead, CannotBecomeHead, is_line_end_byte}
use Rattle.http_spec.proofs.HeadLemmas.{head_space}
use Rattle.http_reply.specs.Kept.{AllLineEndBytes}

-- a text of line-end bytes alone is no head
pub line_ends_no_head : (bytes : List ℕ) (h : RequestHead) → AllLineEndBytes bytes → bytes ≡ print_request h → ⊥
line_ends_no_head bytes h all e =
    let space = head_space h in
    let is = e ∙ space.2 in
    let at : get_or bytes (length space.0) 0 ≡ 32 = ap (λ s. get_or s (length space.0) 0) is ∙ get_or_at space.0 32 space.1 0 (length space.0) refl in
    let inside : length space.0 < length bytes = omega (arith, simp length-append at (ap length is)) in
    let no : false ≡ true = subst (λ b. is_line_end_byte b ≡ true) at (all (length space.0) 0 inside) in
    cc

-- a text at whose front only too many lines could stand begins with no head
pub overflow_no_head : (bytes : List ℕ) → RequestOverflows 64 bytes → HasNoHead bytes
overflow_no_head bytes over h rest reads =
    let lines = reads.head.lines in
    let more : 64 < length h.fields = over [] h rest (reads.head.valid, append-nil bytes ∙ reads.whole) in
    absurd (omega arith)

-- a head of one line, after these line ends
abbrev short_head : List LineEnd → RequestHead
short_head ends = record { blank = ends; method = 71 ∷ []; target = 47 ∷ []; minor = 0; line_end = lf; fields = []; last = lf }

short_head_valid : (ends : List LineEnd) → IsRequestHead (short_head ends)
unfolding is_token_byte lib.Utf8.encode
short_head_valid ends = record {
  method = (lit< tt, All-cons (λ b. is_token_byte b ≡ true) 71 [] refl (All-nil (λ b. is_token_byte b ≡ true)));
  target = (lit< tt, All-cons (λ b. is_uri_byte b ≡ true) 47 [] refl (All-nil (λ b. is_uri_byte b ≡ true)));
  target_text = (47 ∷ [], (refl, refl));
  minor = lit≤ tt;
  fields = All-nil IsField;
}

-- and it is doomed
pub overflow_doomed : (bytes : List ℕ) → RequestOverflows 64 bytes → CannotBecomeHead bytes
overflow_doomed bytes over = record {
  no_head = λ more h head e.
      let lines = head.lines in
      let many : 64 < length h.fields = over more h [] (head.valid, e ∙ sym (append-nil (print_request h))) in
      absurd (omega arith);
  no_line_ends = λ more ends.
      let h = short_head ends.0 in
      let tail : List ℕ = 71 ∷ 32 ∷ 47 ∷ 32 ∷ (print_version 0 ++ 10 ∷ 10 ∷ []) in
      let e : bytes ++ (more ++ tail) ≡ print_request h ++ [] =
      sym (append_assoc bytes more tail) ∙ ap (λ s. s ++ tail) ends.1 ∙ sym (print_request-append h []) in
      let many : 64 < 0 = over (more ++ tail) h [] (short_head_valid ends.0, e) in
      absurd (omega arith);
}
