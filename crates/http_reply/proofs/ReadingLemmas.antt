-- Bytes of a connection, one byte after another.
use Rattle.std.proofs.Common.{◌≡◌, ℕ, ◌+◌, ◌-◌, ◌<◌, ◌≤◌, List, [], ◌∷◌, ◌++◌, length, sym, ap, ◌∙◌, subst, arith, append_assoc, get_or, take, drop, map, inl, inr, ◌≢◌, lit<, false, true, Option}
use Rattle.std.proofs.lemmas.List.{append-nil, take_more, take_all, same_from_push, length-take-le, length-map}
use Rattle.httparse.specs.declared.spans.HeaderSpan.{HeaderSpan}
use Rattle.httparse.specs.declared.spans.RequestSpans.{RequestSpans}
use Rattle.httparse.specs.Grammar.{RequestHead, print_request}
use Rattle.httparse.specs.Spans.{IsRequestWithin, IsRequestOf, header_bytes, name_and_value, span_bytes}
use Rattle.http_spec.specs.declared.ParsedRequest.{ParsedRequest}
use Rattle.http_reply.specs.declared.parsing.Parsed.TheVariants.{Head}
use Rattle.http_spec.specs.Asks.{ask_with}
use Rattle.http_reply.specs.Parsing.{Parses}
use Rattle.http_spec.specs.Heads.{IsHead, ReadsHead, HasNoHead}
use Rattle.http_spec.specs.Heads.{is_line_end_byte}
use Rattle.http_reply.specs.Kept.{AllLineEndBytes}
use Rattle.http_reply.specs.Kept.{IsOpen}
use Rattle.std.proofs.lemmas.List.Elements.{All-nil}
use Rattle.http_spec.proofs.HeadLemmas.{last_of, no_head_more, no_line_feed_no_head, no_head_nil}
use Rattle.http_reply.proofs.ParserLemmas.{line_ends_no_head}

-- a text that isn't empty is its front and its last byte
pub front_and_last : (bytes : List ℕ) → 0 < length bytes
    → bytes ≡ take (length bytes - 1) bytes ++ get_or bytes (length bytes - 1) 0 ∷ []
front_and_last bytes some =
    let n = length bytes - 1 in
    let inside : n < length bytes = omega arith in
    let one_more : n + 1 ≡ length bytes = omega arith in
    sym (take_all (n + 1) bytes (omega arith)) ∙ take_more bytes n 0 inside

-- no head ends in another byte than a line feed
pub no_head_at_other : (bytes : List ℕ) → 0 < length bytes → HasNoHead (take (length bytes - 1) bytes)
    → get_or bytes (length bytes - 1) 0 ≢ 10 → HasNoHead bytes
no_head_at_other bytes some before other =
    let last = get_or bytes (length bytes - 1) 0 in
    let front = take (length bytes - 1) bytes in
    subst HasNoHead (sym (front_and_last bytes some)) (no_head_more front last before (λ h head e. no_line_feed_no_head front last h other e))

-- line ends alone are no head
pub no_head_unstarted : (bytes : List ℕ) → 0 < length bytes → HasNoHead (take (length bytes - 1) bytes)
    → AllLineEndBytes bytes → HasNoHead bytes
no_head_unstarted bytes some before all =
    let last = get_or bytes (length bytes - 1) 0 in
    let front = take (length bytes - 1) bytes in
    let is = front_and_last bytes some in
    subst HasNoHead (sym is) (no_head_more front last before (λ h head e. line_ends_no_head bytes h all (is ∙ e)))

-- a head that ends no earlier is the whole of the bytes
pub head_is_whole : (bytes : List ℕ) (h : RequestHead) (rest : List ℕ) → 0 < length bytes → HasNoHead (take (length bytes - 1) bytes)
    → ReadsHead bytes h rest → bytes ≡ print_request h
head_is_whole bytes h rest some before reads =
    let last = get_or bytes (length bytes - 1) 0 in
    let front = take (length bytes - 1) bytes in
    elim (last_of rest) [
      | inl e ↦ reads.whole ∙ ap (λ r. print_request h ++ r) e ∙ append-nil (print_request h)
      | inr w ↦
          let same = sym (front_and_last bytes some) ∙ reads.whole ∙ ap (λ r. print_request h ++ r) w.2 ∙ sym (append_assoc (print_request h) w.0 (w.1 ∷ [])) in
          absurd (before h w.0 (record { head = reads.head; whole = (same_from_push front (print_request h ++ w.0) last w.1 same).0 }))
    ]

-- what the parser's answer says, where there was no head before the last byte
pub whole_from_parser : (hosts : Option (List ℕ)) (bytes : List ℕ) (headers : List HeaderSpan) (spans : RequestSpans) (ask : ParsedRequest)
    → 0 < length bytes → length bytes ≤ 16384 → length headers ≤ 64 → HasNoHead (take (length bytes - 1) bytes)
    → IsRequestWithin bytes headers spans → IsRequestOf bytes headers spans
    → ask ≡ ask_with hosts (span_bytes bytes spans.method) spans.version (map (header_bytes bytes) (take spans.headers headers))
    → Parses hosts bytes (Head ask spans.path)
whole_from_parser hosts bytes headers spans ask some size room before within parsed asked =
    let h = parsed.0 in
    let at = parsed.1 in
    let section = within.section in
    let count : spans.headers ≡ length h.fields =
    sym (length-take-le spans.headers headers section.count_fits)
    ∙ sym (length-map (take spans.headers headers) (header_bytes bytes))
    ∙ ap length at.fields ∙ length-map h.fields name_and_value in
    let count_fits = section.count_fits in
    let len_fits = section.len_fits in
    let len = at.len in
    let path = within.path in
    let head : IsHead h = record { valid = at.reads.0; lines = omega arith; size = omega arith } in (
      h,
      head,
      head_is_whole bytes h (drop spans.len bytes) some before (record { head = head; whole = at.reads.1 }),
      asked ∙ (λ i. ask_with hosts (at.method i) (at.version i) (at.fields i)),
      at.path,
      (omega arith, omega arith),
    )

-- no bytes are open
pub open_empty : (bytes : List ℕ) → bytes ≡ [] → IsOpen bytes false
open_empty bytes e =
    subst (λ b. IsOpen b false) (sym e) (record { room = lit< tt; none = no_head_nil; unstarted = λ _. All-nil (λ b. is_line_end_byte b ≡ true) })
