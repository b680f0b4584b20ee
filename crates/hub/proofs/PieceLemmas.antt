-- What one more step adds to the replies to a piece.
use Rattle.std.proofs.Common.{◌≡◌, ℕ, ◌+◌, ◌-◌, ◌<◌, Bool, true, false, ◌==◌, List, [], ◌∷◌, ◌++◌, length, refl, sym, ap, ◌∙◌, subst, arith, append_assoc, lit<}
use Rattle.std.specs.Prelude.{MatchBool}
use Rattle.std.proofs.lemmas.List.{append-nil}
use Rattle.std.proofs.lemmas.List.Elements.{All-push}
use Rattle.httparse.specs.Grammar.{RequestHead, print_request}
use Rattle.http_spec.specs.Heads.{max_head, IsHead, HasNoHead, print_heads}
use Rattle.http_spec.specs.Replies.{no_memory_bytes}
use Rattle.http_spec.specs.Sessions.{Showing, IsReply, closes_after, refusal, IsRefused, IsDue}
use Rattle.http_spec.proofs.HeadLemmas.{no_head_nil}
use Rattle.hub.specs.Pieces.{AreReplies, OpenAfter, ClosedAfter, RefusedAfter, ShortAfter}

-- the second fact of a choice, changed, where the first cannot be
matched : (b : Bool) (X A Z C : Type 0) → MatchBool b X A → (X → ⊥) → (A → C) → MatchBool b Z C
matched true X A Z C x never f = absurd (never x)
matched false X A Z C a never f = f a

-- a choice, at its case
chosen_true : (b : Bool) (X A : Type 0) → b ≡ true → X → MatchBool b X A
chosen_true true X A e x = x
chosen_true false X A e x = cc

chosen_false : (b : Bool) (X A : Type 0) → b ≡ false → A → MatchBool b X A
chosen_false true X A e a = cc
chosen_false false X A e a = a

-- replies to more heads, after replies that closed nothing
pub replies_append : (page : Showing) (limit left : ℕ) (heads more : List RequestHead) (replies others : List (List ℕ)) (closed : Bool)
    → left + length heads ≡ limit → AreReplies page limit heads replies false → AreReplies page left more others closed
    → AreReplies page limit (heads ++ more) (replies ++ others) closed
replies_append page limit left [] more [] others closed e first second =
    subst (λ n. AreReplies page n more others closed) (let same : left ≡ limit = omega arith in same) second
replies_append page limit left [] more (r ∷ rs) others closed e first second = absurd first
replies_append page limit left (h ∷ hs) more [] others closed e first second = absurd first
replies_append page limit left (h ∷ hs) more (r ∷ rs) others closed e first second = (
  first.0,
  matched (closes_after page limit h) _ _ _ _ first.1 (λ never. cc) (λ stands.
      replies_append page (limit - 1) left hs more rs others closed (omega arith) stands second),
)

-- the bytes of more heads
pub print_more : (heads : List RequestHead) (h : RequestHead) → print_heads (heads ++ h ∷ []) ≡ print_heads heads ++ print_request h
print_more [] h = append-nil (print_request h)
print_more (k ∷ heads) h =
    ap (λ s. print_request k ++ s) (print_more heads h) ∙ sym (append_assoc (print_request k) (print_heads heads) (print_request h))

-- bytes come, and still no head is whole
pub open_waits : (page : Showing) (limit : ℕ) (bytes : List ℕ) (replies : List (List ℕ)) (rest : List ℕ) (heads : List RequestHead) (piece : List ℕ)
    → OpenAfter page limit bytes replies rest heads → HasNoHead (rest ++ piece) → length (rest ++ piece) < max_head
    → OpenAfter page limit (bytes ++ piece) replies (rest ++ piece) heads
open_waits page limit bytes replies rest heads piece stands none room = record {
  cut = record {
    each = stands.cut.each;
    whole = ap (λ s. s ++ piece) stands.cut.whole ∙ append_assoc (print_heads heads) rest piece;
    last = none;
  };
  answered = stands.answered;
  room = room;
}

-- bytes end a head
pub head_ends : (heads : List RequestHead) (bytes rest piece : List ℕ) (h : RequestHead) → bytes ≡ print_heads heads ++ rest → rest ++ piece ≡ print_request h
    → bytes ++ piece ≡ print_heads (heads ++ h ∷ [])
head_ends heads bytes rest piece h whole ends =
    ap (λ s. s ++ piece) whole ∙ append_assoc (print_heads heads) rest piece ∙ ap (λ s. print_heads heads ++ s) ends ∙ sym (print_more heads h)

-- a head's reply, which leaves the connection open
pub open_replies : (page : Showing) (limit left : ℕ) (bytes : List ℕ) (replies : List (List ℕ)) (rest : List ℕ) (heads : List RequestHead) (piece : List ℕ) (h : RequestHead) (reply : List ℕ)
    → OpenAfter page limit bytes replies rest heads → left + length heads ≡ limit → IsHead h → rest ++ piece ≡ print_request h
    → IsReply page h (left == 1) reply → closes_after page left h ≡ false
    → OpenAfter page limit (bytes ++ piece) (replies ++ reply ∷ []) [] (heads ++ h ∷ [])
open_replies page limit left bytes replies rest heads piece h reply stands count head ends is stays = record {
  cut = record {
    each = All-push IsHead heads h stands.cut.each head;
    whole = head_ends heads bytes rest piece h stands.cut.whole ends ∙ sym (append-nil (print_heads (heads ++ h ∷ [])));
    last = no_head_nil;
  };
  answered = replies_append page limit left heads (h ∷ []) replies (reply ∷ []) false count stands.answered (is, chosen_false (closes_after page left h) _ _ stays refl);
  room = lit< tt;
}

-- a head's reply, which closes the connection
pub open_closes : (page : Showing) (limit left : ℕ) (bytes : List ℕ) (replies : List (List ℕ)) (rest : List ℕ) (heads : List RequestHead) (piece more : List ℕ) (h : RequestHead) (reply : List ℕ)
    → OpenAfter page limit bytes replies rest heads → left + length heads ≡ limit → IsHead h → rest ++ piece ≡ print_request h
    → IsReply page h (left == 1) reply → closes_after page left h ≡ true
    → ClosedAfter page limit ((bytes ++ piece) ++ more) (replies ++ reply ∷ []) (heads ++ h ∷ []) more
open_closes page limit left bytes replies rest heads piece more h reply stands count head ends is closes = record {
  each = All-push IsHead heads h stands.cut.each head;
  whole = ap (λ s. s ++ more) (head_ends heads bytes rest piece h stands.cut.whole ends);
  answered = replies_append page limit left heads (h ∷ []) replies (reply ∷ []) true count stands.answered (is, chosen_true (closes_after page left h) _ _ closes (refl, refl, refl));
}

-- the rest is refused
pub open_refused : (page : Showing) (limit : ℕ) (bytes : List ℕ) (replies : List (List ℕ)) (rest : List ℕ) (heads : List RequestHead) (piece : List ℕ)
    → OpenAfter page limit bytes replies rest heads → IsRefused false (rest ++ piece)
    → RefusedAfter page limit (bytes ++ piece) (replies ++ refusal ∷ []) (rest ++ piece) heads replies
open_refused page limit bytes replies rest heads piece stands why = record {
  each = stands.cut.each;
  whole = ap (λ s. s ++ piece) stands.cut.whole ∙ append_assoc (print_heads heads) rest piece;
  answers = stands.answered;
  why = why;
  then_refused = refl;
}

-- memory is missing for the reply that is due
pub open_short : (page : Showing) (limit : ℕ) (bytes : List ℕ) (replies : List (List ℕ)) (rest : List ℕ) (heads : List RequestHead) (piece : List ℕ)
    → OpenAfter page limit bytes replies rest heads → IsDue false (rest ++ piece)
    → ShortAfter page limit (bytes ++ piece) (replies ++ no_memory_bytes ∷ []) heads (rest ++ piece) replies
open_short page limit bytes replies rest heads piece stands due = record {
  each = stands.cut.each;
  whole = ap (λ s. s ++ piece) stands.cut.whole ∙ append_assoc (print_heads heads) rest piece;
  answers = stands.answered;
  due = due;
  then_short = refl;
}
