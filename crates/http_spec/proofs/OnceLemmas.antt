-- A connection has one answer, however its bytes were cut into pieces.
use Rattle.std.proofs.Common.{◌≡◌, ℕ, ◌-◌, ◌<◌, ◌≤◌, Bool, true, false, List, [], ◌∷◌, ◌++◌, length, refl, sym, ap, ◌∙◌, subst, arith, ◌⊎◌, inl, inr}
use Rattle.std.specs.Prelude.{MatchBool}
use Rattle.std.proofs.lemmas.List.{append-nil}
use Rattle.httparse.specs.Grammar.{RequestHead}
use Rattle.page_spec.specs.declared.Outcome.{Outcome}
use Rattle.http_spec.specs.declared.RequestKind.{RequestKind}
use Rattle.http_spec.specs.declared.RequestKind.TheVariants.{Get, Head, BadRequest, Misdirected, WrongMethod}
use Rattle.http_spec.specs.declared.Standing.TheVariants.{Open, Closed}
use Rattle.http_spec.specs.Asks.{ask_of}
use Rattle.http_spec.specs.Heads.{max_head, HasNoHead, CannotBecomeHead, AreLineEnds}
use Rattle.http_spec.specs.Replies.{response, status, content_type, allow_line, reply_body}
use Rattle.http_spec.specs.Sessions.{Showing, HasOneOutcome, IsLookedUp, IsReply, closes_after, refusal, HasReplies, Session, Ends, AnswersStream}
use Rattle.http_spec.specs.Streams.{Timed, Request, bytes_in, IsCutTo}
use Rattle.http_spec.proofs.StreamLemmas.{cut_first, begins_once, begins_some, cut_once}

-- a choice whose two forms agree
choose : (b : Bool) (X Y A C R : Type 0) → MatchBool b X A → MatchBool b Y C → (X → Y → R) → (A → C → R) → R
choose true X Y A C R x y f g = f x y
choose false X Y A C R a c f g = g a c

-- the same head gets the same reply
shown_once : (page : Showing) (kind : RequestKind) (target : List ℕ) (o p : Outcome) (no_body close : Bool) → HasOneOutcome page
    → IsLookedUp page kind target o → IsLookedUp page kind target p
    → response (status kind o) (content_type kind o) (allow_line kind) (reply_body kind o) no_body close
    ≡ response (status kind p) (content_type kind p) (allow_line kind) (reply_body kind p) no_body close
shown_once page Get target o p no_body close once x y =
    ap (λ q. response (status Get q) (content_type Get q) (allow_line Get) (reply_body Get q) no_body close) (once target o p x y)
shown_once page Head target o p no_body close once x y =
    ap (λ q. response (status Head q) (content_type Head q) (allow_line Head) (reply_body Head q) no_body close) (once target o p x y)
shown_once page BadRequest target o p no_body close once x y = refl
shown_once page Misdirected target o p no_body close once x y = refl
shown_once page WrongMethod target o p no_body close once x y = refl

reply_once : (page : Showing) (h : RequestHead) (last : Bool) (a b : List ℕ) → HasOneOutcome page → IsReply page h last a → IsReply page h last b → a ≡ b
reply_once page h last a b once x y =
    x.2 ∙ shown_once page (ask_of page.hosts h).kind h.target x.0 y.0 (ask_of page.hosts h).no_body _ once x.1 y.1 ∙ sym y.2

abbrev Once : {D : Type 0} → (D → Showing) → Type 0
Once page = (d : _) → HasOneOutcome (page d)

-- two lists of replies to the requests of one stream, the last of which closes
both_closed : {D : Type 0} (page : D → Showing) (left : ℕ) (stream : List (Timed D)) (rs qs : List (Request D)) (x y : List (Timed D)) (a b : List (List ℕ))
    → Once page → IsCutTo stream rs x → IsCutTo stream qs y → HasReplies page left rs a true → HasReplies page left qs b true → a ≡ b
both_closed page left stream [] qs x y [] b once c d s t = cc
both_closed page left stream [] qs x y (r ∷ a) b once c d s t = absurd s
both_closed page left stream (r ∷ rs) qs x y [] b once c d s t = absurd s
both_closed page left stream (r ∷ rs) [] x y (_ ∷ a) [] once c d s t = cc
both_closed page left stream (r ∷ rs) [] x y (_ ∷ a) (_ ∷ b) once c d s t = absurd t
both_closed page left stream (r ∷ rs) (q ∷ qs) x y (_ ∷ a) [] once c d s t = absurd t
both_closed page left stream (r ∷ rs) (q ∷ qs) x y (u ∷ a) (v ∷ b) once c d s t =
    let first = cut_first stream r rs x c in
    let second = cut_first stream q qs y d in
    let same = begins_once stream r q first.0 second.0 first.1 second.1 in
    let At : Request _ → Type 0 = λ k. HasReplies page left (k ∷ qs) (v ∷ b) true in
    let other = subst At (sym same.0) t in
    let head = reply_once (page r.current) r.head _ u v (once r.current) s.0 other.0 in
    let tail : a ≡ b = choose (closes_after (page r.current) left r.head) _ _ _ _ _ s.1 other.1 (λ i j. i.1 ∙ sym j.1)
    (λ i j. both_closed page (left - 1) first.0 rs qs x y a b once first.2 (subst (λ s. IsCutTo s qs y) (sym same.1) second.2) i j) in
    λ i. head i ∷ tail i

-- where one list closes, no other goes on to a rest without a head
closed_not_open : {D : Type 0} (page : D → Showing) (left : ℕ) (stream : List (Timed D)) (rs qs : List (Request D)) (x y : List (Timed D)) (a b : List (List ℕ))
    → IsCutTo stream rs x → IsCutTo stream qs y → HasNoHead (bytes_in y) → HasReplies page left rs a true → HasReplies page left qs b false → ⊥
closed_not_open page left stream [] qs x y [] b c d none s t = cc
closed_not_open page left stream [] qs x y (_ ∷ a) b c d none s t = s
closed_not_open page left stream (r ∷ rs) qs x y [] b c d none s t = s
closed_not_open page left stream (r ∷ rs) [] x y (_ ∷ a) b c d none s t =
    let first = cut_first stream r rs x c in
    begins_some stream r first.0 first.1 (subst (λ z. HasNoHead (bytes_in z)) (sym d) none)
closed_not_open page left stream (r ∷ rs) (q ∷ qs) x y (_ ∷ a) [] c d none s t = t
closed_not_open page left stream (r ∷ rs) (q ∷ qs) x y (u ∷ a) (v ∷ b) c d none s t =
    let first = cut_first stream r rs x c in
    let second = cut_first stream q qs y d in
    let same = begins_once stream r q first.0 second.0 first.1 second.1 in
    let At : Request _ → Type 0 = λ k. HasReplies page left (k ∷ qs) (v ∷ b) false in
    let other = subst At (sym same.0) t in
    choose (closes_after (page r.current) left r.head) _ _ _ _ _ s.1 other.1 (λ i j. cc)
    (λ i j. closed_not_open page (left - 1) first.0 rs qs x y a b first.2 (subst (λ s. IsCutTo s qs y) (sym same.1) second.2) none i j)

-- the replies to one list of requests, none of which closes
open_once : {D : Type 0} (page : D → Showing) (left : ℕ) (rs : List (Request D)) (a b : List (List ℕ))
    → Once page → HasReplies page left rs a false → HasReplies page left rs b false → a ≡ b
open_once page left [] [] [] once s t = refl
open_once page left [] [] (_ ∷ b) once s t = absurd t
open_once page left [] (_ ∷ a) b once s t = absurd s
open_once page left (r ∷ rs) [] b once s t = absurd s
open_once page left (r ∷ rs) (_ ∷ a) [] once s t = absurd t
open_once page left (r ∷ rs) (u ∷ a) (v ∷ b) once s t =
    let head = reply_once (page r.current) r.head _ u v (once r.current) s.0 t.0 in
    let tail : a ≡ b = choose (closes_after (page r.current) left r.head) _ _ _ _ _ s.1 t.1 (λ i j. i.1 ∙ sym j.1) (λ i j. open_once page (left - 1) rs a b once i j) in
    λ i. head i ∷ tail i

-- a session that nothing closed, and what was sent at its end
record IsTail {D : Type 0} (page : D → Showing) (limit : ℕ) (stream : List (Timed D)) (sent : List (List ℕ)) : Type 0 where
  requests : List (Request D)
  rest : List (Timed D)
  answered : List (List ℕ)
  session : Session page limit stream requests rest answered false
  none : HasNoHead (bytes_in rest)
  how : (((max_head ≤ length (bytes_in rest)) ⊎ ¬ (AreLineEnds (bytes_in rest))) × (sent ≡ answered ++ refusal ∷ []))
      ⊎ ((length (bytes_in rest) < max_head) × AreLineEnds (bytes_in rest) × (sent ≡ answered))

how_once : (rest : List ℕ) (a b p q : List (List ℕ)) → p ≡ q
    → (((max_head ≤ length rest) ⊎ ¬ (AreLineEnds rest)) × (a ≡ p ++ refusal ∷ [])) ⊎ ((length rest < max_head) × AreLineEnds rest × (a ≡ p))
    → (((max_head ≤ length rest) ⊎ ¬ (AreLineEnds rest)) × (b ≡ q ++ refusal ∷ [])) ⊎ ((length rest < max_head) × AreLineEnds rest × (b ≡ q))
    → a ≡ b
how_once rest a b p q e (inl x) (inl y) = x.1 ∙ ap (λ s. s ++ refusal ∷ []) e ∙ sym y.1
how_once rest a b p q e (inr x) (inr y) = x.2 ∙ e ∙ sym y.2
how_once rest a b p q e (inl (inl full, is)) (inr y) = let room = y.0 in absurd (omega arith)
how_once rest a b p q e (inl (inr within, is)) (inr y) = absurd (within y.1)
how_once rest a b p q e (inr x) (inl (inl full, is)) = let room = x.0 in absurd (omega arith)
how_once rest a b p q e (inr x) (inl (inr within, is)) = absurd (within x.1)

tail_once : {D : Type 0} (page : D → Showing) (limit : ℕ) (stream : List (Timed D)) (a b : List (List ℕ)) → Once page
    → IsTail page limit stream a → IsTail page limit stream b → a ≡ b
tail_once page limit stream a b once x y =
    let same = cut_once stream y.requests x.requests y.rest x.rest y.session.cut x.session.cut y.none x.none in
    let Requests : List (Request _) → Type 0 = λ rs. HasReplies page limit rs y.answered false in
    let replies = open_once page limit x.requests x.answered y.answered once x.session.answered (subst Requests same.0 y.session.answered) in
    let How : List (Timed _) → Type 0 = λ r. (((max_head ≤ length (bytes_in r)) ⊎ ¬ (AreLineEnds (bytes_in r))) × (b ≡ y.answered ++ refusal ∷ []))
    ⊎ ((length (bytes_in r) < max_head) × AreLineEnds (bytes_in r) × (b ≡ y.answered)) in
    how_once (bytes_in x.rest) a b x.answered y.answered replies x.how (subst How same.1 y.how)

-- a session that a reply has closed
record IsOver {D : Type 0} (page : D → Showing) (limit : ℕ) (stream : List (Timed D)) (sent : List (List ℕ)) : Type 0 where
  requests : List (Request D)
  rest : List (Timed D)
  session : Session page limit stream requests rest sent true

abbrev Normal : {D : Type 0} → (D → Showing) → ℕ → List (Timed D) → List (List ℕ) → Type 0
Normal page limit stream sent = IsOver page limit stream sent ⊎ IsTail page limit stream sent

refused_how : (ended : Bool) (rest : List ℕ) → (max_head ≤ length rest) ⊎ CannotBecomeHead rest ⊎ ((ended ≡ true) × ¬ (AreLineEnds rest))
    → (max_head ≤ length rest) ⊎ ¬ (AreLineEnds rest)
refused_how ended rest (inl full) = inl full
refused_how ended rest (inr (inl doomed)) = inr (λ ends. doomed.no_line_ends [] (subst AreLineEnds (sym (append-nil rest)) ends))
refused_how ended rest (inr (inr within)) = inr within.1

normal_of : {D : Type 0} (page : D → Showing) (limit : ℕ) (stream : List (Timed D)) (sent : List (List ℕ))
    → AnswersStream page limit stream true Closed sent → Normal page limit stream sent
normal_of {D} page limit stream sent a = by_end a.closed a.session a.ends
  where
    by_end : (closed : Bool) → Session page limit stream a.requests a.rest a.answered closed → Ends true Closed (bytes_in a.rest) closed a.last → Normal page limit stream sent
    by_end closed session (inl (over, nothing)) =
        inl (record {
          requests = a.requests;
          rest = a.rest;
          session = subst (λ s. Session page limit stream a.requests a.rest s true) (sym (a.whole ∙ ap (λ s. a.answered ++ s) nothing ∙ append-nil a.answered))
              (subst (λ c. Session page limit stream a.requests a.rest a.answered c) over session);
        })
    by_end closed session (inr (inl (goes, refused, one))) =
        inr (record {
          requests = a.requests;
          rest = a.rest;
          answered = a.answered;
          session = subst (λ c. Session page limit stream a.requests a.rest a.answered c) goes session;
          none = refused.0;
          how = inl (refused_how true (bytes_in a.rest) refused.1, a.whole ∙ ap (λ s. a.answered ++ s) one);
        })
    by_end closed session (inr (inr (goes, end, waits, clean, nothing))) =
        inr (record {
          requests = a.requests;
          rest = a.rest;
          answered = a.answered;
          session = subst (λ c. Session page limit stream a.requests a.rest a.answered c) goes session;
          none = waits.0;
          how = inr (waits.1, clean, a.whole ∙ ap (λ s. a.answered ++ s) nothing ∙ append-nil a.answered);
        })

-- at the end of its input a connection has one answer
pub answers_once : {D : Type 0} (page : D → Showing) → Once page → (limit : ℕ) (stream : List (Timed D)) (a b : List (List ℕ))
    → AnswersStream page limit stream true Closed a → AnswersStream page limit stream true Closed b → a ≡ b
answers_once page once limit stream a b x y = by_cases (normal_of page limit stream a x) (normal_of page limit stream b y)
  where
    by_cases : Normal page limit stream a → Normal page limit stream b → a ≡ b
    by_cases (inl c) (inl d) = both_closed page limit stream c.requests d.requests c.rest d.rest a b once c.session.cut d.session.cut c.session.answered d.session.answered
    by_cases (inl c) (inr t) = absurd (closed_not_open page limit stream c.requests t.requests c.rest t.rest a t.answered c.session.cut t.session.cut t.none c.session.answered t.session.answered)
    by_cases (inr t) (inl c) = absurd (closed_not_open page limit stream c.requests t.requests c.rest t.rest b t.answered c.session.cut t.session.cut t.none c.session.answered t.session.answered)
    by_cases (inr s) (inr t) = tail_once page limit stream a b once s t

-- an open connection has one too
pub open_answers_once : {D : Type 0} (page : D → Showing) → Once page → (limit : ℕ) (stream : List (Timed D)) (a b : List (List ℕ))
    → AnswersStream page limit stream false Open a → AnswersStream page limit stream false Open b → a ≡ b
open_answers_once page once limit stream a b x y =
    let same = cut_once stream y.requests x.requests y.rest x.rest y.session.cut x.session.cut y.ends.2.0 x.ends.2.0 in
    let Requests : List (Request _) → Type 0 = λ rs. HasReplies page limit rs y.answered false in
    let first = subst (λ c. HasReplies page limit x.requests x.answered c) x.ends.1 x.session.answered in
    let second = subst (λ c. HasReplies page limit y.requests y.answered c) y.ends.1 y.session.answered in
    let replies = open_once page limit x.requests x.answered y.answered once first (subst Requests same.0 second) in
    x.whole ∙ ap (λ s. x.answered ++ s) x.ends.3 ∙ append-nil x.answered ∙ replies ∙ sym (append-nil y.answered) ∙ ap (λ s. y.answered ++ s) (sym y.ends.3) ∙ sym y.whole
