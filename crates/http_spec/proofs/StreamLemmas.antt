-- Streams of timed bytes, and how they are cut into requests.
use Rattle.std.proofs.Common.{◌≡◌, List, [], ◌∷◌, ◌++◌, length, refl, sym, ap, ◌∙◌, subst, arith, append_assoc}
use Rattle.std.specs.Prelude.{All}
use Rattle.std.proofs.lemmas.List.{same_from_push, length-map}
use Rattle.std.proofs.lemmas.List.Elements.{All-cons, All-nil}
use Rattle.httparse.specs.Grammar.{print_request}
use Rattle.httparse.proofs.GrammarLemmas.{request_unique}
use Rattle.http_spec.specs.Heads.{IsHead, HasNoHead, print_heads}
use Rattle.http_spec.specs.Streams.{Timed, Request, bytes_in, heads_of, IsCutTo}

pub bytes-append : {D : Type 0} (a b : List (Timed D)) → bytes_in (a ++ b) ≡ bytes_in a ++ bytes_in b
bytes-append [] b = refl
bytes-append (x ∷ a) b = ap (λ s. x.byte ∷ s) (bytes-append a b)

-- two ways to part a list at one place
pub parted_at : {X : Type 0} (a b c d : List X) → a ++ b ≡ c ++ d → length a ≡ length c → (a ≡ c) × (b ≡ d)
parted_at [] b [] d e same = (refl, e)
parted_at [] b (y ∷ c) d e same = absurd (omega arith)
parted_at (x ∷ a) b [] d e same = absurd (omega arith)
parted_at (x ∷ a) b (y ∷ c) d e same =
    let size : length a ≡ length c = omega arith in
    let more : a ++ b ≡ c ++ d = cc in
    let others = parted_at a b c d more size in
    let first : x ≡ y = cc in
    (λ i. first i ∷ others.0 i, others.1)

-- a stream whose front is a request's head
pub record Begins {D : Type 0} (stream : List (Timed D)) (request : Request D) (more : List (Timed D)) : Type 0 where
  pub front : List (Timed D)
  pub last : Timed D
  pub head : IsHead request.head
  pub whole : stream ≡ front ++ last ∷ more
  pub bytes : bytes_in (front ++ last ∷ []) ≡ print_request request.head
  pub current : last.current ≡ request.current

-- its bytes are those of the head and of what follows
pub begins_bytes : {D : Type 0} (stream : List (Timed D)) (request : Request D) (more : List (Timed D)) → Begins stream request more
    → bytes_in stream ≡ print_request request.head ++ bytes_in more
begins_bytes stream request more b =
    ap bytes_in (b.whole ∙ sym (append_assoc b.front (b.last ∷ []) more))
    ∙ bytes-append (b.front ++ b.last ∷ []) more ∙ ap (λ s. s ++ bytes_in more) b.bytes

-- the first request of a stream
pub begins_once : {D : Type 0} (stream : List (Timed D)) (r q : Request D) (x y : List (Timed D)) → Begins stream r x → Begins stream q y → (r ≡ q) × (x ≡ y)
begins_once stream r q x y a b =
    let same = request_unique (bytes_in stream) r.head q.head (bytes_in x) (bytes_in y)
    (a.head.valid, begins_bytes stream r x a) (b.head.valid, begins_bytes stream q y b) in
    let size : length (a.front ++ a.last ∷ []) ≡ length (b.front ++ b.last ∷ []) =
    sym (length-map (a.front ++ a.last ∷ []) (λ d. d.byte)) ∙ ap length (a.bytes ∙ ap print_request same.0 ∙ sym b.bytes)
    ∙ length-map (b.front ++ b.last ∷ []) (λ d. d.byte) in
    let parts = parted_at (a.front ++ a.last ∷ []) x (b.front ++ b.last ∷ []) y
    (append_assoc a.front (a.last ∷ []) x ∙ sym a.whole ∙ b.whole ∙ sym (append_assoc b.front (b.last ∷ []) y)) size in
    let lasts = (same_from_push a.front b.front a.last b.last parts.0).1 in
    let date = sym a.current ∙ ap (λ d. d.current) lasts ∙ b.current in
    (λ i. record { head = same.0 i; current = date i }, parts.1)

-- a cut with one request or more
pub cut_first : {D : Type 0} (stream : List (Timed D)) (request : Request D) (requests : List (Request D)) (rest : List (Timed D))
    → IsCutTo stream (request ∷ requests) rest → (more : List (Timed D)) × Begins stream request more × IsCutTo more requests rest
cut_first stream request requests rest (front, last, more, head, whole, bytes, current, cut) =
    (more, record { front = front; last = last; head = head; whole = whole; bytes = bytes; current = current }, cut)

-- the cut of a stream is a cut of its bytes
pub cut_bytes : {D : Type 0} (stream : List (Timed D)) (requests : List (Request D)) (rest : List (Timed D)) → IsCutTo stream requests rest
    → All IsHead (heads_of requests) × (bytes_in stream ≡ print_heads (heads_of requests) ++ bytes_in rest)
cut_bytes stream [] rest cut = (All-nil IsHead, ap bytes_in cut)
cut_bytes stream (request ∷ requests) rest cut =
    let first = cut_first stream request requests rest cut in
    let later = cut_bytes first.0 requests rest first.2 in (
      All-cons IsHead request.head (heads_of requests) first.1.head later.0,
      begins_bytes stream request first.0 first.1 ∙ ap (λ s. print_request request.head ++ s) later.1
          ∙ sym (append_assoc (print_request request.head) (print_heads (heads_of requests)) (bytes_in rest)),
    )

-- a stream that begins with a request's head does not stand without one
pub begins_some : {D : Type 0} (stream : List (Timed D)) (request : Request D) (more : List (Timed D)) → Begins stream request more → HasNoHead (bytes_in stream) → ⊥
begins_some stream request more b none =
    none request.head (bytes_in more) (record { head = b.head; whole = begins_bytes stream request more b })

-- a stream is cut in one way
pub cut_once : {D : Type 0} (stream : List (Timed D)) (rs qs : List (Request D)) (x y : List (Timed D)) → IsCutTo stream rs x → IsCutTo stream qs y
    → HasNoHead (bytes_in x) → HasNoHead (bytes_in y) → (rs ≡ qs) × (x ≡ y)
cut_once stream [] [] x y a b none last = (refl, sym a ∙ b)
cut_once stream [] (q ∷ qs) x y a b none last =
    let first = cut_first stream q qs y b in
    absurd (begins_some stream q first.0 first.1 (subst (λ s. HasNoHead (bytes_in s)) (sym a) none))
cut_once stream (r ∷ rs) [] x y a b none last =
    let first = cut_first stream r rs x a in
    absurd (begins_some stream r first.0 first.1 (subst (λ s. HasNoHead (bytes_in s)) (sym b) last))
cut_once stream (r ∷ rs) (q ∷ qs) x y a b none last =
    let first = cut_first stream r rs x a in
    let second = cut_first stream q qs y b in
    let same = begins_once stream r q first.0 second.0 first.1 second.1 in
    let others = cut_once first.0 rs qs x y first.2 (subst (λ s. IsCutTo s qs y) (sym same.1) second.2) none last in
    (λ i. same.0 i ∷ others.0 i, others.1)

-- bytes that come later stand in the rest
pub cut_later : {D : Type 0} (stream more rest : List (Timed D)) (requests : List (Request D)) → IsCutTo stream requests rest → IsCutTo (stream ++ more) requests (rest ++ more)
cut_later stream more rest [] first = ap (λ s. s ++ more) first
cut_later stream more rest (request ∷ requests) (front, last, tail, head, whole, bytes, current, cut) = (
  front,
  last,
  tail ++ more,
  head,
  ap (λ s. s ++ more) whole ∙ append_assoc front (last ∷ tail) more,
  bytes,
  current,
  cut_later tail more rest requests cut,
)
