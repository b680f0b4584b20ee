-- The bytes of a connection while the data may change, and the requests in them.
use Rattle.std.specs.Prelude.{◌≡◌, ℕ, List, [], ◌∷◌, ◌++◌, map}
use Rattle.httparse.specs.Grammar.{RequestHead, print_request}
use Rattle.http_spec.specs.Heads.{IsHead}

-- a byte of a connection, and the data that were current when it came
pub record Timed (D : Type 0) : Type 0 where
  pub byte : ℕ
  pub current : D

-- bytes that came while these data were current
abbrev pub timed : {D : Type 0} → D → List ℕ → List (Timed D)
timed current bytes = map (λ b. record { byte = b; current = current }) bytes

-- its bytes
abbrev pub bytes_in : {D : Type 0} → List (Timed D) → List ℕ
bytes_in stream = map (λ d. d.byte) stream

-- the head of a request, and the data that were current when its last byte came
pub record Request (D : Type 0) : Type 0 where
  pub head : RequestHead
  pub current : D

-- their heads
abbrev pub heads_of : {D : Type 0} → List (Request D) → List RequestHead
heads_of requests = map (λ r. r.head) requests

-- the stream is the heads of these requests, one after another, and then the rest
abbrev pub IsCutTo : {D : Type 0} → List (Timed D) → List (Request D) → List (Timed D) → Type 0
IsCutTo stream [] rest = stream ≡ rest
IsCutTo stream (request ∷ requests) rest =
    (front : List (Timed _)) × (last : Timed _) × (more : List (Timed _))
    × IsHead request.head × (stream ≡ front ++ last ∷ more)
    × (bytes_in (front ++ last ∷ []) ≡ print_request request.head)
    × (last.current ≡ request.current) × IsCutTo more requests rest
