-- What a read of a record gives, of a reader over bytes in memory.
use Rattle.std.specs.Prelude.{◌≡◌, ℕ, true, false, List, Some, None}
use Rattle.std.specs.Borrow.{Bor}
use Rattle.std.proofs.Common.{◌∙◌, inl}
use Rattle.csv.specs.Reading.{ReadRecord}
use Rattle.csv.specs.declared.reader.Reader.{Reader}
use Rattle.csv_source.specs.Records.{next-of}
use Rattle.csv_source.specs.Reader.{IsOpen, GivesFields}

pub gives_fields : (a b : Reader (Bor (List ℕ))) (fields : List (List ℕ)) → IsOpen a → ReadRecord (λ s. Some s.now) a b true fields → b.first ≡ true → b.flexible ≡ a.flexible → GivesFields a b (Some fields)
gives_fields a b fields q r first flexible =
    let (xs, source) = q.known in
    let (ys, after, gives) = next-of a.config.delimiter (λ (s : Bor (List ℕ)). Some s.now) a b true fields xs q.config q.between source r in (
      rw (r.2, source, after) gives.0,
      record { config = rw r.2 q.config; trim = r.3 ∙ q.trim; flexible = flexible ∙ q.flexible; ready = inl first; between = gives.1; known = (ys, after) },
      rw (source, after) gives.2,
    )

pub gives_none : (a b : Reader (Bor (List ℕ))) (fields : List (List ℕ)) → IsOpen a → ReadRecord (λ s. Some s.now) a b false fields → GivesFields a b None
gives_none a b fields q r =
    let (xs, source) = q.known in
    let (ys, after, gives) = next-of a.config.delimiter (λ (s : Bor (List ℕ)). Some s.now) a b false fields xs q.config q.between source r in
    rw source gives
