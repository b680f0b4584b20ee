-- The meaning of the forms in memory.
use Rattle.std.specs.Prelude.{ℕ, ◌+◌, ◌-◌, ◌^◌, min, Bool, List, [], ◌∷◌, None, Some, if◌then◌else◌, count_by, Contains}
use Rattle.std.specs.Str.{bytes_eq}
use Rattle.edge_io.specs.declared.memory.MemFile.{MemFile}
use Rattle.edge_io.specs.Files.{FileMap}
use Rattle.happenings.specs.Happening.{Happening}
use Rattle.happenings.specs.declared.stream.Stream.{Stream}

-- the bytes at a path: those of the first file of this path
abbrev pub bytes_at : List MemFile → FileMap
bytes_at [] path = None
bytes_at (file ∷ files) path =
    if bytes_eq file.path path then Some file.bytes else bytes_at files path

-- how often a path is in a list
abbrev pub times : List (List ℕ) → List ℕ → ℕ
times paths path = count_by (λ p. bytes_eq p path) paths

-- files in memory: the newest first, the numbers of the calls that fail, how many calls there were, the paths whose
-- read failed, how often a write failed, whether memory was refused, and what was done since the log was lent
pub record FilesInMemory : Type 0 where
  pub files : List MemFile
  pub failing : List ℕ
  pub calls : ℕ
  pub missed : List (List ℕ)
  pub lost : ℕ
  pub is_short : Bool
  pub trace : List Happening

-- the number of the next call, counted from 1
abbrev pub next_call : FilesInMemory → ℕ
next_call m = min (m.calls + 1) (2 ^ 64 - 1)

-- one count of failed writes serves every path
abbrev pub lost_of : FilesInMemory → List ℕ → ℕ
lost_of m path = m.lost

-- the list names the next call
abbrev pub IsNamed : FilesInMemory → Type 0
IsNamed m = Contains m.failing (next_call m)

-- a sink in memory: its bytes, the numbers of the puts that fail, how many there were and how many failed, and whether
-- memory was refused; which output it is, and what was put since the log was lent
pub record SinkInMemory : Type 0 where
  pub text : List ℕ
  pub failing : List ℕ
  pub calls : ℕ
  pub faults : ℕ
  pub is_short : Bool
  pub stream : Stream
  pub trace : List Happening

abbrev pub next_put : SinkInMemory → ℕ
next_put s = min (s.calls + 1) (2 ^ 64 - 1)

abbrev pub IsSinkNamed : SinkInMemory → Type 0
IsSinkNamed s = Contains s.failing (next_put s)
