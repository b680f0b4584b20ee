-- What comes first in a run.
use Rattle.std.specs.Prelude.{◌≡◌, ◌≤◌, ℕ, List, ◌∷◌, ◌++◌, length, All, Option, Some, ⊤}
use Rattle.happenings.specs.Happening.{Happening, Read, ReadFailed, Put, Listened}
use Rattle.happenings.specs.declared.stream.Stream.{Stream}
use Rattle.command_spec.specs.declared.Command.{Command}
use Rattle.command_spec.specs.declared.Command.TheVariants.{Serve}
use Rattle.site_inputs.specs.Reads.{ReadsSome}
use Rattle.command_serve.specs.Ends.{serving_text}

-- it is no read of a file
abbrev pub IsNoRead : Happening → Type 0
IsNoRead (Read path bytes) = ⊥
IsNoRead (ReadFailed path) = ⊥
IsNoRead happening = ⊤

-- Some first of these paths were read, in their order and each once, and then perhaps the read of the next one failed. All of
-- that came before anything else, and no file was read later.
pub record ReadsFirst (paths : List (List ℕ)) (trace : List Happening) : Type 0 where
  pub missed : List (List ℕ)
  pub reads : List Happening
  pub others : List Happening
  pub trace_is : trace ≡ reads ++ others
  pub first : ReadsSome paths missed reads
  pub at_most_one : length missed ≤ 1
  pub none_later : All IsNoRead others

-- the command is a `serve` for which the wire was let listen, and then the line that reports the port was put
abbrev pub HasListened : (out : Stream) → Option Command → List Happening → Type 0
HasListened out (Some (Serve c)) front =
    (first between : List Happening)
    × (front ≡ first ++ Listened c.options.port c.options.connections
    ∷ Put out (serving_text c.options.port) ∷ between)
HasListened out given front = ⊥
