-- The reads of a run: its inputs, one after another, and what they gave.
use Rattle.std.specs.Prelude.{◌≡◌, ◌⊎◌, ℕ, List, [], ◌∷◌, ◌++◌, map, Contains, Option, Some, Result, Ok, Err}
use Rattle.edge_io.specs.Files.{FileMap}
use Rattle.happenings.specs.Happening.{Happening, Read, ReadFailed}
use Rattle.site_inputs.specs.declared.fault.Fault.{Fault}
use Rattle.site_inputs.specs.declared.fault.Fault.TheVariants.{Unread, NoMemory}

-- a file that was read: its path, and the bytes that it gave
pub record Got : Type 0 where
  pub path : List ℕ
  pub bytes : List ℕ

abbrev pub path_of : Got → List ℕ
path_of got = got.path

abbrev pub read_of : Got → Happening
read_of got = Read got.path got.bytes

-- all of these paths were read, in their order and each once, and nothing else was done
pub record ReadsAll (paths : List (List ℕ)) (part : List Happening) : Type 0 where
  pub gots : List Got
  pub paths_are : map path_of gots ≡ paths
  pub part_is : part ≡ map read_of gots

-- Some first of these paths were read, in their order and each once. Of those missed, which came next, the read failed.
pub record ReadsSome (paths missed : List (List ℕ)) (part : List Happening) : Type 0 where
  pub gots : List Got
  pub left : List (List ℕ)
  pub paths_are : map path_of gots ++ (missed ++ left) ≡ paths
  pub part_is : part ≡ map read_of gots ++ map ReadFailed missed

-- What was read of these paths where this is the result: all of them, or some first ones and then nothing more. The read
-- of an unread path failed. One more read may have failed where it was out of memory, and else none.
abbrev pub ReadsTo : {A : Type 0} → List (List ℕ) → List Happening → Result A Fault → Type 0
ReadsTo paths part (Ok value) = ReadsAll paths part
ReadsTo paths part (Err (Unread path)) = ReadsSome paths (path ∷ []) part
ReadsTo paths part (Err NoMemory) =
    ReadsSome paths [] part ⊎ ((path : List ℕ) × ReadsSome paths (path ∷ []) part)
ReadsTo paths part (Err fault) = ReadsSome paths [] part

-- the map has at each path that was read what the read gave
abbrev pub AreOf : FileMap → List Happening → Type 0
AreOf map part = (path bytes : List ℕ) → Contains part (Read path bytes) → map path ≡ Some bytes

-- the files report this map, or it has what the reads gave
abbrev pub IsSeen : Option FileMap → List Happening → FileMap → Type 0
IsSeen contents part map = (contents ≡ Some map) ⊎ AreOf map part

-- The paths were read as the result says, nothing else was done meanwhile, and what they have decides the result: what
-- the files report, or else what the reads gave.
pub record Reads {A : Type 0} (paths : List (List ℕ)) (before now : List Happening)
    (contents : Option FileMap) (result : Result A Fault) (Ends : FileMap → Type 0) : Type 0 where
  pub part : List Happening
  pub added : now ≡ before ++ part
  pub reads : ReadsTo paths part result
  pub ends : (map : FileMap) → IsSeen contents part map → Ends map
