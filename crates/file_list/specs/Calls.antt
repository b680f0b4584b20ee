-- How reading and writing a list and removing files end.
use Rattle.std.specs.Prelude.{◌≡◌, ◌≢◌, ◌⊎◌, ℕ, Bool, true, false, List, [], ◌∷◌, ◌++◌, Option, None, Result, Ok, Err, ⊤}
use Rattle.std.specs.List.{All}
use Rattle.std.specs.Option.{ForSome}
use Rattle.happenings.specs.Happening.{Happening, Read, ReadFailed, WriteFailed, Removed, RemoveFailed}
use Rattle.edge_io.specs.Files.{FileMap, put_file, ChangesOnly, IsStartOf}
use Rattle.files_spec.specs.declared.stop.Stop.{Stop}
use Rattle.files_spec.specs.declared.stop.Stop.TheVariants.{Faulty, Unwritten, NoMemory}
use Rattle.files_spec.specs.Writes.{Adds, IsPut}
use Rattle.edge_io.specs.declared.answers.ReadEnd.{ReadEnd}
use Rattle.edge_io.specs.declared.answers.ReadEnd.TheVariants as read
use Rattle.file_list.specs.Lists.{most}

-- nothing was read, or the list was, or that failed
abbrev pub ListReads
    : {A : Type 0} → Option FileMap → (path : List ℕ) → (before now : List Happening)
    → Result A ReadEnd → Type 0
ListReads contents path before now (Ok names) =
    ((now ≡ before) × ForSome contents (λ map. map path ≡ None))
    ⊎ ((bytes : List ℕ) × (now ≡ before ++ Read path bytes ∷ [])
    × ForSome contents (λ map. IsStartOf (map path) most bytes))
ListReads contents path before now (Err read.Failed) = now ≡ before ++ ReadFailed path ∷ []
ListReads contents path before now (Err read.NoMemory) =
    (now ≡ before) ⊎ (now ≡ before ++ ReadFailed path ∷ [])
    ⊎ ((bytes : List ℕ) × (now ≡ before ++ Read path bytes ∷ []))

-- the list was written so, or that failed, or nothing was done
abbrev pub ListPutAdds
    : (path text : List ℕ) → (before now : List Happening) → Result ⊤ Stop → Type 0
ListPutAdds path text before now (Ok u) =
    (h : Happening) × IsPut path text h × (now ≡ before ++ h ∷ [])
ListPutAdds path text before now (Err (Unwritten missed)) =
    (missed ≡ path) × (now ≡ before ++ WriteFailed path ∷ [])
ListPutAdds path text before now (Err (Faulty term kind)) = ⊥
ListPutAdds path text before now (Err NoMemory) = now ≡ before

-- the same of the files
abbrev pub ListPut : (path text : List ℕ) → (old new : FileMap) → Result ⊤ Stop → Type 0
ListPut path text old new (Ok u) = new ≡ put_file old path text
ListPut path text old new (Err (Unwritten missed)) = (missed ≡ path) × ChangesOnly old new path
ListPut path text old new (Err (Faulty term kind)) = ⊥
ListPut path text old new (Err NoMemory) = new ≡ old

-- ---- one file

-- the file was removed, or nothing was done, or the removal failed
abbrev pub RemovalAdds
    : (path : List ℕ) → (before now : List Happening) → Result Bool Stop → Type 0
RemovalAdds path before now (Ok gone) =
    (now ≡ before) ⊎ ((gone ≡ true) × (now ≡ before ++ Removed path ∷ []))
RemovalAdds path before now (Err (Unwritten missed)) =
    (missed ≡ path) × (now ≡ before ++ RemoveFailed path ∷ [])
RemovalAdds path before now (Err (Faulty term kind)) = ⊥
RemovalAdds path before now (Err NoMemory) = now ≡ before

-- the same of the files: it is gone, or stays since a link leads to it
abbrev pub FileRemoved : (path : List ℕ) → (old new : FileMap) → Result Bool Stop → Type 0
FileRemoved path old new (Ok true) = (new path ≡ None) × ChangesOnly old new path
FileRemoved path old new (Ok false) = new ≡ old
FileRemoved path old new (Err (Unwritten missed)) = (missed ≡ path) × ChangesOnly old new path
FileRemoved path old new (Err (Faulty term kind)) = ⊥
FileRemoved path old new (Err NoMemory) = new ≡ old

-- ---- the files of paths that are left over

module _ (IsOver : List ℕ → Type 0) where
  -- the removal of such a file
  abbrev pub IsRemoval : Happening → Type 0
  IsRemoval h = (path : List ℕ) × IsOver path × (h ≡ Removed path)

  -- files of such paths were removed, and then the removal of that path failed
  pub record RemovalsStop (path : List ℕ) (part : List Happening) : Type 0 where
    pub done : List Happening
    pub removals : All IsRemoval done
    pub is_over : IsOver path
    pub part_is : part ≡ done ++ RemoveFailed path ∷ []

  -- what was added where removing them ended so
  abbrev pub RemovalsAdd : (before now : List Happening) → Result Bool Stop → Type 0
  RemovalsAdd before now (Ok all) = Adds before now (All IsRemoval)
  RemovalsAdd before now (Err (Unwritten path)) = Adds before now (RemovalsStop path)
  RemovalsAdd before now (Err (Faulty term kind)) = ⊥
  RemovalsAdd before now (Err NoMemory) = Adds before now (All IsRemoval)

  -- the path is as it was, or it is one of those and nothing is there
  abbrev pub StaysOrGoes : (before now : FileMap) → (path : List ℕ) → Type 0
  StaysOrGoes before now path =
      (now path ≡ before path) ⊎ (IsOver path × (now path ≡ None))

  -- Each path is as it was or gone; where all went, nothing is at any of those.
  pub record IsClean (before now : FileMap) (all : Bool) : Type 0 where
    pub each : (path : List ℕ) → StaysOrGoes before now path
    pub gone : all ≡ true → (path : List ℕ) → IsOver path → now path ≡ None

  -- How removing them ends. At a path that can't be removed it stops, and that path holds anything.
  abbrev pub CleanEnds : (before now : FileMap) → Result Bool Stop → Type 0
  CleanEnds before now (Ok all) = IsClean before now all
  CleanEnds before now (Err (Unwritten missed)) =
      IsOver missed × ((path : List ℕ) → path ≢ missed → StaysOrGoes before now path)
  CleanEnds before now (Err (Faulty term kind)) = ⊥
  CleanEnds before now (Err NoMemory) = (path : List ℕ) → StaysOrGoes before now path
