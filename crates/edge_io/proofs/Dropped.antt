-- Files of which those of one path were taken away.
use Rattle.std.proofs.Common.{◌≡◌, ℕ, List, [], ◌∷◌, arith, refl}
use Rattle.std.specs.Prelude.{◌≢◌, Bool, true, false, not, None, filter}
use Rattle.std.specs.Str.{bytes_eq}
use Rattle.std.proofs.lemmas.Slice.Eq.{bytes_eq-Decides}
use Rattle.edge_io.specs.declared.memory.MemFile.{MemFile}
use Rattle.edge_io.specs.Memory.{bytes_at}

abbrev Others : List ℕ → List MemFile → List MemFile
Others path = filter (λ file. not (bytes_eq file.path path))

pub none_left : (files : List MemFile) (path : List ℕ) → bytes_at (Others path files) path ≡ None
none_left [] path = refl
none_left (file ∷ files) path = by (bytes_eq file.path path) refl (none_left files path)
  where
    by : (b : Bool) → bytes_eq file.path path ≡ b → bytes_at (Others path files) path ≡ None → bytes_at (Others path (file ∷ files)) path ≡ None
    by true e rest = rw e rest
    by false e rest = rw (e, e) rest

pub others_stay : (files : List MemFile) (path other : List ℕ) → other ≢ path → bytes_at (Others path files) other ≡ bytes_at files other
others_stay [] path other differ = refl
others_stay (file ∷ files) path other differ = by (bytes_eq file.path path) (bytes_eq file.path other) refl refl (others_stay files path other differ)
  where
    by : (a b : Bool) → bytes_eq file.path path ≡ a → bytes_eq file.path other ≡ b → bytes_at (Others path files) other ≡ bytes_at files other → bytes_at (Others path (file ∷ files)) other ≡ bytes_at (file ∷ files) other
    by true true e f rest = absurd (differ (grind (arith, e, f, bytes_eq-Decides file.path path, bytes_eq-Decides file.path other)))
    by true false e f rest = rw (e, f) rest
    by false true e f rest = rw (e, f) refl
    by false false e f rest = rw (e, f) rest
