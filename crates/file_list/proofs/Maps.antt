-- Paths under a folder, and files put there.
use Rattle.std.proofs.Common.{◌≡◌, ◌≢◌, ◌∙◌, ◌++◌, ℕ, List, false, arith, refl, sym, ap}
use Rattle.std.specs.Prelude.{Contains, Some, codes}
use Rattle.std.proofs.lemmas.Bool.{false≢true}
use Rattle.std.proofs.lemmas.List.{append_cancel_left}
use Rattle.std.proofs.lemmas.Slice.Eq.{bytes_eq-Decides}
use Rattle.edge_io.specs.Files.{FileMap, put_file}
use Rattle.file_list.specs.Lists.{under, list_path, list_name, is_listable}
use Rattle.file_list.specs.Laws.{AreFileNames}

same_path : (path : List ℕ) → path ≡ path
same_path path = refl

pub put_here : (map : FileMap) (path bytes : List ℕ) → put_file map path bytes path ≡ Some bytes
put_here map path bytes = grind (arith, bytes_eq-Decides path path, same_path path)

pub put_other : (map : FileMap) (path bytes other : List ℕ) → other ≢ path → put_file map path bytes other ≡ map other
put_other map path bytes other differs = grind (arith, bytes_eq-Decides path other, differs)

pub same_name : (folder a b : List ℕ) → under folder a ≡ under folder b → a ≡ b
same_name folder a b e = append_cancel_left (folder ++ codes "/") a b e

list_is_none : is_listable list_name ≡ false
list_is_none = refl

-- a file of a site is not the list
pub no_list : (folder : List ℕ) (names : List (List ℕ)) (name path : List ℕ) → AreFileNames names → Contains names name → path ≡ under folder name → path ≢ list_path folder
no_list folder names name path files k is e =
    false≢true (sym list_is_none ∙ ap is_listable (sym (same_name folder name list_name (sym is ∙ e))) ∙ files.listable name k)
