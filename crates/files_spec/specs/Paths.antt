-- The paths of a site's files.
use Rattle.std.specs.Prelude.{ℕ, List, ◌++◌, drop, codes}
use Rattle.sd_value.specs.declared.Term.{Term}
use Rattle.page_spec.specs.Show.{address}

-- the name of a page's file: its address without the first slash
abbrev pub file_name : Term → List ℕ
file_name t = drop 1 (address t)

-- the path of a page's file under a folder
abbrev pub page_path : (folder : List ℕ) → Term → List ℕ
page_path folder t = folder ++ codes "/" ++ file_name t

-- the path of `index.html` under a folder
abbrev pub index_path : (folder : List ℕ) → List ℕ
index_path folder = folder ++ codes "/index.html"
