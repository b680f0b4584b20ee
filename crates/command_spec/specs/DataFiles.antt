-- The data files of a command that reads data, and how they are read.
use Rattle.std.specs.Prelude.{ℕ, List, Bool}
use Rattle.command_spec.specs.declared.DataFiles.{DataFiles}

-- data files at these paths, and whether CSV and JSON are read leniently
abbrev pub data_files : (lenient : Bool) (paths : List (List ℕ)) → DataFiles
data_files lenient paths = record { paths = paths; lenient = lenient }
