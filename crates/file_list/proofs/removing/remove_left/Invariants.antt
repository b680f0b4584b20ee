use Rattle.std.proofs.Common.{◌≡◌, take}
use Rattle.std.specs.Prelude.{Some}
use Rattle.std.specs.List.{All}
use Rattle.std.specs.Option.{IsSomeAnd}
use Rattle.edge_io.specs.Files.{FileMap}
use Rattle.edge_io.specs.Counts.{NoneFell}
use Rattle.files_spec.specs.Writes.{Adds}
use Rattle.file_list.specs.Lists.{IsLeft}
use Rattle.file_list.specs.Calls.{IsRemoval, IsClean}
use Rattle.file_list.proofs.removing.remove_left.Given as goal

abbrev pub invariant-loop-name : goal.invariant-loop-name
invariant-loop-name g l = record {
  reads : g.F.Files.failed_reads l.files ≡ g.F.Files.failed_reads l.initial.files;
  later : NoneFell (g.F.Files.failed_writes l.initial.files) (g.F.Files.failed_writes l.files);
  cleans : (before : FileMap) → g.F.Files.contents l.initial.files ≡ Some before
      → IsSomeAnd (g.F.Files.contents l.files) (λ now. IsClean (IsLeft l.folder (take l.name-index l.old) l.new) before now l.all);
  added : Adds (g.F.Files.trace l.initial.files) (g.F.Files.trace l.files) (All (IsRemoval (IsLeft l.folder (take l.name-index l.old) l.new)));
}
