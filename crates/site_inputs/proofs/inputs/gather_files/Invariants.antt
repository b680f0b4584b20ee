use Rattle.std.proofs.Common.{◌≡◌, drop}
use Rattle.std.specs.Prelude.{Result, Some}
use Rattle.graph_spec.specs.DataGraph.{DataGraph}
use Rattle.edge_io.specs.Files.{FileMap}
use Rattle.edge_io.specs.Counts.{NoneFell}
use Rattle.site_inputs.specs.Sources.{FilesEnd, empty_building}
use Rattle.site_inputs.specs.declared.fault.Fault.{Fault}
use Rattle.site_inputs.proofs.ReadLemmas.{Gathered}
use Rattle.site_inputs.proofs.inputs.gather_files.Given as goal

-- the end of the files that are left is the end of all
abbrev pub invariant-loop-path : goal.invariant-loop-path
invariant-loop-path g l = record {
  same : g.F.Files.contents l.files ≡ g.F.Files.contents l.initial.files;
  writes : g.F.Files.failed_writes l.files ≡ g.F.Files.failed_writes l.initial.files;
  later : NoneFell (g.F.Files.failed_reads l.initial.files) (g.F.Files.failed_reads l.files);
  rest : (map : FileMap) → g.F.Files.contents l.initial.files ≡ Some map → (result : Result DataGraph Fault)
      → FilesEnd l.rules map l.graph (drop l.path-index l.paths) result → FilesEnd l.rules map empty_building l.paths result;
  gathered : Gathered l.rules l.paths (drop l.path-index l.paths) l.graph (g.F.Files.trace l.initial.files) (g.F.Files.trace l.files) (g.F.Files.contents l.initial.files);
}
