-- A run whose log of replies can't be opened.
use Rattle.std.specs.Prelude.{◌≡◌, ◌⊎◌, ℕ, List, Option}
use Rattle.edge_io.specs.Counts.{Rose}
use Rattle.edge_io.specs.Sink.{Gains, GainsPart}
use Rattle.happenings.specs.Happening.{Happening}
use Rattle.happenings.specs.declared.stream.Stream.{Stream}
use Rattle.run_report.specs.Report.{code, line}
use Rattle.run_report.specs.Told.{IsTold}
use Rattle.run_report.specs.declared.status.Status.{Status}
use Rattle.run_report.specs.declared.status.Status.TheVariants.{FileFault, NoMemory}

-- The run ends before anything happens but its line: that of a file that can't be written, the one at the path, or out of
-- memory. The error output had one text and one count of failed puts before, and has others after.
pub record EndsWithoutLog (path : List ℕ) (errors : Stream) (error error_now : Option (List ℕ))
    (failed failed_now : ℕ) (trace : List Happening) (exit : ℕ) : Type 0 where
  pub reached : Status
  pub either : (reached ≡ FileFault path) ⊎ (reached ≡ NoMemory)
  pub its_code : exit ≡ code reached
  pub told : IsTold errors reached trace
  pub whole_line : ¬ Rose failed failed_now → Gains error error_now (line reached)
  pub part_line : GainsPart error error_now (line reached)
