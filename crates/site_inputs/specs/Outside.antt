-- What the outside of a run has at one moment, and which of its counts of faults rose between two moments.
use Rattle.std.specs.Prelude.{◌≡◌, ◌⊎◌, ℕ, List, Contains, Option}
use Rattle.edge_io.specs.Counts.{Rose}
use Rattle.edge_io.specs.Files.{FileMap}
use Rattle.wire.specs.Told.{WireReport}
use Rattle.run_report.specs.declared.status.Status.{Status}
use Rattle.run_report.specs.declared.status.Status.TheVariants as status

-- the files and the output
pub record Host : Type 0 where
  -- the bytes at each path
  pub files : FileMap
  -- how often reads and writes of each path failed
  pub failed_reads : List ℕ → ℕ
  pub failed_writes : List ℕ → ℕ
  -- what was put on the output, where it is reported
  pub output : Option (List ℕ)
  -- how often the output failed
  pub failed_puts : ℕ

-- the files, the output and the wire
pub record Outside : Type 0 where
  pub host : Host
  pub wire : WireReport

-- the files and the output of these parts
abbrev pub host : FileMap → (failed_reads failed_writes : List ℕ → ℕ) → Option (List ℕ) → ℕ → Host
host files failed_reads failed_writes output failed_puts = record {
  files = files;
  failed_reads = failed_reads;
  failed_writes = failed_writes;
  output = output;
  failed_puts = failed_puts;
}

-- the outside of these parts
abbrev pub outside
    : FileMap → (failed_reads failed_writes : List ℕ → ℕ) → Option (List ℕ) → ℕ → WireReport → Outside
outside files failed_reads failed_writes output failed_puts wire = record {
  host = host files failed_reads failed_writes output failed_puts;
  wire = wire;
}

-- the count of failed writes to the output rose
abbrev pub PutsRose : (before after : Host) → Type 0
PutsRose before after = Rose before.failed_puts after.failed_puts

-- the count of failed events and calls of listen rose
abbrev pub EventsRose : (before after : WireReport) → Type 0
EventsRose before after = Rose before.next_faults after.next_faults

-- no read of these paths failed
abbrev pub AllRead : (paths : List (List ℕ)) → (before after : Host) → Type 0
AllRead paths before after =
    (path : List ℕ) → Contains paths path
    → ¬ Rose (before.failed_reads path) (after.failed_reads path)

-- the run has this status, or it was out of memory
abbrev pub HasStatus : (wanted reached : Status) → Type 0
HasStatus wanted reached = (reached ≡ wanted) ⊎ (reached ≡ status.NoMemory)
