-- What the system's files and output show: how many calls have failed. One count serves every path.
use Rattle.std.specs.Prelude.{ℕ}
use Rattle.edge_io.specs.declared.real.RealFiles.{RealFiles}
use Rattle.edge_io.specs.declared.real.RealOut.{RealOut}

-- how many reads have failed
abbrev pub failed_reads_of : {R : Type 0} → RealFiles R → ℕ
failed_reads_of files = files.unread

-- how many writes have failed
abbrev pub failed_writes_of : {R : Type 0} → RealFiles R → ℕ
failed_writes_of files = files.unwritten

-- how many puts have failed
abbrev pub failed_puts_of : {P : Type 0} → RealOut P → ℕ
failed_puts_of out = out.faults
