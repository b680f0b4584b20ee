use Rattle.std.proofs.Common.{map}
use Rattle.template_reader.specs.Entries.{entry_of}
use Rattle.template_reader.specs.Filed.{Filed}
use Rattle.template_reader.proofs.templates.filed.Given as goal

abbrev pub invariant-loop-entry : goal.invariant-loop-entry
invariant-loop-entry l = Filed l.tables (map entry_of l.yielded)
