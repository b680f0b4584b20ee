use Rattle.run_laws.proofs.Order.{reads_first}
use Rattle.run_laws.proofs.a_run_reads_its_files_first.Goals as goal

pub returns : goal.returns
returns c = λ output errors words before after trace exit run. reads_first output errors words before after trace exit run
