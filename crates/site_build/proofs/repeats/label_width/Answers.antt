use Rattle.site_build.proofs.RowReads.{asks_label}
use Rattle.site_build.proofs.repeats.label_width.Goals as goal

pub returns-in-Quoted : goal.returns-in-Quoted
returns-in-Quoted c = rw c.in-Quoted.is (λ row other same l h. h)

pub returns-in-Variable : goal.returns-in-Variable
returns-in-Variable c = rw c.in-Variable.is (asks_label c.args.variables.now _ c.in-Variable.name c.name_width.ensures.reads)
