use Rattle.std.proofs.Common.{length}
use Rattle.sd_graph.specs.StatingLaws.{Continues}
use Rattle.bibtex_source.specs.Source.{seen}
use Rattle.bibtex_source.specs.Text.{fields_steps}
use Rattle.bibtex_source.proofs.statements.add_fields.Given as goal

abbrev pub invariant-fields : goal.invariant-fields
invariant-fields l = Continues l.fn.graph (fields_steps (seen l.reading) l.at l.key l.fields) l.graph (fields_steps (seen l.reading) l.at l.key l.left)

abbrev pub decreases-fields : goal.decreases-fields
decreases-fields l = length l.left
