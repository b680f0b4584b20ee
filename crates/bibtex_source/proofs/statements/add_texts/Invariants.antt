use Rattle.std.proofs.Common.{length}
use Rattle.sd_graph.specs.StatingLaws.{Continues}
use Rattle.bibtex_source.specs.Text.{texts_steps}
use Rattle.bibtex_source.proofs.statements.add_texts.Given as goal

abbrev pub invariant-texts : goal.invariant-texts
invariant-texts l = Continues l.fn.graph (texts_steps l.at l.key l.label l.texts) l.graph (texts_steps l.at l.key l.label l.left)

abbrev pub decreases-texts : goal.decreases-texts
decreases-texts l = length l.left
