use Rattle.std.proofs.Common.{sym, subst}
use Rattle.sd_graph.specs.Stating.{Ends}
use Rattle.bibtex_source.specs.Source.{seen}
use Rattle.bibtex_source.specs.Text.{bib_ending, entry_steps, item_steps}
use Rattle.bibtex_source.proofs.items.add_item.Goals as goal

pub returns-in-Enters-clause-states : goal.returns-in-Enters-clause-states
returns-in-Enters-clause-states c =
    let s = seen c.args.reading.now in
    subst (λ item. Ends c.args.graph.now (item_steps s c.args.stem.now c.args.whole item) c.add_entry.new.graph (bib_ending c.add_entry.result)) (sym c.in-Enters.is)
    (subst (λ at. Ends c.args.graph.now (entry_steps s c.args.stem.now at c.in-Enters.entry) c.add_entry.new.graph (bib_ending c.add_entry.result)) c.saturating_sub-at.ensures c.add_entry.ensures)
