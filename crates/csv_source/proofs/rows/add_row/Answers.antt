use Rattle.std.proofs.Common.{sym}
use Rattle.csv_source.specs.Text.{row_steps}
use Rattle.csv_source.specs.declared.refusal.CsvRefusal.TheVariants.{Ragged, NotUtf8}
use Rattle.csv_source.proofs.Steps.{fault_first, ragged, no_texts, stated_row}
use Rattle.csv_source.proofs.rows.add_row.Goals as goal

pub returns-then-not-fits : goal.returns-then-not-fits
returns-then-not-fits c =
    fault_first c.args.graph.now (row_steps c.args.rules c.args.stem.now c.args.labels.now c.args.row c.args.fields.now) (Ragged c.args.row)
    (ragged c.args.rules c.args.stem.now c.args.labels.now c.args.row c.args.fields.now (sym c.if-not-fits.ensures))

pub returns-then-not-are_texts : goal.returns-then-not-are_texts
returns-then-not-are_texts c =
    fault_first c.args.graph.now (row_steps c.args.rules c.args.stem.now c.args.labels.now c.args.row c.args.fields.now) (NotUtf8 c.args.row)
    (no_texts c.args.rules c.args.stem.now c.args.labels.now c.args.row c.args.fields.now (sym c.if-not-fits.ensures) (sym c.if-not-are_texts.ensures))

pub returns : goal.returns
returns c =
    rw (stated_row c.args.rules c.args.stem.now c.args.labels.now c.args.row c.args.fields.now (sym c.if-not-fits.ensures) (sym c.if-not-are_texts.ensures), ← c.in_ok-name.ensures)
    c.state_row.ensures
