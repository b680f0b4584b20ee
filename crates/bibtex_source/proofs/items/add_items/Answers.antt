use Rattle.std.proofs.Common.{sym, ◌∙◌, arith}
use Rattle.std.proofs.lemmas.Result.{err_from_is_err_and}
use Rattle.bibtex_source.specs.Source.{seen}
use Rattle.bibtex_source.specs.Text.{items_steps}
use Rattle.bibtex_source.proofs.Steps.{some_bytes, no_bytes, reached_end, item_stops, item_reached, item_refused}
use Rattle.bibtex_source.proofs.items.add_items.Goals as goal

pub returns-then-is_empty : goal.returns-then-is_empty
returns-then-is_empty c =
    reached_end (seen c.args.reading.now) c.args.stem.now _ c.args.graph.now (items_steps (seen c.args.reading.now) c.args.stem.now c.args.macros c.args.bytes.now) c.items.graph c.items.macros c.items.rest.now
    (sym c.behind_junk-marked.ensures.is ∙ no_bytes c.behind_junk-marked.result.now (sym c.is_empty.ensures ∙ c.if-is_empty.true)) c.items.invariant.0

pub returns-in_err-item : goal.returns-in_err-item
returns-in_err-item c =
    let p = err_from_is_err_and c.from_residual.result c.from_residual.ensures.1 in
    let some = some_bytes c.behind_junk-marked.result.now (sym c.is_empty.ensures ∙ c.if-is_empty.false) in
    rw (p.1, p.2)
    (item_stops (seen c.args.reading.now) c.args.stem.now _ c.args.graph.now (items_steps (seen c.args.reading.now) c.args.stem.now c.args.macros c.args.bytes.now) c.items.graph c.items.macros c.items.rest.now c.behind_junk-marked.result.now
    c.behind_junk-marked.ensures.is c.behind_junk-marked.ensures.shorter some.0 some.1 c.in_err-item.field-0.0 some.2 c.in_err-item.ensures.fault c.items.invariant.0)

pub returns-in_err-add_item : goal.returns-in_err-add_item
returns-in_err-add_item c =
    let p = err_from_is_err_and c.from_residual-in_err-add_item.result c.from_residual-in_err-add_item.ensures.1 in
    let some = some_bytes c.behind_junk-marked.result.now (sym c.is_empty.ensures ∙ c.if-is_empty.false) in
    rw (p.1, p.2)
    (item_refused (seen c.args.reading.now) c.args.stem.now _ c.args.graph.now (items_steps (seen c.args.reading.now) c.args.stem.now c.args.macros c.args.bytes.now) c.items.graph c.items.macros c.items.rest.now c.behind_junk-marked.result.now
    c.behind_junk-marked.ensures.is c.behind_junk-marked.ensures.shorter some.0 some.1 some.2 c.in_ok-item.item c.in_ok-item.after.now c.in_ok-item.ensures.item c.in_ok-item.ensures.shorter
    c.add_item.new.graph c.in_err-add_item.field-0.0 c.in_err-add_item.ensures.states c.items.invariant.0)

pub items-preserved : goal.items-preserved
items-preserved c =
    let some = some_bytes c.behind_junk-marked.result.now (sym c.is_empty.ensures ∙ c.if-is_empty.false) in (
      item_reached (seen c.args.reading.now) c.args.stem.now _ c.args.graph.now (items_steps (seen c.args.reading.now) c.args.stem.now c.args.macros c.args.bytes.now) c.items.graph c.items.macros c.items.rest.now c.behind_junk-marked.result.now
          c.behind_junk-marked.ensures.is c.behind_junk-marked.ensures.shorter some.0 some.1 some.2 c.in_ok-item.item c.in_ok-item.after.now c.in_ok-item.ensures.item c.in_ok-item.ensures.shorter
          c.add_item.new.graph c.add_item.new.macros c.in_ok-add_item.ensures.defines c.in_ok-add_item.ensures.states c.items.invariant.0,
      omega (arith, c.in_ok-item.ensures.shorter, c.behind_junk-marked.ensures.shorter, c.items.invariant.1),
    )
