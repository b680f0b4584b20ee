use Rattle.std.proofs.Common.{◌∙◌, sym, refl, subst}
use Rattle.grammar.specs.Reading.{Stuck, Past}
use Rattle.bibtex_spec.specs.Reading.{read_item}
use Rattle.bibtex_source.specs.Gives.{Fails}
use Rattle.bibtex_source.specs.Source.{entries_by, fields_at}
use Rattle.bibtex_source.specs.Text.{entries_in}
use Rattle.bibtex_source.proofs.Steps.{some_bytes, no_bytes}
use Rattle.bibtex_source.proofs.Noted.{noted_end, noted_fault, noted_item}
use Rattle.bibtex_source.proofs.entries.entries_of.Goals as goal

pub returns-then-is_empty : goal.returns-then-is_empty
returns-then-is_empty c =
    noted_end (fields_at (entries_in c.args.macros c.args.bytes.now)) (entries_by c.items.parents) c.items.macros c.items.rest.now
    (sym c.behind_junk-marked.ensures.is ∙ no_bytes c.behind_junk-marked.result.now (sym c.is_empty.ensures ∙ c.if-is_empty.true)) c.items.invariant

pub items-preserved : goal.items-preserved
items-preserved c =
    let some = some_bytes c.behind_junk-marked.result.now (sym c.is_empty.ensures ∙ c.if-is_empty.false) in
    noted_item (fields_at (entries_in c.args.macros c.args.bytes.now)) (entries_by c.items.parents) c.items.macros c.items.rest.now c.behind_junk-marked.result.now
    c.behind_junk-marked.ensures.is c.behind_junk-marked.ensures.shorter some.0 some.1 some.2 c.in-Ok.item c.in-Ok.after.now c.in-Ok.ensures.is c.in-Ok.ensures.shorter
    (entries_by c.note_item.new.parents) c.note_item.new.macros c.in_ok-note_item-in-Ok.ensures.defines c.in_ok-note_item-in-Ok.ensures.notes c.items.invariant

pub returns-in-Err-Expected : goal.returns-in-Err-Expected
returns-in-Err-Expected c =
    let some = some_bytes c.behind_junk-marked.result.now (sym c.is_empty.ensures ∙ c.if-is_empty.false) in
    noted_fault (fields_at (entries_in c.args.macros c.args.bytes.now)) (entries_by c.items.parents) c.items.macros c.items.rest.now c.behind_junk-marked.result.now
    c.behind_junk-marked.ensures.is c.behind_junk-marked.ensures.shorter some.0 some.1 some.2 (Stuck c.in-Err-Expected.field-0-0.now) (subst (λ e. Fails e (read_item c.items.macros c.behind_junk-marked.result.now)) c.in-Err-Expected.field-0-is c.in-Err-Expected.ensures.is) (λ later. refl) c.items.invariant

pub returns-in-Err-Limit : goal.returns-in-Err-Limit
returns-in-Err-Limit c =
    let some = some_bytes c.behind_junk-marked.result.now (sym c.is_empty.ensures ∙ c.if-is_empty.false) in
    noted_fault (fields_at (entries_in c.args.macros c.args.bytes.now)) (entries_by c.items.parents) c.items.macros c.items.rest.now c.behind_junk-marked.result.now
    c.behind_junk-marked.ensures.is c.behind_junk-marked.ensures.shorter some.0 some.1 some.2 (Past c.in-Err-Limit.field-0-0.now) (subst (λ e. Fails e (read_item c.items.macros c.behind_junk-marked.result.now)) c.in-Err-Limit.field-0-is c.in-Err-Limit.ensures.is) (λ later. refl) c.items.invariant
