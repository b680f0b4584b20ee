use Rattle.std.proofs.Common.{◌∙◌, sym}
use Rattle.bibtex_source.specs.Source.{entries_by}
use Rattle.bibtex_source.proofs.Noted.{some_of, none_of, noted_before, noted_now}
use Rattle.bibtex_source.proofs.source.Parents.note.Goals as goal

pub returns-then-has : goal.returns-then-has
returns-then-has c =
    let found = entries_by c.args.self.now in
    let first = some_of (found c.args.key) (sym c.has.ensures ∙ c.if-has.true) in
    noted_before found c.args.key c.args.fields first.0 first.1

pub returns : goal.returns
returns c =
    let found = entries_by c.args.self.now in
    noted_now found (entries_by (record { of = c.insert.new.self })) c.args.key c.args.fields (none_of (found c.args.key) (sym c.has.ensures ∙ c.if-has.false)) c.in_ok-insert.ensures.updates.0
