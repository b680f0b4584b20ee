use Rattle.std.proofs.Common.{◌≡◌, length, map, arith, subst}
use Rattle.std.proofs.lemmas.List.{length-map}
use Rattle.template_reader.specs.Entries.{entry_of, AreRead, AreEntries}
use Rattle.template_layouts.specs.Together.{items_of}
use Rattle.template_reader.proofs.Made.{read_length}
use Rattle.template_reader.proofs.templates.made.Goals as goal

pub filed-requires : goal.filed-requires
filed-requires c =
    let read : AreRead (map items_of c.args.templates.now) (map entry_of c.in-Some.entries.items) = subst (AreEntries (map items_of c.args.templates.now)) c.in-Some.is c.in_ok-entries.ensures in
    let same = read_length (map items_of c.args.templates.now) (map entry_of c.in-Some.entries.items) read in
    let entries : length (map entry_of c.in-Some.entries.items) ≡ length c.in-Some.entries.items = length-map c.in-Some.entries.items entry_of in
    let templates : length (map items_of c.args.templates.now) ≡ length c.args.templates.now = length-map c.args.templates.now items_of in
    omega (arith, same, entries, templates, c.requires)
