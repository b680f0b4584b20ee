use Rattle.std.proofs.Common.{rules, ◌≡◌, ◌+◌, [], ◌∷◌, drop, map, refl, sym, ap, ◌∙◌, Some, None}
use Rattle.std.specs.Prelude.{option_map}
use Rattle.std.proofs.lemmas.List.{map-append}
use Rattle.template_reader.specs.Entries.{entry_of}
use Rattle.template_reader.specs.Reading.{read_template, whole_of}
use Rattle.template_layouts.specs.Together.{items_of}
use Rattle.template_reader.proofs.Seen.{split_at}
use Rattle.template_reader.proofs.Made.{alone_some, alone_none, one_more, none_more, all_read, all_dropped}
use Rattle.template_reader.proofs.templates.entries_of.Goals as goal

pub returns-in-None : goal.returns-in-None
returns-in-None c =
    let split : drop c.loop-items.items-index c.args.templates.now ≡ c.items-item.result ∷ drop (c.loop-items.items-index + 1) c.args.templates.now = split_at c.args.templates.now c.loop-items.items-index c.items-item.result c.loop-items-test.true c.items-item.is in
    let here : c.deref.result.now ≡ c.items-item.result.items = search rules in
    let none : whole_of (read_template c.items-item.result.items) ≡ None = rw (sym here) (sym c.in_ok-entry.ensures ∙ ap (option_map entry_of) c.in-None.is) in
    none_more (map items_of c.args.templates.now) (map items_of (drop c.loop-items.items-index c.args.templates.now)) (map items_of (drop (c.loop-items.items-index + 1) c.args.templates.now)) c.items-item.result.items (map entry_of c.loop-items.entries.items)
    (ap (map items_of) split) (alone_none c.items-item.result.items none) c.loop-items.invariant

pub loop-items-preserved : goal.loop-items-preserved
loop-items-preserved c =
    let split : drop c.loop-items.items-index c.args.templates.now ≡ c.items-item.result ∷ drop (c.loop-items.items-index + 1) c.args.templates.now = split_at c.args.templates.now c.loop-items.items-index c.items-item.result c.loop-items-test.true c.items-item.is in
    let here : c.deref.result.now ≡ c.items-item.result.items = search rules in
    let some : whole_of (read_template c.items-item.result.items) ≡ Some (entry_of c.in-Some.entry) = rw (sym here) (sym c.in_ok-entry.ensures ∙ ap (option_map entry_of) c.in-Some.is) in
    rw (c.in_ok-push-in-Some.ensures.items, map-append entry_of c.loop-items.entries.items (c.in-Some.entry ∷ []))
    (one_more (map items_of c.args.templates.now) (map items_of (drop c.loop-items.items-index c.args.templates.now)) (map items_of (drop (c.loop-items.items-index + 1) c.args.templates.now)) c.items-item.result.items (map entry_of c.loop-items.entries.items) (entry_of c.in-Some.entry)
    (ap (map items_of) split) (alone_some c.items-item.result.items (read_template c.items-item.result.items) refl (entry_of c.in-Some.entry) some) c.loop-items.invariant)

pub returns : goal.returns
returns c =
    all_read (map items_of c.args.templates.now) (map items_of (drop c.loop-items.items-index c.args.templates.now)) (map entry_of c.loop-items.entries.items)
    (ap (map items_of) (all_dropped c.args.templates.now c.loop-items.items-index c.loop-items-test.false)) c.loop-items.invariant
