use Rattle.std.proofs.Common.{refl}
use Rattle.page_cache.proofs.LookLemmas.{others_are, added, added_bytes}
use Rattle.page_cache.proofs.add.Goals as goal

pub overflow_sub-others : goal.overflow_sub-others
overflow_sub-others c =
    (others_are c.args.kept.now c.push.new.self c.push.new.self c.args.page.now c.in_ok-copy-2.field-0 c.args.text.now c.in_ok-copy.copy c.in_ok-copy-2.ensures c.in_ok-copy.ensures
    c.requires.none c.in_ok-displaced.ensures.entries c.args.bytes c.bytes_of.result c.in_ok-displaced.displaced c.requires.bytes
    c.len.ensures.valid.1 c.len.ensures.valid.2 c.in_ok-displaced.ensures.old c.bytes_of.ensures).0

pub fit-requires-clause-bytes : goal.fit-requires-clause-bytes
fit-requires-clause-bytes c =
    (others_are c.args.kept.now c.push.new.self c.push.new.self c.args.page.now c.in_ok-copy-2.field-0 c.args.text.now c.in_ok-copy.copy c.in_ok-copy-2.ensures c.in_ok-copy.ensures
    c.requires.none c.in_ok-displaced.ensures.entries c.args.bytes c.bytes_of.result c.in_ok-displaced.displaced c.requires.bytes
    c.len.ensures.valid.1 c.len.ensures.valid.2 c.in_ok-displaced.ensures.old c.bytes_of.ensures).1

pub returns-clause-entries : goal.returns-clause-entries
returns-clause-entries c =
    added c.args.kept.now c.push.new.self c.fit.new.kept c.args.page.now c.in_ok-copy-2.field-0 c.args.text.now c.in_ok-copy.copy c.in_ok-copy-2.ensures c.in_ok-copy.ensures
    c.requires.none c.in_ok-displaced.ensures.entries c.args.most (rw c.bytes.ensures at c.fit.ensures.entries)
