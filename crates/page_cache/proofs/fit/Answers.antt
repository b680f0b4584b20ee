use Rattle.std.proofs.Common.{◌∙◌, arith}
use Rattle.page_cache.proofs.ByteLemmas.{drops, fits}
use Rattle.page_cache.proofs.fit.Goals as goal

pub overflow_sub-bytes : goal.overflow_sub-bytes
overflow_sub-bytes c =
    let gone = drops c.loop-bytes.kept.entries c.loop-bytes.kept.cap c.loop-bytes.bytes c.args.most c.bytes_of-bytes.result c.pop_lru.result c.pop_lru.new.self c.loop-bytes.invariant.1 c.loop-bytes-test.true c.pop_lru.ensures.value c.bytes_of-bytes.ensures c.pop_lru.ensures.entries in
    gone.less

pub loop-bytes-preserved-in-loop-bytes : goal.loop-bytes-preserved-in-loop-bytes
loop-bytes-preserved-in-loop-bytes c =
    let gone = drops c.loop-bytes.kept.entries c.loop-bytes.kept.cap c.loop-bytes.bytes c.args.most c.bytes_of-bytes.result c.pop_lru.result c.pop_lru.new.self c.loop-bytes.invariant.1 c.loop-bytes-test.true c.pop_lru.ensures.value c.bytes_of-bytes.ensures c.pop_lru.ensures.entries in
    let inv = c.loop-bytes.invariant in
    let some = gone.some in
    let count = gone.count in
    (some, count, gone.first ∙ inv.2, gone.others ∙ inv.3, gone.room ∙ inv.4)

pub loop-bytes-preserved : goal.loop-bytes-preserved
loop-bytes-preserved c =
    let gone = drops c.loop-bytes.kept.entries c.loop-bytes.kept.cap c.loop-bytes.bytes c.args.most c.bytes_of-bytes.result c.pop_lru.result c.pop_lru.new.self c.loop-bytes.invariant.1 c.loop-bytes-test.true c.pop_lru.ensures.value c.bytes_of-bytes.ensures c.pop_lru.ensures.entries in
    let inv = c.loop-bytes.invariant in
    let some = gone.some in
    let count = gone.count in
    (some, count, gone.first ∙ inv.2, gone.others ∙ inv.3, gone.room ∙ inv.4)

pub returns-clause-entries : goal.returns-clause-entries
returns-clause-entries c =
    let inv = c.loop-bytes.invariant in
    fits c.args.kept.now c.loop-bytes.kept c.loop-bytes.bytes c.args.most inv.1 (omega arith) inv.2 inv.3 inv.4
