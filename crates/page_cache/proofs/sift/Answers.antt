use Rattle.std.proofs.Common.{◌≡◌, ◌∙◌, length, get_or, append-nil, refl, sym, ap, arith}
use Rattle.lru.specs.LruCache.{lru_cache}
use Rattle.page_cache.proofs.LookLemmas.{sift_step, sift_end, length_keys}
use Rattle.page_cache.proofs.sift.Goals as goal

pub loop-i-init : goal.loop-i-init
loop-i-init c = (ap (λ es. lru_cache es c.args.kept.now.cap) (sym (append-nil c.args.kept.now.entries)), c.requires.all)

pub loop-i-preserved : goal.loop-i-preserved
loop-i-preserved c =
    let es = c.args.kept.now.entries in
    let same : length c.args.pages.now ≡ length es = ap length c.requires.pages ∙ length_keys es in
    let turned = c.turn-bytes.ensures.bytes in
    let before = c.loop-i.invariant.1 in (
      sift_step es c.args.kept.now.cap c.loop-i.i c.args.flags.now c.index-pages-i.result _ _ c.index-pages-i.result c.loop-i.kept c.turn-bytes.new.kept
          (omega (arith, same, c.loop-i-test.true)) (c.requires.flags ∙ same)
          (c.index-pages-i.is ∙ ap (λ ks. get_or ks c.loop-i.i c.index-pages-i.result) c.requires.pages) refl c.loop-i.invariant.0 c.turn-bytes.ensures.entries,
      omega (arith, turned, before),
    )

pub returns-clause-entries : goal.returns-clause-entries
returns-clause-entries c =
    let es = c.args.kept.now.entries in
    let same : length c.args.pages.now ≡ length es = ap length c.requires.pages ∙ length_keys es in
    sift_end es c.args.kept.now.cap c.loop-i.i c.args.flags.now c.loop-i.kept (omega (arith, same, c.loop-i-test.false, c.loop-i.auto.i-end)) (c.requires.flags ∙ same) c.loop-i.invariant.0
