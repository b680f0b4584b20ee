use Rattle.std.proofs.Common.{arith}
use Rattle.query_blocks.specs.Blocks.{scope_of}
use Rattle.tmpl.specs.Reading.{file_of}
use Rattle.lint_spec.specs.Mistakes.{IsMistake}
use Rattle.site_lint.proofs.Marks.{findings_more, findings_all}
use Rattle.site_lint.proofs.findings.findings_of.Goals as goal

pub loop-claim-preserved : goal.loop-claim-preserved
loop-claim-preserved g c =
    let s = c.args.site.now in
    findings_more (IsMistake (g.S.Store.graph s.store.now) (scope_of s.blocks.now) (file_of s.templates.now) s.further.now) c.args.claims.now c.loop-claim.claim-index c.claim-item.result c.in_ok-mark.mark c.loop-claim.found.items c.push_marked.new.found.items (omega arith) c.claim-item.is c.loop-claim.invariant
    c.in_ok-mark.ensures c.in_ok-push_marked.ensures

pub returns : goal.returns
returns g c =
    let s = c.args.site.now in
    findings_all (IsMistake (g.S.Store.graph s.store.now) (scope_of s.blocks.now) (file_of s.templates.now) s.further.now) c.args.claims.now c.loop-claim.claim-index c.loop-claim.found.items (omega arith) c.loop-claim.invariant
