use Rattle.std.proofs.Common.{take}
use Rattle.query_blocks.specs.Blocks.{scope_of}
use Rattle.tmpl.specs.Reading.{file_of}
use Rattle.lint_spec.specs.Mistakes.{IsMistake}
use Rattle.lint_spec.specs.Findings.{AreFindings}
use Rattle.site_lint.proofs.findings.findings_of.Given as goal

abbrev pub invariant-loop-claim : goal.invariant-loop-claim
invariant-loop-claim g l = AreFindings (IsMistake (g.S.Store.graph l.site.store.now) (scope_of l.site.blocks.now) (file_of l.site.templates.now) l.site.further.now) (take l.claim-index l.claims) l.found.items
