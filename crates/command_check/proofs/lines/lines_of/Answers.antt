use Rattle.std.proofs.Common.{◌+◌, ◌∙◌, refl}
use Rattle.command_check.proofs.Growing.{paths_are, one_path_each, lines_more, lines_all}
use Rattle.command_check.proofs.lines.lines_of.Goals as goal

pub print_finding-requires-clause-paths : goal.print_finding-requires-clause-paths
print_finding-requires-clause-paths c =
    let paths = paths_are c.in_ok-all_paths.all_paths.items c.args.query.now c.query.result.now c.deref.result.now c.in_ok-all_paths.ensures c.deref.ensures.value c.query.ensures.same in
    one_path_each c.args.query.now c.as_slice-paths.result.now c.blocks-blocks.result.now (c.as_slice-paths.ensures.value ∙ paths) c.blocks-blocks.ensures.scope

pub loop-i-preserved : goal.loop-i-preserved
loop-i-preserved c =
    let paths = paths_are c.in_ok-all_paths.all_paths.items c.args.query.now c.query.result.now c.deref.result.now c.in_ok-all_paths.ensures c.deref.ensures.value c.query.ensures.same in
    lines_more c.args.query.now c.blocks-blocks.result.now c.as_slice-paths.result.now (c.as_slice-paths.ensures.value ∙ paths) c.blocks-blocks.ensures.scope c.args.constraints.now c.args.findings.now c.loop-i.i (c.loop-i.i + 1)
    c.index-constraints-i.result c.index-findings-i.result c.loop-i.text.items c.print_finding.new.out.items
    c.requires c.loop-i-test.true refl c.index-constraints-i.is c.index-findings-i.is c.loop-i.invariant c.in_ok-print_finding.ensures

pub returns : goal.returns
returns c =
    lines_all c.args.query.now c.args.constraints.now c.args.findings.now c.loop-i.i c.loop-i.text.items c.requires c.loop-i-test.false c.loop-i.invariant
