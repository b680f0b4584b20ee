use Rattle.std.proofs.Common.{◌≡◌, ◌<◌, length, arith}
use Rattle.query_spec.specs.Query.{blocks_in_scope}
use Rattle.command_explain.proofs.Texts.{paths_are, one_path_each, well_made_at, explained_more, explained_all}
use Rattle.command_explain.proofs.plans.plans_text.Goals as goal

pub index-requires : goal.index-requires
index-requires g c =
    let paths = paths_are c.in_ok-paths.paths.items c.args.checked.now c.query.result.now c.deref.result.now c.in_ok-paths.ensures c.deref.ensures.value c.query.ensures.same in
    let same = one_path_each c.args.checked.now c.in_ok-paths.paths.items c.in_ok-blocks.blocks.items paths c.in_ok-blocks.ensures.bodies in
    omega (arith, same, c.in_ok-paths.paths.ok.0, c.in_ok-blocks.blocks.ok.0, c.loop-i-test.true, c.len-i-end.ensures)

pub explain_block-requires : goal.explain_block-requires
explain_block-requires g c =
    let blocks = c.in_ok-blocks.blocks.items in
    let within : c.loop-i.i < length blocks = omega (arith, c.in_ok-blocks.blocks.ok.0, c.loop-i-test.true, c.len-i-end.ensures) in
    well_made_at c.args.checked.now.version blocks c.loop-i.i c.index-in-loop-i.result.now within c.index-in-loop-i.ensures c.in_ok-blocks.ensures.chains (blocks_in_scope c.args.checked.now) c.in_ok-blocks.ensures.bodies c.in_ok-blocks.ensures.safe

pub loop-i-preserved : goal.loop-i-preserved
loop-i-preserved g c =
    let blocks = c.in_ok-blocks.blocks.items in
    let paths = paths_are c.in_ok-paths.paths.items c.args.checked.now c.query.result.now c.deref.result.now c.in_ok-paths.ensures c.deref.ensures.value c.query.ensures.same in
    let same = one_path_each c.args.checked.now c.in_ok-paths.paths.items blocks paths c.in_ok-blocks.ensures.bodies in
    let within : c.loop-i.i < length blocks = omega (arith, c.in_ok-blocks.blocks.ok.0, c.loop-i-test.true, c.len-i-end.ensures) in
    let long : c.loop-i.i < length c.in_ok-paths.paths.items = omega (arith, same, within) in
    explained_more c.args.checked.now.version blocks c.loop-i.i c.index-in-loop-i.result.now within c.index-in-loop-i.ensures c.in_ok-blocks.ensures.chains
    (g.S.Store.graph c.args.store.now) c.in_ok-paths.paths.items c.index.result.now c.loop-i.out.items c.explain_block.new.out.items long c.index.ensures c.loop-i.invariant c.in_ok-explain_block.ensures

pub returns : goal.returns
returns g c =
    let paths = paths_are c.in_ok-paths.paths.items c.args.checked.now c.query.result.now c.deref.result.now c.in_ok-paths.ensures c.deref.ensures.value c.query.ensures.same in
    let whole : c.loop-i.i ≡ length c.in_ok-blocks.blocks.items = omega (arith, c.in_ok-blocks.blocks.ok.0, c.loop-i-test.false, c.loop-i.auto.i-end, c.len-i-end.ensures) in
    explained_all (g.S.Store.graph c.args.store.now) c.args.checked.now c.in_ok-paths.paths.items c.in_ok-blocks.blocks.items c.loop-i.i c.loop-i.out.items paths c.in_ok-blocks.ensures.bodies whole c.loop-i.invariant
