use Rattle.std.proofs.Common.{arith, ap, ◌∙◌, ◌++◌}
use Rattle.std.specs.Prelude.{map}
use Rattle.struql_ast.specs.Reading.{link_of}
use Rattle.link_index.specs.Links.{arc_of}
use Rattle.link_index.specs.Found.{arc_name, placed}
use Rattle.link_index.proofs.Loops.{gathered_more, gathered_all, flat_mapped_twice}
use Rattle.link_index.proofs.gathered.push_arcs_of.Goals as goal

pub loop-link-preserved : goal.loop-link-preserved
loop-link-preserved c =
    let b = c.args.block.now in
    gathered_more (λ k. arc_of (placed b.chain.conditions k)) (map arc_name c.args.found.now.items) (map arc_name c.loop-link.found.items) (map arc_name c.push_arc.new.found.items) b.links.items c.deref-link-items.result.now c.loop-link.link-index c.link-item.result
    c.deref-link-items.ensures.value (omega arith) c.link-item.is c.loop-link.invariant c.in_ok-push_arc.ensures

pub returns : goal.returns
returns c =
    let b = c.args.block.now in
    gathered_all (λ k. arc_of (placed b.chain.conditions k)) (map arc_name c.args.found.now.items) (map arc_name c.loop-link.found.items) b.links.items c.deref-link-items.result.now c.loop-link.link-index c.deref-link-items.ensures.value (omega arith) c.loop-link.invariant
    ∙ ap (λ l. map arc_name c.args.found.now.items ++ l) (flat_mapped_twice arc_of (λ k. record { conditions = b.chain.conditions; link = k }) link_of b.links.items)
