use Rattle.std.proofs.Common.{arith, ap, ◌∙◌, ◌++◌}
use Rattle.std.specs.Prelude.{map}
use Rattle.struql_ast.specs.Reading.{link_of}
use Rattle.link_index.specs.Links.{quoted_of}
use Rattle.link_index.specs.Found.{quoted_name, placed}
use Rattle.link_index.proofs.Loops.{gathered_more, gathered_all, flat_mapped_twice}
use Rattle.link_index.proofs.gathered.push_quoted_of.Goals as goal

pub loop-link-preserved : goal.loop-link-preserved
loop-link-preserved c =
    let b = c.args.block.now in
    gathered_more (λ k. quoted_of (placed b.chain.conditions k)) (map quoted_name c.args.found.now.items) (map quoted_name c.loop-link.found.items) (map quoted_name c.push_quoted.new.found.items) b.links.items c.deref-link-items.result.now c.loop-link.link-index c.link-item.result
    c.deref-link-items.ensures.value (omega arith) c.link-item.is c.loop-link.invariant c.in_ok-push_quoted.ensures

pub returns : goal.returns
returns c =
    let b = c.args.block.now in
    gathered_all (λ k. quoted_of (placed b.chain.conditions k)) (map quoted_name c.args.found.now.items) (map quoted_name c.loop-link.found.items) b.links.items c.deref-link-items.result.now c.loop-link.link-index c.deref-link-items.ensures.value (omega arith) c.loop-link.invariant
    ∙ ap (λ l. map quoted_name c.args.found.now.items ++ l) (flat_mapped_twice quoted_of (λ k. record { conditions = b.chain.conditions; link = k }) link_of b.links.items)
