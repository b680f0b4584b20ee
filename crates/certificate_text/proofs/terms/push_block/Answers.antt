use Rattle.std.specs.Prelude.{map}
use Rattle.certificate_text.specs.Written.{placed_of}
use Rattle.certificate_text.proofs.TermLists.{block_named}
use Rattle.certificate_text.proofs.terms.push_block.Goals as goal

pub returns : goal.returns
returns c =
    block_named c.args.function.now c.args.path.now c.args.block.now c.deref.result.now c.deref-2.result.now c.deref-3.result.now
    (map placed_of c.args.found.now.items) (map placed_of c.push_terms.new.found.items) (map placed_of c.push_links.new.found.items) (map placed_of c.push_collects.new.found.items)
    c.deref.ensures.value c.deref-2.ensures.value c.deref-3.ensures.value c.in_ok-push_terms.ensures c.in_ok-push_links.ensures c.in_ok-push_collects.ensures
