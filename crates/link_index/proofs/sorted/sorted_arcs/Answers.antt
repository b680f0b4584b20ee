use Rattle.std.proofs.Common.{rules}
use Rattle.std.proofs.lemmas.List.Sorted.{answers_always, ranks_by}
use Rattle.std.specs.Ordering.{is_lt}
use Rattle.sd_value.specs.Order.{bytes_cmp}
use Rattle.sd_value.specs.OrderLaws.{bytes_cmp-total}
use Rattle.link_index.specs.declared.gathered.ArcLink.{ArcLink}
use Rattle.link_index.specs.Found.{arc_name}
use Rattle.link_index.proofs.Lookups.{reordered}
use Rattle.link_index.proofs.sorted.sorted_arcs.Goals as goal

pub returns : goal.returns
returns c = record {
  sorted = c.in_ok-sort_by.ensures.sorted (λ (a b : ArcLink). is_lt (bytes_cmp a.function.now b.function.now)) (ranks_by bytes_cmp-total (λ (k : ArcLink). k.function.now)) (answers_always _ _ _ (λ f a r g h. search rules));
  are = reordered arc_name c.in_ok-links.links.items c.sort_by.new.self.items _ c.in_ok-links.ensures c.sort_by.ensures.permutation;
}
