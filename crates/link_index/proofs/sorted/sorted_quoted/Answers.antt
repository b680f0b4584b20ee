use Rattle.std.proofs.Common.{rules}
use Rattle.std.proofs.lemmas.List.Sorted.{answers_always, ranks_by}
use Rattle.std.specs.Ordering.{is_lt}
use Rattle.link_index.specs.declared.gathered.QuotedLink.{QuotedLink}
use Rattle.link_index.specs.Found.{quoted_name, pair_cmp}
use Rattle.link_index.proofs.Lookups.{pair_cmp-total, reordered}
use Rattle.link_index.proofs.sorted.sorted_quoted.Goals as goal

pub returns : goal.returns
returns c = record {
  sorted = c.in_ok-sort_by.ensures.sorted (λ (a b : QuotedLink). is_lt (pair_cmp (quoted_name a) (quoted_name b))) (ranks_by pair_cmp-total quoted_name) (answers_always _ _ _ (λ f a r g h. search rules));
  are = reordered quoted_name c.in_ok-links.links.items c.sort_by.new.self.items _ c.in_ok-links.ensures c.sort_by.ensures.permutation;
}
