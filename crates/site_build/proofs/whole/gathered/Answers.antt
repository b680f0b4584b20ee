use Rattle.std.proofs.Common.{List, sym, subst}
use Rattle.std.specs.Prelude.{Contains}
use Rattle.std.specs.List.Sorted.{IsStrictlySortedBy}
use Rattle.sd_value.specs.declared.Value.{Value}
use Rattle.sd_value.specs.Order.{value_cmp}
use Rattle.sd_value.specs.Ascending.{ListsExactly}
use Rattle.query_blocks.specs.Blocks.{scope_of}
use Rattle.site_build.specs.declared.ordered.Put.{Put}
use Rattle.site_build.specs.Ordered.{put_cmp}
use Rattle.site_build.proofs.Site.{collected_all}
use Rattle.site_build.proofs.Picks.{put_at}
use Rattle.site_build.proofs.whole.gathered.Goals as goal

pub members-requires : goal.members-requires
members-requires g c = c.requires.well_formed

pub put_values-requires : goal.put_values-requires
put_values-requires g c = subst (IsStrictlySortedBy put_cmp) (sym c.as_slice.ensures.value) c.requires.made.all_puts.ascending

pub returns-clause-values : goal.returns-clause-values
returns-clause-values g c =
    collected_all (g.A.Asker.graph c.args.asker.now) (scope_of c.args.scopes.now) c.args.name.now c.args.contents.now.puts.items c.in_ok-values.values.items c.in_ok-more.more.items _ _ c.requires.made.all_puts
    (subst (λ (ps : List Put). ListsExactly value_cmp (λ (v : Value). Contains ps (put_at c.args.name.now v)) c.in_ok-more.more.items) c.as_slice.ensures.value c.in_ok-more.ensures)
    c.in_ok-values.ensures.values c.in_ok-append.ensures.items
    record { ascending = c.sort_and_dedup.ensures.ascending; sound = λ v h. c.sort_and_dedup.ensures.sound v h; complete = λ v h. c.sort_and_dedup.ensures.complete v h }
