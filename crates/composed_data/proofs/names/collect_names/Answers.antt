use Rattle.std.proofs.Common.{List, ◌∙◌, ap, subst}
use Rattle.std.specs.Prelude.{Contains}
use Rattle.std.specs.List.{flat_map}
use Rattle.sd_value.specs.Names.{Name}
use Rattle.sd_value.specs.Order.{bytes_cmp}
use Rattle.sd_value.specs.Ascending.{ListsExactly}
use Rattle.query_blocks.specs.declared.QueryBlock.{QueryBlock}
use Rattle.composed_data.proofs.Named.{names_of, names_listed}
use Rattle.composed_data.proofs.names.collect_names.Goals as goal

pub returns : goal.returns
returns c =
    names_listed c.args.scopes.now c.sort_and_dedup.new.items.items
    (subst (λ (xs : List Name). ListsExactly bytes_cmp (Contains xs) c.sort_and_dedup.new.items.items)
    (c.in_ok-names.ensures ∙ ap (λ (bs : List QueryBlock). flat_map names_of bs) c.as_slice.ensures.value)
    c.sort_and_dedup.ensures)
