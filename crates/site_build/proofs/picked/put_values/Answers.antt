use Rattle.std.proofs.Common.{ap, ◌∙◌, subst, sym, map}
use Rattle.std.specs.Prelude.{Contains}
use Rattle.std.proofs.lemmas.Result.{IfOk-weaker}
use Rattle.sd_value.specs.declared.Value.{Value}
use Rattle.sd_value.specs.Order.{value_cmp}
use Rattle.sd_value.specs.Ascending.{ListsExactly}
use Rattle.site_build.specs.declared.ordered.Put.{Put}
use Rattle.site_build.proofs.Picks.{put_at, lists-puts, placed-name}
use Rattle.site_build.proofs.picked.put_values.Goals as goal

pub part-requires : goal.part-requires
part-requires c = placed-name c.args.name.now c.args.puts.now c.requires

pub returns : goal.returns
returns c =
    IfOk-weaker c.give_all.result _ _
    (λ found is. subst (ListsExactly value_cmp (λ (v : Value). Contains c.args.puts.now (put_at c.args.name.now v))) (sym (is ∙ ap (map (λ (p : Put). p.value)) c.part.ensures)) (lists-puts c.args.puts.now c.requires c.args.name.now))
    c.give_all.ensures
