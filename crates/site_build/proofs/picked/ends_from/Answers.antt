use Rattle.std.proofs.Common.{ap, ◌∙◌, subst, sym, map}
use Rattle.std.specs.Prelude.{Contains}
use Rattle.std.specs.Option.{option_copied}
use Rattle.std.proofs.lemmas.Result.{IfOk-weaker}
use Rattle.sd_value.specs.declared.Value.{Value}
use Rattle.sd_value.specs.Order.{value_cmp}
use Rattle.sd_value.specs.Ascending.{ListsExactly}
use Rattle.site_build.specs.declared.ordered.Joined.{Joined}
use Rattle.site_build.specs.Ranges.{range_at}
use Rattle.site_build.proofs.Picks.{link_to, lists-links, placed-near}
use Rattle.site_build.proofs.RangeLaws.{picked_in_range, none_picked}
use Rattle.site_build.proofs.picked.ends_from.Goals as goal

pub part-requires : goal.part-requires
part-requires c = placed-near c.args.from.now c.args.label.now c.args.links.now _ _ c.requires.ascending

pub returns : goal.returns
returns c =
    let of_page = picked_in_range c.args.links.now (range_at c.args.ranges.now) c.args.from.now c.args.label.now c.requires.ranges c.in-Some.range.now (sym c.get.ensures.value ∙ ap option_copied c.in-Some.is) in
    IfOk-weaker c.give_all.result _ _
    (λ found is. subst (ListsExactly value_cmp (λ (v : Value). Contains c.args.links.now (link_to c.args.from.now c.args.label.now v))) (sym (is ∙ ap (map (λ (j : Joined). j.to)) (c.part.ensures ∙ of_page))) (lists-links c.args.links.now c.requires.ascending c.args.from.now c.args.label.now))
    c.give_all.ensures

pub returns-in_default : goal.returns-in_default
returns-in_default c =
    let none = none_picked c.args.links.now (range_at c.args.ranges.now) c.args.from.now c.args.label.now c.requires.ranges (sym c.get.ensures.value ∙ ap option_copied c.in_default.is) in
    subst (ListsExactly value_cmp (λ (v : Value). Contains c.args.links.now (link_to c.args.from.now c.args.label.now v))) (ap (map (λ (j : Joined). j.to)) none ∙ sym c.new.ensures.items) (lists-links c.args.links.now c.requires.ascending c.args.from.now c.args.label.now)
