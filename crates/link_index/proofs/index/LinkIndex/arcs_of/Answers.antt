use Rattle.std.proofs.Common.{◌≡◌, ◌↔◌, List, ap, sym, subst, ◌∙◌}
use Rattle.std.specs.Prelude.{Contains, map}
use Rattle.site_spec.specs.Site.{Scope}
use Rattle.sd_value.specs.Order.{bytes_cmp}
use Rattle.list_lookup.specs.Picked.{in_place, IsPlaced}
use Rattle.link_index.specs.declared.gathered.ArcLink.{ArcLink}
use Rattle.link_index.specs.Links.{arc_links}
use Rattle.link_index.specs.Found.{arc_name}
use Rattle.link_index.proofs.Lookups.{arcs_placed, arcs_found}
use Rattle.link_index.proofs.index.LinkIndex.arcs_of.Goals as goal

pub part-requires : goal.part-requires
part-requires c =
    subst (λ (l : List ArcLink). IsPlaced (λ k. bytes_cmp k.function.now c.args.function.now) l) (sym c.as_slice.ensures.value) (arcs_placed _ _ c.self.invariant.1 c.args.function.now)

pub returns : goal.returns
returns c = λ p.
    subst (λ (q : Scope). Contains (map arc_name c.part.result.now) p ↔ (Contains (arc_links q) p × (p.0 ≡ c.args.function.now))) c.self.view_is
    (arcs_found _ _ c.self.invariant.1 c.args.function.now c.part.result.now (c.part.ensures ∙ ap (in_place (λ (k : ArcLink). bytes_cmp k.function.now c.args.function.now)) c.as_slice.ensures.value) p)
