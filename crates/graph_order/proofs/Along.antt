-- The edges of members, one member after another.
use Rattle.std.proofs.Common.{◌≡◌, ℕ, zero, suc, ◌+◌, ◌<◌, ◌≤◌, List, [], ◌∷◌, ◌++◌, length, get_or, drop, map, Err, refl, sym, ap, ◌∙◌, subst, Option, Some, None, Bor}
use Rattle.std.specs.Prelude.{flat_map, slice_get}
use Rattle.std.proofs.lemmas.List.{drop_more, map-append, drop_all}
use Rattle.std.proofs.lemmas.Option.{slice_get-get_or, slice_get_past}
use Rattle.std.specs.Option.{option_copied}
use Rattle.std.specs.Slice.{IsItemAt}
use Rattle.sd_value.specs.Names.{Name}
use Rattle.graph_spec.specs.Statement.{Statement}
use Rattle.graph_spec.specs.declared.Edge.{Edge}
use Rattle.sd_graph.specs.Statement.{Building}
use Rattle.sd_graph.specs.declared.GraphRefusal.{GraphRefusal}
use Rattle.order_spec.specs.Order.{Place, edges_at, edges_along, first}
use Rattle.order_spec.specs.Read.{place_of}
use Rattle.order_spec.specs.declared.Place.{Place as CodePlace}
use Rattle.graph_order.specs.Adding.{building_of, PutsIn, stated_edge}
use Rattle.graph_order.proofs.Growth.{IsOver, over, over_more, building_append}

-- what is lent at a place
pub lent : (ns : List Name) (i : ℕ) (r : Option (Bor Name)) → IsItemAt ns i r → option_copied r ≡ slice_get ns i
lent ns i None h = sym (slice_get_past ns i h.3)
lent ns i (Some x) h = sym (slice_get-get_or ns i x.now h.3.0 ∙ ap (λ (n : Name). Some n) (sym (h.3.1 x.now)))

-- the edges of places, as the code has them
pub spread : (g : Place → List Edge) (ps : List CodePlace)
    → flat_map (λ (p : CodePlace). map stated_edge (g (place_of p))) ps ≡ map stated_edge (flat_map g (map place_of ps))
spread g [] = refl
spread g (p ∷ ps) =
    ap (λ z. map stated_edge (g (place_of p)) ++ z) (spread g ps)
    ∙ sym (map-append stated_edge (g (place_of p)) (flat_map g (map place_of ps)))
