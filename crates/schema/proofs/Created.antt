-- The functions of blocks.
use Rattle.std.proofs.Common.{◌≡◌, ◌∙◌, ℕ, List, length, map, refl, sym, ap, subst}
use Rattle.std.specs.Prelude.{Contains}
use Rattle.std.specs.List.{flat_map}
use Rattle.sd_value.specs.Members.{Contains-map, Contains-mapped, Contains-flat_map, Contains-flat_mapped}
use Rattle.sd_value.specs.Ascending.{ListsExactly}
use Rattle.sd_value.specs.AscendingLaws.{listed_as}
use Rattle.query_spec.specs.Query.{SkolemTerm, Body}
use Rattle.site_spec.specs.Schema.{IsOf}
use Rattle.schema.specs.declared.SchemaFunction.{SchemaFunction}
use Rattle.schema.specs.Orders.{function_cmp}
use Rattle.schema.specs.Rows.{term_function, body_functions, IsFunctionIn}

is_created : (bodies : List Body) (f : SchemaFunction) → Contains (flat_map body_functions bodies) f → IsFunctionIn bodies f
is_created bodies f h =
    let (b, at, within) = Contains-flat_map body_functions bodies f h in
    let (t, is, found) = Contains-map term_function b.creates f within in
    record {
      item = b;
      within = at;
      holds = record {
        item = t;
        within = found;
        holds = record { function = ap (λ (x : SchemaFunction). x.name) is; arguments = ap (λ (x : SchemaFunction). x.arity) is };
      };
    }

is_found : (bodies : List Body) (f : SchemaFunction) → IsFunctionIn bodies f → Contains (flat_map body_functions bodies) f
is_found bodies f h =
    let t : SkolemTerm = h.holds.item in
    let is : term_function t ≡ f = λ i. record { name = h.holds.holds.function i; arity = h.holds.holds.arguments i } in
    Contains-flat_mapped body_functions bodies h.item f h.within (subst (Contains (body_functions h.item)) is (Contains-mapped term_function h.item.creates t h.holds.within))

pub functions_listed : (bodies : List Body) (created listed : List SchemaFunction) → created ≡ flat_map body_functions bodies
    → ListsExactly function_cmp (Contains created) listed → ListsExactly function_cmp (IsFunctionIn bodies) listed
functions_listed bodies created listed is h =
    listed_as h (λ f at. is_created bodies f (subst (λ (fs : List SchemaFunction). Contains fs f) is at)) (λ f at. subst (λ (fs : List SchemaFunction). Contains fs f) (sym is) (is_found bodies f at))
