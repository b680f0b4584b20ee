-- The numbers of the schema are those of the links in the order of the text.
use Rattle.std.proofs.Common.{◌≡◌, ℕ, suc, ◌+◌, ◌-◌, List, [], ◌∷◌, ◌++◌, length, arith, refl, ap, inl, inr, Some, slice_get}
use Rattle.std.specs.Prelude.{Contains, map}
use Rattle.std.specs.List.{flat_map}
use Rattle.std.proofs.lemmas.Option.{slice_get_within, get_or_from_slice_get}
use Rattle.sd_value.specs.Members.{Contains-nil, Contains-cons_cases}
use Rattle.query_spec.specs.Query.{Link, Body, Query, blocks_in_scope}
use Rattle.site_spec.specs.Site.{scope_of}
use Rattle.site_spec.specs.Paths.{paths_from}
use Rattle.site_spec.specs.Schema.{SchemaEdge, edges_in, edges_from, schema_edges}
use Rattle.constraint_spec.specs.Placed.{PlacedLink, body_links, links_of, IsNumbered}

abbrev pub placed : SchemaEdge → PlacedLink
placed e = record { conditions = e.conditions; link = e.link }

-- the edge's link is one of these, of which the first has the number `first`
record IsFrom (links : List PlacedLink) (first : ℕ) (e : SchemaEdge) : Type 0 where
  place : ℕ
  number : e.number ≡ first + place
  there : slice_get links place ≡ Some (placed e)

from_bodies : (first : ℕ) (paths : List (List ℕ)) (bodies : List Body) (e : SchemaEdge) → Contains (edges_from first paths bodies) e → IsFrom (flat_map body_links bodies) first e
from_bodies first [] bodies e m = absurd (Contains-nil e m)
from_bodies first (path ∷ paths) [] e m = absurd (Contains-nil e m)
from_bodies first (path ∷ paths) (b ∷ bodies) e m = in_links (λ n. from_bodies (first + length b.links) paths bodies e n) b.links first refl m
  where
    later : List SchemaEdge
    later = edges_from (first + length b.links) paths bodies

    rest : List Link → List PlacedLink
    rest ks = map (λ l. record { conditions = b.conditions; link = l }) ks ++ flat_map body_links bodies

    in_links : (Contains later e → IsFrom (flat_map body_links bodies) (first + length b.links) e)
        → (ks : List Link) (number : ℕ) → number + length ks ≡ first + length b.links → Contains (edges_in number path b.conditions ks ++ later) e → IsFrom (rest ks) number e
    in_links after [] number h n = let r = after n in record { place = r.place; number = (let i = r.number in omega (arith, h, i)); there = r.there }
    in_links after (l ∷ ks) number h n =
        elim (Contains-cons_cases (record { number = number; path = path; conditions = b.conditions; link = l }) (edges_in (suc number) path b.conditions ks ++ later) e n) [
          | inl is ↦ record {
            place = 0;
            number = (let i = ap (λ (z : SchemaEdge). z.number) is in omega (arith, i));
            there = ap (λ (z : SchemaEdge). Some (placed z)) is;
          }
          | inr back ↦ (let r = in_links after ks (suc number) (omega (arith, h)) back in record {
            place = suc r.place;
            number = (let i = r.number in omega (arith, i));
            there = r.there;
          })
        ]

pub numbers_agree : (q : Query) (e : SchemaEdge) → Contains (schema_edges q) e → IsNumbered (links_of (scope_of q)) e.number (placed e)
numbers_agree q e m =
    let from = from_bodies 1 (paths_from [] 1 q.blocks) (blocks_in_scope q) e m in
    let n = from.number in
    let w = slice_get_within (links_of (scope_of q)) from.place (placed e) from.there in
    let back : e.number - 1 ≡ from.place = omega arith in
    record {
      from_one = omega arith;
      within = omega arith;
      there = rw back (get_or_from_slice_get (links_of (scope_of q)) from.place (placed e) (placed e) from.there);
    }
