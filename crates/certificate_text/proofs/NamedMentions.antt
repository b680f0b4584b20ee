-- The terms that lines name, and the mentions.
use Rattle.std.proofs.Common.{◌≡◌, ℕ, List, [], ◌∷◌, ◌++◌, length, map, refl, sym, ap, ◌∙◌, arith, cond}
use Rattle.std.specs.Prelude.{Bool, true, false, filter}
use Rattle.std.specs.List.{flat_map}
use Rattle.std.proofs.lemmas.List.{map-append}
use Rattle.std.proofs.lemmas.List.Elements.{filter-append}
use Rattle.query_spec.specs.Query.{Condition, SkolemTerm, Body}
use Rattle.query_spec.specs.Mentions.{same_name}
use Rattle.site_spec.specs.Site.{terms_of}
use Rattle.constraint_spec.specs.Placed.{Mention, body_mentions}
use Rattle.certificate_text.specs.Lines.{PlacedTerm, terms_named, placed_terms}

abbrev placed_term : PlacedTerm → SkolemTerm
placed_term m = m.term

abbrev mention_term : Mention → SkolemTerm
mention_term m = m.term

abbrev is_named : List ℕ → Mention → Bool
is_named f m = same_name m.term.function f

named : (f path : List ℕ) (conditions : List Condition) (ts : List SkolemTerm)
    → map placed_term (terms_named f path ts) ≡ map mention_term (filter (is_named f) (map (λ t. record { conditions = conditions; term = t }) ts))
named f path conditions [] = refl
named f path conditions (t ∷ ts) =
    let placed : SkolemTerm → PlacedTerm = λ u. record { path = path; term = u } in
    let mention : SkolemTerm → Mention = λ u. record { conditions = conditions; term = u } in
    let F = filter (λ (u : SkolemTerm). same_name u.function f) ts in
    let G = filter (is_named f) (map mention ts) in
    let rest = named f path conditions ts in
    elim (same_name t.function f) as (λ b. map placed_term (map placed (cond b (t ∷ F) F)) ≡ map mention_term (cond b (mention t ∷ G) G)) [
      | true ↦ ap (λ (us : List SkolemTerm). t ∷ us) rest
      | false ↦ rest
    ]

pub all_named : (f : List ℕ) (paths : List (List ℕ)) (bodies : List Body) → length paths ≡ length bodies
    → map placed_term (placed_terms f paths bodies) ≡ map mention_term (filter (is_named f) (flat_map body_mentions bodies))
all_named f [] [] same = refl
all_named f [] (b ∷ bodies) same = absurd (omega (arith, same))
all_named f (p ∷ paths) [] same = absurd (omega (arith, same))
all_named f (p ∷ paths) (b ∷ bodies) same =
    let here = named f p b.conditions (terms_of b) in
    let later = all_named f paths bodies (omega (arith, same)) in
    map-append placed_term (terms_named f p (terms_of b)) (placed_terms f paths bodies)
    ∙ ((λ j. here j ++ later j)
    ∙ (sym (map-append mention_term (filter (is_named f) (body_mentions b)) (filter (is_named f) (flat_map body_mentions bodies)))
    ∙ ap (map mention_term) (sym (filter-append (is_named f) (body_mentions b) (flat_map body_mentions bodies)))))
