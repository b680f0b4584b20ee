-- Links of a query where they are written.
use Rattle.std.specs.Prelude.{Bool, false, ◌&&◌, List, [], ◌∷◌, map, filter, Option, Some, None}
use Rattle.std.specs.Borrow.{Bor}
use Rattle.std.specs.List.{list_any, list_all}
use Rattle.sd_value.specs.Names.{Name}
use Rattle.query_spec.specs.Mentions.{same_name}
use Rattle.query_spec.specs.Query.{Condition, Target, Link as PlainLink}
use Rattle.struql_ast.specs.declared.Link.{Link}
use Rattle.struql_ast.specs.Reading.{link_of}
use Rattle.constraint_spec.specs.Certificate.{target_names}
use Rattle.constraint_spec.specs.Placed.{PlacedLink}
use Rattle.constraint_recheck.specs.Recheck.{is_of, is_per_row}

-- the link under the conditions of its chain
abbrev pub placed : List Condition → Link → PlacedLink
placed conditions k = record { conditions = conditions; link = link_of k }

-- the links without their places
abbrev pub plain_links : List (Bor Link) → List PlainLink
plain_links links = map (λ k. link_of k.now) links

-- those of the links that pass, without their conditions
abbrev pub carried : (PlacedLink → Bool) → List PlacedLink → List PlainLink
carried may links = map (λ k. k.link) (filter may links)

-- the target is a term of the function, where one is asked for
abbrev pub is_end : Option Name → Target → Bool
is_end None target = false
is_end (Some h) target = is_of h target

-- the link ends at one
abbrev pub ends_at : Option Name → PlacedLink → Bool
ends_at h k = is_end h k.link.target

-- the link ends at no aggregate, and the variables of its target are all among its source's
abbrev pub has_target_in_source : PlainLink → Bool
has_target_in_source k =
    is_per_row k.target
    && list_all (λ x. list_any (same_name x) (target_names k.source)) (target_names k.target)

-- the list has one link alone, and it passes
abbrev pub one_passes : (PlainLink → Bool) → List PlainLink → Bool
one_passes good [] = false
one_passes good (k ∷ []) = good k
one_passes good (k ∷ j ∷ ks) = false
