-- `object o { v 1 v 2 }` and `WHERE y -> "v" -> x CREATE F(x, x)`: F(1, 1) is in the site, and F(1, 2) is not.
use Rattle.std.specs.Prelude.{List, [], ◌∷◌}
use Rattle.std.proofs.Common.{refl, sym, subst, inl, inr, lit<}
use Rattle.sd_value.specs.declared.Value.{Value}
use Rattle.sd_value.specs.Members.{IsOneOf-from_Contains}
use Rattle.graph_spec.specs.DataGraph.{node}
use Rattle.query_spec.specs.Query.{Body}
use Rattle.query_spec.specs.Mentions.{chain_of}
use Rattle.query_spec.specs.Holds.{Holds}
use Rattle.query_spec.specs.Rows.{IsRow, value_in}
use Rattle.site_spec.specs.Site.{InSite, IsNamed, SomeOf, scope_of, terms_of}
use Rattle.definition_examples.specs.Tools.{edge}
use Rattle.definition_examples.proofs.Tools.{all}
use Rattle.definition_examples.specs.RepeatedArguments.{o, v, int, graph, term, body, query, page}

abbrev row : List Value
row = node o ∷ int 1 ∷ []

has_row : IsRow graph (chain_of 1 body.conditions) row
has_row = record {
  in_domain = ((0, lit< tt, refl), ((edge o v (int 1), (0, lit< tt, refl), refl), tt));
  conditions_hold = all (λ k. Holds graph 1 k (value_in (chain_of 1 body.conditions).variables row)) body.conditions
      ((node o, int 1, refl, refl, v ∷ [], refl, (int 1, (0, lit< tt, refl), refl)), tt);
}

pub equal_arguments_are_in_the_site : InSite graph (scope_of query) (page 1 1)
equal_arguments_are_in_the_site = record {
  item = body;
  within = (0, lit< tt, refl);
  holds = record {
    item = term;
    within = (0, lit< tt, refl);
    holds = record { row = row; is_row = has_row; holds = record { function = refl; args = (refl, (refl, tt)) } };
  };
}

-- one variable has one value
not_named : IsNamed graph (chain_of 1 body.conditions) (page 1 2) term → ⊥
not_named some = let first = some.holds.args.0 in let second = some.holds.args.1.0 in cc

in_no_term : SomeOf (IsNamed graph (chain_of 1 body.conditions) (page 1 2)) (terms_of body) → ⊥
in_no_term some =
    elim (IsOneOf-from_Contains (term ∷ []) some.item some.within) [
      | inl e ↦ not_named (subst (IsNamed graph (chain_of 1 body.conditions) (page 1 2)) (sym e) some.holds)
      | inr none ↦ none
    ]

pub different_arguments_are_not : InSite graph (scope_of query) (page 1 2) → ⊥
different_arguments_are_not some =
    elim (IsOneOf-from_Contains (body ∷ []) some.item some.within) [
      | inl e ↦ in_no_term (subst (λ (b : Body). SomeOf (IsNamed graph (chain_of 1 b.conditions) (page 1 2)) (terms_of b)) (sym e) some.holds)
      | inr none ↦ none
    ]
