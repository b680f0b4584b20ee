-- What the tests of a use come to.
use Rattle.std.proofs.Common.{◌≡◌, ℕ, List, ap, sym, ◌∙◌}
use Rattle.std.specs.Prelude.{Bool, true, ◌&&◌, Option, None, if◌then◌else◌}
use Rattle.std.specs.List.{list_all}
use Rattle.sd_value.specs.Names.{Name}
use Rattle.query_spec.specs.declared.Variable.{Variable}
use Rattle.query_spec.specs.Query.{Condition, SkolemTerm}
use Rattle.query_spec.specs.Mentions.{variables_of}
use Rattle.constraint_spec.specs.Placed.{PlacedLink}
use Rattle.constraint_spec.specs.Use.{rename, name_for}
use Rattle.constraint_recheck.specs.Entails.{Tests, entails}
use Rattle.constraint_recheck.specs.Recheck.{zip_all, is_use}
use Rattle.tests_certificates.specs.Links.{is_sorted}

module _ (tests : Tests) (version : ℕ) (S : List Condition) (k : PlacedLink) (names : List Name) (targets variables : List Variable) (ts : targets ≡ variables_of S) (vs : variables ≡ variables_of k.conditions) where
  -- names of variables of the right sort
  pub use_true : (given conditions : List Condition) (some all : Bool) → given ≡ S → conditions ≡ k.conditions → some ≡ zip_all (is_sorted targets) variables names → some ≡ true
      → all ≡ list_all (λ c. entails tests version given (rename (name_for variables names) c)) conditions → all ≡ is_use tests version S k names
  use_true given conditions some all gs cs sorts passed entailed =
      let sorted : true ≡ zip_all (is_sorted (variables_of S)) (variables_of k.conditions) names = sym passed ∙ (sorts ∙ (λ j. zip_all (is_sorted (ts j)) (vs j) names)) in
      let rest = list_all (λ (c : Condition). entails tests version S (rename (name_for (variables_of k.conditions) names) c)) k.conditions in
      let all_is : all ≡ rest = entailed ∙ (λ j. list_all (λ (c : Condition). entails tests version (gs j) (rename (name_for (vs j) names) c)) (cs j)) in
      all_is ∙ ap (λ b. b && rest) sorted

-- the source, where it is a use that ends at the term
pub both_true : (uses ends : Bool) (source found : Option SkolemTerm) → uses ≡ true → ends ≡ true → found ≡ source → found ≡ (if uses && ends then source else None)
both_true uses ends source found u s e = rw (u, s) e
