-- The names of mentions, each once, in the order of the first.
use Rattle.std.proofs.Common.{◌≡◌, ◌≤◌, List, [], ◌∷◌, ◌++◌, length, refl, sym, ap, ◌∙◌}
use Rattle.std.specs.Prelude.{true, false, ◌||◌, map}
use Rattle.std.specs.List.{list_any}
use Rattle.std.proofs.lemmas.List.{map-append}
use Rattle.query_spec.specs.Mentions.{same_name}
use Rattle.query_spec.proofs.MentionLaws.{any_first, first_new, first_known, first_grows}
use Rattle.struql_ast.specs.Written.{Name}
use Rattle.struql_check.specs.declared.mentions.VariableUse.{VariableUse}
use Rattle.struql_check.specs.Scope.{is_in}
use Rattle.struql_check.specs.Known.{names_of}

pub in_names : (ms : List VariableUse) (x : Name) → is_in ms x ≡ list_any (same_name x) (map (λ m. m.name) ms)
in_names [] x = refl
in_names (m ∷ ms) x = ap (λ b. same_name x m.name || b) (in_names ms x)

pub names_new : (ms : List VariableUse) (m : VariableUse) → list_any (same_name m.name) (names_of ms) ≡ false → names_of (ms ++ m ∷ []) ≡ names_of ms ++ m.name ∷ []
names_new ms m e = rw (map-append (λ (n : VariableUse). n.name) ms (m ∷ [])) (first_new (map (λ n. n.name) ms) m.name (sym (any_first m.name (map (λ n. n.name) ms)) ∙ e))

pub names_known : (ms : List VariableUse) (m : VariableUse) → list_any (same_name m.name) (names_of ms) ≡ true → names_of (ms ++ m ∷ []) ≡ names_of ms
names_known ms m e = rw (map-append (λ (n : VariableUse). n.name) ms (m ∷ [])) (first_known (map (λ n. n.name) ms) m.name (sym (any_first m.name (map (λ n. n.name) ms)) ∙ e))

pub names_grow : (ms ns : List VariableUse) → length (names_of ms) ≤ length (names_of (ms ++ ns))
names_grow ms ns = rw (map-append (λ (n : VariableUse). n.name) ms ns) (first_grows (map (λ n. n.name) ms) (map (λ n. n.name) ns))

pub names_unknown : (ms : List VariableUse) (x : Name) → is_in ms x ≡ false → list_any (same_name x) (names_of ms) ≡ false
names_unknown ms x e = any_first x (map (λ n. n.name) ms) ∙ (sym (in_names ms x) ∙ e)

pub unknown_names : (ms : List VariableUse) (x : Name) → list_any (same_name x) (names_of ms) ≡ false → is_in ms x ≡ false
unknown_names ms x e = in_names ms x ∙ (sym (any_first x (map (λ n. n.name) ms)) ∙ e)
