-- The value that is chosen for a variable.
use Rattle.std.proofs.Common.{◌≡◌, ℕ, ◌+◌, ◌<◌, List, [], ◌∷◌, ◌++◌, sym, ap, ◌∙◌, length, get_or, take}
use Rattle.std.specs.Prelude.{fold, Option, Some, None, unwrap_or}
use Rattle.std.specs.Option.{option_or}
use Rattle.std.proofs.lemmas.List.Sums.{fold_more}
use Rattle.sd_value.specs.declared.Value.{Value}
use Rattle.query_spec.specs.declared.Variable.{Variable}
use Rattle.query_spec.specs.Mentions.{variables_of}
use Rattle.query_spec.specs.Rows.{value_in}
use Rattle.counterexample_spec.specs.Values.{Pattern, given, tested, own, value_after}

module _ (p : Pattern) (variables : List Variable) (are : variables ≡ variables_of p.conditions) (known : List Value) (v : Variable) where
  with_given : (o : Option Value) → o ≡ given p (value_in variables known) v → unwrap_or (option_or o (tested p (length known) v)) (own p v) ≡ value_after p known v
  with_given o e = ap (λ (o : Option Value). unwrap_or (option_or o (tested p (length known) v)) (own p v)) (e ∙ ap (λ (vs : List Variable). given p (value_in vs known) v) are)

  pub from_given : (o : Option Value) (x : Value) → o ≡ given p (value_in variables known) v → o ≡ Some x → x ≡ value_after p known v
  from_given o x e is = ap (λ (o : Option Value). unwrap_or (option_or o (tested p (length known) v)) (own p v)) (sym is) ∙ with_given o e

  none_given : (o : Option Value) → o ≡ given p (value_in variables known) v → o ≡ None → unwrap_or (tested p (length known) v) (own p v) ≡ value_after p known v
  none_given o e none = ap (λ (o : Option Value). unwrap_or (option_or o (tested p (length known) v)) (own p v)) (sym none) ∙ with_given o e

  pub from_tested : (o t : Option Value) (x : Value) → o ≡ given p (value_in variables known) v → o ≡ None → t ≡ tested p (length known) v → t ≡ Some x → x ≡ value_after p known v
  from_tested o t x e none f is = ap (λ (t : Option Value). unwrap_or t (own p v)) (sym is ∙ f) ∙ none_given o e none

  pub from_own : (o t : Option Value) (x : Value) → o ≡ given p (value_in variables known) v → o ≡ None → t ≡ tested p (length known) v → t ≡ None → x ≡ own p v → x ≡ value_after p known v
  from_own o t x e none f is w = w ∙ ap (λ (t : Option Value). unwrap_or t (own p v)) (sym is ∙ f) ∙ none_given o e none

-- one value more
pub value_more : (p : Pattern) (xs : List Variable) (i : ℕ) (x : Variable) (known seen new : List Value) (v : Value) → i < length xs → x ≡ get_or xs i x → known ≡ fold (λ known v. known ++ value_after p known v ∷ []) [] (take i xs) → seen ≡ known
    → v ≡ value_after p seen x → new ≡ known ++ v ∷ [] → new ≡ fold (λ known v. known ++ value_after p known v ∷ []) [] (take (i + 1) xs)
value_more p xs i x known seen new v lt is e same w n =
    let F : List Value → Variable → List Value = λ known v. known ++ value_after p known v ∷ [] in
    n ∙ ap (λ (y : Value). known ++ y ∷ []) (w ∙ ap (λ (k : List Value). value_after p k x) same)
    ∙ ap (λ (k : List Value). F k x) e ∙ ap (F (fold F [] (take i xs))) is ∙ sym (fold_more F [] xs i x lt)
