-- The sorts of a block's variables, one mention more.
use Rattle.std.proofs.Common.{◌≡◌, List, [], ◌∷◌, ◌++◌, refl, sym, ◌∙◌, subst}
use Rattle.std.specs.Prelude.{Bool, true, false, ◌||◌, ◌&&◌, if◌then◌else◌, Some, None, unwrap_or}
use Rattle.std.proofs.lemmas.List.Folds.{list_any-append}
use Rattle.query_spec.specs.Mentions.{same_name}
use Rattle.struql_ast.specs.Written.{Name}
use Rattle.struql_check.specs.declared.mentions.VariableUse.{VariableUse}
use Rattle.struql_check.specs.Scope.{is_in, is_between_arrows, is_arc_role, sort_of}
use Rattle.query_spec.proofs.MentionLaws.{same_is, same_turned}

or_nil : (a b : Bool) → (a || (b || false)) ≡ (a || b)
or_nil true b = refl
or_nil false true = refl
or_nil false false = refl

in_push : (ms : List VariableUse) (m : VariableUse) (x : Name) → is_in (ms ++ m ∷ []) x ≡ (is_in ms x || same_name x m.name)
in_push ms m x = list_any-append (λ (n : VariableUse). same_name x n.name) ms (m ∷ []) ∙ or_nil (is_in ms x) (same_name x m.name)

between_push : (ms : List VariableUse) (m : VariableUse) (x : Name) → is_between_arrows (ms ++ m ∷ []) x ≡ (is_between_arrows ms x || (same_name x m.name && is_arc_role m.role))
between_push ms m x = list_any-append (λ (n : VariableUse). same_name x n.name && is_arc_role n.role) ms (m ∷ []) ∙ or_nil (is_between_arrows ms x) (same_name x m.name && is_arc_role m.role)

-- what isn't mentioned isn't between arrows
between_in : (ms : List VariableUse) (x : Name) → is_in ms x ≡ false → is_between_arrows ms x ≡ false
between_in [] x e = refl
between_in (m ∷ ms) x e = between_step (same_name x m.name) (is_arc_role m.role) (is_in ms x) (is_between_arrows ms x) e (between_in ms x) where
  between_step : (s r i b : Bool) → (s || i) ≡ false → (i ≡ false → b ≡ false) → ((s && r) || b) ≡ false
  between_step true r i b e f = absurd cc
  between_step false r i b e f = f e

or_right_false : (a : Bool) → (a || false) ≡ a
or_right_false true = refl
or_right_false false = refl

or_right_true : (a : Bool) → (a || true) ≡ true
or_right_true true = refl
or_right_true false = refl

chosen : (i b r : Bool) → (i ≡ false → b ≡ false) → (unwrap_or (if i then Some b else None) false || r) ≡ (b || r)
chosen true b r f = refl
chosen false b r f = rw (f refl) refl

more_at : (t : Bool) (ms : List VariableUse) (m : VariableUse) (x : Name) (before : Bool) → t ≡ same_name m.name x → before ≡ unwrap_or (sort_of (ms ∷ []) m.name) false
    → (if t then Some (before || is_arc_role m.role) else sort_of (ms ∷ []) x) ≡ sort_of ((ms ++ m ∷ []) ∷ []) x
more_at true ms m x before t e =
    let s : m.name ≡ x = same_is m.name x (sym t) in
    let at : same_name x m.name ≡ true = same_turned x m.name ∙ sym t in
    let was : before ≡ unwrap_or (sort_of (ms ∷ []) x) false = subst (λ (z : Name). before ≡ unwrap_or (sort_of (ms ∷ []) z) false) s e in
    rw (in_push ms m x, between_push ms m x, at, or_right_true (is_in ms x), was, chosen (is_in ms x) (is_between_arrows ms x) (is_arc_role m.role) (between_in ms x)) refl
more_at false ms m x before t e =
    let off : same_name x m.name ≡ false = same_turned x m.name ∙ sym t in
    rw (in_push ms m x, between_push ms m x, off, or_right_false (is_in ms x), or_right_false (is_between_arrows ms x)) refl

pub sort_more : (ms : List VariableUse) (m : VariableUse) (x : Name) (before : Bool) → before ≡ unwrap_or (sort_of (ms ∷ []) m.name) false
    → (if same_name m.name x then Some (before || is_arc_role m.role) else sort_of (ms ∷ []) x) ≡ sort_of ((ms ++ m ∷ []) ∷ []) x
sort_more ms m x before e = more_at (same_name m.name x) ms m x before refl e
