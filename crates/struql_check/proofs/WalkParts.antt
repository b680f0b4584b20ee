-- The faults of a block, and of the blocks in it.
use Rattle.std.proofs.Common.{◌≡◌, ℕ, List, [], ◌∷◌, ◌++◌, sym, ap, ◌∙◌, subst, append_assoc}
use Rattle.std.specs.Prelude.{Option}
use Rattle.std.specs.List.{flat_map}
use Rattle.std.proofs.lemmas.List.{append-nil}
use Rattle.struql_ast.specs.Written.{Clauses}
use Rattle.struql_check.specs.declared.faults.Check.{Check}
use Rattle.struql_check.specs.declared.faults.Fault.{Fault}
use Rattle.struql_check.specs.declared.mentions.VariableUse.{VariableUse}
use Rattle.struql_check.specs.Scope.{mentions, uses}
use Rattle.struql_check.specs.Faults.{SomeIn, MentionFault, ChainFault, ConditionFault, LinkFault, CollectFault, BlockFault}
use Rattle.struql_check.specs.First.{IsFirst, earlier}
use Rattle.struql_check.proofs.Firsts.{first_both, first_append, first_one}

pub block_first : (version : ℕ) (round : List (List VariableUse)) (c : Clauses) (own used : List VariableUse) (a b d e f g : Option Fault)
    → own ≡ flat_map mentions c.conditions → used ≡ uses c
    → IsFirst (SomeIn (MentionFault round) own) a → IsFirst (SomeIn (MentionFault round) used) b
    → IsFirst (ChainFault (flat_map (λ ms. ms) round)) d → IsFirst (SomeIn ConditionFault c.conditions) e
    → IsFirst (SomeIn LinkFault c.links) f → IsFirst (SomeIn (CollectFault version) c.collects) g
    → IsFirst (BlockFault version (record { round = round; clauses = c })) (earlier (earlier a b) (earlier d (earlier e (earlier f g))))
block_first version round c own used a b d e f g is_own is_used pa pb pd pe pf pg =
    let by_mention : IsFirst (SomeIn (MentionFault round) (flat_map mentions c.conditions ++ uses c)) (earlier a b) =
    subst (λ (ms : List VariableUse). IsFirst (SomeIn (MentionFault round) (ms ++ uses c)) (earlier a b)) is_own
    (subst (λ (ms : List VariableUse). IsFirst (SomeIn (MentionFault round) (own ++ ms)) (earlier a b)) is_used
    (first_append (MentionFault round) own used a b pa pb)) in
    let by_link = first_both (SomeIn LinkFault c.links) (SomeIn (CollectFault version) c.collects) f g pf pg in
    let by_condition = first_both (SomeIn ConditionFault c.conditions) _ e (earlier f g) pe by_link in
    let by_chain = first_both (ChainFault (flat_map (λ ms. ms) round)) _ d (earlier e (earlier f g)) pd by_condition in
    first_both (SomeIn (MentionFault round) (flat_map mentions c.conditions ++ uses c)) _ (earlier a b) (earlier d (earlier e (earlier f g))) by_mention by_chain

pub first_cons : {X : Type 0} (F : X → Check → ℕ → Type 0) (x : X) (xs : List X) (a b : Option Fault) → IsFirst (F x) a → IsFirst (SomeIn F xs) b → IsFirst (SomeIn F (x ∷ xs)) (earlier a b)
first_cons F x xs a b p q = first_append F (x ∷ []) xs a b (first_one F x a p) q

pub concat_push : (round : List (List VariableUse)) (ms : List VariableUse) → flat_map (λ (ns : List VariableUse). ns) (round ++ ms ∷ []) ≡ flat_map (λ (ns : List VariableUse). ns) round ++ ms
concat_push [] ms = append-nil ms
concat_push (ns ∷ round) ms = ap (λ l. ns ++ l) (concat_push round ms) ∙ sym (append_assoc ns (flat_map (λ (ns : List VariableUse). ns) round) ms)
