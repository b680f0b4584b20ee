-- Whether a text states data, and which.
use Rattle.std.proofs.Common.{◌≡◌, ◌⊎◌, inl, inr, ℕ, ◌<◌, ◌≤◌, ◌+◌, Bool, true, false, List, [], ◌∷◌, length, refl, sym, ap, subst, arith, Result, Ok, Err}
use Rattle.std.specs.Prelude.{nat_le}
use Rattle.std.proofs.lemmas.Bool.Decides.{nat_tests}
use Rattle.sd_lex.specs.declared.refusal.LexRefusal.{LexRefusal}
use Rattle.sd_lex.specs.declared.token.Token.{Token}
use Rattle.sd_lex.specs.Lexing.{IsTextOrFault}
use Rattle.grammar.specs.Reading.{Outcome, Read, Stuck, Past, and_then, finish, repeat}
use Rattle.token_reader.proofs.Tokens.{one_token_list}
use Rattle.ddl_text.specs.declared.tree.Statement.{Statement}
use Rattle.ddl_text.specs.DataText.{file}
use Rattle.ddl_text.specs.Reading.{read_file, read_statement, begins_statement}
use Rattle.ddl_text.proofs.Whole.{is_spelled, is_only, is_none, is_never_past}
use Rattle.sd_graph.specs.Statement.{Building, building_with, IsWithin}
use Rattle.sd_graph.specs.Stating.{Step, says, fails, Leads}
use Rattle.sd_ddl.specs.Parts.{parts}
use Rattle.sd_ddl.specs.Steps.{steps}
use Rattle.sd_ddl.specs.Reads.{Follows}
use Rattle.data_texts.proofs.Lexed.{lexed_text}

-- ---- the grammar

abbrev Spelling : List Token → Type 0
Spelling tokens =
    ((found : List Statement) × (read_file tokens ≡ Read found [])) ⊎ ((others : List Statement) → file tokens others → ⊥)

read_is : (tokens : List Token) (o : Outcome Token (List Statement)) → repeat begins_statement read_statement tokens ≡ o → read_file tokens ≡ and_then o (λ v rest. finish v rest)
unfolding read_file
read_is tokens o is = ap (λ x. and_then x (λ v rest. finish v rest)) is

spelling : (tokens : List Token) → Spelling tokens
spelling tokens = by (repeat begins_statement read_statement tokens) refl
  where
    by : (o : Outcome Token (List Statement)) → repeat begins_statement read_statement tokens ≡ o → Spelling tokens
    by (Read found []) is = inl (found, read_is tokens (Read found []) is)
    by (Read found (t ∷ rest)) is = inr (is_none tokens (t ∷ rest) (read_is tokens (Read found (t ∷ rest)) is))
    by (Stuck rest) is = inr (is_none tokens rest (read_is tokens (Stuck rest) is))
    by (Past rest) is = absurd (is_never_past tokens rest (read_is tokens (Past rest) is))

-- ---- the statements

at_most : (a b : ℕ) → (a ≤ b) ⊎ (a ≤ b → ⊥)
at_most a b = by (nat_le a b) refl
  where
    by : (test : Bool) → nat_le a b ≡ test → (a ≤ b) ⊎ (a ≤ b → ⊥)
    by true is = inl (grind (arith, nat_tests))
    by false is = let over : b < a = grind (arith, nat_tests) in inr (λ within. omega (arith, over, within))

within : (b : Building) → IsWithin b ⊎ (IsWithin b → ⊥)
within b = by (at_most (length b.graph.nodes) b.limits.nodes) (at_most (length b.graph.edges + length b.graph.members) b.limits.edges)
  where
    by : (length b.graph.nodes ≤ b.limits.nodes) ⊎ (length b.graph.nodes ≤ b.limits.nodes → ⊥)
        → (length b.graph.edges + length b.graph.members ≤ b.limits.edges) ⊎ (length b.graph.edges + length b.graph.members ≤ b.limits.edges → ⊥)
        → IsWithin b ⊎ (IsWithin b → ⊥)
    by (inl nodes) (inl edges) = inl (nodes, edges)
    by (inl nodes) (inr edges) = inr (λ h. edges h.1)
    by (inr nodes) edges = inr (λ h. nodes h.0)

abbrev Leading : Building → List (Step ℕ ℕ) → Type 0
Leading b all = ((c : Building) × Leads b all c) ⊎ ((c : Building) → Leads b all c → ⊥)

leading : (b : Building) (all : List (Step ℕ ℕ)) → Leading b all
leading b [] = inl (b, refl)
leading b (says p s ∷ all) = by (within (building_with s b)) (leading (building_with s b) all)
  where
    by : IsWithin (building_with s b) ⊎ (IsWithin (building_with s b) → ⊥) → Leading (building_with s b) all → Leading b (says p s ∷ all)
    by (inl room) (inl (c, later)) = inl (c, (room, later))
    by (inl room) (inr never) = inr (λ c h. never c h.1)
    by (inr none) later = inr (λ c h. none h.0)
leading b (fails f ∷ all) = inr (λ c h. h)

-- ---- the text

abbrev pub Decided : ℕ → List ℕ → Building → Type 0
Decided limit bytes b =
    ((c : Building) × Follows limit bytes b c (Ok tt)) ⊎ ((c : Building) → Follows limit bytes b c (Ok tt) → ⊥)

same_tokens : (limit : ℕ) (bytes : List ℕ) (tokens others : List Token) → IsTextOrFault limit bytes (Ok tokens) → IsTextOrFault limit bytes (Ok others) → tokens ≡ others
same_tokens limit bytes tokens others l m = let both : Ok tokens ≡ Ok others = one_token_list limit bytes (Ok tokens) (Ok others) l m in cc

no_tokens : (limit : ℕ) (bytes : List ℕ) (tokens : List Token) (e : LexRefusal) → IsTextOrFault limit bytes (Ok tokens) → IsTextOrFault limit bytes (Err e) → ⊥
no_tokens limit bytes tokens e l m = let both : Ok tokens ≡ Err e = one_token_list limit bytes (Ok tokens) (Err e) l m in absurd cc

pub decided : (limit : ℕ) (bytes : List ℕ) (b : Building) → Decided limit bytes b
decided limit bytes b = by (lexed_text limit bytes)
  where
    by : (r : Result (List Token) LexRefusal) × IsTextOrFault limit bytes r → Decided limit bytes b
    by (Err e, fault) = inr (λ c h. no_tokens limit bytes h.1.0 e h.1.1 fault)
    by (Ok tokens, lexed) = by_spelling (spelling tokens)
      where
        only : (found : List Statement) → read_file tokens ≡ Read found [] → (c : Building) (h : Follows limit bytes b c (Ok tt)) → Leads b (steps (parts found)) c
        only found is c h =
            let tokens_are : h.1.0 ≡ tokens = same_tokens limit bytes h.1.0 tokens h.1.1 lexed in
            let found_is : found ≡ h.0 = is_only tokens found is h.0 (subst (λ x. file x h.0) tokens_are h.1.2) in
            subst (λ x. Leads b (steps (parts x)) c) (sym found_is) h.2

        by_leading : (found : List Statement) → read_file tokens ≡ Read found [] → Leading b (steps (parts found)) → Decided limit bytes b
        by_leading found is (inl (c, leads)) = inl (c, (found, (tokens, lexed, is_spelled tokens found is), leads))
        by_leading found is (inr never) = inr (λ c h. never c (only found is c h))

        by_spelling : Spelling tokens → Decided limit bytes b
        by_spelling (inl (found, is)) = by_leading found is (leading b (steps (parts found)))
        by_spelling (inr none) = inr (λ c h. none h.0 (subst (λ x. file x h.0) (same_tokens limit bytes h.1.0 tokens h.1.1 lexed) h.1.2))
