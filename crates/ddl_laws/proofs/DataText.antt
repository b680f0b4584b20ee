-- A data text has one answer.
use Rattle.std.proofs.Common.{◌≡◌, ℕ, List, length, refl, sym, ap, subst, ◌∙◌, Result, Ok, Err}
use Rattle.std.specs.Prelude.{⊤}
use Rattle.sd_lex.specs.declared.token.Token.{Token}
use Rattle.sd_lex.specs.declared.refusal.LexRefusal.{LexRefusal}
use Rattle.sd_lex.specs.declared.refusal.LexRefusal.TheVariants as lexer
use Rattle.sd_lex.specs.Lexing.{IsTextOrFault}
use Rattle.grammar.specs.Fault.{FirstFault}
use Rattle.grammar.proofs.Exact.{one_value}
use Rattle.token_reader.specs.Gives.{place, IsReal}
use Rattle.sd_graph.specs.Statement.{Building}
use Rattle.sd_graph.specs.Stating.{Ending, done, fault, too_many_nodes, too_many_edges, no_memory, Ends}
use Rattle.ddl_text.specs.declared.tree.Statement.{Statement}
use Rattle.ddl_text.specs.DataText.{file}
use Rattle.ddl_text.specs.Reading.{read_file}
use Rattle.token_reader.specs.Refused.{of_lexer}
use Rattle.ddl_text.proofs.Parts.{file_part}
use Rattle.sd_ddl.specs.declared.refusal.DdlRefusal.{DdlRefusal}
use Rattle.token_reader.specs.declared.refusal.TextRefusal.TheVariants.{TooLong, BadByte, OpenString, IntOutOfRange, Expected, NoMemory}
use Rattle.sd_ddl.specs.declared.refusal.DdlRefusal.TheVariants.{Text, KindConflict, TooManyEdges, TooManyNodes}
use Rattle.sd_ddl.specs.Parts.{parts}
use Rattle.sd_ddl.specs.Steps.{steps}
use Rattle.sd_ddl.specs.Reads.{Reads}
use Rattle.token_reader.proofs.Tokens.{one_token_list}
use Rattle.token_reader.proofs.TextFaults.{text_fault, text_spelled_no_fault}
use Rattle.ddl_laws.specs.OneAnswer.{IsSettled, HasOneAnswer}
use Rattle.source_steps.specs.Once.{ends_once, IsTold}

-- the answer of a whole text whose steps end so
abbrev ended : Ending ℕ ℕ → Result ⊤ DdlRefusal
ended done = Ok tt
ended (fault at) = Err (KindConflict at)
ended (too_many_nodes at) = Err (TooManyNodes at)
ended (too_many_edges at) = Err (TooManyEdges at)
ended no_memory = Err (Text NoMemory)

-- what the graph is after them: after a conflict it is as it was
abbrev left_by : Building → Building → Ending ℕ ℕ → Building
left_by b d (fault at) = b
left_by b d e = d

-- the three ways to an answer: by the lexer, by the grammar, or by the steps of the statements
data Way (limit : ℕ) (bytes : List ℕ) (b c : Building) (r : Result ⊤ DdlRefusal) : Type 0 where
  lexed : (e : LexRefusal) → IsTextOrFault limit bytes (Err e) → c ≡ b → r ≡ Err (Text (of_lexer e)) → Way limit bytes b c r
  stuck : (tokens rest : List Token) → IsTextOrFault limit bytes (Ok tokens) → FirstFault IsReal file file tokens rest → c ≡ b → r ≡ Err (Text (Expected (place (length bytes) rest))) → Way limit bytes b c r
  taken : (tokens : List Token) (statements : List Statement) → IsTextOrFault limit bytes (Ok tokens) → file tokens statements
      → (e : Ending ℕ ℕ) (d : Building) → IsTold e → Ends b (steps (parts statements)) d e → c ≡ left_by b d e → r ≡ ended e → Way limit bytes b c r

way : (limit : ℕ) (bytes : List ℕ) (b c : Building) (r : Result ⊤ DdlRefusal) → Reads limit bytes b c r → IsSettled r → Way limit bytes b c r
way limit bytes b c (Ok u) (statements, (tokens, l, f), t) settled = taken tokens statements l f done c tt t refl refl
way limit bytes b c (Err (Text (TooLong at))) h settled = lexed (lexer.TooLong at) h.1 h.0 refl
way limit bytes b c (Err (Text (BadByte at))) h settled = lexed (lexer.BadByte at) h.1 h.0 refl
way limit bytes b c (Err (Text (OpenString at))) h settled = lexed (lexer.OpenString at) h.1 h.0 refl
way limit bytes b c (Err (Text (IntOutOfRange at))) h settled = lexed (lexer.IntOutOfRange at) h.1 h.0 refl
way limit bytes b c (Err (Text (Expected at))) (same, (tokens, l, rest, f, is)) settled = stuck tokens rest l f same (ap (λ x. Err (Text (Expected x))) is)
way limit bytes b c (Err (KindConflict at)) (statements, (tokens, l, f), t) settled = taken tokens statements l f (fault at) t.1.0 tt t.1.1 t.0 refl
way limit bytes b c (Err (TooManyEdges at)) (statements, (tokens, l, f), t) settled = taken tokens statements l f (too_many_edges at) c tt t refl refl
way limit bytes b c (Err (TooManyNodes at)) (statements, (tokens, l, f), t) settled = taken tokens statements l f (too_many_nodes at) c tt t refl refl
way limit bytes b c (Err (Text NoMemory)) h settled = absurd settled

no_lexed : (limit : ℕ) (bytes : List ℕ) (tokens : List Token) (e : LexRefusal) → IsTextOrFault limit bytes (Ok tokens) → IsTextOrFault limit bytes (Err e) → ⊥
no_lexed limit bytes tokens e l h = let both : Ok tokens ≡ Err e = one_token_list limit bytes (Ok tokens) (Err e) l h in cc

same_tokens : (limit : ℕ) (bytes : List ℕ) (tokens tokens2 : List Token) → IsTextOrFault limit bytes (Ok tokens) → IsTextOrFault limit bytes (Ok tokens2) → tokens ≡ tokens2
same_tokens limit bytes tokens tokens2 l m = let both : Ok tokens ≡ Ok tokens2 = one_token_list limit bytes (Ok tokens) (Ok tokens2) l m in cc

one_way : (limit : ℕ) (bytes : List ℕ) (b c d : Building) (r s : Result ⊤ DdlRefusal) → Way limit bytes b c r → Way limit bytes b d s → (c ≡ d) × (r ≡ s)
one_way limit bytes b c d r s (lexed e h same is) (lexed f k same2 is2) =
    let both : Err e ≡ Err f = one_token_list limit bytes (Err e) (Err f) h k in
    let one : e ≡ f = cc in
    (same ∙ sym same2, is ∙ ap (λ x. Err (Text (of_lexer x))) one ∙ sym is2)
one_way limit bytes b c d r s (lexed e h same is) (stuck tokens rest l f same2 is2) = absurd (no_lexed limit bytes tokens e l h)
one_way limit bytes b c d r s (lexed e h same is) (taken tokens statements l f ending x settled t same2 is2) = absurd (no_lexed limit bytes tokens e l h)
one_way limit bytes b c d r s (stuck tokens rest l f same is) (lexed e h same2 is2) = absurd (no_lexed limit bytes tokens e l h)
one_way limit bytes b c d r s (stuck tokens rest l f same is) (stuck tokens2 rest2 m g same2 is2) =
    let e : tokens2 ≡ tokens = same_tokens limit bytes tokens2 tokens m l in
    let one : rest ≡ rest2 = text_fault file file (λ x v h. h) limit bytes tokens l rest rest2 f (subst (λ x. FirstFault IsReal file file x rest2) e g) in
    (same ∙ sym same2, is ∙ ap (λ x. Err (Text (Expected (place (length bytes) x)))) one ∙ sym is2)
one_way limit bytes b c d r s (stuck tokens rest l f same is) (taken tokens2 statements m g ending x settled t same2 is2) =
    let e : tokens2 ≡ tokens = same_tokens limit bytes tokens2 tokens m l in
    absurd (text_spelled_no_fault file file (λ x v h. h) limit bytes tokens l statements rest (subst (λ x. file x statements) e g) f)
one_way limit bytes b c d r s (taken tokens statements l f ending x settled t same is) (lexed e h same2 is2) = absurd (no_lexed limit bytes tokens e l h)
one_way limit bytes b c d r s (taken tokens statements l f ending x settled t same is) (stuck tokens2 rest m g same2 is2) =
    let e : tokens2 ≡ tokens = same_tokens limit bytes tokens2 tokens m l in
    absurd (text_spelled_no_fault file file (λ x v h. h) limit bytes tokens l statements rest f (subst (λ x. FirstFault IsReal file file x rest) e g))
one_way limit bytes b c d r s (taken tokens statements l f ending x settled t same is) (taken tokens2 statements2 m g ending2 y settled2 u same2 is2) =
    let e : tokens2 ≡ tokens = same_tokens limit bytes tokens2 tokens m l in
    let one : statements2 ≡ statements = one_value IsReal file file read_file file_part.reads tokens statements2 statements (subst (λ x. file x statements2) e g) f in
    let both = ends_once b x y (steps (parts statements)) ending ending2 settled settled2 t (subst (λ z. Ends b (steps (parts z)) y ending2) one u) in
    (same ∙ ap (λ z. left_by b z ending) both.0 ∙ ap (λ z. left_by b y z) both.1 ∙ sym same2, is ∙ ap ended both.1 ∙ sym is2)

pub one_answer : (limit : ℕ) (bytes : List ℕ) (b : Building) → HasOneAnswer limit bytes b
one_answer limit bytes b c d r s h k settled settled2 = one_way limit bytes b c d r s (way limit bytes b c r h settled) (way limit bytes b d s k settled2)
