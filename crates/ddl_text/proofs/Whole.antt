-- What the reader of a whole data text finds, by the grammar alone.
use Rattle.std.proofs.Common.{◌≡◌, List, [], ◌++◌, sym, ap, subst, ◌∙◌}
use Rattle.std.proofs.lemmas.List.{append-nil}
use Rattle.sd_lex.specs.declared.token.Token.{Token}
use Rattle.grammar.specs.Fault.{FirstFault}
use Rattle.grammar.specs.Reading.{Read, Stuck, Past}
use Rattle.token_reader.specs.Gives.{IsReal}
use Rattle.grammar.proofs.Exact.{read_again, is_first_fault, never_past}
use Rattle.ddl_text.specs.declared.tree.Statement.{Statement}
use Rattle.ddl_text.specs.DataText.{statement, file}
use Rattle.ddl_text.specs.Reading.{read_statement, read_file}
use Rattle.ddl_text.proofs.Parts.{statement_part, file_part}

pub is_spelled : (tokens : List Token) (found : List Statement) → read_file tokens ≡ Read found [] → file tokens found
is_spelled tokens found e =
    let s = (file_part.reads tokens).sound found [] e in
    subst (λ ts. file ts found) (sym (s.1 ∙ append-nil s.0)) s.2

pub is_only : (tokens : List Token) (found : List Statement) → read_file tokens ≡ Read found [] → (others : List Statement) → file tokens others → found ≡ others
is_only tokens found e others h = let again = read_again IsReal file file read_file file_part.reads tokens others h in cc

pub is_fault : (tokens rest : List Token) → read_file tokens ≡ Stuck rest → FirstFault IsReal file file tokens rest
is_fault = is_first_fault IsReal file file read_file file_part.reads

pub is_none : (tokens rest : List Token) → read_file tokens ≡ Stuck rest → (others : List Statement) → file tokens others → ⊥
is_none tokens rest e others h = let again = read_again IsReal file file read_file file_part.reads tokens others h in cc

pub is_never_past : (tokens rest : List Token) → read_file tokens ≡ Past rest → ⊥
is_never_past = never_past IsReal file read_file file_part.reads

-- a statement of which no token is left
pub is_one : (tokens rest : List Token) (found : Statement)
    → read_statement tokens ≡ Read found rest → rest ≡ [] → statement tokens found
is_one tokens rest found e none =
    let s = (statement_part.reads tokens).sound found rest e in
    subst (λ ts. statement ts found) (sym (s.1 ∙ ap (λ r. s.0 ++ r) none ∙ append-nil s.0)) s.2
