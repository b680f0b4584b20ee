-- What the reader of an edit's tokens finds, by the grammar alone.
use Rattle.std.proofs.Common.{◌≡◌, List, [], sym, subst, ◌∙◌}
use Rattle.std.proofs.lemmas.List.{append-nil}
use Rattle.sd_lex.specs.declared.token.Token.{Token}
use Rattle.grammar.specs.Fault.{FirstFault}
use Rattle.grammar.specs.Reading.{Read, Stuck, Past}
use Rattle.token_reader.specs.Gives.{IsReal}
use Rattle.grammar.proofs.Exact.{is_first_fault, never_past}
use Rattle.edit_spec.specs.declared.Edit.{Edit}
use Rattle.edit_reader.specs.EditText.{edit}
use Rattle.edit_reader.specs.Reading.{read_whole}
use Rattle.edit_reader.proofs.Parts.{edit_part}

pub is_spelled : (tokens : List Token) (found : Edit) → read_whole tokens ≡ Read found [] → edit tokens found
is_spelled tokens found e =
    let s = (edit_part.reads tokens).sound found [] e in
    subst (λ ts. edit ts found) (sym (s.1 ∙ append-nil s.0)) s.2

pub is_fault : (tokens rest : List Token) → read_whole tokens ≡ Stuck rest → FirstFault IsReal edit edit tokens rest
is_fault = is_first_fault IsReal edit edit read_whole edit_part.reads

pub is_never_past : (tokens rest : List Token) → read_whole tokens ≡ Past rest → ⊥
is_never_past = never_past IsReal edit read_whole edit_part.reads
