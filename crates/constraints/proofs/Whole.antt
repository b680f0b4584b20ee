-- What the reader of a constraints' tokens finds, by the grammar alone.
use Rattle.std.proofs.Common.{◌≡◌, List, [], sym, subst, ◌∙◌}
use Rattle.std.proofs.lemmas.List.{append-nil}
use Rattle.sd_lex.specs.declared.token.Token.{Token}
use Rattle.grammar.specs.Fault.{FirstFault}
use Rattle.grammar.specs.Reading.{Read, Stuck, Past}
use Rattle.token_reader.specs.Gives.{IsReal}
use Rattle.grammar.proofs.Exact.{is_first_fault, never_past}
use Rattle.constraints.specs.declared.reading.Phrase.{Phrase}
use Rattle.constraints.specs.ConstraintText.{phrases}
use Rattle.constraints.specs.Reading.{read_phrases}
use Rattle.constraints.proofs.Parts.{phrases_part}

pub is_spelled : (tokens : List Token) (found : List Phrase) → read_phrases tokens ≡ Read found [] → phrases tokens found
is_spelled tokens found e =
    let s = (phrases_part.reads tokens).sound found [] e in
    subst (λ ts. phrases ts found) (sym (s.1 ∙ append-nil s.0)) s.2

pub is_fault : (tokens rest : List Token) → read_phrases tokens ≡ Stuck rest → FirstFault IsReal phrases phrases tokens rest
is_fault = is_first_fault IsReal phrases phrases read_phrases phrases_part.reads

pub is_never_past : (tokens rest : List Token) → read_phrases tokens ≡ Past rest → ⊥
is_never_past = never_past IsReal phrases read_phrases phrases_part.reads
