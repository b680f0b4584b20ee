-- What the reader of a script's tokens finds, by the grammar alone.
use Rattle.std.proofs.Common.{◌≡◌, List, [], sym, subst, ◌∙◌}
use Rattle.std.proofs.lemmas.List.{append-nil}
use Rattle.sd_lex.specs.declared.token.Token.{Token}
use Rattle.grammar.specs.Fault.{FirstFault}
use Rattle.grammar.specs.Reading.{Read, Stuck, Past}
use Rattle.token_reader.specs.Gives.{IsReal}
use Rattle.grammar.proofs.Exact.{is_first_fault, never_past}
use Rattle.happenings.specs.declared.event.WireEvent.{WireEvent}
use Rattle.script_reader.specs.ScriptText.{script}
use Rattle.script_reader.specs.Reading.{read_phrases}
use Rattle.script_reader.proofs.Parts.{script_part}

pub is_spelled : (tokens : List Token) (found : List WireEvent) → read_phrases tokens ≡ Read found [] → script tokens found
is_spelled tokens found e =
    let s = (script_part.reads tokens).sound found [] e in
    subst (λ ts. script ts found) (sym (s.1 ∙ append-nil s.0)) s.2

pub is_fault : (tokens rest : List Token) → read_phrases tokens ≡ Stuck rest → FirstFault IsReal script script tokens rest
is_fault = is_first_fault IsReal script script read_phrases script_part.reads

pub is_never_past : (tokens rest : List Token) → read_phrases tokens ≡ Past rest → ⊥
is_never_past = never_past IsReal script read_phrases script_part.reads
