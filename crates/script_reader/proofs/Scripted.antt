-- What a script's events are.
use Rattle.std.proofs.Common.{◌≡◌, ℕ, zero, suc, ◌≤◌, List, [], ◌∷◌, sym, subst, arith, Some, inl, inr}
use Rattle.std.specs.Prelude.{All, ℤ, pos, negsuc, ⊤}
use Rattle.std.proofs.lemmas.List.Elements.{All-from_recursion}
use Rattle.sd_lex.specs.declared.token.Token.{Token}
use Rattle.sd_lex.specs.declared.token.TokenKind.{TokenKind}
use Rattle.sd_lex.specs.declared.token.TokenKind.TheVariants as kinds
use Rattle.grammar.specs.Fault.{Every}
use Rattle.happenings.specs.declared.event.WireEvent.{WireEvent}
use Rattle.happenings.specs.declared.event.WireEvent.TheVariants.{Opened, Bytes, Ended, Lost, Change, Done}
use Rattle.script_reader.specs.Terminals.{positive, connection_kind_value}
use Rattle.script_reader.specs.ScriptText.{phrase, script, events}
use Rattle.script_reader.specs.Script.{IsScripted}

-- an event of a connection, an empty piece, or a text
abbrev IsPhrase : WireEvent → Type 0
IsPhrase (Opened number) = 1 ≤ number
IsPhrase (Bytes number bytes) = 1 ≤ number
IsPhrase (Ended number) = 1 ≤ number
IsPhrase (Lost number) = 1 ≤ number
IsPhrase (Change text) = ⊤
IsPhrase Done = ⊥

positive_some : (i : ℤ) (n : ℕ) → positive i ≡ Some n → 1 ≤ n
positive_some (pos zero) n e = absurd cc
positive_some (pos (suc m)) n e = let same : suc m ≡ n = cc in omega arith
positive_some (negsuc m) n e = absurd cc

connection_some : (k : TokenKind) (n : ℕ) → connection_kind_value k ≡ Some n → 1 ≤ n
connection_some (kinds.Name m) n e = absurd cc
connection_some (kinds.Quoted q) n e = absurd cc
connection_some (kinds.Int i) n e = positive_some i n e
connection_some (kinds.Sign r) n e = absurd cc

of_phrase : (tokens : List Token) (v : WireEvent) → phrase tokens v → IsPhrase v
of_phrase tokens v (inl h) = subst IsPhrase (sym h.5.5.1) (connection_some h.5.4.0.kind h.5.2 h.5.4.2)
of_phrase tokens v (inr (inl h)) = subst IsPhrase (sym h.5.5.5.1) (connection_some h.5.4.0.kind h.5.2 h.5.4.2)
of_phrase tokens v (inr (inr (inl h))) = subst IsPhrase (sym h.5.5.1) (connection_some h.5.4.0.kind h.5.2 h.5.4.2)
of_phrase tokens v (inr (inr (inr (inl h)))) = subst IsPhrase (sym h.5.5.1) (connection_some h.5.4.0.kind h.5.2 h.5.4.2)
of_phrase tokens v (inr (inr (inr (inr h)))) = subst IsPhrase (sym h.5.5.1) tt

of_script : (tokens : List Token) (phrases : List WireEvent) → script tokens phrases → Every IsPhrase phrases
of_script tokens [] h = tt
of_script tokens (v ∷ phrases) (front, back, parts, one, later) = (of_phrase front v one, of_script back phrases later)

kept : (phrases : List WireEvent) → Every IsPhrase phrases → Every IsScripted (events phrases)
kept [] h = tt
kept (Opened number ∷ phrases) h = (h.0, kept phrases h.1)
kept (Bytes number [] ∷ phrases) h = kept phrases h.1
kept (Bytes number (byte ∷ bytes) ∷ phrases) h = ((h.0, λ e. cc), kept phrases h.1)
kept (Ended number ∷ phrases) h = (h.0, kept phrases h.1)
kept (Lost number ∷ phrases) h = (h.0, kept phrases h.1)
kept (Change text ∷ phrases) h = (tt, kept phrases h.1)
kept (Done ∷ phrases) h = absurd h.0

pub scripted : (tokens : List Token) (phrases : List WireEvent) → script tokens phrases → All IsScripted (events phrases)
scripted tokens phrases h = All-from_recursion IsScripted (events phrases) (kept phrases (of_script tokens phrases h))
