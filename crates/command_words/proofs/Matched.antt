-- What a parse that ends gives.
use Rattle.std.proofs.Common.{◌≡◌, ◌∙◌, List, [], ◌∷◌, Option, None, Some, refl, sym, ap, ap₂, subst, inl, inr, true, false, map, true≢false}
use Rattle.std.specs.Prelude.{MatchOption, option_map, Box, is_some, unwrap_or}
use Rattle.std.specs.Box.{box_value}
use Rattle.std.specs.Borrow.{Bor}
use Rattle.std.specs.Str.{is_utf8}
use Rattle.clap.specs.Walk.{Text, all_of, is_empty, rows_of, texts}
use Rattle.clap.specs.Simple.{App, subcommand_rows}
use Rattle.clap.specs.Matches.{found_of, matched_of, raw_values}
use Rattle.clap.specs.Kinds.{HasKind, IsAmong, Kinds}
use Rattle.clap.specs.Values.{kind_of}
use Rattle.clap.specs.Faults.{fault_of, is_simple_and_free}
use Rattle.clap.proofs.WalkLemmas.{raw_values-rows}
use Rattle.clap.specs.declared.error.Error.{Error}
use Rattle.clap.specs.declared.error.kind.ErrorKind.TheVariants.{OutOfMemory}
use Rattle.clap.specs.declared.parser.matches.Found.{Found}
use Rattle.clap.specs.declared.parser.matches.ArgMatches.{ArgMatches}
use Rattle.clap.specs.declared.parser.matches.ArgMatches.TheViews.{out-SubCommand}
use Rattle.clap.specs.declared.parser.matches.SubCommand.{SubCommand}
use Rattle.command_spec.specs.Options as option_specs
use Rattle.command_spec.specs.Words.{is_word}
use Rattle.command_words.specs.Parsed as parsed
use Rattle.command_words.proofs.Whole.{fails_some}

pub is_plain_program : is_simple_and_free parsed.program ≡ true
is_plain_program = refl

among_some : (kinds : Kinds) (e : Error) → IsAmong (kind_of e) kinds → is_empty kinds ≡ false
among_some [] e i = absurd i
among_some (k ∷ ks) e i = fails_some (k ∷ ks) (record { kind = k; more = ks; are = refl })

-- an error that is not of memory comes only where there is a fault
pub fault_found : (app : App) (given : List Text) (e : Error) → app ≡ parsed.program → (is_simple_and_free app ≡ true → HasKind (fault_of app given) e) → (kind_of e ≡ OutOfMemory → ⊥) → is_empty (fault_of parsed.program given) ≡ false
fault_found app given e is kinds other = subst (λ a. is_empty (fault_of a given) ≡ false) is (by (kinds (ap is_simple_and_free is ∙ is_plain_program)))
  where
    by : HasKind (fault_of app given) e → is_empty (fault_of app given) ≡ false
    by (inl memory) = absurd (other memory)
    by (inr among) = among_some (fault_of app given) e among

pub no_fault : (app : App) (given : List Text) → app ≡ parsed.program → (is_simple_and_free app ≡ true → fault_of app given ≡ []) → is_empty (fault_of parsed.program given) ≡ true
no_fault app given is kinds = subst (λ a. is_empty (fault_of a given) ≡ true) is (ap is_empty (kinds (ap is_simple_and_free is ∙ is_plain_program)))

-- the words among the values that were found
pub words_found : (f : Found) (id : Text) (o : Option (Bor (List (Bor Text)))) → option_map (λ s. map (λ v. v.now) s.now) o ≡ option_map raw_values (matched_of f id) → option_map (λ s. texts s.now) o ≡ all_of id (rows_of f)
words_found f id o e = e ∙ raw_values-rows f id

pub non_empty_word : (o : Option (Bor Text)) (text word : Text) → text ≡ word → true ≡ is_utf8 word → MatchOption o (option_specs.is_empty text ≡ true) (λ r. (r.now ≡ text) × (option_specs.is_empty text ≡ false))
    → MatchOption o (is_word word ≡ false) (λ r. (r.now ≡ word) × (is_word word ≡ true))
non_empty_word None text word same utf8 e = rw (← utf8, ← same, e) refl
non_empty_word (Some r) text word same utf8 e = (e.0 ∙ same, rw (← utf8, ← same, e.1) refl)

pub no_text : (word : Text) → false ≡ is_utf8 word → is_word word ≡ false
no_text word f = rw (← f) refl

-- the subcommand and its matches
module _ {Z : Type 0} where
  pub entered : (sub : Option (Box SubCommand Z)) (found : Option (Bor Text × Bor ArgMatches)) → option_map (λ p. p.0.now) found ≡ option_map (λ b. (out-SubCommand (box_value b)).name.now) sub → option_map (λ p. rows_of (found_of p.1.now)) found ≡ option_map (λ p. p.1) (subcommand_rows sub)
      → option_map (λ p. (p.0.now, rows_of (found_of p.1.now))) found ≡ subcommand_rows sub
  entered None None n r = refl
  entered None (Some p) n r = absurd (true≢false (ap is_some n))
  entered (Some b) None n r = absurd (true≢false (sym (ap is_some n)))
  entered (Some b) (Some p) n r = ap₂ (λ x y. Some (x, y)) (just _ _ n) (just _ _ r)
    where
      just : {X : Type 0} (x y : X) → Some x ≡ Some y → x ≡ y
      just x y e = ap (λ o. unwrap_or o x) e
