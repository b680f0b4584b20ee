-- A run without words.
use Rattle.std.proofs.Common.{◌≡◌, ◌⊎◌, ℕ, List, [], inl, inr, refl, sym, subst}
use Rattle.std.specs.Prelude.{Option, None, Some}
use Rattle.std.specs.Option.{IsSomeAnd}
use Rattle.edge_io.specs.Counts.{Rose}
use Rattle.edge_io.specs.Files.{FileMap}
use Rattle.edge_io.specs.Sink.{Gains, GainsPart}
use Rattle.wire.specs.Told.{WireReport}
use Rattle.run_report.specs.Report.{line, IsFixed}
use Rattle.run_report.specs.declared.status.Status.{Status}
use Rattle.run_report.specs.declared.status.Status.TheVariants.{Usage, WriteFault, WireFault}
use Rattle.run_report.specs.declared.status.Status.TheVariants as status
use Rattle.command_spec.specs.declared.Command.{Command}
use Rattle.site_inputs.specs.Statuses.{ReadRose}
use Rattle.command_run.specs.Main.{Seen, seen, status_without, HasEnded}
use Rattle.command_run.specs.declared.no_words.NoWords.{NoWords}
use Rattle.command_run.specs.declared.no_words.NoWords.TheVariants.{Unreadable, NoMemory}

one_of_two : (reason : NoWords) → (status_without reason ≡ Usage) ⊎ (status_without reason ≡ status.NoMemory)
one_of_two Unreadable = inl refl
one_of_two NoMemory = inr refl

no_wire_fault : (reason : NoWords) → status_without reason ≡ WireFault → ⊥
no_wire_fault Unreadable e = cc
no_wire_fault NoMemory e = cc

no_write_fault : (reason : NoWords) → status_without reason ≡ WriteFault → ⊥
no_write_fault Unreadable e = cc
no_write_fault NoMemory e = cc

none_read : (reason : NoWords) (before now : List ℕ → ℕ) → ReadRose [] before now (status_without reason)
none_read Unreadable before now = tt
none_read NoMemory before now = tt

not_given : (A : Type 0) (c : A) → ◌≡◌ {A = Option A} None (Some c) → ⊥
not_given A c e = cc

pub its_line_is_fixed : (reason : NoWords) → IsFixed (status_without reason)
its_line_is_fixed Unreadable = tt
its_line_is_fixed NoMemory = tt

module _ (contents : Option FileMap) (reads writes : List ℕ → ℕ) (output : Option (List ℕ)) (puts : ℕ) (error error_now : Option (List ℕ)) (lines lines_now : ℕ) (wire : WireReport) where
  abbrev Before : Seen
  Before = seen contents reads writes output puts error lines wire

  abbrev After : Seen
  After = seen contents reads writes output puts error_now lines_now wire

  ended_without : (reason : NoWords) → ((Rose lines lines_now → ⊥) → Gains error error_now (line (status_without reason))) → GainsPart error error_now (line (status_without reason))
      → HasEnded None Before After (status_without reason)
  ended_without reason whole part = record {
    usage = λ e. refl;
    no_command = λ e. (one_of_two reason, refl);
    ends = λ map told. subst (λ (o : Option FileMap). IsSomeAnd o (λ now. (status_without reason ≡ Usage) ⊎ (status_without reason ≡ status.NoMemory))) (sym told) (one_of_two reason);
    silent = λ e. (refl, refl);
    files = λ e. refl;
    wire = λ e. refl;
    wire_cause = λ e. absurd (no_wire_fault reason e);
    exact = λ map told c is. absurd (not_given Command c is);
    holds = λ map told c is. absurd (not_given Command c is);
    found = λ map told c is. absurd (not_given Command c is);
    complete = λ map told c is. absurd (not_given Command c is);
    read_cause = none_read reason reads reads;
    write_cause = λ e. absurd (no_write_fault reason e);
    file_cause = tt;
    whole_line = whole;
    part_line = part;
  }

  -- a run without words has only told why
  pub without_words : (reason : NoWords) (reached : Status) → reached ≡ status_without reason
      → ((Rose lines lines_now → ⊥) → Gains error error_now (line reached)) → GainsPart error error_now (line reached) → HasEnded None Before After reached
  without_words reason reached its whole part =
      subst (HasEnded None Before After) (sym its) (ended_without reason
      (subst (λ (s : Status). (Rose lines lines_now → ⊥) → Gains error error_now (line s)) its whole)
      (subst (λ (s : Status). GainsPart error error_now (line s)) its part))
