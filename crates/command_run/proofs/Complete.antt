-- Commands that write files or serve connections end well.
use Rattle.std.proofs.Common.{◌≡◌, ◌⊎◌, ℕ, List, inl, inr, subst}
use Rattle.std.specs.Prelude.{Option, None, Some}
use Rattle.std.specs.Option.{IsSomeAnd}
use Rattle.edge_io.specs.Files.{FileMap}
use Rattle.run_report.specs.declared.status.Status.{Status}
use Rattle.run_report.specs.declared.status.Status.TheVariants as status
use Rattle.command_spec.specs.declared.Command.{Command}
use Rattle.command_spec.specs.declared.Command.TheVariants as command
use Rattle.site_inputs.specs.Statuses.{ReadRose}
use Rattle.edge_io.specs.Counts.{Rose}
use Rattle.wire.specs.Told.{WireReport}
use Rattle.site_inputs.specs.Outside.{Outside, PutsRose, EventsRose, outside}
use Rattle.command_build.proofs.Law.{build_ends_well}
use Rattle.command_serve.proofs.Law.{serving_ends_well}
use Rattle.command_replay.proofs.Law.{replay_ends_well}
use Rattle.command_spec.specs.Inputs.{inputs_of_command, given_inputs}
use Rattle.command_run.specs.Top.{Ends, RunEnds}
use Rattle.command_run.specs.Complete.{Follows, IsComplete}

module _ (contents : Option FileMap) (before after : Outside) where
  abbrev Wrote : Type 0
  Wrote = PutsRose before.host after.host

  abbrev Read : List (List ℕ) → Status → Type 0
  Read paths = ReadRose paths before.host.failed_reads after.host.failed_reads

  complete_end : (given : Command) (reached : Status)
      → Ends given before after reached → Read (inputs_of_command given) reached → (reached ≡ status.WriteFault → Wrote) → (reached ≡ status.WireFault → EventsRose before.wire after.wire)
      → IsComplete given before after reached
  complete_end (command.Build c) reached ends read write wire = λ all. build_ends_well c before.host after.host reached ends read all
  complete_end (command.Serve c) reached ends read write wire = λ all. serving_ends_well c before after reached ends read write wire all
  complete_end (command.Replay c) reached ends read write wire = λ all. replay_ends_well c before.host after.host reached ends read write all
  complete_end (command.Text c) reached ends read write wire = λ all. tt
  complete_end (command.Report c) reached ends read write wire = λ all. tt

  complete_run : (given : Option Command) (command : Command) (reached : Status)
      → given ≡ Some command → RunEnds given before after reached → Read (given_inputs given) reached → (reached ≡ status.WriteFault → Wrote) → (reached ≡ status.WireFault → EventsRose before.wire after.wire)
      → IsComplete command before after reached
  complete_run given command reached is_given ends read write wire =
      complete_end command reached (subst (λ (g : Option Command). RunEnds g before after reached) is_given ends)
      (subst (λ (g : Option Command). Read (given_inputs g) reached) is_given read)
      write wire

  -- out of memory for the report
  short_run : (given : Command) (reached : Status) → reached ≡ status.NoMemory → Follows given before after reached
  short_run (command.Build c) reached memory = record { accepted = λ s taken can no_put no_write. inr memory; refused = λ reason ended decided. inr memory }
  short_run (command.Serve c) reached memory = record { accepted = λ s taken turns no_put no_event. inr memory; refused = λ reason ended decided. inr memory }
  short_run (command.Replay c) reached memory = record { accepted = λ s taken room no_put. inr memory; refused = λ reason ended decided. inr memory }
  short_run (command.Text c) reached memory = tt
  short_run (command.Report c) reached memory = tt

  reported_complete : (command : Command) (reached reported : Status) → IsComplete command before after reached → (reported ≡ reached) ⊎ (reported ≡ status.NoMemory) → IsComplete command before after reported
  reported_complete command reached reported complete (inl same) = rw same complete
  reported_complete command reached reported complete (inr memory) = λ all. short_run command reported memory

module _ (reads reads_now writes writes_now : List ℕ → ℕ) (output output_now : Option (List ℕ)) (puts puts_now : ℕ) (wire wire_now : WireReport) where
  abbrev pub Before : FileMap → Outside
  Before map = outside map reads writes output puts wire

  abbrev pub After : FileMap → Outside
  After map = outside map reads_now writes_now output_now puts_now wire_now

  pub complete_told : (o n : Option FileMap) (map : FileMap) (given : Option Command) (command : Command) (reached reported : Status)
      → given ≡ Some command → IsSomeAnd n (λ now. RunEnds given (Before map) (After now) reached) → ReadRose (given_inputs given) reads reads_now reached
      → (reached ≡ status.WriteFault → Rose puts puts_now) → (reached ≡ status.WireFault → Rose wire.next_faults wire_now.next_faults)
      → (reported ≡ reached) ⊎ (reported ≡ status.NoMemory) → IsSomeAnd n (λ now. IsComplete command (Before map) (After now) reported)
  complete_told o None map given command reached reported is_given ends read write wire_rose is = ends
  complete_told o (Some now) map given command reached reported is_given ends read write wire_rose is =
      reported_complete o (Before map) (After now) command reached reported (complete_run o (Before map) (After now) given command reached is_given ends read write wire_rose) is
