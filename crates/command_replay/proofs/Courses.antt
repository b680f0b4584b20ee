-- What happened in a replay, from what happened in its parts.
use Rattle.std.proofs.Common.{◌≡◌, ◌∙◌, ℕ, List, [], ◌++◌, inl, inr, refl, sym, ap, subst, append_assoc}
use Rattle.std.proofs.lemmas.List.{append-nil}
use Rattle.std.specs.Prelude.{Option, Result, Ok, Err}
use Rattle.std.specs.Global.{Vec}
use Rattle.edge_io.specs.Files.{FileMap}
use Rattle.happenings.specs.Happening.{Happening}
use Rattle.happenings.specs.declared.event.WireEvent.{WireEvent}
use Rattle.happenings.specs.declared.stream.Stream.{Stream}
use Rattle.serving_spec.specs.declared.HubEnd.{HubEnd}
use Rattle.run_report.specs.declared.status.Status.{Status}
use Rattle.run_report.specs.declared.status.Status.TheVariants as status
use Rattle.command_spec.specs.Inputs.{replay_paths}
use Rattle.command_spec.specs.declared.ReplayCommand.{ReplayCommand}
use Rattle.site_inputs.specs.declared.fault.Fault.{Fault}
use Rattle.site_inputs.specs.declared.fault.Fault.TheVariants.{Refused, Unread, Faulty, NotFound, NoMemory}
use Rattle.site_inputs.specs.Reads.{Reads}
use Rattle.site_inputs.specs.Statuses.{status_of}
use Rattle.site_inputs.proofs.ReadLemmas.{IsRead, reads_fault}
use Rattle.serve_run.specs.Puts.{EndHappens}
use Rattle.run_report.proofs.Added.{Added, added_none}
use Rattle.command_replay.specs.declared.replaying.Script.{Script}
use Rattle.command_replay.specs.Scripts.{Scripted, ScriptedEnd, ScriptTaken, script_result, scripted_of}
use Rattle.command_replay.specs.Ends.{IsReplayed}
use Rattle.command_replay.specs.Course.{DoesWith, ReplayCourse}

-- a script whose text was taken or refused was read
pub script_is_read : (path bytes : List ℕ) (result : Result (Vec WireEvent) Fault) → ScriptTaken path bytes (script_result result) → IsRead result
script_is_read path bytes (Ok events) taken = tt
script_is_read path bytes (Err (Unread file)) taken = taken
script_is_read path bytes (Err (Refused refusal)) taken = tt
script_is_read path bytes (Err (Faulty term kind)) taken = tt
script_is_read path bytes (Err NotFound) taken = tt
script_is_read path bytes (Err NoMemory) taken = tt

module _ (command : ReplayCommand) (stream : Stream) (contents : Option FileMap) (reached : Status) (a b c : List Happening) where
  pub plays_then_puts : (script : Script) (ended : HubEnd) (text put : List ℕ) → IsReplayed (scripted_of script) command.limits ended text → put ≡ text
      → Added b c (λ p. EndHappens ended stream put p reached) → Added b c (λ p. DoesWith command stream contents (Ok (scripted_of script)) p reached)
  plays_then_puts script ended text put replayed is y =
      (y.0, y.1, inl (record { ended = ended; text = text; replayed = replayed; puts = subst (λ (t : List ℕ). EndHappens ended stream t y.0 reached) is y.2 }))

  pub reads_then_plays : (script : Script) → Reads {A = Script} (replay_paths command) a b contents (Ok script) (λ map. ScriptedEnd map command (Ok (scripted_of script)))
      → Added b c (λ p. DoesWith command stream contents (Ok (scripted_of script)) p reached) → Added a c (λ p. ReplayCourse command stream contents p reached)
  reads_then_plays script r y = (
    r.part ++ y.0,
    y.1 ∙ ap (λ x. x ++ y.0) r.added ∙ append_assoc a r.part y.0,
    record {
      inputs = Ok (scripted_of script);
      reads = r.part;
      others = y.0;
      part_is = refl;
      read = record { part = r.part; added = refl; reads = r.reads; ends = r.ends };
      does = y.2;
    },
  )

  pub reads_stop_replay : (reason : Fault) → reached ≡ status_of reason → Reads {A = Script} (replay_paths command) a b contents (Err reason) (λ map. ScriptedEnd map command (Err reason))
      → Added a b (λ p. ReplayCourse command stream contents p reached)
  reads_stop_replay reason is r = (
    r.part,
    r.added,
    record {
      inputs = Err reason;
      reads = r.part;
      others = [];
      part_is = sym (append-nil r.part);
      read = reads_fault Script Scripted (replay_paths command) [] r.part contents reason (λ map. ScriptedEnd map command (Err reason)) (λ map. ScriptedEnd map command (Err reason))
          (record { part = r.part; added = refl; reads = r.reads; ends = r.ends }) (λ map ends. ends);
      does = (is, refl);
    },
  )

-- out of memory behind the reads
pub plays_nothing : (command : ReplayCommand) (stream : Stream) (contents : Option FileMap) (script : Script) (a : List Happening)
    → Added a a (λ p. DoesWith command stream contents (Ok (scripted_of script)) p status.NoMemory)
plays_nothing command stream contents script a = added_none a a (λ p. DoesWith command stream contents (Ok (scripted_of script)) p status.NoMemory) refl (inr (refl, refl))
