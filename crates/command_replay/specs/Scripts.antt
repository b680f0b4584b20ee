-- The script of a run, read after the inputs of its site.
use Rattle.std.specs.Prelude.{◌≡◌, ℕ, List, Result, Ok, Err, Option, Some, ⊤}
use Rattle.std.specs.Global.{Vec}
use Rattle.edge_io.specs.Files.{FileMap}
use Rattle.command_spec.specs.Limits.{script_limit}
use Rattle.run_report.specs.declared.status.Place.TheVariants.{At}
use Rattle.happenings.specs.declared.event.WireEvent.{WireEvent}
use Rattle.token_reader.specs.declared.refusal.TextRefusal.{TextRefusal}
use Rattle.script_reader.specs.Script.{Reads}
use Rattle.command_spec.specs.declared.ReplayCommand.{ReplayCommand}
use Rattle.site_inputs.specs.declared.fault.Fault.{Fault}
use Rattle.site_inputs.specs.declared.fault.Fault.TheVariants.{Refused, NoMemory}
use Rattle.data_source.specs.declared.numbered.NumberedFault.{NumberedFault}
use Rattle.site_inputs.specs.Runs.{Then, EndsWith, FileEnds}
use Rattle.data_source.specs.Numbered.{text_told}
use Rattle.site_inputs.specs.Sites.{Inputs, InputsEnd}
use Rattle.site_inputs.specs.Values.{inputs_of}
use Rattle.command_replay.specs.declared.replaying.Script.{Script}

-- the number and the place of a refused script; none if the reader was out of memory
abbrev pub script_told : TextRefusal → Option NumberedFault
script_told = text_told 111

-- How a script's text ends: with its events, or refused.
abbrev pub ScriptTaken : List ℕ → List ℕ → Result (List WireEvent) Fault → Type 0
ScriptTaken path bytes (Ok events) = Reads script_limit bytes (Ok events)
ScriptTaken path bytes (Err (Refused refusal)) =
    (told : NumberedFault) × (refusal ≡ record { file = path; number = told.number; place = At told.at })
    × (e : TextRefusal) × Reads script_limit bytes (Err e) × (script_told e ≡ Some told)
ScriptTaken path bytes (Err NoMemory) = ⊤
ScriptTaken path bytes (Err fault) = ⊥

-- How the file of a script ends: it is read, and then its text is taken.
abbrev pub ScriptEnds : FileMap → List ℕ → Result (List WireEvent) Fault → Type 0
ScriptEnds map path = Then (FileEnds script_limit map path) (ScriptTaken path)

-- what a replay is made of
pub record Scripted : Type 0 where
  pub site : Inputs
  pub events : List WireEvent

-- the inputs of the site, and then the script
abbrev pub ScriptedEnd : FileMap → ReplayCommand → Result Scripted Fault → Type 0
ScriptedEnd map command =
    Then (InputsEnd map command.sources command.over command.query command.templates)
    (λ site. Then (ScriptEnds map command.script)
    (λ events. EndsWith (record { site = site; events = events })))

-- the program's list of events as a plain one
abbrev pub script_result : Result (Vec WireEvent) Fault → Result (List WireEvent) Fault
script_result (Ok events) = Ok events.items
script_result (Err fault) = Err fault

-- what a replay is made of, as plain values
abbrev pub scripted_of : Script → Scripted
scripted_of s = record { site = inputs_of s.site; events = s.events.items }

-- the same, or the same fault
abbrev pub scripted_result : Result Script Fault → Result Scripted Fault
scripted_result (Ok s) = Ok (scripted_of s)
scripted_result (Err fault) = Err fault
