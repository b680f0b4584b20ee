-- What comes first in a run.
use Rattle.std.proofs.Common.{◌≡◌, ℕ, List, [], ◌∷◌, ◌++◌, map, inl, inr, sym, ap, subst, ◌∙◌, append_assoc}
use Rattle.std.specs.Prelude.{Option, Some, IfErr}
use Rattle.std.specs.Prelude as prelude
use Rattle.happenings.specs.Happening.{Happening, ReadFailed, Listened, Put, Given}
use Rattle.happenings.specs.declared.event.WireEvent.{WireEvent}
use Rattle.happenings.specs.declared.stream.Stream.{Stream}
use Rattle.command_spec.specs.Inputs.{given_inputs}
use Rattle.command_spec.specs.declared.Command.{Command}
use Rattle.command_spec.specs.declared.Command.TheVariants as command
use Rattle.command_serve.specs.Ends.{serving_text}
use Rattle.site_inputs.specs.Reads.{read_of}
use Rattle.run_report.specs.Report.{code, IsFixed}
use Rattle.command_run.specs.declared.no_words.NoWords.{NoWords}
use Rattle.command_run.specs.declared.no_words.NoWords.TheVariants.{Unreadable, NoMemory}
use Rattle.command_run.specs.Main.{Words, Seen, command_given, status_without}
use Rattle.command_run.specs.IsRun.{IsRun}
use Rattle.run_laws.specs.Order.{IsNoRead, ReadsFirst, HasListened}
use Rattle.run_laws.proofs.Quiet.{IsQuiet, IsNoEvent, Each, both, all_of, each_is, each_to, map_each, quiet_reads, quiet_events, cut, no_event}
use Rattle.run_laws.proofs.Splits.{Split, Later, First, run_split, line_split}

later_read : (out : Stream) (given : Option Command) (others : List Happening) → Later out given others → Each IsNoRead others
later_read out given others (inl h) = each_to IsQuiet IsNoRead quiet_reads others h
later_read out given others (inr h) =
    each_is IsNoRead others (h.first ++ Listened h.c.options.port h.c.options.connections ∷ Put out (serving_text h.c.options.port) ∷ h.turns) h.others_is
    (both IsNoRead h.first (Listened h.c.options.port h.c.options.connections ∷ Put out (serving_text h.c.options.port) ∷ h.turns)
    (each_to IsQuiet IsNoRead quiet_reads h.first h.quiet) (tt, (tt, h.read)))

first_no_event : (paths : List (List ℕ)) (part : List Happening) → First paths part → Each IsNoEvent part
first_no_event paths part h =
    each_is IsNoEvent part (map read_of h.some.gots ++ map ReadFailed h.missed) h.some.part_is
    (both IsNoEvent (map read_of h.some.gots) (map ReadFailed h.missed) (map_each read_of IsNoEvent (λ got. tt) h.some.gots) (map_each ReadFailed IsNoEvent (λ path. tt) h.missed))

behind_line : (out : Stream) (given : Option Command) (front : List Happening) (c : _) → given ≡ Some (command.Serve c) → (first between : List Happening)
    → front ≡ first ++ Listened c.options.port c.options.connections ∷ Put out (serving_text c.options.port) ∷ between → HasListened out given front
behind_line out given front c is first between front_is =
    subst (λ (g : Option Command). HasListened out g front) (sym is) (first, between, front_is)

split_event : (out : Stream) (given : Option Command) (trace front later : List Happening) (event : WireEvent) → Split out given trace → trace ≡ front ++ Given event ∷ later
    → HasListened out given front
split_event out given trace front later event h is = elim h.later [
  | inl quiet ↦ absurd (no_event (h.reads ++ h.others) front later event
      (both IsNoEvent h.reads h.others (first_no_event (given_inputs given) h.reads h.first) (each_to IsQuiet IsNoEvent quiet_events h.others quiet)) (sym h.trace_is ∙ is))
  | inr b ↦
      (let line : List Happening = Listened b.c.options.port b.c.options.connections ∷ Put out (serving_text b.c.options.port) ∷ [] in
      let head : List Happening = h.reads ++ b.first in
      let none : Each IsNoEvent (head ++ line) =
      both IsNoEvent head line (both IsNoEvent h.reads b.first (first_no_event (given_inputs given) h.reads h.first) (each_to IsQuiet IsNoEvent quiet_events b.first b.quiet)) (tt, (tt, tt)) in
      let whole : (head ++ line) ++ b.turns ≡ front ++ Given event ∷ later =
      append_assoc head line b.turns ∙ append_assoc h.reads b.first (line ++ b.turns) ∙ ap (λ r. h.reads ++ r) (sym b.others_is) ∙ sym h.trace_is ∙ is in
      let found = cut (head ++ line) b.turns front later event none whole in
      behind_line out given front b.c b.given_is head found.0 (found.1 ∙ append_assoc head line found.0))
]

module _ (out err : Stream) (words : Words) (before after : Seen) (trace : List Happening) (exit : ℕ) (run : IsRun out err words before after trace exit) where
  whole_split : Split out (command_given words) trace
  whole_split =
      line_split out err (command_given words) trace run.happens.course run.happens.last run.reached run.happens.trace_is
      (run_split out before.contents before.wire after.wire words run.happens.course run.happens.ended run.happens.course_ends) run.happens.told

  pub reads_first : ReadsFirst (given_inputs (command_given words)) trace
  reads_first =
      let h = whole_split in
      record {
        missed = h.first.missed;
        reads = h.reads;
        others = h.others;
        trace_is = h.trace_is;
        first = h.first.some;
        at_most_one = h.first.at_most_one;
        none_later = all_of IsNoRead h.others (later_read out (command_given words) h.others h.later);
      }

  pub event_after_line : (front later : List Happening) (event : WireEvent) → trace ≡ front ++ Given event ∷ later → HasListened out (command_given words) front
  event_after_line front later event is = split_event out (command_given words) trace front later event whole_split is

-- the line of each of these statuses is fixed
fixed_without : (reason : NoWords) → IsFixed (status_without reason)
fixed_without Unreadable = tt
fixed_without NoMemory = tt

-- without words the course is empty, and the status that is reported is that of their reason
pub reason_told : (out err : Stream) (words : Words) (before after : Seen) (trace : List Happening) (exit : ℕ) → IsRun out err words before after trace exit
    → IfErr words (λ reason. exit ≡ code (status_without reason))
reason_told out err (prelude.Ok words) before after trace exit run = tt
reason_told out err (prelude.Err reason) before after trace exit run =
    let its = run.happens.course_ends.0 in
    let fixed = run.happens.reported.fixed (subst IsFixed (sym its) (fixed_without reason)) in
    run.its_code ∙ ap code (fixed ∙ its)
