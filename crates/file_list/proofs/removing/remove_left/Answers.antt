use Rattle.std.proofs.Common.{◌∙◌, ◌+◌, List, [], ◌∷◌, ℕ, subst, sym, take}
use Rattle.std.specs.List.{All}
use Rattle.std.specs.Option.{IsSomeAnd}
use Rattle.std.proofs.lemmas.List.{take_all}
use Rattle.files_spec.specs.Writes.{Adds}
use Rattle.file_list.specs.Lists.{IsLeft}
use Rattle.file_list.specs.Calls.{IsRemoval, IsClean}
use Rattle.file_list.proofs.Rises.{fell_not}
use Rattle.file_list.proofs.Removals.{clean_more, clean_stops, removals_more, removals_stop, front, here, parts, of_all, some_of}
use Rattle.file_list.proofs.removing.remove_left.Goals as goal

pub returns-in-Err-clause-traced : goal.returns-in-Err-clause-traced
returns-in-Err-clause-traced g c =
    removals_stop (IsLeft c.args.folder.now (take c.loop-name.name-index c.args.old.now) c.args.new.now) (IsLeft c.args.folder.now (c.name-item.result ∷ []) c.args.new.now) (IsLeft c.args.folder.now c.args.old.now c.args.new.now)
    (some_of c.args.folder.now c.args.new.now c.args.old.now c.loop-name.name-index)
    (of_all c.args.folder.now c.args.new.now c.args.old.now c.loop-name.name-index c.name-item.result c.loop-name-test.true c.name-item.is)
    (g.F.Files.trace c.args.files.now) (g.F.Files.trace c.loop-name.files) (g.F.Files.trace c.remove_unless.new.files) c.in-Err.stop c.loop-name.invariant.added c.in-Err.ensures.traced

pub returns-in-Err-clause-ends : goal.returns-in-Err-clause-ends
returns-in-Err-clause-ends g c = λ before told.
    clean_stops (IsLeft c.args.folder.now (take c.loop-name.name-index c.args.old.now) c.args.new.now) (IsLeft c.args.folder.now (c.name-item.result ∷ []) c.args.new.now) (IsLeft c.args.folder.now c.args.old.now c.args.new.now)
    (some_of c.args.folder.now c.args.new.now c.args.old.now c.loop-name.name-index)
    (of_all c.args.folder.now c.args.new.now c.args.old.now c.loop-name.name-index c.name-item.result c.loop-name-test.true c.name-item.is)
    (g.F.Files.contents c.loop-name.files) (g.F.Files.contents c.remove_unless.new.files) before c.loop-name.all c.in-Err.stop (c.loop-name.invariant.cleans before told) c.in-Err.ensures.ends

pub loop-name-preserved : goal.loop-name-preserved
loop-name-preserved g c = record {
  reads = c.in-Ok.ensures.reads ∙ c.loop-name.invariant.reads;
  later = fell_not c.loop-name.invariant.later c.in-Ok.ensures.cause.later;
  cleans = λ before told.
      subst (λ b. IsSomeAnd (g.F.Files.contents c.remove_unless.new.files) (λ now. IsClean (IsLeft c.args.folder.now (take (c.loop-name.name-index + 1) c.args.old.now) c.args.new.now) before now b)) (sym c.both-all.ensures)
      (clean_more (IsLeft c.args.folder.now (take c.loop-name.name-index c.args.old.now) c.args.new.now) (IsLeft c.args.folder.now (c.name-item.result ∷ []) c.args.new.now) (IsLeft c.args.folder.now (take (c.loop-name.name-index + 1) c.args.old.now) c.args.new.now)
      (front c.args.folder.now c.args.new.now c.args.old.now c.loop-name.name-index c.name-item.result c.loop-name-test.true c.name-item.is)
      (here c.args.folder.now c.args.new.now c.args.old.now c.loop-name.name-index c.name-item.result c.loop-name-test.true c.name-item.is)
      (parts c.args.folder.now c.args.new.now c.args.old.now c.loop-name.name-index c.name-item.result c.loop-name-test.true c.name-item.is)
      (g.F.Files.contents c.loop-name.files) (g.F.Files.contents c.remove_unless.new.files) before c.loop-name.all c.in-Ok.gone (c.loop-name.invariant.cleans before told) c.in-Ok.ensures.ends);
  added =
      removals_more (IsLeft c.args.folder.now (take c.loop-name.name-index c.args.old.now) c.args.new.now) (IsLeft c.args.folder.now (c.name-item.result ∷ []) c.args.new.now) (IsLeft c.args.folder.now (take (c.loop-name.name-index + 1) c.args.old.now) c.args.new.now)
      (front c.args.folder.now c.args.new.now c.args.old.now c.loop-name.name-index c.name-item.result c.loop-name-test.true c.name-item.is)
      (here c.args.folder.now c.args.new.now c.args.old.now c.loop-name.name-index c.name-item.result c.loop-name-test.true c.name-item.is)
      c.loop-name.invariant.added c.in-Ok.ensures.traced;
}

pub returns-clause-traced : goal.returns-clause-traced
returns-clause-traced g c =
    subst (λ (ns : List (List ℕ)). Adds (g.F.Files.trace c.args.files.now) (g.F.Files.trace c.loop-name.files) (All (IsRemoval (IsLeft c.args.folder.now ns c.args.new.now))))
    (take_all c.loop-name.name-index c.args.old.now c.loop-name-test.false) c.loop-name.invariant.added

pub returns-clause-ends : goal.returns-clause-ends
returns-clause-ends g c = λ before told.
    subst (λ (ns : List (List ℕ)). IsSomeAnd (g.F.Files.contents c.loop-name.files) (λ now. IsClean (IsLeft c.args.folder.now ns c.args.new.now) before now c.loop-name.all))
    (take_all c.loop-name.name-index c.args.old.now c.loop-name-test.false) (c.loop-name.invariant.cleans before told)
