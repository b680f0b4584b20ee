use Rattle.std.proofs.Common.{◌≡◌, ◌∙◌, ◌++◌, List, ℕ, [], ◌∷◌, sym, subst}
use Rattle.std.specs.Prelude.{codes}
use Rattle.run_report.proofs.FileLine.{cut, then, last, not_err, an_err}
use Rattle.run_report.specs.Told.{file_line}
use Rattle.run_report.proofs.lines.put_file_line.Goals as goal

-- the first part, and what follows it
abbrev First : List ℕ
First = codes "strudel: cannot write "

abbrev After : List ℕ → List (List ℕ)
After path = path ∷ codes "\n" ∷ []

pub returns-then-is_err-clause-whole : goal.returns-then-is_err-clause-whole
returns-then-is_err-clause-whole g c =
    (cut (g.E.Sink.stream c.args.err.now) First (After c.args.path.now) (c.args.path.now ++ codes "\n") _ _ _ _ _ _ c.put.result (sym c.is_err.ensures.value ∙ c.if-is_err.true) c.put.ensures.traced c.put.ensures.part c.put.ensures.cause).whole

pub returns-then-is_err-clause-part : goal.returns-then-is_err-clause-part
returns-then-is_err-clause-part g c =
    (cut (g.E.Sink.stream c.args.err.now) First (After c.args.path.now) (c.args.path.now ++ codes "\n") _ _ _ _ _ _ c.put.result (sym c.is_err.ensures.value ∙ c.if-is_err.true) c.put.ensures.traced c.put.ensures.part c.put.ensures.cause).part

pub returns-then-is_ok-clause-whole : goal.returns-then-is_ok-clause-whole
returns-then-is_ok-clause-whole g c =
    let second = rw (c.put.ensures.stays, c.bytes.ensures) at c.put-2.ensures.traced in
    let third = rw (c.put-2.ensures.stays, c.put.ensures.stays) at c.put-then-is_ok.ensures.traced in
    (then (g.E.Sink.stream c.args.err.now) First (After c.args.path.now) (c.args.path.now ++ codes "\n") _ _ _ _ _ _ _ _ _ c.put.result (sym c.is_err.ensures.value ∙ c.if-is_err.false) c.put.ensures.traced c.put.ensures.whole c.put.ensures.cause
    (then (g.E.Sink.stream c.args.err.now) c.args.path.now (codes "\n" ∷ []) (codes "\n") _ _ _ _ _ _ _ _ _ c.put-2.result (not_err c.put-2.result c.is_ok.result c.is_ok.ensures.value c.if-is_ok.true) second (rw c.bytes.ensures at c.put-2.ensures.whole) c.put-2.ensures.cause
    (last (g.E.Sink.stream c.args.err.now) (codes "\n") _ _ _ _ _ _ c.put-then-is_ok.result third c.put-then-is_ok.ensures.whole c.put-then-is_ok.ensures.part c.put-then-is_ok.ensures.cause))).whole

pub returns-then-is_ok-clause-part : goal.returns-then-is_ok-clause-part
returns-then-is_ok-clause-part g c =
    let second = rw (c.put.ensures.stays, c.bytes.ensures) at c.put-2.ensures.traced in
    let third = rw (c.put-2.ensures.stays, c.put.ensures.stays) at c.put-then-is_ok.ensures.traced in
    (then (g.E.Sink.stream c.args.err.now) First (After c.args.path.now) (c.args.path.now ++ codes "\n") _ _ _ _ _ _ _ _ _ c.put.result (sym c.is_err.ensures.value ∙ c.if-is_err.false) c.put.ensures.traced c.put.ensures.whole c.put.ensures.cause
    (then (g.E.Sink.stream c.args.err.now) c.args.path.now (codes "\n" ∷ []) (codes "\n") _ _ _ _ _ _ _ _ _ c.put-2.result (not_err c.put-2.result c.is_ok.result c.is_ok.ensures.value c.if-is_ok.true) second (rw c.bytes.ensures at c.put-2.ensures.whole) c.put-2.ensures.cause
    (last (g.E.Sink.stream c.args.err.now) (codes "\n") _ _ _ _ _ _ c.put-then-is_ok.result third c.put-then-is_ok.ensures.whole c.put-then-is_ok.ensures.part c.put-then-is_ok.ensures.cause))).part

pub returns-then-is_ok-clause-traced : goal.returns-then-is_ok-clause-traced
returns-then-is_ok-clause-traced g c =
    let second = rw (c.put.ensures.stays, c.bytes.ensures) at c.put-2.ensures.traced in
    let third = rw (c.put-2.ensures.stays, c.put.ensures.stays) at c.put-then-is_ok.ensures.traced in
    (then (g.E.Sink.stream c.args.err.now) First (After c.args.path.now) (c.args.path.now ++ codes "\n") _ _ _ _ _ _ _ _ _ c.put.result (sym c.is_err.ensures.value ∙ c.if-is_err.false) c.put.ensures.traced c.put.ensures.whole c.put.ensures.cause
    (then (g.E.Sink.stream c.args.err.now) c.args.path.now (codes "\n" ∷ []) (codes "\n") _ _ _ _ _ _ _ _ _ c.put-2.result (not_err c.put-2.result c.is_ok.result c.is_ok.ensures.value c.if-is_ok.true) second (rw c.bytes.ensures at c.put-2.ensures.whole) c.put-2.ensures.cause
    (last (g.E.Sink.stream c.args.err.now) (codes "\n") _ _ _ _ _ _ c.put-then-is_ok.result third c.put-then-is_ok.ensures.whole c.put-then-is_ok.ensures.part c.put-then-is_ok.ensures.cause))).traced

pub returns-else-is_ok-clause-part : goal.returns-else-is_ok-clause-part
returns-else-is_ok-clause-part g c =
    let second = rw (c.put.ensures.stays, c.bytes.ensures) at c.put-2.ensures.traced in
    (then (g.E.Sink.stream c.args.err.now) First (After c.args.path.now) (c.args.path.now ++ codes "\n") _ _ _ _ _ _ _ _ _ c.put.result (sym c.is_err.ensures.value ∙ c.if-is_err.false) c.put.ensures.traced c.put.ensures.whole c.put.ensures.cause
    (cut (g.E.Sink.stream c.args.err.now) c.args.path.now (codes "\n" ∷ []) (codes "\n") _ _ _ _ _ _ c.put-2.result (an_err c.put-2.result c.is_ok.result c.is_ok.ensures.value c.if-is_ok.false) second (rw c.bytes.ensures at c.put-2.ensures.part) c.put-2.ensures.cause)).part

pub returns-else-is_ok-clause-traced : goal.returns-else-is_ok-clause-traced
returns-else-is_ok-clause-traced g c =
    let second = rw (c.put.ensures.stays, c.bytes.ensures) at c.put-2.ensures.traced in
    (then (g.E.Sink.stream c.args.err.now) First (After c.args.path.now) (c.args.path.now ++ codes "\n") _ _ _ _ _ _ _ _ _ c.put.result (sym c.is_err.ensures.value ∙ c.if-is_err.false) c.put.ensures.traced c.put.ensures.whole c.put.ensures.cause
    (cut (g.E.Sink.stream c.args.err.now) c.args.path.now (codes "\n" ∷ []) (codes "\n") _ _ _ _ _ _ c.put-2.result (an_err c.put-2.result c.is_ok.result c.is_ok.ensures.value c.if-is_ok.false) second (rw c.bytes.ensures at c.put-2.ensures.part) c.put-2.ensures.cause)).traced
