use Rattle.std.proofs.Common.{◌≡◌, ◌<◌, ◌≤◌, ◌==◌, ◌-◌, ◌+◌, ◌++◌, ℕ, List, length, refl, sym, ap, subst, ◌∙◌, arith, Some, None, take, drop, [], append-nil, Ok, Err}
use Rattle.std.proofs.lemmas.List.{take_rest, length-take-le, take_all}
use Rattle.page_spec.specs.Address.{TermOf}
use Rattle.wire.proofs.Noting.{noted_none, noted_then}
use Rattle.hub.specs.Pieces.{StaysOpen}
use Rattle.serving_spec.specs.Shown.{shown_in}
use Rattle.hub.proofs.MadeLemmas.{made_more, made_so_far, looked_on}
use Rattle.http_spec.specs.declared.Standing.TheVariants.{Open, Closed, Short}
use Rattle.hub.proofs.StepLemmas.{waits, asked_rest, no_head_asked, starts, fed_case}
use Rattle.hub.proofs.ServeLemmas.{answered_now, faults_open, serve_open, serve_over}
use Rattle.hub.proofs.connection.Connection.bytes.Goals as goal

pub loop-from-init : goal.loop-from-init
loop-from-init g c = (
  omega arith,
  refl,
  (
    [],
    starts (shown_in c.args.origin.now g.P.Versions.site g.P.Versions.templates (g.P.Versions.state c.args.pages.now)) c.args.self.now c.self.inside.reading.rest c.self.inside.left []
        c.self.view_is c.self.invariant.0 c.self.invariant.1 c.self.invariant.2,
    refl,
    [],
    refl,
    refl,
    refl,
  ),
  λ other apart. refl,
  refl,
  λ other apart. refl,
  (refl, refl, refl, refl, refl),
  c.requires.own,
  noted_none _ _,
)

pub returns-in_default-clause-served : goal.returns-in_default-clause-served
returns-in_default-clause-served g c =
    let piece = c.args.piece.now in
    let from = c.loop-from.from in
    let p = take (length piece - from) (drop from piece) in
    let inv = c.loop-from.invariant.2 in
    let fed = fed_case c.args.origin.now.hosts c.loop-from.self-inside.reading.rest p c.feed-fed.result None c.feed-fed.new.self c.in_default.is c.feed-fed.ensures.fed in (
      record { replies = length inv.0; terms = inv.3 },
      (
        inv.0,
        (
          inv.1.heads,
          waits (shown_in c.args.origin.now g.P.Versions.site g.P.Versions.templates (g.P.Versions.state c.args.pages.now)) c.args.self.now piece p from c.feed-fed.result.taken
              (record { rest = c.loop-from.self-inside.reading.rest; left = c.loop-from.self-inside.left }) c.feed-fed.new.self
              [] inv.0 inv.0 (take_rest piece from) inv.1 fed,
          record { looked = inv.3; extra = []; count = refl; look_ups = inv.4; may = refl; terms = sym (append-nil inv.3) },
        ),
        inv.2,
        c.loop-from.invariant.4,
      ),
      inv.5,
      inv.6,
    )

pub loop-from-preserved : goal.loop-from-preserved
loop-from-preserved g c =
    let piece = c.args.piece.now in
    let from = c.loop-from.from in
    let p = take (length piece - from) (drop from piece) in
    let fed = fed_case c.args.origin.now.hosts c.loop-from.self-inside.reading.rest p c.feed-fed.result (Some c.in-Some.ask) c.feed-fed.new.self c.in-Some.is c.feed-fed.ensures.fed in
    let inv = c.loop-from.invariant.2 in
    let sent = c.in-Ok-Open.ensures.sent in
    let answered = answered_now (shown_in c.args.origin.now g.P.Versions.site g.P.Versions.templates) (TermOf c.args.origin.now.root) sent.0 (Ok c.in-Ok-Open.field-0) (Ok Open) (g.P.Versions.state c.loop-from.pages) (g.P.Versions.state c.args.pages.now) c.in-Some.ask c.target.result.now c.feed-fed.new.self.target c.loop-from.self-inside.left
    ((g.W.Wire.told c.loop-from.wire).account c.args.number) ((g.W.Wire.told c.answer.new.wire).account c.args.number) ((g.W.Wire.told c.loop-from.wire).faults c.args.number)
    ((g.W.Wire.told c.answer.new.wire).faults c.args.number) (ap Ok c.in-Ok-Open.field-0-is) c.loop-from.invariant.1 c.target.ensures sent.1 in
    let opened = serve_open (shown_in c.args.origin.now g.P.Versions.site g.P.Versions.templates (g.P.Versions.state c.args.pages.now)) (TermOf c.args.origin.now.root) c.args.self.now piece p from c.feed-fed.result.taken
    (record { rest = c.loop-from.self-inside.reading.rest; left = c.loop-from.self-inside.left }) c.feed-fed.new.self inv.0
    (take_rest piece from) inv.1 c.in-Some.ask fed
    ((g.W.Wire.told c.args.wire.now).account c.args.number) ((g.W.Wire.told c.loop-from.wire).account c.args.number) ((g.W.Wire.told c.answer.new.wire).account c.args.number)
    ((g.W.Wire.told c.args.wire.now).faults c.args.number) ((g.W.Wire.told c.loop-from.wire).faults c.args.number) ((g.W.Wire.told c.answer.new.wire).faults c.args.number)
    inv.2 c.loop-from.invariant.4 inv.3 inv.4 sent.0 answered in (
      omega (arith, c.feed-fed.ensures.taken, length-take-le (length piece - from) (drop from piece)),
      c.in-Ok-Open.ensures.state ∙ c.loop-from.invariant.1,
      (
        opened.0,
        opened.1,
        opened.2,
        inv.3 ++ sent.0.terms,
        opened.3,
        made_more c.args.made.now c.loop-from.made c.answer.new.made inv.0 opened.0 sent.0 inv.5 sent.2 opened.4,
        looked_on g.P.Versions.looks (g.P.Versions.state c.loop-from.pages) (g.P.Versions.state c.args.pages.now) inv.3 sent.0.terms
            (g.P.Versions.cache c.args.pages.now) (g.P.Versions.cache c.loop-from.pages) (g.P.Versions.cache c.answer.new.pages) c.loop-from.invariant.1 inv.6 sent.3,
      ),
      λ other apart. c.in-Ok-Open.ensures.others other apart ∙ c.loop-from.invariant.3 other apart,
      faults_open (shown_in c.args.origin.now g.P.Versions.site g.P.Versions.templates (g.P.Versions.state c.args.pages.now)) (TermOf c.args.origin.now.root) c.in-Some.ask c.feed-fed.new.self.target (c.loop-from.self-inside.left == 1) sent.0 _ _ _ _ answered ∙ c.loop-from.invariant.4,
      λ other apart. c.in-Ok-Open.ensures.others_fine other apart ∙ c.loop-from.invariant.5 other apart,
      (c.in-Ok-Open.ensures.stays.0 ∙ c.loop-from.invariant.6.0, c.in-Ok-Open.ensures.stays.1 ∙ c.loop-from.invariant.6.1, c.in-Ok-Open.ensures.stays.2 ∙ c.loop-from.invariant.6.2, c.in-Ok-Open.ensures.stays.3 ∙ c.loop-from.invariant.6.3, c.in-Ok-Open.ensures.stays.4 ∙ c.loop-from.invariant.6.4),
      c.in-Ok-Open.ensures.own,
      noted_then _ _ _ _ _ _ c.loop-from.invariant.8 c.in-Ok-Open.ensures.noted,
    )

pub invariant_of-self-in-Ok-Closed : goal.invariant_of-self-in-Ok-Closed
invariant_of-self-in-Ok-Closed g c =
    let piece = c.args.piece.now in
    let from = c.loop-from.from in
    let p = take (length piece - from) (drop from piece) in
    let fed = fed_case c.args.origin.now.hosts c.loop-from.self-inside.reading.rest p c.feed-fed.result (Some c.in-Some.ask) c.feed-fed.new.self c.in-Some.is c.feed-fed.ensures.fed in
    let empty = no_head_asked c.feed-fed.new.self (asked_rest c.args.origin.now.hosts c.loop-from.self-inside.reading.rest p c.feed-fed.result.taken c.in-Some.ask c.feed-fed.new.self fed) in
    let some = c.loop-from.invariant.2.1.some in
    (empty.0, empty.1, some)

pub invariant_of-self-in-Ok-Short : goal.invariant_of-self-in-Ok-Short
invariant_of-self-in-Ok-Short g c =
    let piece = c.args.piece.now in
    let from = c.loop-from.from in
    let p = take (length piece - from) (drop from piece) in
    let fed = fed_case c.args.origin.now.hosts c.loop-from.self-inside.reading.rest p c.feed-fed.result (Some c.in-Some.ask) c.feed-fed.new.self c.in-Some.is c.feed-fed.ensures.fed in
    let empty = no_head_asked c.feed-fed.new.self (asked_rest c.args.origin.now.hosts c.loop-from.self-inside.reading.rest p c.feed-fed.result.taken c.in-Some.ask c.feed-fed.new.self fed) in
    let some = c.loop-from.invariant.2.1.some in
    (empty.0, empty.1, some)

pub invariant_of-self-in-Err : goal.invariant_of-self-in-Err
invariant_of-self-in-Err g c =
    let piece = c.args.piece.now in
    let from = c.loop-from.from in
    let p = take (length piece - from) (drop from piece) in
    let fed = fed_case c.args.origin.now.hosts c.loop-from.self-inside.reading.rest p c.feed-fed.result (Some c.in-Some.ask) c.feed-fed.new.self c.in-Some.is c.feed-fed.ensures.fed in
    let empty = no_head_asked c.feed-fed.new.self (asked_rest c.args.origin.now.hosts c.loop-from.self-inside.reading.rest p c.feed-fed.result.taken c.in-Some.ask c.feed-fed.new.self fed) in
    let some = c.loop-from.invariant.2.1.some in
    (empty.0, empty.1, some)

pub returns-in-Ok-Closed-clause-served : goal.returns-in-Ok-Closed-clause-served
returns-in-Ok-Closed-clause-served g c =
    let piece = c.args.piece.now in
    let from = c.loop-from.from in
    let p = take (length piece - from) (drop from piece) in
    let fed = fed_case c.args.origin.now.hosts c.loop-from.self-inside.reading.rest p c.feed-fed.result (Some c.in-Some.ask) c.feed-fed.new.self c.in-Some.is c.feed-fed.ensures.fed in
    let inv = c.loop-from.invariant.2 in
    let sent = c.in-Ok-Closed.ensures.sent in
    let answered = answered_now (shown_in c.args.origin.now g.P.Versions.site g.P.Versions.templates) (TermOf c.args.origin.now.root) sent.0 (Ok c.in-Ok-Closed.field-0) (Ok Closed) (g.P.Versions.state c.loop-from.pages) (g.P.Versions.state c.args.pages.now) c.in-Some.ask c.target.result.now c.feed-fed.new.self.target c.loop-from.self-inside.left
    ((g.W.Wire.told c.loop-from.wire).account c.args.number) ((g.W.Wire.told c.answer.new.wire).account c.args.number) ((g.W.Wire.told c.loop-from.wire).faults c.args.number)
    ((g.W.Wire.told c.answer.new.wire).faults c.args.number) (ap Ok c.in-Ok-Closed.field-0-is) c.loop-from.invariant.1 c.target.ensures sent.1 in (
      record { replies = length inv.0 + sent.0.replies; terms = inv.3 ++ sent.0.terms },
      serve_over (shown_in c.args.origin.now g.P.Versions.site g.P.Versions.templates (g.P.Versions.state c.args.pages.now)) (TermOf c.args.origin.now.root) c.args.self.now piece p from c.feed-fed.result.taken
          (record { rest = c.loop-from.self-inside.reading.rest; left = c.loop-from.self-inside.left }) c.feed-fed.new.self inv.0
          (take_rest piece from) inv.1 c.in-Some.ask fed
          ((g.W.Wire.told c.args.wire.now).account c.args.number) ((g.W.Wire.told c.loop-from.wire).account c.args.number) ((g.W.Wire.told c.answer.new.wire).account c.args.number)
          ((g.W.Wire.told c.args.wire.now).faults c.args.number) ((g.W.Wire.told c.loop-from.wire).faults c.args.number) ((g.W.Wire.told c.answer.new.wire).faults c.args.number)
          inv.2 c.loop-from.invariant.4 inv.3 inv.4 sent.0 (Ok Closed) c.args.self.now (λ e. cc) answered,
      made_so_far c.args.made.now c.loop-from.made c.answer.new.made (length inv.0) sent.0.replies inv.5 sent.2,
      looked_on g.P.Versions.looks (g.P.Versions.state c.loop-from.pages) (g.P.Versions.state c.args.pages.now) inv.3 sent.0.terms
          (g.P.Versions.cache c.args.pages.now) (g.P.Versions.cache c.loop-from.pages) (g.P.Versions.cache c.answer.new.pages) c.loop-from.invariant.1 inv.6 sent.3,
    )

pub returns-in-Ok-Short-clause-served : goal.returns-in-Ok-Short-clause-served
returns-in-Ok-Short-clause-served g c =
    let piece = c.args.piece.now in
    let from = c.loop-from.from in
    let p = take (length piece - from) (drop from piece) in
    let fed = fed_case c.args.origin.now.hosts c.loop-from.self-inside.reading.rest p c.feed-fed.result (Some c.in-Some.ask) c.feed-fed.new.self c.in-Some.is c.feed-fed.ensures.fed in
    let inv = c.loop-from.invariant.2 in
    let sent = c.in-Ok-Short.ensures.sent in
    let answered = answered_now (shown_in c.args.origin.now g.P.Versions.site g.P.Versions.templates) (TermOf c.args.origin.now.root) sent.0 (Ok c.in-Ok-Short.field-0) (Ok Short) (g.P.Versions.state c.loop-from.pages) (g.P.Versions.state c.args.pages.now) c.in-Some.ask c.target.result.now c.feed-fed.new.self.target c.loop-from.self-inside.left
    ((g.W.Wire.told c.loop-from.wire).account c.args.number) ((g.W.Wire.told c.answer.new.wire).account c.args.number) ((g.W.Wire.told c.loop-from.wire).faults c.args.number)
    ((g.W.Wire.told c.answer.new.wire).faults c.args.number) (ap Ok c.in-Ok-Short.field-0-is) c.loop-from.invariant.1 c.target.ensures sent.1 in (
      record { replies = length inv.0 + sent.0.replies; terms = inv.3 ++ sent.0.terms },
      serve_over (shown_in c.args.origin.now g.P.Versions.site g.P.Versions.templates (g.P.Versions.state c.args.pages.now)) (TermOf c.args.origin.now.root) c.args.self.now piece p from c.feed-fed.result.taken
          (record { rest = c.loop-from.self-inside.reading.rest; left = c.loop-from.self-inside.left }) c.feed-fed.new.self inv.0
          (take_rest piece from) inv.1 c.in-Some.ask fed
          ((g.W.Wire.told c.args.wire.now).account c.args.number) ((g.W.Wire.told c.loop-from.wire).account c.args.number) ((g.W.Wire.told c.answer.new.wire).account c.args.number)
          ((g.W.Wire.told c.args.wire.now).faults c.args.number) ((g.W.Wire.told c.loop-from.wire).faults c.args.number) ((g.W.Wire.told c.answer.new.wire).faults c.args.number)
          inv.2 c.loop-from.invariant.4 inv.3 inv.4 sent.0 (Ok Short) c.args.self.now (λ e. cc) answered,
      made_so_far c.args.made.now c.loop-from.made c.answer.new.made (length inv.0) sent.0.replies inv.5 sent.2,
      looked_on g.P.Versions.looks (g.P.Versions.state c.loop-from.pages) (g.P.Versions.state c.args.pages.now) inv.3 sent.0.terms
          (g.P.Versions.cache c.args.pages.now) (g.P.Versions.cache c.loop-from.pages) (g.P.Versions.cache c.answer.new.pages) c.loop-from.invariant.1 inv.6 sent.3,
    )

pub returns-in-Err-clause-served : goal.returns-in-Err-clause-served
returns-in-Err-clause-served g c =
    let piece = c.args.piece.now in
    let from = c.loop-from.from in
    let p = take (length piece - from) (drop from piece) in
    let fed = fed_case c.args.origin.now.hosts c.loop-from.self-inside.reading.rest p c.feed-fed.result (Some c.in-Some.ask) c.feed-fed.new.self c.in-Some.is c.feed-fed.ensures.fed in
    let inv = c.loop-from.invariant.2 in
    let sent = c.in-Err.ensures.sent in
    let answered = answered_now (shown_in c.args.origin.now g.P.Versions.site g.P.Versions.templates) (TermOf c.args.origin.now.root) sent.0 (Err c.in-Err.failed) (Err c.in-Err.failed) (g.P.Versions.state c.loop-from.pages) (g.P.Versions.state c.args.pages.now) c.in-Some.ask c.target.result.now c.feed-fed.new.self.target c.loop-from.self-inside.left
    ((g.W.Wire.told c.loop-from.wire).account c.args.number) ((g.W.Wire.told c.answer.new.wire).account c.args.number) ((g.W.Wire.told c.loop-from.wire).faults c.args.number)
    ((g.W.Wire.told c.answer.new.wire).faults c.args.number) refl c.loop-from.invariant.1 c.target.ensures sent.1 in (
      record { replies = length inv.0 + sent.0.replies; terms = inv.3 ++ sent.0.terms },
      serve_over (shown_in c.args.origin.now g.P.Versions.site g.P.Versions.templates (g.P.Versions.state c.args.pages.now)) (TermOf c.args.origin.now.root) c.args.self.now piece p from c.feed-fed.result.taken
          (record { rest = c.loop-from.self-inside.reading.rest; left = c.loop-from.self-inside.left }) c.feed-fed.new.self inv.0
          (take_rest piece from) inv.1 c.in-Some.ask fed
          ((g.W.Wire.told c.args.wire.now).account c.args.number) ((g.W.Wire.told c.loop-from.wire).account c.args.number) ((g.W.Wire.told c.answer.new.wire).account c.args.number)
          ((g.W.Wire.told c.args.wire.now).faults c.args.number) ((g.W.Wire.told c.loop-from.wire).faults c.args.number) ((g.W.Wire.told c.answer.new.wire).faults c.args.number)
          inv.2 c.loop-from.invariant.4 inv.3 inv.4 sent.0 (Err c.in-Err.failed) c.args.self.now (λ e. cc) answered,
      made_so_far c.args.made.now c.loop-from.made c.answer.new.made (length inv.0) sent.0.replies inv.5 sent.2,
      looked_on g.P.Versions.looks (g.P.Versions.state c.loop-from.pages) (g.P.Versions.state c.args.pages.now) inv.3 sent.0.terms
          (g.P.Versions.cache c.args.pages.now) (g.P.Versions.cache c.loop-from.pages) (g.P.Versions.cache c.answer.new.pages) c.loop-from.invariant.1 inv.6 sent.3,
    )

pub returns-in_default-clause-noted : goal.returns-in_default-clause-noted
returns-in_default-clause-noted g c = c.loop-from.invariant.8

pub returns-in-Ok-Closed-clause-noted : goal.returns-in-Ok-Closed-clause-noted
returns-in-Ok-Closed-clause-noted g c = noted_then _ _ _ _ _ _ c.loop-from.invariant.8 c.in-Ok-Closed.ensures.noted

pub returns-in-Ok-Short-clause-noted : goal.returns-in-Ok-Short-clause-noted
returns-in-Ok-Short-clause-noted g c = noted_then _ _ _ _ _ _ c.loop-from.invariant.8 c.in-Ok-Short.ensures.noted

pub returns-in-Err-clause-noted : goal.returns-in-Err-clause-noted
returns-in-Err-clause-noted g c = noted_then _ _ _ _ _ _ c.loop-from.invariant.8 c.in-Err.ensures.noted

pub returns-clause-noted : goal.returns-clause-noted
returns-clause-noted g c = c.loop-from.invariant.8

-- the whole piece was taken
taken_all : (from : ℕ) (piece : List ℕ) → from ≤ length piece → (from < length piece → ⊥) → take from piece ≡ piece
taken_all from piece within over = take_all from piece (omega arith)

pub returns-clause-served : goal.returns-clause-served
returns-clause-served g c =
    let inv = c.loop-from.invariant.2 in
    let piece = c.args.piece.now in
    let all = taken_all c.loop-from.from piece c.loop-from.invariant.0 (λ below. omega arith) in
    let Of : List ℕ → Type 0 = λ bytes.
    (s : StaysOpen (shown_in c.args.origin.now g.P.Versions.site g.P.Versions.templates (g.P.Versions.state c.args.pages.now)) c.args.self.now bytes (record { rest = c.loop-from.self-inside.reading.rest; left = c.loop-from.self-inside.left }) [] inv.0)
    × (s.heads ≡ inv.1.heads) in (
      record { replies = length inv.0; terms = inv.3 },
      (
        inv.0,
        (
          inv.1.heads,
          subst Of all (inv.1, refl),
          record { looked = inv.3; extra = []; count = refl; look_ups = inv.4; may = refl; terms = sym (append-nil inv.3) },
        ),
        inv.2,
        c.loop-from.invariant.4,
      ),
      inv.5,
      inv.6,
    )
