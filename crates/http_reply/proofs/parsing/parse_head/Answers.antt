use Rattle.std.proofs.Common.{rules, arith}
use Rattle.http_reply.proofs.ParserLemmas.{overflow_no_head, overflow_doomed}
use Rattle.http_reply.proofs.ReadingLemmas.{no_head_at_other, no_head_unstarted, whole_from_parser}
use Rattle.http_reply.proofs.parsing.parse_head.Goals.{then-not-started-via-then-not-started, then-not-started-via-else-not-started+then-bytes-ne10}
use Rattle.http_reply.proofs.parsing.parse_head.Goals as goal

pub returns-then-not-started : goal.returns-then-not-started
returns-then-not-started c =
    elim c.then-not-started.branch [
      | then-not-started-via-then-not-started w ↦
          no_head_unstarted c.args.bytes.now c.requires.some c.requires.before (c.requires.unstarted (search rules))
      | then-not-started-via-else-not-started+then-bytes-ne10 w ↦
          no_head_at_other c.args.bytes.now c.requires.some c.requires.before w.if-bytes-ne10.true
    ]

pub returns-in-Ok-Complete : goal.returns-in-Ok-Complete
returns-in-Ok-Complete c =
    let within = (rw c.in-Ok-Complete.field-0-is at c.in-Ok-Complete.ensures.within) in
    let complete = (rw c.in-Ok-Complete.field-0-is at c.in-Ok-Complete.ensures.complete) in
    whole_from_parser c.args.hosts.now c.args.bytes.now c.parse_request.new.headers c.in-Ok-Complete.spans c.ask_at.result c.requires.some c.requires.size (omega arith) c.requires.before
    within complete c.ask_at.ensures

pub returns-in-Err : goal.returns-in-Err
returns-in-Err c =
    (overflow_no_head c.args.bytes.now c.in-Err.ensures.no_room, overflow_doomed c.args.bytes.now c.in-Err.ensures.no_room)
