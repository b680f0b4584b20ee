use Rattle.std.proofs.Common.{◌≡◌, ◌≤◌, ◌++◌, take, vec_capacity, None}
use Rattle.http_spec.specs.Heads.{max_head}
use Rattle.http_reply.specs.Kept.{IsOpen}
use Rattle.http_reply.proofs.reading.Reading.feed.Given as goal

abbrev pub invariant-loop-i : goal.invariant-loop-i
invariant-loop-i l =
    (max_head ≤ vec_capacity l.self-inside.buffer.bytes)
    × IsOpen l.self-inside.buffer.bytes.items l.self-inside.buffer.started
    × (l.self-inside.buffer.target ≡ None)
    × (l.self-inside.buffer.bytes.items ≡ l.fn.self.rest ++ take l.i l.piece)
