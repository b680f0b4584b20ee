use Rattle.std.proofs.Common.{◌≡◌, ◌≤◌, ◌+◌, drop, map}
use Rattle.httparse.specs.Spans.{header_bytes}
use Rattle.http_spec.specs.Words.{host_count}
use Rattle.http_reply.proofs.ask.count_hosts.Given as goal

abbrev pub invariant-loop-header : goal.invariant-loop-header
invariant-loop-header l =
    (l.count ≤ l.header-index)
    × (l.count + host_count (map (header_bytes l.bytes) (drop l.header-index l.headers)) ≡ host_count (map (header_bytes l.bytes) l.headers))
