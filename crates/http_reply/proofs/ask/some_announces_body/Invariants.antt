use Rattle.std.proofs.Common.{◌≡◌, drop, map}
use Rattle.std.specs.List.{list_any}
use Rattle.httparse.specs.Spans.{header_bytes}
use Rattle.http_spec.specs.Words.{announces_body}
use Rattle.http_reply.proofs.ask.some_announces_body.Given as goal

abbrev pub invariant-loop-header : goal.invariant-loop-header
invariant-loop-header l =
    list_any announces_body (map (header_bytes l.bytes) (drop l.header-index l.headers)) ≡ list_any announces_body (map (header_bytes l.bytes) l.headers)
