use Rattle.std.proofs.Common.{◌≡◌, drop, map}
use Rattle.std.specs.List.{list_any}
use Rattle.httparse.specs.Spans.{header_bytes}
use Rattle.http_spec.specs.Words.{is_for_another}
use Rattle.http_reply.proofs.ask.some_is_for_another.Given as goal

abbrev pub invariant-loop-header : goal.invariant-loop-header
invariant-loop-header l =
    list_any (is_for_another l.hosts) (map (header_bytes l.bytes) (drop l.header-index l.headers))
    ≡ list_any (is_for_another l.hosts) (map (header_bytes l.bytes) l.headers)
