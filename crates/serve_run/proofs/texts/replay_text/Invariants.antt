use Rattle.std.proofs.Common.{◌≡◌, take, flat_map}
use Rattle.mem_wire.specs.WireInMemory.{accounts_of}
use Rattle.serve_run.specs.Texts.{bytes_taken, connection_text}
use Rattle.serve_run.proofs.texts.replay_text.Given as goal

abbrev pub invariant-loop-number : goal.invariant-loop-number
invariant-loop-number l =
    l.text.items ≡ flat_map (λ number. connection_text number (bytes_taken (accounts_of l.wire number))) (take l.number-index l.opened)
