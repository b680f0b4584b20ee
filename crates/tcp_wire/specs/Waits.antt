-- How many pieces of a connection are taken without a reply.
use Rattle.std.specs.Prelude.{ℕ}

-- after this many pieces without a reply a connection is lost
abbrev pub most_pieces : ℕ
most_pieces = 521
