use Rattle.std.proofs.Common.{◌≡◌, List, ℕ, [], ap, sym, subst, length, ◌<◌, lit<}
use Rattle.http_reply.specs.Feeding.{Held}
use Rattle.http_spec.specs.Heads.{max_head, HasNoHead}
use Rattle.http_spec.proofs.HeadLemmas.{no_head_nil}
use Rattle.hub.proofs.connection.Connection.new.Goals as goal

pub invariant_of-result : goal.invariant_of-result
invariant_of-result c =
    let empty : [] ≡ c.in_ok-reading.reading.rest = sym (ap (λ (h : Held). h.rest) c.in_ok-reading.ensures) in (
      subst HasNoHead empty no_head_nil,
      subst (λ (s : List ℕ). length s < max_head) empty (lit< tt),
      c.requires,
    )
