use Rattle.std.proofs.Common.{rules, tests, ◌==◌}
use Rattle.std.proofs.lemmas.Iterator.Search.{any_from_yields_List}
use Rattle.std.proofs.lemmas.Iterator.Splits.{YieldsList-from_slice_split}
use Rattle.http_spec.specs.Words.{is_among_hosts, is_host}
use Rattle.http_reply.proofs.ask.is_among_hosts.Goals as goal

pub returns : goal.returns
unfolding is_among_hosts
returns c =
    any_from_yields_List (λ name. is_host c.args.value.now name) _ _ _ c.any.ensures.ran
    (YieldsList-from_slice_split _ (λ b. b == 44) c.args.hosts.now c.split.ensures.rest c.split.ensures.done c.split.ensures.closure
    (λ x b q k. search (rules, tests)))
    (λ x b q k. search (rules, tests))
