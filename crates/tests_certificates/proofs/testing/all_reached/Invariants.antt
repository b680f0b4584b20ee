use Rattle.std.proofs.Common.{◌≡◌, drop}
use Rattle.std.specs.Prelude.{map}
use Rattle.query_blocks.specs.Blocks.{scope_of}
use Rattle.constraint_recheck.specs.Recheck.{zip_all, shows_reached as is_reached}
use Rattle.query_links.specs.Mentions.{mention_of}
use Rattle.tests_certificates.proofs.testing.all_reached.Given as goal

abbrev pub invariant-loop-place : goal.invariant-loop-place
invariant-loop-place g l =
    zip_all (is_reached (g.J.Judge.tests l.tested.judge.now) (scope_of l.tested.query.now) l.function l.root) (map mention_of (drop l.place l.mentions)) (drop l.place l.proofs)
    ≡ zip_all (is_reached (g.J.Judge.tests l.tested.judge.now) (scope_of l.tested.query.now) l.function l.root) (map mention_of l.mentions) l.proofs
