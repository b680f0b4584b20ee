use Rattle.std.proofs.Common.{◌≡◌, drop}
use Rattle.std.specs.Prelude.{map, option_copied}
use Rattle.query_blocks.specs.Blocks.{scope_of}
use Rattle.constraint_recheck.specs.Recheck.{zip_all, shows as is_shown}
use Rattle.query_links.specs.Mentions.{mention_of}
use Rattle.tests_certificates.specs.Links.{ends_at}
use Rattle.tests_certificates.proofs.testing.all_shown.Given as goal

abbrev pub invariant-loop-place : goal.invariant-loop-place
invariant-loop-place g l =
    zip_all (is_shown (g.J.Judge.tests l.tested.judge.now) (scope_of l.tested.query.now) l.label (ends_at (option_copied l.target))) (map mention_of (drop l.place l.mentions)) (drop l.place l.proofs)
    ≡ zip_all (is_shown (g.J.Judge.tests l.tested.judge.now) (scope_of l.tested.query.now) l.label (ends_at (option_copied l.target))) (map mention_of l.mentions) l.proofs
