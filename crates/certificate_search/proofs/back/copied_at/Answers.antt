use Rattle.std.proofs.Common.{◌≡◌, get_or}
use Rattle.std.specs.Prelude.{map}
use Rattle.std.proofs.lemmas.Result.{IfOk-weaker}
use Rattle.certificate_search.specs.declared.sources.ReachedTerm.{ReachedTerm}
use Rattle.certificate_search.specs.Reaching.{reached_of}
use Rattle.certificate_search.proofs.Growing.{read_at}
use Rattle.certificate_search.proofs.back.copied_at.Goals as goal

pub returns : goal.returns
returns c =
    let xs = c.args.seen.now in
    let i = c.args.place in
    let x = c.index-seen-place.result in
    IfOk-weaker c.copied_reached.result (λ (r : ReachedTerm). reached_of r ≡ reached_of x) (λ (r : ReachedTerm). reached_of r ≡ get_or (map reached_of xs) i (reached_of r))
    (λ r e. read_at xs i x (reached_of r) c.requires c.index-seen-place.is e) c.copied_reached.ensures
