use Rattle.http_spec.proofs.StreamLemmas.{cut_once, cut_bytes}
use Rattle.http_spec.proofs.laws.one_cut_of_a_stream.Goals as goal

pub returns-clause-once : goal.returns-clause-once
returns-clause-once g c = λ stream rs qs x y a b none last. cut_once stream rs qs x y a b none last

pub returns-clause-bytes : goal.returns-clause-bytes
returns-clause-bytes g c = λ stream rs rest cut none.
    let parts = cut_bytes stream rs rest cut in record { each = parts.0; whole = parts.1; last = none }
