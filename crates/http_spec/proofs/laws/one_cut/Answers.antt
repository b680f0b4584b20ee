use Rattle.http_spec.proofs.HeadLemmas.{cuts_unique, cuts_longest}
use Rattle.http_spec.proofs.laws.one_cut.Goals as goal

pub returns-clause-once : goal.returns-clause-once
returns-clause-once c = λ bytes hs ks r q x y. cuts_unique bytes hs ks r q x y

pub returns-clause-longest : goal.returns-clause-longest
returns-clause-longest c = λ bytes hs ks r q x each y. cuts_longest bytes hs ks r q x each y
