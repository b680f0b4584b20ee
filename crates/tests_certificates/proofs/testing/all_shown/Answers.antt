use Rattle.tests_certificates.proofs.Chains.{own_chain}
use Rattle.tests_certificates.proofs.testing.all_shown.Goals as goal

pub shows-requires-clause-given : goal.shows-requires-clause-given
shows-requires-clause-given g c = own_chain c.args.tested.now.query.now.version c.args.mentions.now c.loop-place.place c.index-mentions-place.result c.requires.chains c.loop-place-test.true c.index-mentions-place.is
