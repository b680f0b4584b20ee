use Rattle.tests_certificates.proofs.Chains.{own_chain}
use Rattle.tests_certificates.proofs.testing.all_reached.Goals as goal

pub shows_reached-requires-clause-given : goal.shows_reached-requires-clause-given
shows_reached-requires-clause-given g c = own_chain c.args.tested.now.query.now.version c.args.mentions.now c.loop-place.place c.index-mentions-place.result c.requires.chains c.loop-place-test.true c.index-mentions-place.is
