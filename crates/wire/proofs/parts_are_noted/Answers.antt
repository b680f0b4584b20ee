use Rattle.wire.proofs.Noting.{noted_then}
use Rattle.wire.proofs.parts_are_noted.Goals as goal

pub returns : goal.returns
returns c = λ before between after old now new first next. noted_then before between after old now new first next
