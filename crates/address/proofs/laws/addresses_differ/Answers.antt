use Rattle.page_spec.proofs.Addresses.{address_injective, term_of_unique}
use Rattle.address.proofs.laws.addresses_differ.Goals as goal

pub returns : goal.returns
returns c = record { addresses = address_injective; targets = term_of_unique }
