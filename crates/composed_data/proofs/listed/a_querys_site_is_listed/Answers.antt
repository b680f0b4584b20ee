use Rattle.composed_data.proofs.ListedSites.{listed_query}
use Rattle.composed_data.proofs.listed.a_querys_site_is_listed.Goals as goal

pub returns : goal.returns
returns c = listed_query
