use Rattle.std.proofs.Common.{◌≡◌}
use Rattle.bibtex_source.specs.Source.{entries_by, farthest, gathered}
use Rattle.bibtex_source.proofs.inherited.gathered.Given as goal

abbrev pub invariant-crossrefs : goal.invariant-crossrefs
invariant-crossrefs l = gathered (entries_by l.parents) l.turns l.all.items l.last ≡ gathered (entries_by l.parents) farthest l.fields l.fields

abbrev pub decreases-crossrefs : goal.decreases-crossrefs
decreases-crossrefs l = l.turns
