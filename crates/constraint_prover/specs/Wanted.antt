-- What shows what is wanted of a mention.
use Rattle.std.specs.Prelude.{List, Option, option_copied}
use Rattle.site_spec.specs.Site.{Scope}
use Rattle.constraint_spec.specs.Placed.{Mention}
use Rattle.constraint_spec.specs.Use.{LinkUse}
use Rattle.constraint_recheck.specs.Entails.{Tests}
use Rattle.constraint_recheck.specs.Search.{find_shown, find_reached}
use Rattle.certificate_search.specs.Uses.{ends_at}
use Rattle.constraint_prover.specs.declared.wanted.Wanted.{Wanted}
use Rattle.constraint_prover.specs.declared.wanted.Wanted.TheVariants.{Link, Root}

-- the uses that show it, if there are any
abbrev pub shown_by : Tests → Scope → Wanted → Mention → Option (List LinkUse)
shown_by tests q (Link label target) m =
    find_shown tests q label.now (ends_at (option_copied target)) m
shown_by tests q (Root function root) m = find_reached tests q function.now root.now m
