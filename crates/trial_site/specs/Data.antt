-- The words and values that the data of a trial are made with.
use Rattle.std.specs.Prelude.{◌≡◌, codes}
use Rattle.sd_value.specs.declared.Datum.{Datum}
use Rattle.sd_value.specs.declared.Value.{Value}
use Rattle.sd_value.specs.declared.Value.TheVariants.{Data}
use Rattle.trial_site.specs.declared.data.Words.{Words}

-- the value that is this datum
abbrev pub as_value : Datum → Value
as_value d = Data d

-- the words that every entry has
pub record AreWords (words : Words) : Type 0 where
  pub publications : words.publications ≡ codes "Publications"
  pub title : words.title ≡ codes "title"
  pub year : words.year ≡ codes "year"
  pub author : words.author ≡ codes "author"
