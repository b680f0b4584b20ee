-- How the texts of a run are read: as data, and as edits.
use Rattle.data_texts.specs.ComposedTexts.{Readers}
use Rattle.data_texts.proofs.Readers.{the_readers}
use Rattle.data_texts.specs.Edits.{EditReader}
use Rattle.data_texts.specs.Touching.{Touching}
use Rattle.data_texts.proofs.TheEdits.{the_edits}
use Rattle.data_texts.proofs.TheTouching.{the_touching}

-- Readers of data for each first query, a reader of edits, and a test of what they touch. Each says exactly what its
-- texts mean, so there is no choice in them.
pub record TextRules : Type 0 where
  pub data_readers : Readers
  pub edits : EditReader
  pub touching : Touching

-- they are there
abbrev pub the_rules : TextRules
the_rules = record { data_readers = the_readers; edits = the_edits; touching = the_touching }
