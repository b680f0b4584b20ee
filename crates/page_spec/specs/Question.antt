-- What a page asks of its site.
use Rattle.std.specs.Prelude.{◌≡◌, ◌⊎◌, List, Contains}
use Rattle.sd_value.specs.Names.{Name, Label}
use Rattle.sd_value.specs.declared.Term.{Term}
use Rattle.sd_value.specs.declared.Value.{Value}

-- a question that a page may ask: whether a term is in the site, where a value's edges by a label
-- lead, what is collected under a name, and which template a value has
pub data Question : Type 0 where
  in_site : Term → Question
  out : Value → Label → Question
  collected : Name → Question
  template : Value → Question

-- a call that asks q may add it to the questions that are kept, and changes nothing else of them
pub record MayKeep (q : Question) (before after : List Question) : Type 0 where
  pub stays : (r : Question) → Contains before r → Contains after r
  pub new : (r : Question) → Contains after r → Contains before r ⊎ (r ≡ q)
