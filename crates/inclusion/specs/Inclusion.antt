-- Whether the words of one expression are words of another.
use Rattle.rpe.specs.Regex.{Word, Regex}
use Rattle.rpe.specs.Language.{InLanguage}

-- each word of a is one of b, over all labels
abbrev pub HasEachWord : Regex → Regex → Type 0
HasEachWord a b = (w : Word) → InLanguage a w → InLanguage b w
