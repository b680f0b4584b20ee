-- What a view asks.
use Rattle.click_time.specs.declared.click.Click.{Click}

-- the asker behind the view
abbrev pub asker_of : {A : Type 0} → Click A → A
asker_of c = c.asker
