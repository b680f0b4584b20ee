-- Replies after which more of a refused request may come.
use Rattle.std.specs.Prelude.{ℕ, ◌||◌, ◌==◌, Bool, List, codes}
use Rattle.std.specs.List.{starts_with}

-- the reply refuses a request before all of it was read
abbrev pub refuses : List ℕ → Bool
refuses reply =
    starts_with (λ a b. a == b) reply (codes "HTTP/1.1 400 ")
    || starts_with (λ a b. a == b) reply (codes "HTTP/1.1 405 ")
