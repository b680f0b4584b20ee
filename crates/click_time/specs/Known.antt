-- What is known by key, and what is asked at most once.
use Rattle.std.specs.Prelude.{◌≡◌, ◌⊎◌, ℕ, List, Contains}
use Rattle.std.specs.Map.{keys_of}

-- the key has what is reported, and nothing else is new
pub record Puts {K X : Type 0} (key : K) (told : X) (old new : List (K × X)) : Type 0 where
  pub new_one : (e : K × X) → Contains new e → Contains old e ⊎ (e ≡ (key, told))
  pub keys_stay : (k : K) → Contains (keys_of old) k → Contains (keys_of new) k
  pub has_key : Contains (keys_of new) key

-- the key is one of those that are kept now, and no other is new
pub record KeepsKey {K : Type 0} (key : K) (old new : List K) : Type 0 where
  pub stays : (k : K) → Contains old k → Contains new k
  pub has : Contains new key
  pub only : (k : K) → Contains new k → Contains old k ⊎ (k ≡ key)

-- nothing is asked, or what was never asked before, and is kept now; then `rises` says by what the count rises
pub data AsksOnce {K : Type 0} (key : K) (rises : Type 0) (old new : List K)
    (a b : ℕ) : Type 0 where
  knew : new ≡ old → b ≡ a → AsksOnce key rises old new a b
  asked : (Contains old key → ⊥) → KeepsKey key old new → rises → AsksOnce key rises old new a b
