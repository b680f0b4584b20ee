-- Readers that leave fewer tokens than they are given, or no more.
use Rattle.std.proofs.Common.{◌≡◌, ℕ, zero, suc, ◌<◌, ◌≤◌, Bool, true, false, List, [], ◌∷◌, length, Option, Some, None, refl, ap, arith, if◌then◌else◌}
use Rattle.grammar.specs.Reading.{Outcome, Read, Stuck, Past, and_then, ◌>>=◌, give, taken, take_one, starts, choose, iterate_within, iterate, guard}

module _ {T A : Type 0} where
  abbrev pub Takes : (List T → Outcome T A) → Type 0
  Takes p = (ts : List T) (v : A) (rest : List T) → p ts ≡ Read v rest → length rest < length ts

  abbrev pub Keeps : (List T → Outcome T A) → Type 0
  Keeps p = (ts : List T) (v : A) (rest : List T) → p ts ≡ Read v rest → length rest ≤ length ts

  pub takes_keeps : (p : List T → Outcome T A) → Takes p → Keeps p
  takes_keeps p takes ts v rest was = let less = takes ts v rest was in omega (arith, less)

  pub give_keeps : (v : A) → Keeps (give v)
  give_keeps v ts w rest was =
      let same : ts ≡ rest = cc in
      omega (arith, ap length same)

  pub past_takes : Takes Past
  past_takes ts v rest was = absurd cc

  taken_takes : (o : Option A) (t : T) (ts : List T) (v : A) (rest : List T) → taken true t ts o ≡ Read v rest → length rest < length (t ∷ ts)
  taken_takes None t ts v rest was = absurd cc
  taken_takes (Some w) t ts v rest was =
      let same : ts ≡ rest = cc in
      omega (arith, ap length same)

  pub one_takes : (value : T → Option A) → Takes (take_one true value)
  one_takes value [] v rest was = absurd cc
  one_takes value (t ∷ ts) v rest was = taken_takes (value t) t ts v rest was

  pub guard_takes : (room : Bool) (p : List T → Outcome T A) → Takes p → Takes (guard room p)
  guard_takes true p takes ts v rest was = takes ts v rest was
  guard_takes false p takes ts v rest was = absurd cc

  -- what holds of both ways holds of the way that is gone
  one_way : {G : Type 0} (b : Bool) (x y z : Outcome T A) → (if b then x else y) ≡ z → (x ≡ z → G) → (y ≡ z → G) → G
  one_way true x y z was first other = first was
  one_way false x y z was first other = other was

  pub choose_takes : (first : T → Bool) (p q : List T → Outcome T A) → Takes p → Takes q → Takes (choose first p q)
  choose_takes first p q a b ts v rest was = one_way (starts first ts) (p ts) (q ts) (Read v rest) was (a ts v rest) (b ts v rest)

module _ {T A B : Type 0} (p : List T → Outcome T A) (q : A → List T → Outcome T B) (keeps : (v : A) → Keeps (q v)) where
  fewer : (n : ℕ) (o : Outcome T A) (w : B) (rest : List T) → ((v : A) (r : List T) → o ≡ Read v r → length r < n) → and_then o q ≡ Read w rest → length rest < n
  fewer n (Read v r) w rest less was = let kept = keeps v r w rest was in omega (arith, less v r refl, kept)
  fewer n (Stuck r) w rest less was = absurd cc
  fewer n (Past r) w rest less was = absurd cc

  pub then_takes : Takes p → Takes (p >>= q)
  then_takes takes ts w rest was = fewer (length ts) (p ts) w rest (takes ts) was

  pub then_keeps : Keeps p → Keeps (p >>= q)
  then_keeps kept ts w rest was =
      let less = fewer (suc (length ts)) (p ts) w rest (λ v r is. let le = kept ts v r is in omega (arith, le)) was in
      omega (arith, less)

module _ {T S : Type 0} (first : T → Bool) (step : S → List T → Outcome T S) (takes : (state : S) → Takes (step state)) where
  turns_keep : (turns : ℕ) (state : S) → Keeps (iterate_within first step turns state)
  turns_keep zero state ts v rest was = give_keeps state ts v rest was
  turns_keep (suc turns) state ts v rest was =
      one_way (starts first ts) ((step state >>= λ next. iterate_within first step turns next) ts) (Read state ts) (Read v rest) was
      (takes_keeps _ (then_takes (step state) (λ next. iterate_within first step turns next) (turns_keep turns) (takes state)) ts v rest)
      (give_keeps state ts v rest)

  pub iterate_keeps : (state : S) → Keeps (iterate first step state)
  unfolding iterate
  iterate_keeps state ts v rest was = turns_keep (length ts) state ts v rest was
