-- Happenings that are no reads of files, and those that are no events either.
use Rattle.std.proofs.Common.{◌≡◌, List, [], ◌∷◌, ◌++◌, map, refl, sym, ap, subst, ◌∙◌}
use Rattle.std.proofs.lemmas.List.Elements.{All-nil, All-cons, All-head, All-tail}
use Rattle.std.specs.Prelude.{All, ⊤}
use Rattle.std.specs.List.{AllZip}
use Rattle.happenings.specs.Happening.{Happening, Read, ReadFailed, Given}
use Rattle.wire.specs.Noted.{IsDeed}
use Rattle.run_laws.specs.Order.{IsNoRead}

-- it is neither a read of a file nor an event
abbrev pub IsQuiet : Happening → Type 0
IsQuiet (Read path bytes) = ⊥
IsQuiet (ReadFailed path) = ⊥
IsQuiet (Given event) = ⊥
IsQuiet happening = ⊤

-- it is no event
abbrev pub IsNoEvent : Happening → Type 0
IsNoEvent (Given event) = ⊥
IsNoEvent happening = ⊤

abbrev pub Each : (P : Happening → Type 0) → List Happening → Type 0
Each P [] = ⊤
Each P (x ∷ xs) = P x × Each P xs

module _ (P : Happening → Type 0) where
  pub both : (xs ys : List Happening) → Each P xs → Each P ys → Each P (xs ++ ys)
  both [] ys h k = k
  both (x ∷ xs) ys h k = (h.0, both xs ys h.1 k)

  pub all_of : (xs : List Happening) → Each P xs → All P xs
  all_of [] h = All-nil P
  all_of (x ∷ xs) h = All-cons P x xs h.0 (all_of xs h.1)

  pub each_is : (xs ys : List Happening) → xs ≡ ys → Each P ys → Each P xs
  each_is xs ys is h = subst (Each P) (sym is) h

module _ (P Q : Happening → Type 0) (to : (h : Happening) → P h → Q h) where
  pub each_to : (xs : List Happening) → Each P xs → Each Q xs
  each_to [] h = tt
  each_to (x ∷ xs) h = (to x h.0, each_to xs h.1)

pub quiet_reads : (h : Happening) → IsQuiet h → IsNoRead h
quiet_reads (Read path bytes) q = q
quiet_reads (ReadFailed path) q = q
quiet_reads (Given event) q = absurd q
quiet_reads h q = tt

pub quiet_events : (h : Happening) → IsQuiet h → IsNoEvent h
quiet_events (Read path bytes) q = absurd q
quiet_events (ReadFailed path) q = absurd q
quiet_events (Given event) q = q
quiet_events h q = tt

deed_reads : (h : Happening) → IsDeed h → IsNoRead h
deed_reads (Read path bytes) d = d
deed_reads (ReadFailed path) d = d
deed_reads h d = tt

-- sends and closes read nothing
pub deeds_read : (part : List Happening) → All IsDeed part → Each IsNoRead part
deeds_read [] h = tt
deeds_read (x ∷ xs) h = (deed_reads x (All-head IsDeed x xs h), deeds_read xs (All-tail IsDeed x xs h))

-- each of these is so, by what each is
pub zip_each : {A : Type 0} (R : A → Happening → Type 0) (P : Happening → Type 0) → ((a : A) (h : Happening) → R a h → P h)
    → (xs : List A) (ys : List Happening) → AllZip R xs ys → Each P ys
zip_each R P to [] [] z = tt
zip_each R P to [] (y ∷ ys) z = absurd z
zip_each R P to (x ∷ xs) [] z = absurd z
zip_each R P to (x ∷ xs) (y ∷ ys) z = (to x y z.0, zip_each R P to xs ys z.1)

pub map_each : {A : Type 0} (f : A → Happening) (P : Happening → Type 0) → ((a : A) → P (f a)) → (xs : List A) → Each P (map f xs)
map_each f P to [] = tt
map_each f P to (x ∷ xs) = (to x, map_each f P to xs)

-- what has no event stands before the event
pub cut : (xs ys front later : List Happening) (event : _) → Each IsNoEvent xs → xs ++ ys ≡ front ++ Given event ∷ later
    → (mid : List Happening) × (front ≡ xs ++ mid)
cut [] ys front later event none e = (front, refl)
cut (x ∷ xs) ys [] later event none e = let same : x ≡ Given event = cc in absurd (subst IsNoEvent same none.0)
cut (x ∷ xs) ys (f ∷ front) later event none e =
    let same : x ≡ f = cc in let rest : xs ++ ys ≡ front ++ Given event ∷ later = cc in
    let found = cut xs ys front later event none.1 rest in
    (found.0, ap (λ (y : Happening). y ∷ front) (sym same) ∙ ap (λ (r : List Happening). x ∷ r) found.1)

-- no event is in what has none
pub no_event : (xs front later : List Happening) (event : _) → Each IsNoEvent xs → xs ≡ front ++ Given event ∷ later → ⊥
no_event [] [] later event none e = cc
no_event [] (f ∷ front) later event none e = cc
no_event (x ∷ xs) [] later event none e = let same : x ≡ Given event = cc in subst IsNoEvent same none.0
no_event (x ∷ xs) (f ∷ front) later event none e =
    let rest : xs ≡ front ++ Given event ∷ later = cc in no_event xs front later event none.1 rest
