-- No more pages are kept than there is room for, and no more bytes.
use Rattle.std.proofs.Common.{◌≡◌, ℕ, zero, suc, ◌+◌, ◌-◌, ◌<◌, ◌≤◌, Bool, true, false, cond, List, [], ◌∷◌, length, take, filter, refl, sym, ap, ◌∙◌, subst, arith, Option, Some, None, if◌then◌else◌, nat_le}
use Rattle.std.specs.Prelude.{find}
use Rattle.std.specs.Option.{option_map_or}
use Rattle.std.proofs.lemmas.Bool.Decides.{nat_tests}
use Rattle.std.proofs.lemmas.List.Sums.{sum_by-cons}
use Rattle.sd_value.specs.declared.Term.{Term}
use Rattle.tmpl.specs.Body.{TemplateFile}
use Rattle.page_spec.specs.declared.Outcome.{Outcome}
use Rattle.page_spec.specs.declared.Outcome.TheVariants.{Page, Missing, Cyclic, TooLong}
use Rattle.page_spec.specs.Site.{Site}
use Rattle.happenings.specs.declared.event.WireEvent.{WireEvent}
use Rattle.happenings.specs.declared.event.WireEvent.TheVariants.{Opened, Bytes, Ended, Lost, Change, Done}
use Rattle.serving_spec.specs.Changes.{Changes, LooksAt, RenewsAt, AllKept, Keeps, state_after}
use Rattle.serving_spec.specs.Looks.{KeptPage, Kept, is_same, kept_page, without, bytes_of, newest_within, kept_with, Looks, kept_after, IsWithinRoom, LooksIn}
use Rattle.serving_spec.specs.Made.{Made, AllLooked}
use Rattle.serving_spec.specs.Serving.{none_kept}
use Rattle.serving_spec.specs.declared.CacheRoom.{CacheRoom}
use Rattle.serving_spec.specs.declared.Hit.{Hit}
use Rattle.serving_spec.specs.declared.Hit.TheVariants.{Found, Miss}

bytes_cons : (p : KeptPage) (ps : List KeptPage) → bytes_of (p ∷ ps) ≡ p.bytes + bytes_of ps
bytes_cons p ps = sum_by-cons (λ (q : KeptPage). q.bytes) p ps

-- so many pages, and so many bytes at most
abbrev Fits : ℕ → ℕ → List KeptPage → Type 0
Fits count bytes ps = (length ps ≤ count) × (bytes_of ps ≤ bytes)

newest_fit : (bytes : ℕ) (ps : List KeptPage) → Fits (length ps) bytes (newest_within bytes ps)
newest_fit bytes [] = (omega arith, omega arith)
newest_fit bytes (p ∷ ps) = by_test (nat_le p.bytes bytes) refl (newest_fit (bytes - p.bytes) ps)
  where
    by_test : (t : Bool) → nat_le p.bytes bytes ≡ t → Fits (length ps) (bytes - p.bytes) (newest_within (bytes - p.bytes) ps) → Fits (suc (length ps)) bytes (if t then p ∷ newest_within (bytes - p.bytes) ps else [])
    by_test true is rest =
        let below : p.bytes ≤ bytes = grind (arith, nat_tests) in
        let all = bytes_cons p (newest_within (bytes - p.bytes) ps) in
        (omega (arith, rest.0), omega (arith, rest.1, all, below))
    by_test false is rest = (omega arith, omega arith)

taken : (n : ℕ) (ps : List KeptPage) → length (take n ps) ≤ n
taken zero ps = omega arith
taken (suc n) [] = omega arith
taken (suc n) (p ∷ ps) = let rest = taken n ps in omega (arith, rest)

-- the page of a term, and the others
record IsApart (p : KeptPage) (others all : List KeptPage) : Type 0 where
  count : suc (length others) ≡ length all
  bytes : p.bytes + bytes_of others ≡ bytes_of all

apart : (term : Term) (ps : List KeptPage) (p : KeptPage) → kept_page term ps ≡ Some p → IsApart p (without term ps) ps
apart term [] p is = cc
apart term (q ∷ ps) p is = by_test (is_same term q.term) is (apart term ps p)
  where
    by_test : (t : Bool) → cond t (Some q) (kept_page term ps) ≡ Some p → (kept_page term ps ≡ Some p → IsApart p (without term ps) ps)
        → IsApart p (if t then ps else q ∷ without term ps) (q ∷ ps)
    by_test true found rest =
        let same : q.bytes ≡ p.bytes = ap (λ (o : Option KeptPage). option_map_or (λ x. x.bytes) o 0) found in
        let all = bytes_cons q ps in
        record { count = refl; bytes = omega (arith, same, all) }
    by_test false found rest =
        let others = rest found in
        let count = others.count in
        let bytes = others.bytes in
        let one = bytes_cons q (without term ps) in
        let all = bytes_cons q ps in
        record { count = ap suc count; bytes = omega (arith, bytes, one, all) }

with_fits : (room : CacheRoom) (term : Term) (outcome : Outcome) (ps : List KeptPage) → 0 < room.pages → Fits room.pages room.bytes ps
    → Fits room.pages room.bytes (kept_with room term outcome ps)
with_fits room term (Page text) ps some fits = by_test (nat_le (length text) room.bytes) refl
  where
    front : List KeptPage
    front = take (room.pages - 1) ps

    by_test : (t : Bool) → nat_le (length text) room.bytes ≡ t
        → Fits room.pages room.bytes (if t then record { term = term; bytes = length text } ∷ newest_within (room.bytes - length text) (take (room.pages - 1) ps) else ps)
    by_test true is =
        let below : length text ≤ room.bytes = grind (arith, nat_tests) in
        let rest = newest_fit (room.bytes - length text) front in
        let few = taken (room.pages - 1) ps in
        let all = bytes_cons (record { term = term; bytes = length text }) (newest_within (room.bytes - length text) front) in
        (omega (arith, rest.0, few, some), omega (arith, rest.1, all, below))
    by_test false is = fits
with_fits room term Missing ps some fits = fits
with_fits room term (Cyclic value) ps some fits = fits
with_fits room term TooLong ps some fits = fits

looks_fit : (room : CacheRoom) (ps after : List KeptPage) (term : Term) (outcome : Outcome) (hit : Hit) → 0 < room.pages → Fits room.pages room.bytes ps
    → Looks room ps term outcome hit after → Fits room.pages room.bytes after
looks_fit room ps after term outcome Found some fits (page, there, is) =
    let parts = apart term ps page there in
    let count = parts.count in
    let bytes = parts.bytes in
    let all = bytes_cons page (without term ps) in
    subst (λ qs. Fits room.pages room.bytes qs) (sym is) (omega (arith, count, fits.0), omega (arith, bytes, all, fits.1))
looks_fit room ps after term outcome Miss some fits (none, is) =
    subst (λ qs. Fits room.pages room.bytes qs) (sym is) (with_fits room term outcome ps some fits)

filter_fits : (keep : KeptPage → Bool) (ps : List KeptPage) → Fits (length ps) (bytes_of ps) (filter keep ps)
filter_fits keep [] = (omega arith, omega arith)
filter_fits keep (p ∷ ps) = by_test (keep p) (filter_fits keep ps)
  where
    by_test : (t : Bool) → Fits (length ps) (bytes_of ps) (filter keep ps) → Fits (suc (length ps)) (bytes_of (p ∷ ps)) (cond t (p ∷ filter keep ps) (filter keep ps))
    by_test true rest = let one = bytes_cons p (filter keep ps) in let all = bytes_cons p ps in (omega (arith, rest.0), omega (arith, rest.1, one, all))
    by_test false rest = let all = bytes_cons p ps in (omega (arith, rest.0), omega (arith, rest.1, all))

-- what is kept is within the room, which stays
record Stays (room : CacheRoom) (kept : Kept) : Type 0 where
  same : kept.room ≡ room
  within : Fits room.pages room.bytes kept.pages

module _ (room : CacheRoom) (some : 0 < room.pages) where
  look_stays : (HasOutcome : Term → Outcome → Type 0) (before : Kept) (term : Term) (after : Kept) → Stays room before → LooksIn HasOutcome before term after → Stays room after
  look_stays HasOutcome before term after stays looks = record {
    same = looks.room ∙ stays.same;
    within = looks_fit room before.pages after.pages term looks.outcome looks.hit some stays.within
        (subst (λ r. Looks r before.pages term looks.outcome looks.hit after.pages) stays.same looks.pages);
  }

  looks_stay : (HasOutcome : Term → Outcome → Type 0) (before : Kept) (terms : List Term) (after : Kept) → Stays room before → AllLooked (LooksIn HasOutcome) before terms after → Stays room after
  looks_stay HasOutcome before [] after stays same = subst (Stays room) (sym same) stays
  looks_stay HasOutcome before (t ∷ terms) after stays (between, one, rest) =
      looks_stay HasOutcome between terms after (look_stays HasOutcome before t between stays one) rest

  after_fits : (accepted : Bool) (keep : Term → Bool) (ps : List KeptPage) → Fits room.pages room.bytes ps → Fits room.pages room.bytes (kept_after accepted keep ps)
  after_fits true keep ps fits =
      let less = filter_fits (λ p. keep p.term) ps in
      (omega (arith, less.0, fits.0), omega (arith, less.1, fits.1))
  after_fits false keep ps fits = fits

  module _ {D : Type 0} (site : D → Site) (templates : D → TemplateFile) (texts : Changes D) where
    step : (current : D) (event : WireEvent) (made : Made) (before after : Kept) → Stays room before
        → Keeps (LooksAt site templates texts current) (RenewsAt site templates texts current) event made before after → Stays room after
    step current (Opened number) made before after stays keeps = looks_stay _ before made.terms after stays keeps
    step current (Bytes number piece) made before after stays keeps = looks_stay _ before made.terms after stays keeps
    step current (Ended number) made before after stays keeps = looks_stay _ before made.terms after stays keeps
    step current (Lost number) made before after stays keeps = looks_stay _ before made.terms after stays keeps
    step current (Change text) made before after stays renews =
        subst (Stays room) (sym renews)
        record { same = stays.same; within = after_fits (texts.accepts current text) (texts.stays current text) before.pages stays.within }
    step current Done made before after stays keeps = looks_stay _ before made.terms after stays keeps

    all_stay : (current : D) (events : List WireEvent) (makes : List Made) (before after : Kept) → Stays room before → AllKept site templates texts current events makes before after → Stays room after
    all_stay current [] makes before after stays same = subst (Stays room) (sym same) stays
    all_stay current (e ∷ events) [] before after stays never = absurd never
    all_stay current (e ∷ events) (made ∷ makes) before after stays (between, one, rest) =
        all_stay (state_after texts.changed e current) events makes between after (step current e made before between stays one) rest

    pub kept_fits : (start : D) (events : List WireEvent) (makes : List Made) (kept : Kept) → AllKept site templates texts start events makes (none_kept room) kept → IsWithinRoom kept
    kept_fits start events makes kept keeps =
        let stays = all_stay start events makes (none_kept room) kept (record { same = refl; within = (omega arith, omega arith) }) keeps in
        let fits = subst (λ (r : CacheRoom). Fits r.pages r.bytes kept.pages) (sym stays.same) stays.within in
        record { pages = fits.0; bytes = fits.1 }
