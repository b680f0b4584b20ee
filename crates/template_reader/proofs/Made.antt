-- Templates that are read one by one, and how many there are.
use Rattle.std.proofs.Common.{◌≡◌, ℕ, suc, ◌+◌, ◌≤◌, drop, arith, List, [], ◌∷◌, ◌++◌, length, Some, None, Result, Ok, Err, refl, sym, ap, subst, ◌∙◌, append_assoc, length-append, inl, inr}
use Rattle.std.proofs.Common.{Bool, true, false}
use Rattle.std.specs.Prelude.{◌⊎◌, if◌then◌else◌}
use Rattle.std.proofs.lemmas.List.{append-nil, length-drop}
use Rattle.grammar.specs.Reading.{Outcome, Read, Stuck, Past, and_then, finish}
use Rattle.grammar.proofs.Laws.{AtEnd}
use Rattle.grammar.proofs.Parts.{Part, whole_part}
use Rattle.template_items.specs.declared.item.Item.{Item}
use Rattle.template_tags.specs.Terminals.{IsReal}
use Rattle.template_tags.specs.Tag.{expr, any_expr}
use Rattle.template_layouts.specs.declared.met.Met.{Met}
use Rattle.template_layouts.specs.declared.refusal.TmplRefusal.TheVariants.{TooLarge}
use Rattle.template_layouts.specs.declared.written.Act.{Act}
use Rattle.template_layouts.specs.declared.written.View.{View}
use Rattle.template_layouts.specs.declared.written.Role.{Role}
use Rattle.template_layouts.specs.declared.written.Role.TheVariants as roles
use Rattle.template_layouts.specs.declared.written.Sort.{Sort}
use Rattle.template_layouts.specs.declared.written.Sort.TheVariants as sorts
use Rattle.template_reader.specs.Template.{body, template, Entry}
use Rattle.template_reader.specs.Reading.{read_template, whole_of}
use Rattle.template_reader.specs.Entries.{AreRead}
use Rattle.template_layouts.specs.Measures.{is_too_large, sum}
use Rattle.template_layouts.specs.Together.{Above, Open, Reading, with_open, with_above, titles, frames, includes, met_at, whole_items, frame_of, framed_measure, ends_template, ends_by, and_ends, ends, step_by, step, and_run, run, nothing_read, together}
use Rattle.template_layouts.specs.declared.measure.Measure.{Measure}
use Rattle.template_layouts.specs.Written.{role_of, next, acts, first_view}
use Rattle.template_reader.specs.Faults.{templates_of}
use Rattle.template_reader.proofs.FileParts.{entry_part}

-- ---- a template alone

abbrev one_template : List Item → Entry → Type 0
one_template = template (body expr 32 [])

alone_part : Part IsReal one_template (template (body any_expr 33 [])) AtEnd (λ ts. and_then (read_template ts) finish)
alone_part = whole_part entry_part tt

pub alone_is : (items : List Item) (e : Entry) → read_template items ≡ Read e [] → one_template items e
alone_is items e is =
    let s = (entry_part.reads items).sound e [] is in
    subst (λ ts. one_template ts e) (sym (s.1 ∙ append-nil s.0)) s.2

pub alone_reads : (items : List Item) (e : Entry) → one_template items e → read_template items ≡ Read e []
alone_reads items e h = (entry_part.reads items).complete items e [] (sym (append-nil items)) h tt

pub one_alone : (items : List Item) (e f : Entry) → one_template items e → one_template items f → e ≡ f
one_alone items e f h k =
    let a = alone_reads items e h in
    let b = alone_reads items f k in
    let same : Read e [] ≡ Read f [] = sym a ∙ b in
    cc

-- ---- all of them

pub one_reading : (templates : List (List Item)) (es fs : List Entry) → AreRead templates es → AreRead templates fs → es ≡ fs
one_reading [] [] [] h k = refl
one_reading [] [] (f ∷ fs) h k = absurd k
one_reading [] (e ∷ es) fs h k = absurd h
one_reading (t ∷ ts) [] fs h k = absurd h
one_reading (t ∷ ts) (e ∷ es) [] h k = absurd k
one_reading (t ∷ ts) (e ∷ es) (f ∷ fs) h k =
    let first = one_alone t e f h.0 k.0 in
    let rest = one_reading ts es fs h.1 k.1 in
    cc

-- Of all templates these entries were read, and these templates are left.
pub record Progress (all left : List (List Item)) (so_far : List Entry) : Type 0 where
  pub goes_on : (more : List Entry) → AreRead left more → AreRead all (so_far ++ more)
  pub comes_from : (entries : List Entry) → AreRead all entries → (more : List Entry) × AreRead left more

pub no_progress : (all : List (List Item)) → Progress all all []
no_progress all = record { goes_on = λ more h. h; comes_from = λ entries h. (entries, h) }

pub one_more : (all left later : List (List Item)) (t : List Item) (so_far : List Entry) (e : Entry) → left ≡ t ∷ later → one_template t e → Progress all left so_far → Progress all later (so_far ++ e ∷ [])
one_more all left later t so_far e is h p = record {
  goes_on = λ more k. subst (AreRead all) (sym (append_assoc so_far (e ∷ []) more)) (p.goes_on (e ∷ more) (subst (λ ts. AreRead ts (e ∷ more)) (sym is) (h, k)));
  comes_from = λ entries k. (let before = p.comes_from entries k in behind before.0 (subst (λ ts. AreRead ts before.0) is before.1));
}
  where
    behind : (more : List Entry) → AreRead (t ∷ later) more → (others : List Entry) × AreRead later others
    behind [] k = absurd k
    behind (f ∷ more) k = (more, k.1)

pub none_more : (all left later : List (List Item)) (t : List Item) (so_far : List Entry) → left ≡ t ∷ later → ((e : Entry) → one_template t e → ⊥) → Progress all left so_far → (entries : List Entry) → AreRead all entries → ⊥
none_more all left later t so_far is none p entries k =
    let before = p.comes_from entries k in
    first before.0 (subst (λ ts. AreRead ts before.0) is before.1)
  where
    first : (more : List Entry) → AreRead (t ∷ later) more → ⊥
    first [] h = h
    first (f ∷ more) h = none f h.0

pub all_read : (all left : List (List Item)) (so_far : List Entry) → left ≡ [] → Progress all left so_far → AreRead all so_far
all_read all left so_far is p = subst (AreRead all) (append-nil so_far) (p.goes_on [] (subst (λ ts. AreRead ts []) (sym is) tt))

-- ---- no more templates than items

abbrev AtMost : ℕ → Result Above Met → Type 0
AtMost n (Ok a) = length a.templates ≤ n
AtMost n (Err m) = Unit {0}

abbrev AtMostRead : ℕ → Result Reading Met → Type 0
AtMostRead n (Ok r) = length r.above.templates ≤ n
AtMostRead n (Err m) = Unit {0}

opened_few : (a : Above) (n : ℕ) (r : Result Open Met) → length a.templates ≤ n → AtMostRead n (with_open a r)
opened_few a n (Ok o) h = h
opened_few a n (Err m) h = tt

above_few : (n : ℕ) (r : Result Above Met) → AtMost n r → AtMostRead n (with_above r)
above_few n (Ok a) h = h
above_few n (Err m) h = tt

template_few : (bytes : ℕ) (a : Above) (o : Open) (i : Item) → AtMost (length a.templates + 1) (ends_template bytes a o i)
template_few bytes a o i = by (is_too_large bytes)
  where
    by : (b : Bool) → AtMost (length a.templates + 1) (if b then met_at i (λ _. TooLarge o.place) else Ok (record a { bytes = bytes; templates = a.templates ++ whole_items a o i ∷ [] }))
    by true = tt
    by false = omega (arith, length-append a.templates (whole_items a o i ∷ []))

ends_few : (s : Sort) (m : Measure) (a : Above) (o : Open) (i : Item) → AtMost (length a.templates + 1) (ends_by s m a o i)
ends_few sorts.Template m a o i = template_few (sum a.bytes m.bytes) a o i
ends_few sorts.Layout m a o i = omega arith
ends_few sorts.Fragment m a o i = omega arith

and_ends_few : (r : Result Measure Met) (a : Above) (o : Open) (i : Item) → AtMost (length a.templates + 1) (and_ends r a o i)
and_ends_few (Ok m) a o i = ends_few o.sort m a o i
and_ends_few (Err m) a o i = tt

one_over : (n : ℕ) → n ≤ n + 1
one_over n = omega arith

step_few : (r : Role) (a : Above) (o : Open) (i : Item) → AtMostRead (length a.templates + 1) (step_by r a o i)
step_few roles.Kept a o i = one_over (length a.templates)
step_few roles.Opens a o i = one_over (length a.templates)
step_few roles.Titles a o i = opened_few a (length a.templates + 1) (titles a o i) (one_over (length a.templates))
step_few roles.Frames a o i = opened_few a (length a.templates + 1) (frames a o i) (one_over (length a.templates))
step_few roles.Holds a o i = one_over (length a.templates)
step_few roles.Closes a o i = one_over (length a.templates)
step_few roles.Precedes a o i = one_over (length a.templates)
step_few roles.Includes a o i = opened_few a (length a.templates + 1) (includes a o i) (one_over (length a.templates))
step_few roles.Ends a o i = above_few (length a.templates + 1) (ends a o i) (and_ends_few (framed_measure (frame_of a o.frame) o.measure i) a o i)
step_few roles.Passed a o i = one_over (length a.templates)
step_few roles.Misplaced a o i = one_over (length a.templates)

more_few : (n m : ℕ) (r : Result Above Met) → n ≤ m → AtMost n r → AtMost m r
more_few n m (Ok a) le h = omega (arith, le, h)
more_few n m (Err e) le h = tt

step_by_few : (acts : List Act) (n : ℕ) → ((r : Reading) → AtMost (length r.above.templates + length acts) (run r acts)) → (s : Result Reading Met) → AtMostRead n s → AtMost (n + length acts) (and_run s (λ next. run next acts))
step_by_few acts n rest (Ok next) h = more_few (length next.above.templates + length acts) (n + length acts) (run next acts) (omega (arith, h)) (rest next)
step_by_few acts n rest (Err m) h = tt

pub run_few : (acts : List Act) (r : Reading) → AtMost (length r.above.templates + length acts) (run r acts)
run_few [] r = omega arith
run_few (act ∷ acts) r =
    more_few (length r.above.templates + 1 + length acts) (length r.above.templates + length (act ∷ acts)) (run r (act ∷ acts)) (omega arith)
    (step_by_few acts (length r.above.templates + 1) (run_few acts) (step r act) (step_few act.role r.above r.current act.item))

-- ---- they are templates, or they are not

abbrev Decided : List (List Item) → Type 0
Decided templates = ((entries : List Entry) × AreRead templates entries) ⊎ ((entries : List Entry) → AreRead templates entries → ⊥)

not_alone : (items : List Item) (o : Outcome Item Entry) → read_template items ≡ o → ((e : Entry) → o ≡ Read e [] → ⊥) → (e : Entry) → one_template items e → ⊥
not_alone items o is none e h = none e (sym is ∙ alone_reads items e h)

alone_decided : (items : List Item) (o : Outcome Item Entry) → read_template items ≡ o → ((e : Entry) × one_template items e) ⊎ ((e : Entry) → one_template items e → ⊥)
alone_decided items (Read e []) is = inl (e, alone_is items e is)
alone_decided items (Read e (i ∷ rest)) is = inr (not_alone items (Read e (i ∷ rest)) is (λ f same. cc))
alone_decided items (Stuck rest) is = inr (not_alone items (Stuck rest) is (λ f same. cc))
alone_decided items (Past rest) is = inr (not_alone items (Past rest) is (λ f same. cc))

pub decided : (templates : List (List Item)) → Decided templates
decided [] = inl ([], tt)
decided (t ∷ templates) = by (alone_decided t (read_template t) refl) (decided templates)
  where
    by : ((e : Entry) × one_template t e) ⊎ ((e : Entry) → one_template t e → ⊥) → Decided templates → Decided (t ∷ templates)
    by (inl first) (inl rest) = inl (first.0 ∷ rest.0, (first.1, rest.1))
    by (inl first) (inr none) = inr no_rest
      where
        no_rest : (entries : List Entry) → AreRead (t ∷ templates) entries → ⊥
        no_rest [] h = h
        no_rest (e ∷ entries) h = none entries h.1
    by (inr none) rest = inr no_first
      where
        no_first : (entries : List Entry) → AreRead (t ∷ templates) entries → ⊥
        no_first [] h = h
        no_first (e ∷ entries) h = none e h.0

-- ---- what the program's functions find

pub alone_some : (items : List Item) (o : Outcome Item Entry) → read_template items ≡ o → (e : Entry) → whole_of o ≡ Some e → one_template items e
alone_some items (Read f []) is e h = let same : f ≡ e = cc in alone_is items e (is ∙ ap (λ x. Read x []) same)
alone_some items (Read f (i ∷ rest)) is e h = absurd cc
alone_some items (Stuck rest) is e h = absurd cc
alone_some items (Past rest) is e h = absurd cc

pub alone_none : (items : List Item) → whole_of (read_template items) ≡ None → (e : Entry) → one_template items e → ⊥
alone_none items none e h = let here : whole_of (read_template items) ≡ Some e = ap whole_of (alone_reads items e h) in absurd cc

pub read_length : (templates : List (List Item)) (entries : List Entry) → AreRead templates entries → length entries ≡ length templates
read_length [] [] h = refl
read_length [] (e ∷ entries) h = absurd h
read_length (t ∷ templates) [] h = absurd h
read_length (t ∷ templates) (e ∷ entries) h = ap (λ n. suc n) (read_length templates entries h.1)

no_length : {T : Type 0} (ts : List T) → length ts ≡ 0 → ts ≡ []
no_length [] e = refl
no_length (t ∷ ts) e = absurd (omega (arith, e))

pub all_dropped : {T : Type 0} (ts : List T) (j : ℕ) → length ts ≤ j → drop j ts ≡ []
all_dropped ts j over = let left = length-drop j ts in no_length (drop j ts) (omega (arith, over, left))

acts_length : (v : View) (items : List Item) → length (acts v items) ≡ length items
acts_length v [] = refl
acts_length v (i ∷ items) = ap (λ n. suc n) (acts_length (next v i (role_of v i items)) items)

few_of : (n : ℕ) (r : Result Above Met) → AtMost n r → length (templates_of r) ≤ n
few_of n (Ok a) h = h
few_of n (Err m) h = omega arith

pub templates_few : (items : List Item) → length (templates_of (together items)) ≤ length items
templates_few items =
    let none : length nothing_read.above.templates ≡ 0 = refl in
    let few = few_of (length nothing_read.above.templates + length (acts first_view items)) (together items) (run_few (acts first_view items) nothing_read) in
    omega (arith, few, none, acts_length first_view items)
