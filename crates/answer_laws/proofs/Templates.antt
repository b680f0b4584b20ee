-- Each file of templates has an answer: its bytes split into items, and these are templates, don't fit, or pass a limit.
use Rattle.std.proofs.Common.{◌≡◌, ◌≢◌, ℕ, zero, suc, ◌+◌, ◌≤◌, ◌<◌, Bool, true, false, List, [], ◌∷◌, ◌++◌, length, drop, refl, ap, inl, inr, arith, Option, Some, None, Result, Ok, Err}
use Rattle.std.specs.Prelude.{◌⊎◌, codes, nat_eq, nat_lt, ⊤, if◌then◌else◌}
use Rattle.std.proofs.lemmas.Bool.Decides.{nat_tests}
use Rattle.std.proofs.lemmas.List.{length-drop}
use Rattle.sd_lex.specs.declared.token.Token.{Token}
use Rattle.sd_lex.specs.declared.refusal.LexRefusal.{LexRefusal}
use Rattle.sd_lex.specs.Bytes.{is_blank}
use Rattle.sd_lex.specs.Reading.{lexeme}
use Rattle.sd_lex.specs.Lexing.{IsTokenOrFault}
use Rattle.sd_lex.proofs.Gaps.{spelled_some}
use Rattle.sd_lex.proofs.Lexemes.{lexeme_found}
use Rattle.grammar.specs.Reading as reading
use Rattle.template_items.specs.declared.item.Mark.{Mark}
use Rattle.template_items.specs.declared.item.Mark.TheVariants as marks
use Rattle.template_items.specs.declared.item.Item.{Item}
use Rattle.template_items.specs.declared.item.Mode.{Mode}
use Rattle.template_items.specs.declared.item.Mode.TheVariants.{Between, Body, Inside}
use Rattle.template_items.specs.declared.item.State.{State}
use Rattle.template_items.specs.declared.item.Front.{Front}
use Rattle.template_items.specs.declared.item.Front.TheVariants.{Passes, Finds, Ends}
use Rattle.template_items.specs.Scanning.{begins, note_run, noted, front_mark, further_tag, tag_of, tag_at, text_before, text_run, opens, front_between, behind_tag, front_tag, front_body, front_token}
use Rattle.template_items.specs.Scanning.{front_inside, front_in, front, last_items, first_state, Scans, passes, finds, ends}
use Rattle.tmpl.specs.Body.{TemplateFile}
use Rattle.template_tags.specs.Terminals.{is_mark, name_value, label_value, IsReal}
use Rattle.template_layouts.specs.declared.refusal.TmplRefusal.{TmplRefusal}
use Rattle.template_layouts.specs.declared.refusal.TmplRefusal.TheVariants.{TooLong, Expected, Unclosed, Twice, TooDeep, UnknownVariable, Unknown, TooLarge, NoMemory}
use Rattle.template_reader.specs.Template.{within, spelled}
use Rattle.template_reader.specs.Reading.{is_block, read_template, read_file}
use Rattle.template_reader.specs.Faults.{Whole, Unfit, Beyond, twice, innermost, past_at, unfit_at, twice_met, stopped, earlier, met, templates_of, written, unless_before, unless_met, unfit_answer, beyond_answer, IsMade, IsWholeAnswer, IsWrittenAnswer, IsTemplatesAnswer}
use Rattle.template_layouts.specs.declared.met.Met.{Met}
use Rattle.template_layouts.specs.declared.written.Act.{Act}
use Rattle.template_layouts.specs.declared.written.Role.{Role}
use Rattle.template_layouts.specs.declared.written.Role.TheVariants as roles
use Rattle.template_layouts.specs.declared.written.Sort.{Sort}
use Rattle.template_layouts.specs.declared.written.Sort.TheVariants as sorts
use Rattle.template_layouts.specs.Written.{acts, first_view}
use Rattle.template_layouts.specs.Measures.{is_too_deep, is_too_large, sum, within_layout}
use Rattle.template_layouts.specs.declared.measure.Measure.{Measure}
use Rattle.template_layouts.specs.Together.{Fragment, Layout, Open, Above, Reading, find, is_above, met_at, named, titles_by, titles, frames_by, frames, with_items, included_by, includes_by, includes, frame_of, framed_measure, whole_items, ends_template, ends_by, and_ends, ends as ends_here, with_open, with_above, step_by, step, and_run, run, nothing_read, together}
use Rattle.template_reader.specs.Entries.{file_from, AreRead}
use Rattle.template_reader.specs.Template.{Entry}
use Rattle.template_reader.proofs.Made.{decided}
use Rattle.template_reader.proofs.FileParts.{file_part}
use Rattle.source_laws.proofs.Endings as items_end
use Rattle.source_laws.proofs.Endings.{Closes, finish_closes, then_closes, ending}

-- ---- each step of scanning goes on, where bytes are left

abbrev Moves : State → List ℕ → Front → Type 0
Moves s rest (Passes next) = (rest ≢ []) × (s.place < next.place)
Moves s rest (Finds item next) = (rest ≢ []) × (s.place < next.place)
Moves s rest (Ends last) = ⊤

either_moves : (s : State) (rest : List ℕ) (b : Bool) (f g : Front) → Moves s rest f → Moves s rest g → Moves s rest (if b then f else g)
either_moves s rest true f g h k = h
either_moves s rest false f g h k = k

some : (b : ℕ) (bytes : List ℕ) → (b ∷ bytes) ≢ []
some b bytes = λ none. cc

note_moves : (s : State) (b : ℕ) (bytes : List ℕ) (o : Option ℕ) → Moves s (b ∷ bytes) (noted s o)
note_moves s b bytes (Some n) = (some b bytes, omega arith)
note_moves s b bytes None = tt

between_moves : (s : State) (bytes : List ℕ) → Moves s bytes (front_between s bytes)
between_moves s [] = tt
between_moves s (b ∷ bytes) =
    either_moves s (b ∷ bytes) (is_blank b) _ _ (some b bytes, omega arith)
    (either_moves s (b ∷ bytes) (begins (codes "<SNOTE>") (b ∷ bytes)) _ _ (note_moves s b bytes (note_run (drop 7 (b ∷ bytes))))
    (either_moves s (b ∷ bytes) (opens (codes "<TEMPLATE") (b ∷ bytes)) _ _ (some b bytes, omega arith)
    (either_moves s (b ∷ bytes) (opens (codes "<LAYOUT") (b ∷ bytes)) _ _ (some b bytes, omega arith)
    (either_moves s (b ∷ bytes) (opens (codes "<FRAGMENT") (b ∷ bytes)) _ _ (some b bytes, omega arith) tt))))

-- a tag has a byte
abbrev HasLength : Option (Mark × ℕ) → Type 0
HasLength None = ⊤
HasLength (Some tag) = 0 < tag.1

tag_or : (b : Bool) (m : Mark) (n : ℕ) (o : Option (Mark × ℕ)) → HasLength o → HasLength (if b then Some (m, suc n) else o)
tag_or true m n o h = omega arith
tag_or false m n o h = h

further_some : (bytes : List ℕ) → HasLength (further_tag bytes)
further_some bytes =
    tag_or (begins (codes "</SNOTE>") bytes) marks.EndNote 7 _
    (tag_or (opens (codes "<SINCLUDE") bytes) marks.OpenInclude 8 _
    (tag_or (begins (codes "<SBODY>") bytes) marks.Hole 6 _
    (tag_or (begins (codes "</LAYOUT>") bytes) marks.EndLayout 8 _
    (tag_or (begins (codes "</FRAGMENT>") bytes) marks.EndFragment 10 None tt))))

of_some : (bytes : List ℕ) → HasLength (tag_of bytes)
of_some bytes =
    tag_or (opens (codes "<SFMT") bytes) marks.OpenFormat 4 _
    (tag_or (opens (codes "<SIF") bytes) marks.OpenChoice 3 _
    (tag_or (opens (codes "<SFOR") bytes) marks.OpenRepeat 4 _
    (tag_or (begins (codes "<SELSE>") bytes) marks.Otherwise 6 _
    (tag_or (begins (codes "</SIF>") bytes) marks.EndChoice 5 _
    (tag_or (begins (codes "</SFOR>") bytes) marks.EndRepeat 6 _
    (tag_or (begins (codes "</TEMPLATE>") bytes) marks.EndTemplate 10 _
    (tag_or (begins (codes "<SNOTE>") bytes) marks.OpenNote 6 _ (further_some bytes))))))))

if_tag : (b : Bool) (o : Option (Mark × ℕ)) → HasLength o → HasLength (if b then o else None)
if_tag true o h = h
if_tag false o h = tt

tag_some : (bytes : List ℕ) → HasLength (tag_at bytes)
tag_some [] = tt
tag_some (b ∷ bytes) = if_tag (nat_eq b 60) (tag_of (b ∷ bytes)) (of_some (b ∷ bytes))

behind_place : (s : State) (m : Mark) (n : ℕ) → (behind_tag s m n).place ≡ s.place + n
behind_place s marks.OpenFormat n = refl
behind_place s marks.OpenChoice n = refl
behind_place s marks.OpenRepeat n = refl
behind_place s marks.OpenInclude n = refl
behind_place s marks.EndTemplate n = refl
behind_place s marks.EndLayout n = refl
behind_place s marks.EndFragment n = refl
behind_place s m n = refl

mark_moves : (s : State) (b : ℕ) (bytes : List ℕ) (m : Mark) (n : ℕ) → 0 < n → Moves s (b ∷ bytes) (front_mark s (b ∷ bytes) m n)
mark_moves s b bytes marks.OpenNote n long = note_moves s b bytes (note_run (drop 7 (b ∷ bytes)))
mark_moves s b bytes m n long = (some b bytes, (let there = behind_place s m n in omega (arith, there, long)))

tag_moves : (s : State) (b : ℕ) (bytes : List ℕ) (tag : Option (Mark × ℕ)) → tag_at (b ∷ bytes) ≡ tag → HasLength tag
    → Moves s (b ∷ bytes) (front_tag s (b ∷ bytes) tag)
tag_moves s b bytes (Some (m, n)) is long = mark_moves s b bytes m n long
tag_moves s b bytes None is long =
    let run : text_run (b ∷ bytes) ≡ text_run bytes + 1 = ap (λ t. text_before t (text_run bytes)) is in
    (some b bytes, omega (arith, run))

body_moves : (s : State) (bytes : List ℕ) → Moves s bytes (front_body s bytes)
body_moves s [] = tt
body_moves s (b ∷ bytes) = tag_moves s b bytes (tag_at (b ∷ bytes)) refl (tag_some (b ∷ bytes))

token_moves : (s : State) (b : ℕ) (bytes : List ℕ) (r : Result Token LexRefusal) → IsTokenOrFault s.place (b ∷ bytes) r
    → Moves s (b ∷ bytes) (front_token s r)
token_moves s b bytes (Ok t) h = (some b bytes, (let long = spelled_some t.kind h.0 h.3.spelled in omega (arith, long, h.3.last)))
token_moves s b bytes (Err e) h = tt

inside_moves : (s : State) (bytes : List ℕ) → Moves s bytes (front_inside s bytes)
inside_moves s [] = tt
inside_moves s (b ∷ bytes) =
    either_moves s (b ∷ bytes) (is_blank b) _ _ (some b bytes, omega arith)
    (either_moves s (b ∷ bytes) (nat_eq b 62) _ _ (some b bytes, omega arith)
    (either_moves s (b ∷ bytes) (nat_eq b 64) _ _ (some b bytes, omega arith)
    (either_moves s (b ∷ bytes) (nat_eq b 35) _ _ (some b bytes, omega arith)
    (token_moves s b bytes (lexeme s.place (b ∷ bytes)) (lexeme_found s.place (b ∷ bytes))))))

moves_in : (m : Mode) (s : State) (bytes : List ℕ) → Moves s bytes (front_in m s bytes)
moves_in Between = between_moves
moves_in Body = body_moves
moves_in Inside = inside_moves

-- ---- so scanning ends

module _ (bytes : List ℕ) where
  abbrev HasItems : State → Type 0
  HasItems s = (items : List Item) × Scans bytes s items

  no_bytes : (rest : List ℕ) → length rest ≡ 0 → rest ≡ []
  no_bytes [] none = refl
  no_bytes (b ∷ rest) none = absurd (omega (arith, none))

  none_left : (s : State) → length bytes ≤ s.place → drop s.place bytes ≡ []
  none_left s over = let left = length-drop s.place bytes in no_bytes (drop s.place bytes) (omega (arith, left, over))

  scanned : (n : ℕ) (s : State) → length bytes ≤ s.place + n → HasItems s
  scanned zero s over = by (front bytes s) refl (moves_in s.mode s (drop s.place bytes))
    where
      by : (f : Front) → front bytes s ≡ f → Moves s (drop s.place bytes) f → HasItems s
      by (Passes next) is moves = absurd (moves.0 (none_left s (omega (arith, over))))
      by (Finds item next) is moves = absurd (moves.0 (none_left s (omega (arith, over))))
      by (Ends last) is moves = (last_items last, ends last is refl)
  scanned (suc n) s over = by (scanned n) (front bytes s) refl (moves_in s.mode s (drop s.place bytes))
    where
      by : ((next : State) → length bytes ≤ next.place + n → HasItems next) → (f : Front) → front bytes s ≡ f
          → Moves s (drop s.place bytes) f → HasItems s
      by again (Passes next) is moves = let rest = again next (omega (arith, over, moves.1)) in (rest.0, passes next is rest.1)
      by again (Finds item next) is moves =
          let rest = again next (omega (arith, over, moves.1)) in
          (item ∷ rest.0, finds item next rest.0 is refl rest.1)
      by again (Ends last) is moves = (last_items last, ends last is refl)

-- ---- the answer

reads_all : Closes read_file
unfolding read_file
reads_all = then_closes (reading.repeat (is_mark marks.OpenTemplate) read_template) _ finish_closes

abbrev IsTold : Result TemplateFile TmplRefusal → Type 0
IsTold r = r ≡ Err NoMemory → ⊥

-- what is met is told
abbrev IsToldMet : Option Met → Type 0
IsToldMet None = ⊤
IsToldMet (Some m) = IsTold (Err m.refusal)

before_told : (first : Option Met) (at : ℕ) (e : TmplRefusal) → IsToldMet first → IsTold (Err e) → IsTold (Err (unless_before first at e))
before_told None at e all told = told
before_told (Some m) at e all told = by (nat_lt m.place at)
  where
    by : (b : Bool) → IsTold (Err (if b then m.refusal else e))
    by true = all
    by false = told

met_told : (first : Option Met) (e : TmplRefusal) → IsToldMet first → IsTold (Err e) → IsTold (Err (unless_met first e))
met_told None e all told = told
met_told (Some m) e all told = all

twice_told : (doubled : Option ℕ) → IsToldMet (twice_met doubled)
twice_told None = tt
twice_told (Some at) = λ is. cc

earlier_told : (one other : Option Met) → IsToldMet one → IsToldMet other → IsToldMet (earlier one other)
earlier_told None other h k = k
earlier_told (Some m) None h k = h
earlier_told (Some m) (Some n) h k = by (nat_lt n.place m.place)
  where
    by : (b : Bool) → IsToldMet (if b then Some n else Some m)
    by true = k
    by false = h

past_told : (i : Item) → IsTold (Err (past_at i))
past_told i = by (is_block i)
  where
    by : (b : Bool) → IsTold (Err (if b then TooDeep i.place else UnknownVariable i.place))
    by true = λ is. cc
    by false = λ is. cc

-- what stops the putting in of fragments is told

abbrev IsToldStop : {A : Type 0} → Result A Met → Type 0
IsToldStop (Ok x) = ⊤
IsToldStop (Err m) = IsTold (Err m.refusal)

titles_told : (l : Option (List ℕ)) (a : Above) (o : Open) (i : Item) → IsToldStop (titles_by l a o i)
titles_told None a o i = tt
titles_told (Some name) a o i = by (is_above o.sort a name)
  where
    by : (b : Bool) → IsToldStop (if b then met_at i Twice else Ok (named o name i))
    by true = λ is. cc
    by false = tt

frames_told : (l : Option (List ℕ)) (a : Above) (o : Open) (i : Item) → IsToldStop (frames_by l a o i)
frames_told None a o i = tt
frames_told (Some name) a o i = by (is_above sorts.Layout a name)
  where
    by : (b : Bool) → IsToldStop (if b then Ok (record o { frame = Some name }) else met_at i Unknown)
    by true = tt
    by false = λ is. cc

included_told : (f : Option Fragment) (o : Open) (i : Item) → IsToldStop (included_by f o i)
included_told None o i = λ is. cc
included_told (Some f) o i = by (is_too_deep (sum o.measure.depth f.measure.deepest))
  where
    by : (b : Bool) → IsToldStop (if b then met_at i (λ _. TooDeep o.measure.from) else Ok (with_items o f))
    by true = λ is. cc
    by false = tt

includes_told : (l : Option (List ℕ)) (a : Above) (o : Open) (i : Item) → IsToldStop (includes_by l a o i)
includes_told None a o i = tt
includes_told (Some name) a o i = included_told (find a.fragments name) o i

measure_told : (l : Option Layout) (m : Measure) (i : Item) → IsToldStop (framed_measure l m i)
measure_told None m i = tt
measure_told (Some l) m i = by (is_too_deep (sum l.measure.hole_depth m.deepest))
  where
    by : (b : Bool) → IsToldStop (if b then met_at i (λ _. TooDeep l.measure.hole_place) else Ok (within_layout l.measure m))
    by true = λ is. cc
    by false = tt

template_told : (bytes : ℕ) (a : Above) (o : Open) (i : Item) → IsToldStop (ends_template bytes a o i)
template_told bytes a o i = by (is_too_large bytes)
  where
    by : (b : Bool) → IsToldStop {A = Above} (if b then met_at i (λ _. TooLarge o.place) else Ok (record a { bytes = bytes; templates = a.templates ++ whole_items a o i ∷ [] }))
    by true = λ is. cc
    by false = tt

ends_told : (s : Sort) (m : Measure) (a : Above) (o : Open) (i : Item) → IsToldStop (ends_by s m a o i)
ends_told sorts.Template m a o i = template_told (sum a.bytes m.bytes) a o i
ends_told sorts.Layout m a o i = tt
ends_told sorts.Fragment m a o i = tt

and_ends_told : (r : Result Measure Met) (a : Above) (o : Open) (i : Item) → IsToldStop r → IsToldStop (and_ends r a o i)
and_ends_told (Ok m) a o i h = ends_told o.sort m a o i
and_ends_told (Err m) a o i h = h

open_told : (a : Above) (r : Result Open Met) → IsToldStop r → IsToldStop (with_open a r)
open_told a (Ok o) h = tt
open_told a (Err m) h = h

above_told : (r : Result Above Met) → IsToldStop r → IsToldStop (with_above r)
above_told (Ok a) h = tt
above_told (Err m) h = h

step_told : (r : Role) (a : Above) (o : Open) (i : Item) → IsToldStop (step_by r a o i)
step_told roles.Kept a o i = tt
step_told roles.Opens a o i = tt
step_told roles.Titles a o i = open_told a (titles a o i) (titles_told (label_value i) a o i)
step_told roles.Frames a o i = open_told a (frames a o i) (frames_told (name_value i) a o i)
step_told roles.Holds a o i = tt
step_told roles.Closes a o i = tt
step_told roles.Precedes a o i = tt
step_told roles.Includes a o i = open_told a (includes a o i) (includes_told (name_value i) a o i)
step_told roles.Ends a o i = above_told (ends_here a o i) (and_ends_told (framed_measure (frame_of a o.frame) o.measure i) a o i (measure_told (frame_of a o.frame) o.measure i))
step_told roles.Passed a o i = tt
step_told roles.Misplaced a o i = tt

and_told : (s : Result Reading Met) (go : Reading → Result Above Met) → IsToldStop s → ((next : Reading) → IsToldStop (go next)) → IsToldStop (and_run s go)
and_told (Ok next) go h k = k next
and_told (Err m) go h k = h

run_told : (acts : List Act) (r : Reading) → IsToldStop (run r acts)
run_told [] r = tt
run_told (act ∷ acts) r = and_told (step r act) (λ next. run next acts) (step_told act.role r.above r.current act.item) (run_told acts)

stopped_told : (r : Result Above Met) → IsToldStop r → IsToldMet (stopped r)
stopped_told (Ok a) h = tt
stopped_told (Err m) h = h

module _ (first : Option Met) (all : IsToldMet first) (templates : List (List Item)) (items : List Item) where
  abbrev HasAnswer : Type 0
  HasAnswer = (r : Result TemplateFile TmplRefusal) × IsWrittenAnswer first templates items r × IsTold r

  made_answer : ((entries : List Entry) × AreRead templates entries) ⊎ ((entries : List Entry) → AreRead templates entries → ⊥)
      → (r : Result TemplateFile TmplRefusal) × IsMade templates r × IsTold r
  made_answer (inl (entries, h)) = (Ok (file_from entries), inl (entries, h, refl), λ is. cc)
  made_answer (inr none) = (Err (Expected 0), inr (none, refl), λ is. cc)

  whole_by : (f : Option Met) → IsToldMet f → (r : Result TemplateFile TmplRefusal) × IsWholeAnswer f templates r × IsTold r
  whole_by None told = made_answer (decided templates)
  whole_by (Some m) told = (Err m.refusal, refl, told)

  unfit_told : (i : Item) → IsTold (Err (unfit_at i))
  unfit_told i = by (is_mark marks.OpenNote i)
    where
      by : (b : Bool) → IsTold (Err (if b then Unclosed i.place else Expected i.place))
      by true = λ is. cc
      by false = λ is. cc

  of_ending : items_end.Ending IsReal within spelled items → HasAnswer
  of_ending (items_end.spelled entries h) = let w = whole_by first all in (w.0, (Whole entries, h, w.1), w.2)
  of_ending (items_end.stuck [] f) =
      (Err (unfit_answer first items []), (Unfit [], f, refl), met_told first (Unclosed (innermost items)) all (λ is. cc))
  of_ending (items_end.stuck (i ∷ rest) f) =
      (Err (unfit_answer first items (i ∷ rest)), (Unfit (i ∷ rest), f, refl), before_told first i.place (unfit_at i) all (unfit_told i))
  of_ending (items_end.past [] f) = let is = f.is in absurd cc
  of_ending (items_end.past (i ∷ rest) f) =
      (Err (beyond_answer first (i ∷ rest)), (Beyond (i ∷ rest), f, refl), before_told first i.place (past_at i) all (past_told i))

module _ (limit : ℕ) (bytes : List ℕ) where
  pub templates_answer : (r : Result TemplateFile TmplRefusal) × (r ≡ Err NoMemory → ⊥) × IsTemplatesAnswer limit bytes r
  templates_answer = by (nat_lt limit (length bytes)) refl
    where
      by : (long : Bool) → nat_lt limit (length bytes) ≡ long
          → (r : Result TemplateFile TmplRefusal) × (r ≡ Err NoMemory → ⊥) × IsTemplatesAnswer limit bytes r
      by true is = let over : limit < length bytes = grind (arith, nat_tests) in (Err (TooLong limit), (λ none. cc), inl (over, refl))
      by false is =
          let few : length bytes ≤ limit = grind (arith, nat_tests) in
          let items = scanned bytes (length bytes) (first_state bytes) (omega arith) in
          let here = items.0 in
          let all = earlier_told (twice_met (twice here)) (stopped (together here)) (twice_told (twice here)) (stopped_told (together here) (run_told (acts first_view here) nothing_read)) in
          let answer = of_ending (met here) all (templates_of (together here)) (written here) (ending IsReal within spelled read_file file_part.reads reads_all (written here)) in
          (answer.0, answer.2, inr (few, here, items.1, answer.1))
