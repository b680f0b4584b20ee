-- The items of a text, but for one that marks a fault, are items that a text can have.
use Rattle.std.proofs.Common.{◌≡◌, ℕ, ◌+◌, Bool, true, false, List, [], ◌∷◌, take, drop, Option, Some, None, Result, Ok, Err, refl, sym, ap, subst, ◌∙◌, add-one}
use Rattle.std.specs.Prelude.{codes, nat_eq, ⊤, if◌then◌else◌}
use Rattle.sd_lex.specs.declared.token.Token as token
use Rattle.sd_lex.specs.declared.refusal.LexRefusal.{LexRefusal}
use Rattle.sd_lex.specs.Bytes.{is_blank}
use Rattle.sd_lex.specs.Reading.{lexeme}
use Rattle.sd_lex.specs.Lexing.{IsTokenOrFault}
use Rattle.sd_lex.proofs.Lexemes.{lexeme_found}
use Rattle.grammar.specs.Fault.{Every}
use Rattle.template_items.specs.declared.item.Mark.{Mark}
use Rattle.template_items.specs.declared.item.Mark.TheVariants.{OpenNote}
use Rattle.template_items.specs.declared.item.Item.{Item}
use Rattle.template_items.specs.declared.item.Mode.{Mode}
use Rattle.template_items.specs.declared.item.Mode.TheVariants.{Between, Body, Inside}
use Rattle.template_items.specs.declared.item.State.{State}
use Rattle.template_items.specs.declared.item.Front.{Front}
use Rattle.template_items.specs.declared.item.Front.TheVariants.{Passes, Finds, Ends}
use Rattle.template_items.specs.Scanning.{begins, note_run, noted, front_mark, tag_at, text_before, text_run, opens, front_between, front_tag, front_body, front_token, front_inside, front_in, front, last_items, Scans, passes, finds, ends}
use Rattle.template_tags.specs.Terminals.{IsReal}
use Rattle.template_layouts.specs.declared.written.View.{View}
use Rattle.template_layouts.specs.declared.written.Role.{Role}
use Rattle.template_layouts.specs.declared.written.Role.TheVariants as roles
use Rattle.template_layouts.specs.Written.{role_of, next, acts, shown_by, and_item, viewed}
use Rattle.template_reader.proofs.Faultless.{IsNoFault}

-- an item that a text can have, unless it marks a fault
abbrev pub IsUsual : Item → Type 0
IsUsual i = IsNoFault i → IsReal i

-- what stands at a place is such an item
abbrev IsUsualFront : Front → Type 0
IsUsualFront (Passes next) = ⊤
IsUsualFront (Finds item next) = IsUsual item
IsUsualFront (Ends None) = ⊤
IsUsualFront (Ends (Some item)) = IsUsual item

either_way : (b : Bool) (f g : Front) → IsUsualFront f → IsUsualFront g → IsUsualFront (if b then f else g)
either_way true f g h k = h
either_way false f g h k = k

usual_note : (s : State) (o : Option ℕ) → IsUsualFront (noted s o)
usual_note s (Some n) = tt
usual_note s None = λ none. none

usual_between : (s : State) (bytes : List ℕ) → IsUsualFront (front_between s bytes)
usual_between s [] = tt
usual_between s (b ∷ bytes) =
    either_way (is_blank b) _ _ tt (either_way (begins (codes "<SNOTE>") (b ∷ bytes)) _ _ (usual_note s (note_run (drop 7 (b ∷ bytes))))
    (either_way (opens (codes "<TEMPLATE") (b ∷ bytes)) _ _ (λ none. none)
    (either_way (opens (codes "<LAYOUT") (b ∷ bytes)) _ _ (λ none. none)
    (either_way (opens (codes "<FRAGMENT") (b ∷ bytes)) _ _ (λ none. none) (λ none. none)))))

-- where no tag stands, there is some text
some_text : (b : ℕ) (bytes : List ℕ) (n : ℕ) → n ≡ text_run bytes + 1 → take n (b ∷ bytes) ≡ [] → ⊥
some_text b bytes n is e = let more : take n (b ∷ bytes) ≡ b ∷ take (text_run bytes) bytes = ap (λ m. take m (b ∷ bytes)) (is ∙ add-one (text_run bytes)) in cc

usual_mark : (s : State) (bytes : List ℕ) (m : Mark) (n : ℕ) → IsUsualFront (front_mark s bytes m n)
usual_mark s bytes OpenNote n = usual_note s (note_run (drop 7 bytes))
usual_mark s bytes m n = λ none. none

usual_tag : (s : State) (b : ℕ) (bytes : List ℕ) (tag : Option (Mark × ℕ)) → tag_at (b ∷ bytes) ≡ tag → IsUsualFront (front_tag s (b ∷ bytes) tag)
usual_tag s b bytes (Some (m, n)) is = usual_mark s (b ∷ bytes) m n
usual_tag s b bytes None is = λ none. some_text b bytes (text_run (b ∷ bytes)) (ap (λ t. text_before t (text_run bytes)) is)

usual_body : (s : State) (bytes : List ℕ) → IsUsualFront (front_body s bytes)
usual_body s [] = tt
usual_body s (b ∷ bytes) = usual_tag s b bytes (tag_at (b ∷ bytes)) refl

usual_token : (s : State) (at : ℕ) (bytes : List ℕ) (r : Result token.Token LexRefusal) → IsTokenOrFault at bytes r → IsUsualFront (front_token s r)
usual_token s at bytes (Ok t) h = λ none. (h.0, h.3.spelled)
usual_token s at bytes (Err e) h = λ none. none

usual_inside : (s : State) (bytes : List ℕ) → IsUsualFront (front_inside s bytes)
usual_inside s [] = λ none. none
usual_inside s (b ∷ bytes) =
    either_way (is_blank b) _ _ tt (either_way (nat_eq b 62) _ _ (λ none. none) (either_way (nat_eq b 64) _ _ (λ none. none) (either_way (nat_eq b 35) _ _ (λ none. none)
    (usual_token s s.place (b ∷ bytes) (lexeme s.place (b ∷ bytes)) (lexeme_found s.place (b ∷ bytes))))))

usual_in : (m : Mode) (s : State) (bytes : List ℕ) → IsUsualFront (front_in m s bytes)
usual_in Between = usual_between
usual_in Body = usual_body
usual_in Inside = usual_inside

usual_front : (bytes : List ℕ) (s : State) (f : Front) → front bytes s ≡ f → IsUsualFront f
usual_front bytes s f e = subst IsUsualFront e (usual_in s.mode s (drop s.place bytes))

usual_last : (last : Option Item) → IsUsualFront (Ends last) → Every IsUsual (last_items last)
usual_last None h = tt
usual_last (Some item) h = (h, tt)

pub items_usual : (bytes : List ℕ) {s : State} {items : List Item} → Scans bytes s items → Every IsUsual items
items_usual bytes (passes next e h) = items_usual bytes h
items_usual bytes {s} (finds item next more e is h) = subst (Every IsUsual) (sym is) (usual_front bytes s (Finds item next) e, items_usual bytes h)
items_usual bytes {s} (ends last e is) = subst (Every IsUsual) (sym is) (usual_last last (usual_front bytes s (Ends last) e))

-- ---- the same where nothing is put in

usual_and : (r : Role) (i : Item) (rest : List Item) → IsUsual i → Every IsUsual rest → Every IsUsual (and_item (shown_by r i) rest)
usual_and roles.Kept i rest h k = (h, k)
usual_and roles.Opens i rest h k = ((λ none. none), k)
usual_and roles.Titles i rest h k = (h, k)
usual_and roles.Closes i rest h k = (h, k)
usual_and roles.Precedes i rest h k = k
usual_and roles.Includes i rest h k = k
usual_and roles.Passed i rest h k = k
usual_and roles.Frames i rest h k = k
usual_and roles.Holds i rest h k = k
usual_and roles.Ends i rest h k = ((λ none. none), k)
usual_and roles.Misplaced i rest h k = ((λ none. none), k)

pub viewed_usual : (v : View) (items : List Item) → Every IsUsual items → Every IsUsual (viewed (acts v items))
viewed_usual v [] h = tt
viewed_usual v (i ∷ items) h = usual_and (role_of v i items) i (viewed (acts (next v i (role_of v i items)) items)) h.0 (viewed_usual (next v i (role_of v i items)) items h.1)
