-- The lines of a list, and the names that they have.
use Rattle.std.proofs.Common.{◌≡◌, ◌∙◌, ◌+◌, ◌<◌, ◌⊎◌, ⊎_elim, ℕ, List, [], ◌∷◌, ◌++◌, Bool, true, false, cond, if◌then◌else◌, map, length, take, get_or, refl, sym, ap, subst, append_assoc}
use Rattle.std.specs.Prelude.{Contains, Option, Some, None}
use Rattle.std.specs.List.{All, filter, slice_split, onto_first}
use Rattle.std.proofs.lemmas.List.{map-append, take_all, take_more}
use Rattle.std.proofs.lemmas.List.Elements.{All-nil, All-cons, All-head, All-tail, All-contains, All-filter, filter-append, filter_passes, Contains-get_or, Contains-append_left, Contains-append_right, Contains-append_cases}
use Rattle.std.proofs.lemmas.List.Splits.{slice_split_at, slice_split-cons_yes, slice_split-cons_no}
use Rattle.sd_value.specs.Members.{Contains-nil, Contains-here, Contains-there}
use Rattle.sd_value.specs.Order.{bytes_cmp}
use Rattle.sd_value.specs.Ascending.{ListsExactly}
use Rattle.edge_io.specs.Files.{IsStartOf}
use Rattle.file_list.specs.Lists.{is_feed, is_listable, listed, listed_at, list_text, most}
use Rattle.file_list.specs.Laws.{AreFileNames, IsReadAgain}

-- ---- a list is read again

abbrev Lacking : List ℕ → Type 0
Lacking name = All (λ byte. is_feed byte ≡ false) name

lacking : (name : List ℕ) → ((byte : ℕ) → Contains name byte → is_feed byte ≡ false) → Lacking name
lacking name h k d lt = h (get_or name k d) (Contains-get_or name k d lt)

lines : (names : List (List ℕ)) → ((name : List ℕ) → Contains names name → Lacking name) → slice_split is_feed (list_text names) ≡ names ++ [] ∷ []
lines [] h = refl
lines (n ∷ ns) h =
    ap (slice_split is_feed) (append_assoc n (10 ∷ []) (list_text ns))
    ∙ slice_split_at is_feed n 10 (list_text ns) (h n (Contains-here n ns)) refl
    ∙ ap (λ (l : List (List ℕ)). n ∷ l) (lines ns (λ m k. h m (Contains-there n ns m k)))

all_listed : (names : List (List ℕ)) → ((name : List ℕ) → Contains names name → is_listable name ≡ true) → filter is_listable (names ++ [] ∷ []) ≡ names
all_listed [] h = refl
all_listed (n ∷ ns) h =
    ap (λ t. cond t (n ∷ filter is_listable (ns ++ [] ∷ [])) (filter is_listable (ns ++ [] ∷ []))) (h n (Contains-here n ns))
    ∙ ap (λ (l : List (List ℕ)). n ∷ l) (all_listed ns (λ m k. h m (Contains-there n ns m k)))

pub read_again : (names : List (List ℕ)) → IsReadAgain names
read_again names files short =
    ap listed (take_all most (list_text names) short)
    ∙ ap (filter is_listable) (lines names (λ name k. lacking name (files.on_one_line name k)))
    ∙ all_listed names files.listable

-- ---- what is read has names of files

abbrev Fails : {X : Type 0} → (X → Bool) → List X → Type 0
Fails p xs = All (λ x. p x ≡ false) xs

first_lacks : {X : Type 0} (p : X → Bool) (x : X) (parts : List (List X)) → p x ≡ false → All (Fails p) parts → All (Fails p) (onto_first x parts)
first_lacks p x [] fails h = All-cons (Fails p) (x ∷ []) [] (All-cons (λ y. p y ≡ false) x [] fails (All-nil (λ y. p y ≡ false))) (All-nil (Fails p))
first_lacks p x (part ∷ parts) fails h =
    All-cons (Fails p) (x ∷ part) parts (All-cons (λ y. p y ≡ false) x part fails (All-head (Fails p) part parts h)) (All-tail (Fails p) part parts h)

parts_lack : {X : Type 0} (p : X → Bool) (xs : List X) → All (Fails p) (slice_split p xs)
parts_lack p [] = All-cons (Fails p) [] [] (All-nil (λ y. p y ≡ false)) (All-nil (Fails p))
parts_lack p (x ∷ xs) = by (p x) refl (parts_lack p xs)
  where
    by : (t : Bool) → p x ≡ t → All (Fails p) (slice_split p xs) → All (Fails p) (slice_split p (x ∷ xs))
    by true passes rest = subst (All (Fails p)) (sym (slice_split-cons_yes p x xs passes)) (All-cons (Fails p) [] (slice_split p xs) (All-nil (λ y. p y ≡ false)) rest)
    by false fails rest = subst (All (Fails p)) (sym (slice_split-cons_no p x xs fails)) (first_lacks p x (slice_split p xs) fails rest)

listed_names : (text : List ℕ) → AreFileNames (listed text)
listed_names text = record {
  listable = λ name k. All-contains (λ n. is_listable n ≡ true) (listed text) name (filter_passes is_listable (slice_split is_feed text)) k;
  on_one_line = λ name k byte h. All-contains (λ b. is_feed b ≡ false) name byte (All-contains Lacking (listed text) name (All-filter is_listable Lacking (slice_split is_feed text) (parts_lack is_feed text)) k) h;
}

pub there_names : (there : Option (List ℕ)) → AreFileNames (listed_at there)
there_names None = record {
  listable = λ name k. absurd (Contains-nil name k);
  on_one_line = λ name k byte h. absurd (Contains-nil name k);
}
there_names (Some text) = listed_names (take most text)

pub union_names : (old new union : List (List ℕ)) → AreFileNames old → AreFileNames new → ListsExactly bytes_cmp (λ n. Contains old n ⊎ Contains new n) union → AreFileNames union
union_names old new union olds news both = record {
  listable = λ name k. ⊎_elim (olds.listable name) (news.listable name) (both.sound name k);
  on_one_line = λ name k. ⊎_elim (olds.on_one_line name) (news.on_one_line name) (both.sound name k);
}

-- ---- the union of two lists

pub both_listed : (old new all union : List (List ℕ)) → all ≡ old ++ new → ListsExactly bytes_cmp (Contains all) union → ListsExactly bytes_cmp (λ n. Contains old n ⊎ Contains new n) union
both_listed old new all union e h = record {
  ascending = h.ascending;
  sound = λ n k. Contains-append_cases old new n (subst (λ (xs : List (List ℕ)). Contains xs n) e (h.sound n k));
  complete = λ n k. h.complete n (subst (λ (xs : List (List ℕ)). Contains xs n) (sym e) (⊎_elim (Contains-append_left old new n) (Contains-append_right old new n) k));
}

-- ---- line after line

-- one line more of a list
pub name_pushed : {X : Type 0} (f : X → List ℕ) (xs : List X) (i : ℕ) (d : X) (old new : List (List ℕ)) → i < length xs → old ≡ filter is_listable (map f (take i xs)) → new ≡ old ++ (if is_listable (f (get_or xs i d)) then f (get_or xs i d) ∷ [] else []) → new ≡ filter is_listable (map f (take (i + 1) xs))
name_pushed f xs i d old new lt before is =
    let x = get_or xs i d in
    is ∙ ap (λ names. names ++ (if is_listable (f x) then f x ∷ [] else [])) before
    ∙ sym (filter-append is_listable (map f (take i xs)) (f x ∷ []))
    ∙ ap (filter is_listable) (sym (map-append f (take i xs) (x ∷ [])))
    ∙ ap (λ l. filter is_listable (map f l)) (sym (take_more xs i d lt))

-- ---- what was read

pub read_names : (there : Option (List ℕ)) (bytes : List ℕ) → IsStartOf there most bytes → listed bytes ≡ listed_at there
read_names None bytes h = absurd h
read_names (Some whole) bytes h = ap listed h
