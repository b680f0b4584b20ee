-- One more template in tables.
use Rattle.std.proofs.Common.{◌≡◌, ℕ, ◌+◌, ◌<◌, arith, Bool, true, false, List, [], ◌∷◌, ◌++◌, length, map, refl, sym, ap, subst, ◌∙◌, All}
use Rattle.std.specs.Prelude.{if◌then◌else◌}
use Rattle.std.proofs.lemmas.List.{map-append, length-map, append-nil}
use Rattle.std.proofs.Common.{length-append, get_or}
use Rattle.std.proofs.lemmas.List.Elements.{All-append, All-nil, All-cons}
use Rattle.tmpl.specs.Body.{Named}
use Rattle.tmpl.specs.Reading.{named_of, template_body}
use Rattle.tmpl.specs.declared.NamedTemplate.{NamedTemplate}
use Rattle.template_reader.specs.declared.file.Entry as declared
use Rattle.template_reader.specs.declared.templates.Tables.{Tables}
use Rattle.template_reader.specs.Template.{Entry}
use Rattle.template_reader.specs.Entries.{entry_of, named_from, same_sort}
use Rattle.template_reader.specs.Filed.{Filed}

-- the numbers stay in range where there are more templates
all_more : (n m : ℕ) (xs : List NamedTemplate) → m ≡ n + 1 → All (λ x. x.template < n) xs → All (λ x. x.template < m) xs
all_more n m xs e h = λ k d less. let small : (get_or xs k d).template < n = h k d less in omega (arith, small, e)

all_one : (P : NamedTemplate → Type 0) (y : NamedTemplate) → P y → All P (y ∷ [])
all_one P y h = All-cons P y [] h (All-nil P)

all_snoc : (m : ℕ) (xs : List NamedTemplate) (y : NamedTemplate) → All (λ x. x.template < m) xs → y.template < m → All (λ x. x.template < m) (xs ++ y ∷ [])
all_snoc m xs y h k = All-append (λ x. x.template < m) xs (y ∷ []) h (all_one (λ x. x.template < m) y k)

abbrev at_most_one : Bool → List ℕ → ℕ → List Named
at_most_one b name n = if b then record { name = name; number = n } ∷ [] else []

named_snoc : (sort : Bool) (n m : ℕ) (es : List Entry) (e : Entry) → m ≡ n + length es → named_from sort n (es ++ e ∷ []) ≡ named_from sort n es ++ at_most_one (same_sort e.of_collection sort) e.name m
named_snoc sort n m [] e is = let same : n ≡ m = omega (arith, is) in ap (at_most_one (same_sort e.of_collection sort) e.name) same
named_snoc sort n m (x ∷ es) e is = by (named_snoc sort (n + 1) m es e (omega (arith, is))) (same_sort x.of_collection sort)
  where
    by : named_from sort (n + 1) (es ++ e ∷ []) ≡ named_from sort (n + 1) es ++ at_most_one (same_sort e.of_collection sort) e.name m → (b : Bool) → (if b then record { name = x.name; number = n } ∷ named_from sort (n + 1) (es ++ e ∷ []) else named_from sort (n + 1) (es ++ e ∷ []))
        ≡ (if b then record { name = x.name; number = n } ∷ named_from sort (n + 1) es else named_from sort (n + 1) es) ++ at_most_one (same_sort e.of_collection sort) e.name m
    by rest true = ap (λ ys. record { name = x.name; number = n } ∷ ys) rest
    by rest false = rest

module _ (old new : Tables) (es : List Entry) (e : declared.Entry) (number : ℕ) (is : number ≡ length old.bodies.items) (filed : Filed old es) (bodies_are : new.bodies.items ≡ old.bodies.items ++ record { parts = e.parts } ∷ []) where
  total : number ≡ 0 + length es
  total = let same : length old.bodies.items ≡ length es = sym (length-map old.bodies.items template_body) ∙ ap length filed.bodies ∙ length-map es (λ x. x.body) in omega (arith, is, same)

  more : length new.bodies.items ≡ length old.bodies.items + 1
  more = ap length bodies_are ∙ length-append old.bodies.items (record { parts = e.parts } ∷ [])

  the_bodies : map template_body new.bodies.items ≡ map (λ x. x.body) (es ++ entry_of e ∷ [])
  the_bodies =
      ap (map template_body) bodies_are ∙ map-append template_body old.bodies.items (record { parts = e.parts } ∷ []) ∙ ap (λ bs. bs ++ (entry_of e).body ∷ []) filed.bodies ∙ sym (map-append (λ x. x.body) es (entry_of e ∷ []))

  abbrev named : NamedTemplate
  named = record { name = e.name; template = number }

  named_in_range : named.template < length new.bodies.items
  named_in_range = omega (arith, is, more)

  added : (sort : Bool) (olds news : List NamedTemplate) → same_sort e.of_collection sort ≡ true → news ≡ olds ++ named ∷ [] → map named_of olds ≡ named_from sort 0 es → map named_of news ≡ named_from sort 0 (es ++ entry_of e ∷ [])
  added sort olds news same news_are h =
      let grown : named_from sort 0 es ++ named_of named ∷ [] ≡ named_from sort 0 (es ++ entry_of e ∷ []) = rw (named_snoc sort 0 number es (entry_of e) total, same) refl in
      ap (map named_of) news_are ∙ map-append named_of olds (named ∷ []) ∙ ap (λ ns. ns ++ named_of named ∷ []) h ∙ grown

  kept : (sort : Bool) (olds news : List NamedTemplate) → same_sort e.of_collection sort ≡ false → news ≡ olds → map named_of olds ≡ named_from sort 0 es → map named_of news ≡ named_from sort 0 (es ++ entry_of e ∷ [])
  kept sort olds news same news_are h =
      let grown : named_from sort 0 es ++ [] ≡ named_from sort 0 (es ++ entry_of e ∷ []) = rw (named_snoc sort 0 number es (entry_of e) total, same) refl in
      ap (map named_of) news_are ∙ h ∙ sym (append-nil (named_from sort 0 es)) ∙ grown

  range_added : (olds news : List NamedTemplate) → news ≡ olds ++ named ∷ [] → All (λ x. x.template < length old.bodies.items) olds → All (λ x. x.template < length new.bodies.items) news
  range_added olds news news_are h =
      subst (All (λ x. x.template < length new.bodies.items)) (sym news_are) (all_snoc (length new.bodies.items) olds named (all_more (length old.bodies.items) (length new.bodies.items) olds more h) named_in_range)

  range_kept : (olds news : List NamedTemplate) → news ≡ olds → All (λ x. x.template < length old.bodies.items) olds → All (λ x. x.template < length new.bodies.items) news
  range_kept olds news news_are h = subst (All (λ x. x.template < length new.bodies.items)) (sym news_are) (all_more (length old.bodies.items) (length new.bodies.items) olds more h)

  pub add_collection : e.of_collection ≡ true → new.collections.items ≡ old.collections.items ++ named ∷ [] → new.functions.items ≡ old.functions.items → Filed new (es ++ entry_of e ∷ [])
  add_collection sort a b = record {
    bodies = the_bodies;
    functions = kept false old.functions.items new.functions.items (ap (λ x. same_sort x false) sort) b filed.functions;
    collections = added true old.collections.items new.collections.items (ap (λ x. same_sort x true) sort) a filed.collections;
    functions_in_range = range_kept old.functions.items new.functions.items b filed.functions_in_range;
    collections_in_range = range_added old.collections.items new.collections.items a filed.collections_in_range;
  }

  pub add_function : e.of_collection ≡ false → new.collections.items ≡ old.collections.items → new.functions.items ≡ old.functions.items ++ named ∷ [] → Filed new (es ++ entry_of e ∷ [])
  add_function sort a b = record {
    bodies = the_bodies;
    functions = added false old.functions.items new.functions.items (ap (λ x. same_sort x false) sort) b filed.functions;
    collections = kept true old.collections.items new.collections.items (ap (λ x. same_sort x true) sort) a filed.collections;
    functions_in_range = range_added old.functions.items new.functions.items b filed.functions_in_range;
    collections_in_range = range_kept old.collections.items new.collections.items a filed.collections_in_range;
  }
