-- The tables in which kinds and collections are looked up.
use Rattle.std.specs.Prelude.{◌≡◌, Bool, true, false, List, [], ◌∷◌, length, Option, Some, None, if◌then◌else◌, ℕ, nat_lt}
use Rattle.std.specs.List.{list_any}
use Rattle.std.specs.declared.cmp.Ordering.{Ordering}
use Rattle.std.specs.Ordering.{ordering_then}
use Rattle.std.specs.BTreeMap.{get}
use Rattle.std.specs.BTreeSet.{BTreeSet, insert_key}
use Rattle.sd_value.specs.Order.{bytes_cmp}
use Rattle.ddl_text.specs.declared.tree.Content.{Content}
use Rattle.ddl_text.specs.declared.tree.Content.TheVariants as contents
use Rattle.sd_ddl.specs.declared.part.Part.{Part}
use Rattle.sd_ddl.specs.declared.part.Part.TheVariants.{Gives, Node, Member, Edge}
use Rattle.sd_ddl.specs.declared.kinds.StatedKinds.{StatedKinds}
use Rattle.sd_ddl.specs.declared.kinds.StatedKinds.TheVariants.{Nothing, One, Several}
use Rattle.sd_ddl.specs.declared.kinds.Givings.{Givings}
use Rattle.sd_ddl.specs.declared.kinds.Kinds.{Kinds}
use Rattle.sd_ddl.specs.declared.answers.Answers.{Answers}
use Rattle.sd_ddl.specs.declared.collections.Collections.{Collections}
use Rattle.sd_ddl.specs.Kinds.{Name, same_name, same_kind, given, givers, collections, kinds_of, told}

-- what two report together
abbrev pub both : StatedKinds → StatedKinds → StatedKinds
both Nothing t = t
both (One k) Nothing = One k
both (One k) (One j) = if same_kind k j then One k else Several
both (One k) Several = Several
both Several t = Several

abbrev pub is_several : StatedKinds → Bool
is_several Nothing = false
is_several (One k) = false
is_several Several = true

abbrev pub pair_cmp : (List ℕ × List ℕ) → (List ℕ × List ℕ) → Ordering
pair_cmp x y = ordering_then (bytes_cmp x.0 y.0) (bytes_cmp x.1 y.1)

abbrev pub or_nothing : Option StatedKinds → StatedKinds
or_nothing (Some t) = t
or_nothing None = Nothing

abbrev pub told_in : Givings → Name → Name → StatedKinds
told_in givings collection attribute =
    or_nothing (get pair_cmp givings.told (collection, attribute))

abbrev pub names_in : Option (BTreeSet (List ℕ)) → List Name
names_in (Some names) = names.keys
names_in None = []

-- the collections of an object, or of an attribute
abbrev pub names_of : Collections → Name → List Name
names_of table object = names_in (get bytes_cmp table.of object)

abbrev pub insert_all : List Name → List Name → List Name
insert_all names [] = names
insert_all names (n ∷ ns) = insert_all (insert_key bytes_cmp names n) ns

-- the table has what these parts give
abbrev pub HasGivings : List Part → Givings → Type 0
HasGivings parts table = (c a : Name) → told_in table c a ≡ told (given parts c a)

-- the table has the collections that these parts report
abbrev pub HasCollections : List Part → Collections → Type 0
HasCollections parts table = (o : Name) → names_of table o ≡ insert_all [] (collections parts o)

-- the table has the collections that give each attribute a kind
abbrev pub HasGivers : List Part → Collections → Type 0
HasGivers parts table = (a : Name) → names_of table a ≡ insert_all [] (givers parts a)

-- what is reported of each of the names, one after another
abbrev pub tell : (Name → StatedKinds) → StatedKinds → List Name → StatedKinds
tell f t [] = t
tell f t (n ∷ ns) = tell f (both t (f n)) ns

-- what is reported of one of the names alone
abbrev pub told_within : Givings → List Name → Name → Name → StatedKinds
told_within givings names attribute collection =
    if list_any (same_name collection) names then told_in givings collection attribute else Nothing

-- what was looked up before
abbrev pub answer_of : Answers → Name → Name → Option StatedKinds
answer_of answers object attribute = get pair_cmp answers.told (object, attribute)

-- what the collections of an object tell an attribute: it is asked of the object's, or, where these are
-- fewer, of those that give the attribute a kind
abbrev pub looked_up : Kinds → Name → Name → StatedKinds
looked_up kinds object attribute =
    let names = names_of kinds.collections object in
    let found = names_of kinds.givers attribute in
    if nat_lt (length found) (length names)
    then tell (told_within kinds.givings names attribute) Nothing found
    else tell (λ c. told_in kinds.givings c attribute) Nothing names

abbrev pub or_told : Option StatedKinds → StatedKinds → StatedKinds
or_told (Some t) anew = t
or_told None anew = anew

-- the same, looked up before or now
abbrev pub told_of : Kinds → Name → Name → StatedKinds
told_of kinds object attribute =
    or_told (answer_of kinds.answers object attribute) (looked_up kinds object attribute)

-- the tables report of each object's attributes what these parts report
abbrev pub Knows : List Part → Kinds → Type 0
Knows parts kinds =
    (object attribute : Name)
    → told_of kinds object attribute ≡ told (kinds_of parts object attribute)

abbrev pub has_two_kinds : StatedKinds → Content → Bool
has_two_kinds t (contents.Number n) = false
has_two_kinds t (contents.Plain s) = is_several t
has_two_kinds t (contents.Kinded k s) = false
has_two_kinds t (contents.Node n) = false

-- whether the part is a conflict, by the tables
abbrev pub is_conflict : Givings → Kinds → Part → Bool
is_conflict seen kinds (Gives g) =
    is_several (both (told_in seen g.collection g.attribute) (One g.kind.kind))
is_conflict seen kinds (Node n) = false
is_conflict seen kinds (Member c n) = false
is_conflict seen kinds (Edge o l v) = has_two_kinds (told_of kinds o l) v.content
