-- Reads, one part of a run after another.
use Rattle.std.proofs.Common.{◌≡◌, ◌⊎◌, ◌≤◌, ◌<◌, ◌+◌, ℕ, List, [], ◌∷◌, ◌++◌, map, length, take, drop, get_or, refl, sym, ap, subst, ◌∙◌, inl, inr, append_assoc, arith}
use Rattle.std.proofs.lemmas.List.{append-nil, map-append, take_all, drop_all, drop_more}
use Rattle.std.proofs.lemmas.List.Elements.{Contains-append_left, Contains-append_right, Contains-push}
use Rattle.std.specs.Prelude.{⊤, Contains, Option, Some, None, Result, Ok, Err}
use Rattle.edge_io.specs.Files.{FileMap, IsStartOf}
use Rattle.happenings.specs.Happening.{Happening, Read, ReadFailed}
use Rattle.site_inputs.specs.declared.fault.Fault.{Fault}
use Rattle.site_inputs.specs.declared.fault.Fault.TheVariants.{Refused, Unread, Faulty, NotFound, NoMemory}
use Rattle.site_inputs.specs.declared.fault.Refusal.{Refusal}
use Rattle.data_source.specs.declared.rules.SourceRules.{SourceRules}
use Rattle.graph_spec.specs.DataGraph.{DataGraph}
use Rattle.sd_graph.specs.Statement.{Building}
use Rattle.site_inputs.specs.Runs.{EndsWith, FileEnds}
use Rattle.site_inputs.specs.Sources.{SourceEnds, FilesEnd, empty_building}
use Rattle.site_inputs.proofs.Graphs.{then_next}
use Rattle.site_inputs.specs.Reads.{Got, path_of, read_of, ReadsAll, ReadsSome, ReadsTo, AreOf, IsSeen, Reads}

-- ---- what was read

all_append : (ps qs : List (List ℕ)) (c d : List Happening) → ReadsAll ps c → ReadsAll qs d → ReadsAll (ps ++ qs) (c ++ d)
all_append ps qs c d a b = record {
  gots = a.gots ++ b.gots;
  paths_are = rw (map-append path_of a.gots b.gots, a.paths_are, b.paths_are) refl;
  part_is = rw (map-append read_of a.gots b.gots, a.part_is, b.part_is) refl;
}

some_append : (ps qs missed : List (List ℕ)) (c d : List Happening) → ReadsAll ps c → ReadsSome qs missed d → ReadsSome (ps ++ qs) missed (c ++ d)
some_append ps qs missed c d a b = record {
  gots = a.gots ++ b.gots;
  left = b.left;
  paths_are = rw (map-append path_of a.gots b.gots) (append_assoc (map path_of a.gots) (map path_of b.gots) (missed ++ b.left) ∙ ap (λ r. map path_of a.gots ++ r) b.paths_are ∙ ap (λ r. r ++ qs) a.paths_are);
  part_is = rw (map-append read_of a.gots b.gots) (ap (λ r. r ++ d) a.part_is ∙ ap (λ r. map read_of a.gots ++ r) b.part_is ∙ sym (append_assoc (map read_of a.gots) (map read_of b.gots) (map ReadFailed missed)));
}

some_more : (ps qs missed : List (List ℕ)) (c : List Happening) → ReadsSome ps missed c → ReadsSome (ps ++ qs) missed c
some_more ps qs missed c a = record {
  gots = a.gots;
  left = a.left ++ qs;
  paths_are = ap (λ r. map path_of a.gots ++ r) (sym (append_assoc missed a.left qs)) ∙ sym (append_assoc (map path_of a.gots) (missed ++ a.left) qs) ∙ ap (λ r. r ++ qs) a.paths_are;
  part_is = a.part_is;
}

all_some : (ps : List (List ℕ)) (c : List Happening) → ReadsAll ps c → ReadsSome ps [] c
all_some ps c a = record {
  gots = a.gots;
  left = [];
  paths_are = append-nil (map path_of a.gots) ∙ a.paths_are;
  part_is = a.part_is ∙ sym (append-nil (map read_of a.gots));
}

module _ {A : Type 0} where
  -- reads after others
  to_append : (ps qs : List (List ℕ)) (c d : List Happening) (result : Result A Fault) → ReadsAll ps c → ReadsTo qs d result → ReadsTo (ps ++ qs) (c ++ d) result
  to_append ps qs c d (Ok value) a b = all_append ps qs c d a b
  to_append ps qs c d (Err (Unread path)) a b = some_append ps qs (path ∷ []) c d a b
  to_append ps qs c d (Err (Refused refusal)) a b = some_append ps qs [] c d a b
  to_append ps qs c d (Err (Faulty term kind)) a b = some_append ps qs [] c d a b
  to_append ps qs c d (Err NotFound) a b = some_append ps qs [] c d a b
  to_append ps qs c d (Err NoMemory) a (inl b) = inl (some_append ps qs [] c d a b)
  to_append ps qs c d (Err NoMemory) a (inr b) = inr (b.0, some_append ps qs (b.0 ∷ []) c d a b.1)

  -- the result reads nothing more
  abbrev pub IsRead : Result A Fault → Type 0
  IsRead (Err (Unread path)) = ⊥
  IsRead result = ⊤

  to_all : (ps : List (List ℕ)) (c : List Happening) (result : Result A Fault) → IsRead result → ReadsAll ps c → ReadsTo ps c result
  to_all ps c (Ok value) is a = a
  to_all ps c (Err (Unread path)) is a = absurd is
  to_all ps c (Err (Refused refusal)) is a = all_some ps c a
  to_all ps c (Err (Faulty term kind)) is a = all_some ps c a
  to_all ps c (Err NotFound) is a = all_some ps c a
  to_all ps c (Err NoMemory) is a = inl (all_some ps c a)

to_more : (A B : Type 0) (ps qs : List (List ℕ)) (c : List Happening) (fault : Fault) → ReadsTo {A = A} ps c (Err fault) → ReadsTo {A = B} (ps ++ qs) c (Err fault)
to_more A B ps qs c (Unread path) a = some_more ps qs (path ∷ []) c a
to_more A B ps qs c (Refused refusal) a = some_more ps qs [] c a
to_more A B ps qs c (Faulty term kind) a = some_more ps qs [] c a
to_more A B ps qs c NotFound a = some_more ps qs [] c a
to_more A B ps qs c NoMemory (inl a) = inl (some_more ps qs [] c a)
to_more A B ps qs c NoMemory (inr a) = inr (a.0, some_more ps qs (a.0 ∷ []) c a.1)

-- ---- what is seen

seen_left : (contents : Option FileMap) (c d : List Happening) (map : FileMap) → IsSeen contents (c ++ d) map → IsSeen contents c map
seen_left contents c d map (inl told) = inl told
seen_left contents c d map (inr are) = inr (λ path bytes h. are path bytes (Contains-append_left c d (Read path bytes) h))

seen_right : (contents later : Option FileMap) (c d : List Happening) (map : FileMap) → later ≡ contents → IsSeen contents (c ++ d) map → IsSeen later d map
seen_right contents later c d map same (inl told) = inl (same ∙ told)
seen_right contents later c d map same (inr are) = inr (λ path bytes h. are path bytes (Contains-append_right c d (Read path bytes) h))

-- ---- parts of a run

-- one part after another that gave a value
pub reads_then : {A B : Type 0} (ps qs : List (List ℕ)) (before mid now : List Happening) (contents later : Option FileMap) (value : A) (result : Result B Fault)
    (First Next Whole : FileMap → Type 0)
    → Reads {A = A} ps before mid contents (Ok value) First → Reads qs mid now later result Next → later ≡ contents
    → ((map : FileMap) → First map → Next map → Whole map) → Reads (ps ++ qs) before now contents result Whole
reads_then ps qs before mid now contents later value result First Next Whole a b same whole = record {
  part = a.part ++ b.part;
  added = b.added ∙ ap (λ r. r ++ b.part) a.added ∙ append_assoc before a.part b.part;
  reads = to_append ps qs a.part b.part result a.reads b.reads;
  ends = λ map h. whole map (a.ends map (seen_left contents a.part b.part map h)) (b.ends map (seen_right contents later a.part b.part map same h));
}

-- a fault of the first part is that of both
pub reads_stop : (A B : Type 0) (ps qs : List (List ℕ)) (before now : List Happening) (contents : Option FileMap) (fault : Fault) (First Whole : FileMap → Type 0)
    → Reads {A = A} ps before now contents (Err fault) First → ((map : FileMap) → First map → Whole map) → Reads {A = B} (ps ++ qs) before now contents (Err fault) Whole
reads_stop A B ps qs before now contents fault First Whole a whole = record {
  part = a.part;
  added = a.added;
  reads = to_more A B ps qs a.part fault a.reads;
  ends = λ map h. whole map (a.ends map h);
}

-- the same paths, and the fault is that of the whole
pub reads_fault : (A B : Type 0) (ps : List (List ℕ)) (before now : List Happening) (contents : Option FileMap) (fault : Fault) (First Whole : FileMap → Type 0)
    → Reads {A = A} ps before now contents (Err fault) First → ((map : FileMap) → First map → Whole map) → Reads {A = B} ps before now contents (Err fault) Whole
reads_fault A B ps before now contents fault First Whole a whole =
    subst (λ (qs : List (List ℕ)). Reads {A = B} qs before now contents (Err fault) Whole) (append-nil ps)
    (reads_stop A B ps [] before now contents fault First Whole a whole)

-- a value, and then no more reads
pub reads_done : {A B : Type 0} (ps : List (List ℕ)) (before now : List Happening) (contents : Option FileMap) (value : A) (result : Result B Fault) (First Whole : FileMap → Type 0)
    → Reads {A = A} ps before now contents (Ok value) First → IsRead result → ((map : FileMap) → First map → Whole map) → Reads ps before now contents result Whole
reads_done ps before now contents value result First Whole a is whole = record {
  part = a.part;
  added = a.added;
  reads = to_all ps a.part result is a.reads;
  ends = λ map h. whole map (a.ends map h);
}

-- ---- one read

one_path : (path bytes : List ℕ) → ReadsAll (path ∷ []) (Read path bytes ∷ [])
one_path path bytes = record { gots = record { path = path; bytes = bytes } ∷ []; paths_are = refl; part_is = refl }

missed_path : (path : List ℕ) → ReadsSome (path ∷ []) (path ∷ []) (ReadFailed path ∷ [])
missed_path path = record { gots = []; left = []; paths_are = refl; part_is = refl }

-- the map that is seen has at the path what the read gave, which is the start of the file
seen_start : (contents : Option FileMap) (map : FileMap) (path bytes : List ℕ) (n : ℕ) → length bytes ≤ n → (contents ≡ Some map → IsStartOf (map path) n bytes)
    → IsSeen contents (Read path bytes ∷ []) map → IsStartOf (map path) n bytes
seen_start contents map path bytes n fits start (inl told) = start told
seen_start contents map path bytes n fits start (inr are) =
    rw (are path bytes (Contains-push [] (Read path bytes))) (sym (take_all n bytes fits))

-- a read gave these bytes, and nothing more is read
pub was_read : {A : Type 0} (path bytes : List ℕ) (n : ℕ) (before now : List Happening) (contents : Option FileMap) (result : Result A Fault) (Ends : FileMap → Type 0)
    → now ≡ before ++ Read path bytes ∷ [] → length bytes ≤ n → ((map : FileMap) → contents ≡ Some map → IsStartOf (map path) n bytes)
    → IsRead result → ((map : FileMap) → IsStartOf (map path) n bytes → Ends map) → Reads (path ∷ []) before now contents result Ends
was_read path bytes n before now contents result Ends added fits start is ends = record {
  part = Read path bytes ∷ [];
  added = added;
  reads = to_all (path ∷ []) (Read path bytes ∷ []) result is (one_path path bytes);
  ends = λ map h. ends map (seen_start contents map path bytes n fits (start map) h);
}

-- the read failed
pub read_failed : (A : Type 0) (path : List ℕ) (before now : List Happening) (contents : Option FileMap) (fault : Fault) (Ends : FileMap → Type 0)
    → now ≡ before ++ ReadFailed path ∷ [] → (fault ≡ Unread path) ⊎ (fault ≡ NoMemory) → ((map : FileMap) → Ends map) → Reads {A = A} (path ∷ []) before now contents (Err fault) Ends
read_failed A path before now contents fault Ends added (inl is) ends = record {
  part = ReadFailed path ∷ [];
  added = added;
  reads = subst (λ (f : Fault). ReadsTo {A = A} (path ∷ []) (ReadFailed path ∷ []) (Err f)) (sym is) (missed_path path);
  ends = λ map h. ends map;
}
read_failed A path before now contents fault Ends added (inr is) ends = record {
  part = ReadFailed path ∷ [];
  added = added;
  reads = subst (λ (f : Fault). ReadsTo {A = A} (path ∷ []) (ReadFailed path ∷ []) (Err f)) (sym is) (inr (path, missed_path path));
  ends = λ map h. ends map;
}

-- a refusal of a file that was read, or out of memory in saying so
pub refused_is_read : (A : Type 0) (fault : Fault) (refusal : Refusal) → (fault ≡ Refused refusal) ⊎ (fault ≡ NoMemory) → IsRead {A = A} (Err fault)
refused_is_read A fault refusal (inl is) = subst (λ (f : Fault). IsRead {A = A} (Err f)) (sym is) tt
refused_is_read A fault refusal (inr is) = subst (λ (f : Fault). IsRead {A = A} (Err f)) (sym is) tt

pub unread_ends : (limit : ℕ) (m : FileMap) (path : List ℕ) (fault : Fault) → (fault ≡ Unread path) ⊎ (fault ≡ NoMemory) → FileEnds limit m path (Err fault)
unread_ends limit m path fault (inl is) = subst (λ (f : Fault). FileEnds limit m path (Err f)) (sym is) refl
unread_ends limit m path fault (inr is) = subst (λ (f : Fault). FileEnds limit m path (Err f)) (sym is) tt

-- ---- one data file after another

-- these reads were done since, and those paths are left
pub record Gathered (rules : SourceRules) (paths left : List (List ℕ)) (graph : Building) (before now : List Happening) (contents : Option FileMap) : Type 0 where
  pub gots : List Got
  pub paths_are : map path_of gots ++ left ≡ paths
  pub added : now ≡ before ++ map read_of gots
  pub rest : (m : FileMap) → IsSeen contents (map read_of gots) m → (result : Result DataGraph Fault) → FilesEnd rules m graph left result → FilesEnd rules m empty_building paths result

pub gathered_none : (rules : SourceRules) (paths : List (List ℕ)) (before : List Happening) (contents : Option FileMap) → Gathered rules paths paths empty_building before before contents
gathered_none rules paths before contents = record {
  gots = [];
  paths_are = refl;
  added = sym (append-nil before);
  rest = λ m h result e. e;
}

module _ (rules : SourceRules) (paths left : List (List ℕ)) (path : List ℕ) (b : Building) (before now later : List Happening) (contents others : Option FileMap) (same : others ≡ contents)
    (g : Gathered rules paths (path ∷ left) b before now contents) where
  gathered_next : (c : Building) → Reads {A = ⊤} (path ∷ []) now later others (Ok tt) (λ m. SourceEnds rules m path b (Ok c)) → Gathered rules paths left c before later contents
  gathered_next c r = record {
    gots = g.gots ++ r.reads.gots;
    paths_are = rw (map-append path_of g.gots r.reads.gots, r.reads.paths_are) (append_assoc (map path_of g.gots) (path ∷ []) left ∙ g.paths_are);
    added = rw (map-append read_of g.gots r.reads.gots) (r.added ∙ ap (λ x. x ++ r.part) g.added ∙ append_assoc before (map read_of g.gots) r.part ∙ ap (λ x. before ++ (map read_of g.gots ++ x)) r.reads.part_is);
    rest = λ m h result e.
        let both : IsSeen contents (map read_of g.gots ++ r.part) m = subst (λ (x : List Happening). IsSeen contents x m) (map-append read_of g.gots r.reads.gots ∙ ap (λ x. map read_of g.gots ++ x) (sym r.reads.part_is)) h in
        g.rest m (seen_left contents (map read_of g.gots) r.part m both) result
        (then_next (SourceEnds rules m path b) (λ d. FilesEnd rules m d left) c result (r.ends m (seen_right contents others (map read_of g.gots) r.part m same both)) e);
  }

  gathered_stop : (B : Type 0) (fault : Fault) → Reads {A = ⊤} (path ∷ []) now later others (Err fault) (λ m. SourceEnds rules m path b (Err fault))
      → Reads {A = B} paths before later contents (Err fault) (λ m. FilesEnd rules m empty_building paths (Err fault))
  gathered_stop B fault r = record {
    part = map read_of g.gots ++ r.part;
    added = r.added ∙ ap (λ x. x ++ r.part) g.added ∙ append_assoc before (map read_of g.gots) r.part;
    reads = subst (λ (x : List (List ℕ)). ReadsTo {A = B} x (map read_of g.gots ++ r.part) (Err fault)) g.paths_are
        (to_append {A = B} (map path_of g.gots) (path ∷ left) (map read_of g.gots) r.part (Err fault) (record { gots = g.gots; paths_are = refl; part_is = refl }) (to_more ⊤ B (path ∷ []) left r.part fault r.reads));
    ends = λ m h. g.rest m (seen_left contents (map read_of g.gots) r.part m h) (Err fault) (inl (r.ends m (seen_right contents others (map read_of g.gots) r.part m same h)));
  }

split_at : (paths : List (List ℕ)) (i : ℕ) (path : List ℕ) → i < length paths → path ≡ get_or paths i path → drop i paths ≡ path ∷ drop (i + 1) paths
split_at paths i path within is = drop_more paths i path within ∙ ap (λ p. p ∷ drop (i + 1) paths) (sym is)

module _ (rules : SourceRules) (paths : List (List ℕ)) (i : ℕ) (path : List ℕ) (b : Building) (before now later : List Happening) (contents others : Option FileMap)
    (within : i < length paths) (is : path ≡ get_or paths i path) (same : others ≡ contents) (g : Gathered rules paths (drop i paths) b before now contents) where
  there : Gathered rules paths (path ∷ drop (i + 1) paths) b before now contents
  there = subst (λ (x : List (List ℕ)). Gathered rules paths x b before now contents) (split_at paths i path within is) g

  -- the file at the index was taken
  pub gathered_more : (c : Building) → Reads {A = ⊤} (path ∷ []) now later others (Ok tt) (λ m. SourceEnds rules m path b (Ok c)) → Gathered rules paths (drop (i + 1) paths) c before later contents
  gathered_more c r = gathered_next rules paths (drop (i + 1) paths) path b before now later contents others same there c r

  -- it ends the run
  pub gathered_fault : (B : Type 0) (fault : Fault) → Reads {A = ⊤} (path ∷ []) now later others (Err fault) (λ m. SourceEnds rules m path b (Err fault))
      → Reads {A = B} paths before later contents (Err fault) (λ m. FilesEnd rules m empty_building paths (Err fault))
  gathered_fault B fault r = gathered_stop rules paths (drop (i + 1) paths) path b before now later contents others same there B fault r

-- all files were taken
pub gathered_all : {B : Type 0} (rules : SourceRules) (paths : List (List ℕ)) (i : ℕ) (value : B) (b : Building) (before now : List Happening) (contents : Option FileMap) → length paths ≤ i
    → Gathered rules paths (drop i paths) b before now contents → Reads paths before now contents (Ok value) (λ m. FilesEnd rules m empty_building paths (Ok b.graph))
gathered_all rules paths i value b before now contents past g = record {
  part = map read_of g.gots;
  added = g.added;
  reads = record {
    gots = g.gots;
    paths_are = sym (append-nil (map path_of g.gots)) ∙ ap (λ x. map path_of g.gots ++ x) (sym (drop_all i paths past)) ∙ g.paths_are;
    part_is = refl;
  };
  ends = λ m h. g.rest m h (Ok b.graph) (subst (λ (x : List (List ℕ)). FilesEnd rules m b x (Ok b.graph)) (sym (drop_all i paths past)) (inl refl));
}

building_is : (b : Building) → b.limits ≡ empty_building.limits → (b.graph.nodes ≡ []) × (b.graph.edges ≡ []) × (b.graph.members ≡ []) → b ≡ empty_building
building_is b limits none = λ i. record { limits = limits i; graph = record { nodes = none.0 i; edges = none.1 i; members = none.2 i } }

pub gathered_first : (rules : SourceRules) (paths : List (List ℕ)) (b : Building) (before : List Happening) (contents : Option FileMap) → b.limits ≡ empty_building.limits
    → (b.graph.nodes ≡ []) × (b.graph.edges ≡ []) × (b.graph.members ≡ []) → Gathered rules paths paths b before before contents
gathered_first rules paths b before contents limits none =
    subst (λ (c : Building). Gathered rules paths paths c before before contents) (sym (building_is b limits none)) (gathered_none rules paths before contents)

-- ---- no reads, and parts that read nothing more

-- no path is read
pub reads_none : {A : Type 0} (before : List Happening) (contents : Option FileMap) (result : Result A Fault) (Ends : FileMap → Type 0)
    → IsRead result → ((map : FileMap) → Ends map) → Reads [] before before contents result Ends
reads_none before contents result Ends is ends = record {
  part = [];
  added = sym (append-nil before);
  reads = to_all [] [] result is (record { gots = []; paths_are = refl; part_is = refl });
  ends = λ map h. ends map;
}

-- the same of an equal command
pub reads_of : {C A : Type 0} (paths : C → List (List ℕ)) (Ends : FileMap → C → Result A Fault → Type 0) (given is : C) (before now : List Happening) (contents : Option FileMap) (result : Result A Fault)
    → given ≡ is → Reads (paths is) before now contents result (λ map. Ends map is result) → Reads (paths given) before now contents result (λ map. Ends map given result)
reads_of {C} paths Ends given is before now contents result same h =
    subst (λ (c : C). Reads (paths c) before now contents result (λ map. Ends map c result)) (sym same) h

-- a part that never ends with an unread path
pub reads_no_more : {A : Type 0} (Taken : Result A Fault → Type 0) → ((path : List ℕ) → Taken (Err (Unread path)) → ⊥) → (result : Result A Fault) → Taken result → IsRead result
reads_no_more Taken never (Ok value) taken = tt
reads_no_more Taken never (Err (Unread path)) taken = never path taken
reads_no_more Taken never (Err (Refused refusal)) taken = tt
reads_no_more Taken never (Err (Faulty term kind)) taken = tt
reads_no_more Taken never (Err NotFound) taken = tt
reads_no_more Taken never (Err NoMemory) taken = tt

-- an end with this value
pub end_is_read : {A : Type 0} (value : A) (result : Result A Fault) → EndsWith value result → IsRead result
end_is_read {A} value result (inl is) = subst (λ (r : Result A Fault). IsRead r) (sym is) tt
end_is_read {A} value result (inr is) = subst (λ (r : Result A Fault). IsRead r) (sym is) tt
