-- A file has one answer, besides out of memory.
use Rattle.std.specs.Prelude.{◌≡◌, ◌⊎◌, ℕ, true, false, List, [], ◌∷◌, ◌++◌, Result, Ok, Err, ⊤}
use Rattle.std.specs.List.{AllByRecursion}
use Rattle.std.proofs.Common.{refl, sym, ◌∙◌, ap, subst, inl, inr}
use Rattle.graph_spec.specs.DataGraph.{Name}
use Rattle.sd_graph.specs.Statement.{Building}
use Rattle.sd_graph.specs.Stating.{Ending, done, fault, too_many_nodes, too_many_edges, no_memory, Ends}
use Rattle.source_steps.specs.Once.{IsTold, ends_once}
use Rattle.sqlite_pages.specs.PageMap.{PageMap}
use Rattle.json_source.specs.Names.{Pointer}
use Rattle.sqlite_source.specs.File.{is_headed, pages_of, usable_size}
use Rattle.sqlite_source.specs.Tables.{IsSoundTable, table_rows}
use Rattle.sqlite_source.specs.Rows.{db_ending}
use Rattle.sqlite_source.specs.Schema.{listed_in}
use Rattle.sqlite_source.specs.Database.{AreSoundTables, FirstDamaged, tables_steps}
use Rattle.sqlite_source.specs.Reads.{HasTables, RefusesTables, RefusesPages, StatesNothing, ReadsPages, Reads}
use Rattle.sqlite_source.specs.declared.schema.Listed.{Listed}
use Rattle.sqlite_source.specs.declared.refusal.DbRefusal.{DbRefusal}
use Rattle.sqlite_source.specs.declared.refusal.DbRefusal.TheVariants.{NotDatabase, Damaged, NotRead, IsBlob, NotUtf8, TooManyEdges, TooManyNodes, NoMemory}

-- two answers, neither of them out of memory, are one, and so are the graphs that they leave
abbrev pub HasOneAnswer : Name → List ℕ → Building → Type 0
HasOneAnswer stem file b =
    (c d : Building) (r s : Result ⊤ DbRefusal) → Reads stem file b c r → Reads stem file b d s
    → (r ≡ Err NoMemory → ⊥) → (s ≡ Err NoMemory → ⊥) → (c ≡ d) × (r ≡ s)

-- the answer that ends so
abbrev answer_of : Ending Pointer DbRefusal → Result ⊤ DbRefusal
answer_of done = Ok tt
answer_of (fault e) = Err e
answer_of (too_many_nodes k) = Err (TooManyNodes k)
answer_of (too_many_edges k) = Err (TooManyEdges k)
answer_of no_memory = Err NoMemory

answer_back : (r : Result ⊤ DbRefusal) → answer_of (db_ending r) ≡ r
answer_back (Ok u) = refl
answer_back (Err NotDatabase) = refl
answer_back (Err (Damaged k)) = refl
answer_back (Err (NotRead k)) = refl
answer_back (Err (IsBlob k)) = refl
answer_back (Err (NotUtf8 k)) = refl
answer_back (Err (TooManyEdges k)) = refl
answer_back (Err (TooManyNodes k)) = refl
answer_back (Err NoMemory) = refl

told : (r : Result ⊤ DbRefusal) → (r ≡ Err NoMemory → ⊥) → IsTold (db_ending r)
told (Ok u) h = tt
told (Err NotDatabase) h = tt
told (Err (Damaged k)) h = tt
told (Err (NotRead k)) h = tt
told (Err (IsBlob k)) h = tt
told (Err (NotUtf8 k)) h = tt
told (Err (TooManyEdges k)) h = tt
told (Err (TooManyNodes k)) h = tt
told (Err NoMemory) h = h refl

module _ (pages : PageMap) (size : ℕ) where
  not_both : (tables : List Listed) (e : DbRefusal) → AreSoundTables pages size tables → FirstDamaged pages size tables e → ⊥
  not_both [] e sound h = h
  not_both (l ∷ tables) e sound h = elim h [ inl a ↦ a.1 sound.0 | inr a ↦ not_both tables e sound.1 a.1 ]

  one_damaged : (tables : List Listed) (e f : DbRefusal) → FirstDamaged pages size tables e → FirstDamaged pages size tables f → e ≡ f
  one_damaged [] e f h k = absurd h
  one_damaged (l ∷ tables) e f h k = elim h [
    | inl a ↦ elim k [ inl b ↦ a.0 ∙ sym b.0 | inr b ↦ absurd (a.1 b.0) ]
    | inr a ↦ elim k [ inl b ↦ absurd (b.1 a.0) | inr b ↦ one_damaged tables e f a.1 b.1 ]
  ]

  one_fault : (listed : Result (List Listed) DbRefusal) (e f : DbRefusal) → RefusesTables pages size listed e → RefusesTables pages size listed f → e ≡ f
  one_fault (Err why) e f h k = h ∙ sym k
  one_fault (Ok tables) e f h k = one_damaged tables e f h k

  one_refusal : (e f : DbRefusal) → RefusesPages pages size e → RefusesPages pages size f → e ≡ f
  one_refusal e f h k = elim h [
    | inl a ↦ elim k [ inl b ↦ a.0 ∙ sym b.0 | inr b ↦ absurd (a.1 b.0) ]
    | inr a ↦ elim k [ inl b ↦ absurd (b.1 a.0) | inr b ↦ one_fault (listed_in (table_rows pages size 0 1)) e f a.1 b.1 ]
  ]

  no_clash : (tables : List Listed) (e : DbRefusal) → HasTables pages size tables → RefusesPages pages size e → ⊥
  no_clash tables e has h = elim h [
    | inl a ↦ a.1 has.schema
    | inr a ↦ not_both tables e has.sound (subst (λ l. RefusesTables pages size l e) has.lists a.1)
  ]

  one_listing : (s t : List Listed) → HasTables pages size s → HasTables pages size t → s ≡ t
  one_listing s t p q = let h : ◌≡◌ {A = Result (List Listed) DbRefusal} (Ok s) (Ok t) = sym p.lists ∙ q.lists in cc

-- of two answers that state nothing
nothing_once : (Refuses : DbRefusal → Type 0) (b c d : Building) (r s : Result ⊤ DbRefusal) → ((e f : DbRefusal) → Refuses e → Refuses f → e ≡ f)
    → StatesNothing Refuses b c r → StatesNothing Refuses b d s → (r ≡ Err NoMemory → ⊥) → (s ≡ Err NoMemory → ⊥) → (c ≡ d) × (r ≡ s)
nothing_once Refuses b c d r s one h k left right = elim h.1 [
  | inl short ↦ absurd (left short)
  | inr p ↦ elim k.1 [
    | inl short ↦ absurd (right short)
    | inr q ↦ (h.0 ∙ sym k.0, p.2 ∙ ap (λ x. Err x) (one p.0 q.0 p.1 q.1) ∙ sym q.2)
  ]
]

module _ (pages : PageMap) (size : ℕ) (stem : Name) (b c d : Building) (r s : Result ⊤ DbRefusal) where
  -- tables that are read, and a refusal of the same pages
  clash : (tables : List Listed) → HasTables pages size tables → StatesNothing (RefusesPages pages size) b d s → (s ≡ Err NoMemory → ⊥) → ⊥
  clash tables has k right = elim k.1 [ inl short ↦ right short | inr q ↦ no_clash pages size tables q.0 has q.1 ]

  pages_once : ReadsPages stem pages size b c r → ReadsPages stem pages size b d s → (r ≡ Err NoMemory → ⊥) → (s ≡ Err NoMemory → ⊥) → (c ≡ d) × (r ≡ s)
  pages_once h k left right = elim h [
    | inl p ↦ elim k [
      | inl q ↦
          (let same = one_listing pages size q.0 p.0 q.1 p.1 in
          let once = ends_once b c d (tables_steps pages size stem p.0 p.0) (db_ending r) (db_ending s) (told r left) (told s right) p.2
          (subst (λ x. Ends b (tables_steps pages size stem x x) d (db_ending s)) same q.2) in
          (once.0, sym (answer_back r) ∙ ap answer_of once.1 ∙ answer_back s))
      | inr q ↦ absurd (clash p.0 p.1 q right)
    ]
    | inr p ↦ elim k [
      | inl q ↦ absurd (elim p.1 [ inl short ↦ left short | inr x ↦ no_clash pages size q.0 x.0 q.1 x.1 ])
      | inr q ↦ nothing_once (RefusesPages pages size) b c d r s (one_refusal pages size) p q left right
    ]
  ]

pub has_one_answer : (stem : Name) (file : List ℕ) (b : Building) → HasOneAnswer stem file b
has_one_answer stem file b c d r s h k left right = elim h [
  | inl p ↦ elim k [
    | inl q ↦ pages_once (pages_of file) (usable_size file) stem b c d r s p.1 q.1 left right
    | inr q ↦ (let x : ◌≡◌ true false = sym p.0 ∙ q.0 in absurd (cc))
  ]
  | inr p ↦ elim k [
    | inl q ↦ (let x : ◌≡◌ true false = sym q.0 ∙ p.0 in absurd (cc))
    | inr q ↦ nothing_once (λ e. e ≡ NotDatabase) b c d r s (λ e f is was. is ∙ sym was) p.1 q.1 left right
  ]
]
