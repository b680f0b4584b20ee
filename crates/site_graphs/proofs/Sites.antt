-- All terms, links and collected values of a query's site.
use Rattle.std.proofs.Common.{◌≡◌, List, [], ◌∷◌, refl, sym, ap, subst}
use Rattle.std.specs.Prelude.{◌≢◌, ◌-◌, ◌^◌, ℤ, pos, negsuc, length, slice_get, Contains, Option, Some, None}
use Rattle.std.specs.List.{AllZip, flat_map}
use Rattle.sd_value.specs.Names.{Name, Label}
use Rattle.sd_value.specs.declared.Datum.{Datum}
use Rattle.sd_value.specs.declared.Datum.TheVariants.{Int, Text, Url, File, Node}
use Rattle.sd_value.specs.declared.Term.{Term}
use Rattle.sd_value.specs.declared.Value.{Value}
use Rattle.sd_value.specs.declared.Value.TheVariants.{Data, Page}
use Rattle.graph_spec.specs.DataGraph.{DataGraph, node, text, HasEdge, HasMember}
use Rattle.graph_spec.specs.declared.Edge.{Edge}
use Rattle.graph_spec.specs.declared.Member.{Member}
use Rattle.query_spec.specs.Query.{Operand, SkolemTerm, Target, plain, made, summed, LinkLabel, quoted, label_variable, Link}
use Rattle.query_spec.specs.Query.{Aggregate, count_of, min_of, max_of, sum_of}
use Rattle.query_spec.specs.Query.{Collect, Body, Chain}
use Rattle.query_spec.specs.Holds.{Assignment, operand_value}
use Rattle.query_spec.specs.Rows.{value_in, IsRow}
use Rattle.site_spec.specs.Site.{Scope, IsTermUnder, IsTargetUnder, IsLabelUnder, Joins, chain, terms_of, SomeOf}
use Rattle.site_spec.specs.Site.{IsRowJoined, part_link, pair_number, total, IsWord, IsTold, IsSummed, IsSum}
use Rattle.site_spec.specs.Site.{SomeRow, IsNamed, IsJoined, IsPut, InSite, Linked, CollectedBy, Collected, SiteEdge}
use Rattle.site_graphs.proofs.Lists.{AllOf, all_none, all_one, all_in, all_as, all_either, all_from}
use Rattle.sd_value.specs.Ascending.{ListsExactly}
use Rattle.sd_value.specs.AscendingLaws.{same_list}
use Rattle.sd_value.specs.Members.{Contains-nil}
use Rattle.sd_value.specs.Order.{bytes_cmp, value_cmp}
use Rattle.sd_value.specs.OrderLaws.{bytes_cmp-total, bytes_cmp-exact, value_cmp-total, value_cmp-exact}
use Rattle.site_spec.proofs.Sums.{first_of}
use Rattle.site_graphs.proofs.Ascending.{all_ascending}
use Rattle.site_graphs.proofs.Conditions.{at_most}
use Rattle.site_graphs.proofs.Decide.{Dec, yes, no, dec_as, dec_both, dec_same}
use Rattle.site_graphs.proofs.Rows.{all_rows}

-- a value joined to another by a label
pub record Joint : Type 0 where
  pub from : Value
  pub label : Label
  pub to : Value

-- a value under a name
pub record Named : Type 0 where
  pub collection : Name
  pub value : Value

all_some : {A X : Type 0} (P : A → X → Type 0) → ((a : A) → AllOf (P a)) → (xs : List A)
    → AllOf (λ x. SomeOf (λ a. P a x) xs)
all_some {A} P each xs =
    all_as (λ x. (a : A) × Contains xs a × P a x) (λ x. SomeOf (λ a. P a x) xs)
    (λ x h. record { item = h.0; within = h.1; holds = h.2 }) (λ x h. (h.item, h.within, h.holds))
    (all_from (Contains xs) P (all_in xs) each)

-- ---- what an assignment names

all_value : (o : Option Value) → AllOf (λ v. o ≡ Some v)
all_value None = all_none (λ (v : Value). None ≡ Some v) (λ v e. cc)
all_value (Some a) = all_one a (λ (v : Value). Some a ≡ Some v) refl (λ v e. cc)

all_datum : (o : Option Value) → AllOf (λ (d : Datum). o ≡ Some (Data d))
all_datum None = all_none (λ (d : Datum). None ≡ Some (Data d)) (λ d e. cc)
all_datum (Some (Data d)) = all_one d (λ (x : Datum). Some (Data d) ≡ Some (Data x)) refl (λ x e. cc)
all_datum (Some (Page p)) = all_none (λ (d : Datum). Some (Page p) ≡ Some (Data d)) (λ d e. cc)

all_text : (o : Option Value) → AllOf (λ (l : Label). o ≡ Some (text l))
all_text None = all_none (λ (l : Label). None ≡ Some (text l)) (λ l e. cc)
all_text (Some (Data (Text l))) = all_one l (λ (x : Label). Some (text l) ≡ Some (text x)) refl (λ x e. cc)
all_text (Some (Data (Int i))) = all_none (λ (l : Label). Some (Data (Int i)) ≡ Some (text l)) (λ l e. cc)
all_text (Some (Data (Url s))) = all_none (λ (l : Label). Some (Data (Url s)) ≡ Some (text l)) (λ l e. cc)
all_text (Some (Data (File s))) = all_none (λ (l : Label). Some (Data (File s)) ≡ Some (text l)) (λ l e. cc)
all_text (Some (Data (Node s))) = all_none (λ (l : Label). Some (Data (Node s)) ≡ Some (text l)) (λ l e. cc)
all_text (Some (Page p)) = all_none (λ (l : Label). Some (Page p) ≡ Some (text l)) (λ l e. cc)

module _ (s : Assignment) where
  abbrev IsArg : Operand → Datum → Type 0
  IsArg o d = operand_value s o ≡ Some (Data d)

  abbrev Prefixed : Operand → List Operand → List Datum → Type 0
  Prefixed o os ds = (d : Datum) × IsArg o d × ((rest : List Datum) × AllZip IsArg os rest × (d ∷ rest ≡ ds))

  no_args : (ds : List Datum) → AllZip IsArg [] ds → [] ≡ ds
  no_args [] h = refl
  no_args (d ∷ ds) h = absurd h

  prefixed : (o : Operand) (os : List Operand) (ds : List Datum) → AllZip IsArg (o ∷ os) ds → Prefixed o os ds
  prefixed o os [] h = absurd h
  prefixed o os (d ∷ ds) h = (d, h.0, (ds, h.1, refl))

  all_args : (os : List Operand) → AllOf (AllZip IsArg os)
  all_args [] = all_one [] (AllZip IsArg []) tt no_args
  all_args (o ∷ os) =
      all_as (Prefixed o os) (AllZip IsArg (o ∷ os))
      (λ ds h. subst (AllZip IsArg (o ∷ os)) h.2.2 (h.1, h.2.1)) (prefixed o os)
      (all_from (IsArg o) (λ d ds. (rest : List Datum) × AllZip IsArg os rest × (d ∷ rest ≡ ds))
      (all_datum (operand_value s o))
      (λ d. all_from (AllZip IsArg os) (λ rest ds. d ∷ rest ≡ ds) (all_args os)
      (λ rest. all_one (d ∷ rest) (λ ds. d ∷ rest ≡ ds) refl (λ ds e. e))))

  all_terms : (t : SkolemTerm) → AllOf (IsTermUnder s t)
  all_terms t =
      all_as (λ (p : Term). (ds : List Datum) × AllZip IsArg t.args ds
      × (record { function = t.function; args = ds } ≡ p)) (IsTermUnder s t)
      (λ p h. subst (IsTermUnder s t) h.2 (record { function = refl; args = h.1 }))
      (λ p h. (p.args, h.args, (λ i. record { function = sym h.function i; args = p.args })))
      (all_from (AllZip IsArg t.args) (λ (ds : List Datum) (p : Term). record { function = t.function; args = ds } ≡ p)
      (all_args t.args)
      (λ ds. all_one (record { function = t.function; args = ds })
      (λ (p : Term). record { function = t.function; args = ds } ≡ p) refl (λ p e. e)))

  all_targets : (t : Target) → AllOf (IsTargetUnder s t)
  all_targets (plain o) = all_value (operand_value s o)
  all_targets (summed a) = all_none (IsTargetUnder s (summed a)) (λ v h. h)
  all_targets (made t) =
      all_from (IsTermUnder s t) (λ (p : Term) (v : Value). v ≡ Page p) (all_terms t)
      (λ p. all_one (Page p) (λ (v : Value). v ≡ Page p) refl (λ v e. sym e))

  all_labels : (l : LinkLabel) → AllOf (IsLabelUnder s l)
  all_labels (quoted l) = all_one l (λ x. x ≡ l) refl (λ x e. sym e)
  all_labels (label_variable x) = all_text (s x)

  abbrev joint : Value → Label → Value → Joint
  joint u l v = record { from = u; label = l; to = v }

  all_joins : (k : Link) → AllOf (λ (j : Joint). Joins s k j.from j.label j.to)
  all_joins k =
      all_as
      (λ (j : Joint). (u : Value) × IsTargetUnder s k.source u
      × ((l : Label) × IsLabelUnder s k.label l × ((v : Value) × IsTargetUnder s k.target v × (joint u l v ≡ j))))
      (λ (j : Joint). Joins s k j.from j.label j.to)
      (λ j h. subst (λ (x : Joint). Joins s k x.from x.label x.to) h.2.2.2
      (record { from = h.1; by = h.2.1; to = h.2.2.1 }))
      (λ j h. (j.from, h.from, (j.label, h.by, (j.to, h.to, refl))))
      (all_from (IsTargetUnder s k.source) (λ (u : Value) (j : Joint). (l : Label) × IsLabelUnder s k.label l
      × ((v : Value) × IsTargetUnder s k.target v × (joint u l v ≡ j)))
      (all_targets k.source)
      (λ u. all_from (IsLabelUnder s k.label) (λ (l : Label) (j : Joint). (v : Value) × IsTargetUnder s k.target v
      × (joint u l v ≡ j))
      (all_labels k.label)
      (λ l. all_from (IsTargetUnder s k.target) (λ (v : Value) (j : Joint). joint u l v ≡ j) (all_targets k.target)
      (λ v. all_one (joint u l v) (λ j. joint u l v ≡ j) refl (λ j e. e)))))

-- ---- what the rows name

module _ (G : DataGraph) where
  all_under : {X : Type 0} (c : Chain) (P : Assignment → X → Type 0) → ((s : Assignment) → AllOf (P s))
      → AllOf (λ x. SomeRow G c (λ s. P s x))
  all_under c P each =
      all_as (λ x. (row : List Value) × IsRow G c row × P (value_in c.variables row) x) (λ x. SomeRow G c (λ s. P s x))
      (λ x h. record { row = h.0; is_row = h.1; holds = h.2 }) (λ x h. (h.row, h.is_row, h.holds))
      (all_from (IsRow G c) (λ row x. P (value_in c.variables row) x) (all_rows G c)
      (λ row. each (value_in c.variables row)))

  -- ---- what aggregates tell

  abbrev ByRows : Chain → Link → Joint → Type 0
  ByRows c k j = IsRowJoined G c j.from j.label j.to k

  all_by_rows : (c : Chain) (k : Link) → AllOf (ByRows c k)
  all_by_rows c k = all_under c (λ (s : Assignment) (j : Joint). Joins s k j.from j.label j.to) (λ s. all_joins s k)

  abbrev from_to : Value → Label → Value → Joint
  from_to u l v = record { from = u; label = l; to = v }

  -- all to which the link leads from here by the label
  all_ends : (c : Chain) (k : Link) (u : Value) (l : Label) → AllOf (λ (w : Value). IsRowJoined G c u l w k)
  all_ends c k u l =
      all_as (λ (w : Value). (j : Joint) × ByRows c k j × (j ≡ from_to u l w)) (λ (w : Value). IsRowJoined G c u l w k)
      (λ w h. subst (ByRows c k) h.2 h.1) (λ w h. (from_to u l w, h, refl))
      (all_from (ByRows c k) (λ (j : Joint) (w : Value). j ≡ from_to u l w) (all_by_rows c k)
      (λ j. by j (dec_both (dec_same value_cmp value_cmp-total value_cmp-exact j.from u)
      (dec_same bytes_cmp bytes_cmp-total bytes_cmp-exact j.label l))))
    where
      by : (j : Joint) → Dec ((j.from ≡ u) × (j.label ≡ l)) → AllOf (λ (w : Value). j ≡ from_to u l w)
      by j (yes h) = all_one j.to (λ (w : Value). j ≡ from_to u l w)
          (λ i. record { from = h.0 i; label = h.1 i; to = j.to }) (λ w e. ap (λ (x : Joint). x.to) e)
      by j (no n) = all_none (λ (w : Value). j ≡ from_to u l w)
          (λ w e. n (ap (λ (x : Joint). x.from) e, ap (λ (x : Joint). x.label) e))

  dec_empty : (ns : List ℤ) → Dec (ns ≢ [])
  dec_empty [] = no (λ n. n refl)
  dec_empty (n ∷ ns) = yes (λ e. cc)

  dec_word : (n : ℤ) → Dec (IsWord n)
  dec_word n = dec_as (λ h. record { low = h.0; high = h.1 }) (λ h. (h.low, h.high))
      (dec_both (at_most (negsuc (2 ^ 63 - 1)) n) (at_most n (pos (2 ^ 63 - 1))))

  all_told : (a : Aggregate) (parts : List Value) → AllOf (IsTold a parts)
  all_told (count_of x) parts =
      all_one (Data (Int (pos (length parts)))) (IsTold (count_of x) parts) refl (λ v e. sym e)
  all_told (min_of x) parts = all_value (slice_get parts 0)
  all_told (max_of x) parts = all_value (slice_get parts (length parts - 1))
  all_told (sum_of y x) parts = by (dec_both (dec_empty ns) (dec_word (total ns)))
    where
      ns : List ℤ
      ns = flat_map pair_number parts

      by : Dec ((flat_map pair_number parts ≢ []) × IsWord (total (flat_map pair_number parts)))
          → AllOf (IsTold (sum_of y x) parts)
      by (yes h) = all_one (Data (Int (total (flat_map pair_number parts)))) (IsTold (sum_of y x) parts)
          (h.0, h.1, refl) (λ v e. sym e.2)
      by (no n) = all_none (IsTold (sum_of y x) parts) (λ v e. n (e.0, e.1))

  module _ (c : Chain) (k : Link) (a : Aggregate) where
    -- the ascending list of what the aggregate looks at in the rows that give these
    parts_of : (u : Value) (l : Label) → (ps : List Value)
        × ListsExactly value_cmp (λ (w : Value). IsRowJoined G c u l w (part_link a k)) ps
    parts_of u l = all_ascending value_cmp value_cmp-total value_cmp-exact
        (λ (w : Value). IsRowJoined G c u l w (part_link a k)) (all_ends c (part_link a k) u l)

    abbrev Tells : Joint → Joint → Type 0
    Tells p j = (v : Value) × IsTold a (parts_of p.from p.label).0 v × (from_to p.from p.label v ≡ j)

    not_empty : (ps : List Value) (w : Value) → Contains ps w → ps ≢ []
    not_empty ps w h e = Contains-nil w (subst (λ (xs : List Value). Contains xs w) e h)

    told_to : (p : Joint) → ByRows c (part_link a k) p → (v : Value) → IsTold a (parts_of p.from p.label).0 v
        → IsSummed G c p.from p.label v k a
    told_to p h v told =
        let parts = parts_of p.from p.label in
        record {
          parts = parts.0;
          all = parts.1;
          told = record { some = not_empty parts.0 p.to (parts.1.complete p.to h); told = told };
        }

    told_from : (j : Joint) → IsSummed G c j.from j.label j.to k a
        → (p : Joint) × ByRows c (part_link a k) p × Tells p j
    told_from j h =
        let one = first_of h.parts h.told.some in
        let parts = parts_of j.from j.label in
        let same : h.parts ≡ parts.0 = same_list value_cmp-total h.parts parts.0 h.all.ascending parts.1.ascending
        (λ z i. parts.1.complete z (h.all.sound z i)) (λ z i. h.all.complete z (parts.1.sound z i)) in
        (from_to j.from j.label one.0, h.all.sound one.0 one.1, (j.to, subst (λ ps. IsTold a ps j.to) same h.told.told, refl))

    all_summed : AllOf (λ (j : Joint). IsSummed G c j.from j.label j.to k a)
    all_summed =
        all_as (λ (j : Joint). (p : Joint) × ByRows c (part_link a k) p × Tells p j)
        (λ (j : Joint). IsSummed G c j.from j.label j.to k a)
        (λ j h. subst (λ (x : Joint). IsSummed G c x.from x.label x.to k a) h.2.2 (told_to h.0 h.1 h.2.0 h.2.1))
        told_from
        (all_from (ByRows c (part_link a k)) Tells (all_by_rows c (part_link a k))
        (λ p. all_from (IsTold a (parts_of p.from p.label).0) (λ (v : Value) (j : Joint). from_to p.from p.label v ≡ j)
        (all_told a (parts_of p.from p.label).0)
        (λ v. all_one (from_to p.from p.label v) (λ (j : Joint). from_to p.from p.label v ≡ j) refl (λ j e. e))))

  all_sums : (c : Chain) (k : Link) (t : Target) → AllOf (λ (j : Joint). IsSum G c j.from j.label j.to k t)
  all_sums c k (plain o) = all_none (λ (j : Joint). IsSum G c j.from j.label j.to k (plain o)) (λ j h. h)
  all_sums c k (made t) = all_none (λ (j : Joint). IsSum G c j.from j.label j.to k (made t)) (λ j h. h)
  all_sums c k (summed a) = all_summed c k a

  all_joined : (c : Chain) (k : Link) → AllOf (λ (j : Joint). IsJoined G c j.from j.label j.to k)
  all_joined c k = all_either (ByRows c k) (λ (j : Joint). IsSum G c j.from j.label j.to k k.target)
      (all_by_rows c k) (all_sums c k k.target)

  -- ---- what is collected

  abbrev named : Name → Value → Named
  named c v = record { collection = c; value = v }

  all_puts : (c : Chain) (k : Collect) → AllOf (λ (m : Named). IsPut G c m.collection m.value k)
  all_puts c k =
      all_as (λ (m : Named). (v : Value) × SomeRow G c (λ s. IsTargetUnder s k.target v) × (named k.collection v ≡ m))
      (λ (m : Named). IsPut G c m.collection m.value k)
      (λ m h. subst (λ (x : Named). IsPut G c x.collection x.value k) h.2 (refl, h.1))
      (λ m h. (m.value, h.1, (λ i. named (h.0 i) m.value)))
      (all_from (λ (v : Value). SomeRow G c (λ s. IsTargetUnder s k.target v))
      (λ (v : Value) (m : Named). named k.collection v ≡ m)
      (all_under c (λ (s : Assignment) (v : Value). IsTargetUnder s k.target v) (λ s. all_targets s k.target))
      (λ v. all_one (named k.collection v) (λ m. named k.collection v ≡ m) refl (λ m e. e)))

  module _ (q : Scope) where
    pub all_site_terms : AllOf (InSite G q)
    all_site_terms =
        all_some (λ (b : Body) (p : Term). SomeOf (IsNamed G (chain q b) p) (terms_of b))
        (λ b. all_some (λ (t : SkolemTerm) (p : Term). IsNamed G (chain q b) p t)
        (λ t. all_under (chain q b) (λ (s : Assignment) (p : Term). IsTermUnder s t p)
        (λ s. all_terms s t)) (terms_of b))
        q.bodies

    all_linked : AllOf (λ (j : Joint). Linked G q j.from j.label j.to)
    all_linked =
        all_some (λ (b : Body) (j : Joint). SomeOf (IsJoined G (chain q b) j.from j.label j.to) b.links)
        (λ b. all_some (λ (k : Link) (j : Joint). IsJoined G (chain q b) j.from j.label j.to k)
        (λ k. all_joined (chain q b) k) b.links)
        q.bodies

    all_collected_by : AllOf (λ (m : Named). CollectedBy G q m.collection m.value)
    all_collected_by =
        all_some (λ (b : Body) (m : Named). SomeOf (IsPut G (chain q b) m.collection m.value) b.collects)
        (λ b. all_some (λ (k : Collect) (m : Named). IsPut G (chain q b) m.collection m.value k)
        (λ k. all_puts (chain q b) k)
        b.collects)
        q.bodies

    abbrev of_edge : Edge → Joint
    of_edge e = record { from = node e.from; label = e.label; to = e.to }

    edge_joint : (u : Value) (l : Label) (v : Value) → HasEdge G u l v
        → (e : Edge) × Contains G.edges e × (of_edge e ≡ record { from = u; label = l; to = v })
    edge_joint (Data (Node n)) l v h = (record { from = n; label = l; to = v }, h, refl)
    edge_joint (Data (Int i)) l v h = absurd h
    edge_joint (Data (Text s)) l v h = absurd h
    edge_joint (Data (Url s)) l v h = absurd h
    edge_joint (Data (File s)) l v h = absurd h
    edge_joint (Page p) l v h = absurd h

    all_data_edges : AllOf (λ (j : Joint). HasEdge G j.from j.label j.to)
    all_data_edges =
        all_as (λ (j : Joint). (e : Edge) × Contains G.edges e × (of_edge e ≡ j))
        (λ (j : Joint). HasEdge G j.from j.label j.to)
        (λ j h. subst (λ (x : Joint). HasEdge G x.from x.label x.to) h.2 h.1) (λ j h. edge_joint j.from j.label j.to h)
        (all_from (Contains G.edges) (λ (e : Edge) (j : Joint). of_edge e ≡ j) (all_in G.edges)
        (λ e. all_one (of_edge e) (λ j. of_edge e ≡ j) refl (λ j e. e)))

    pub all_edges : AllOf (λ (j : Joint). SiteEdge G q j.from j.label j.to)
    all_edges = all_either (λ (j : Joint). Linked G q j.from j.label j.to)
        (λ (j : Joint). HasEdge G j.from j.label j.to) all_linked all_data_edges

    abbrev of_member : Member → Named
    of_member m = record { collection = m.collection; value = node m.node }

    abbrev IsKnown : Named → Type 0
    IsKnown m = (n : Name) × HasMember G m.collection n × (m.value ≡ node n)

    all_data_members : AllOf IsKnown
    all_data_members =
        all_as (λ (m : Named). (k : Member) × Contains G.members k × (of_member k ≡ m)) IsKnown
        (λ m h. subst IsKnown h.2 (h.0.node, h.1, refl))
        (λ m h. (
          record { collection = m.collection; node = h.0 },
          h.1,
          (λ i. record { collection = m.collection; value = sym h.2 i }),
        ))
        (all_from (Contains G.members) (λ (k : Member) (m : Named). of_member k ≡ m) (all_in G.members)
        (λ k. all_one (of_member k) (λ m. of_member k ≡ m) refl (λ m e. e)))

    pub all_collected : AllOf (λ (m : Named). Collected G q m.collection m.value)
    all_collected = all_either (λ (m : Named). CollectedBy G q m.collection m.value) IsKnown all_collected_by
        all_data_members
