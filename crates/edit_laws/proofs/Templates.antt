-- What a template reads in two sites: its expressions, by their labels and collections.
use Rattle.std.specs.Prelude.{◌≡◌, Bool, true, false, ◌||◌, List, [], ◌∷◌, ◌++◌, Contains}
use Rattle.std.specs.List.{flat_map, list_any}
use Rattle.std.proofs.Common.{refl, sym, ◌∙◌, subst, inl, inr}
use Rattle.std.proofs.lemmas.List.Elements.{Contains-append_left, Contains-append_right}
use Rattle.sd_value.specs.declared.Value.{Value}
use Rattle.sd_value.specs.Members.{Contains-nil, Contains-cons_cases, Contains-here, Contains-there, Contains-flat_mapped}
use Rattle.sd_value.specs.Names.{Word}
use Rattle.graph_spec.specs.DataGraph.{Name}
use Rattle.tmpl.specs.declared.WordRoot.{WordRoot}
use Rattle.tmpl.specs.declared.WordRoot.TheVariants.{Here, Loop, Collection}
use Rattle.tmpl.specs.Body.{Body}
use Rattle.tmpl.specs.Expressions.{Use, uses}
use Rattle.page_spec.specs.Site.{Site, Reaches, Env, Starts}
use Rattle.page_spec.proofs.Alike.{UseTo}
use Rattle.edit_spec.specs.Footprint.{labels_here, labels_beyond, collections_at, own_labels, other_labels, named_collections}

-- what the template reads of the first site is in the second one
pub record ReadsTo (s r : Site) (n : Value) (t : Body) : Type 0 where
  pub own : (l : Name) → Contains (own_labels t) l → (v : Value) → s.edge n l v → r.edge n l v
  pub other : (l : Name) → Contains (other_labels t) l → (u v : Value) → s.edge u l v → r.edge u l v
  pub named : (c : Name) → Contains (named_collections t) c → (v : Value) → s.collected c v → r.collected c v

module _ (s r : Site) where
  reaches_to : (word : Word) → ((l : Name) → Contains word l → (u v : Value) → s.edge u l v → r.edge u l v)
      → (u v : Value) → Reaches s u word v → Reaches r u word v
  reaches_to [] to u v h = h
  reaches_to (l ∷ rest) to u v (m, step, h) =
      (m, to l (Contains-here l rest) u m step, reaches_to rest (λ k c. to k (Contains-there l rest k c)) m v h)

  range_to : (n : Value) (root : WordRoot) (word : Word)
      → ((l : Name) → Contains (labels_here root word) l → (v : Value) → s.edge n l v → r.edge n l v)
      → ((l : Name) → Contains (labels_beyond root word) l → (u v : Value) → s.edge u l v → r.edge u l v)
      → ((c : Name) → Contains (collections_at root) c → (v : Value) → s.collected c v → r.collected c v)
      → (e : Env) → e.here ≡ n → (u v : Value) → Starts s e root u → Reaches s u word v → Starts r e root u
      × Reaches r u word v
  range_to n Here [] own other named e at u v st h = (st, h)
  range_to n Here (l ∷ rest) own other named e at u v st (m, step, h) =
      let is_n : u ≡ n = sym st ∙ at in (
        st,
        (
          m,
          subst (λ (z : Value). r.edge z l m) (sym is_n)
              (own l (Contains-here l []) m (subst (λ (z : Value). s.edge z l m) is_n step)),
          reaches_to rest other m v h,
        ),
      )
  range_to n (Loop k) word own other named e at u v st h = (st, reaches_to word other u v h)
  range_to n (Collection c) word own other named e at u v st h =
      (named c (Contains-here c []) u st, reaches_to word other u v h)

  pub use_to : (n : Value) (t : Body) → ReadsTo s r n t → (x : Use) → Contains (uses t) x → UseTo s r n x
  use_to n t reads x c = record {
    range = λ e at v (u, st, h).
        (let both = range_to n x.expr.root x.expr.word
        (λ l d. reads.own l (Contains-flat_mapped (λ (y : Use). labels_here y.expr.root y.expr.word) (uses t) x l c d))
        (λ l d. reads.other l
        (Contains-flat_mapped (λ (y : Use). labels_beyond y.expr.root y.expr.word ++ flat_map
        (λ (word : Word). word) y.onward) (uses t) x l c
        (Contains-append_left (labels_beyond x.expr.root x.expr.word) (flat_map (λ (word : Word). word) x.onward) l
        d)))
        (λ name d. reads.named name (Contains-flat_mapped (λ (y : Use). collections_at y.expr.root) (uses t) x name c
        d))
        e at u v st h in
        (u, both.0, both.1));
    onward = λ word d. reaches_to word (λ l k. reads.other l
        (Contains-flat_mapped (λ (y : Use). labels_beyond y.expr.root y.expr.word ++ flat_map (λ (w : Word). w)
        y.onward) (uses t) x l c
        (Contains-append_right (labels_beyond x.expr.root x.expr.word) (flat_map (λ (w : Word). w) x.onward) l
        (Contains-flat_mapped (λ (w : Word). w) x.onward word l d k))));
  }

or_false : (a b : Bool) → (a || b) ≡ false → (a ≡ false) × (b ≡ false)
or_false true b e = absurd cc
or_false false b e = (refl, e)

pub none_embeds : (xs : List Use) → list_any (λ x. x.embeds) xs ≡ false → (x : Use) → Contains xs x → x.embeds ≡ false
none_embeds [] e x c = absurd (Contains-nil x c)
none_embeds (y ∷ ys) e x c =
    let parts = or_false y.embeds (list_any (λ z. z.embeds) ys) e in
    elim (Contains-cons_cases y ys x c) [
      | inl is ↦ subst (λ (z : Use). z.embeds ≡ false) is parts.0
      | inr d ↦
          none_embeds ys parts.1 x d
    ]
