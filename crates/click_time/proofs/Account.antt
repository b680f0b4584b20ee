-- What is asked once, and what the questions of a page have caused so far.
use Rattle.std.proofs.Common.{◌≡◌, ◌+◌, ◌≤◌, ℕ, List, [], ◌++◌, length, map, inl, inr, ⊎_elim, sym, ap, ◌∙◌, refl, subst, arith, length-append}
use Rattle.std.specs.Prelude.{Contains, IfSome, Option, Some, None}
use Rattle.std.specs.Map.{keys_of}
use Rattle.std.specs.Option.{IsSomeAnd}
use Rattle.std.specs.declared.vec.Vec.{Vec}
use Rattle.std.specs.declared.alloc.Global.{Global}
use Rattle.std.proofs.lemmas.List.Elements.{Contains-append_left, Contains-append_right, Contains-append_cases}
use Rattle.sd_value.specs.declared.Term.{Term}
use Rattle.sd_value.specs.declared.Value.{Value}
use Rattle.sd_value.specs.Members.{Contains-nil, Contains-map, Contains-mapped}
use Rattle.graph_spec.specs.DataGraph.{DataGraph, Name}
use Rattle.tmpl.specs.Body.{TemplateFile}
use Rattle.page_spec.specs.Question.{Question, in_site, out, collected, template, MayKeep}
use Rattle.site_spec.specs.Site.{Scope}
use Rattle.weight_spec.specs.Site.{site_of}
use Rattle.demand_spec.specs.Reads.{MayAsk, KeepsOnly}
use Rattle.weight_spec.specs.Charges.{IsCause, IsAtMostWeight}
use Rattle.weight_spec.specs.CountsAtMost.{CountsAtMost}
use Rattle.weight_spec.proofs.Handing.{distinct_append}
use Rattle.weight_spec.proofs.Causes.{one_cause, charged}
use Rattle.click_time.specs.Known.{Puts, KeepsKey, AsksOnce, knew, asked}
use Rattle.click_time.specs.Fixed.{Account, all_asked}

-- ---- asking once

pub keeps_put : {K X : Type 0} (key : K) (t : X) (old new : List (K × X)) → Puts key t old new → KeepsKey key (keys_of old) (keys_of new)
keeps_put {K} {X} key t old new p = record {
  stays = p.keys_stay;
  has = p.has_key;
  only = λ k h. let r = Contains-map (λ (e : K × X). e.0) new k h in
      ⊎_elim (λ o. inl (subst (Contains (keys_of old)) r.1 (Contains-mapped (λ (e : K × X). e.0) old r.0 o))) (λ e. inr (sym r.1 ∙ ap (λ (x : K × X). x.0) e)) (p.new_one r.0 r.2);
}

pub keeps_again : {K : Type 0} (key : K) (a b c : List K) → KeepsKey key a b → KeepsKey key b c → KeepsKey key a c
keeps_again key a b c h g = record {
  stays = λ k i. g.stays k (h.stays k i);
  has = g.has;
  only = λ k i. ⊎_elim (h.only k) inr (g.only k i);
}

pub asks_as : {K : Type 0} (key : K) (R S : Type 0) (old new : List K) (a b : ℕ) → (R → S) → AsksOnce key R old new a b → AsksOnce key S old new a b
asks_as key R S old new a b to (knew e c) = knew e c
asks_as key R S old new a b to (asked fresh keeps r) = asked fresh keeps (to r)

lift_map : {K L : Type 0} (f : K → L) (key : K) (R : Type 0) (old new : List K) (a b : ℕ) → ((k : K) → f k ≡ f key → k ≡ key) → AsksOnce key R old new a b → AsksOnce (f key) R (map f old) (map f new) a b
lift_map f key R old new a b apart (knew e c) = knew (ap (map f) e) c
lift_map f key R old new a b apart (asked fresh keeps r) =
    asked
    (λ h. let x = Contains-map f old (f key) h in fresh (subst (Contains old) (apart x.0 x.1) x.2))
    record {
      stays = λ y h. let x = Contains-map f old y h in subst (Contains (map f new)) x.1 (Contains-mapped f new x.0 (keeps.stays x.0 x.2));
      has = Contains-mapped f new key keeps.has;
      only = λ y h. let x = Contains-map f new y h in ⊎_elim (λ o. inl (subst (Contains (map f old)) x.1 (Contains-mapped f old x.0 o))) (λ e. inr (sym x.1 ∙ ap f e)) (keeps.only x.0 x.2);
    }
    r

lift_left : {K : Type 0} (key : K) (R : Type 0) (old new others : List K) (a b : ℕ) → (Contains others key → ⊥) → AsksOnce key R old new a b → AsksOnce key R (old ++ others) (new ++ others) a b
lift_left key R old new others a b apart (knew e c) = knew (ap (λ l. l ++ others) e) c
lift_left key R old new others a b apart (asked fresh keeps r) =
    asked
    (λ h. ⊎_elim fresh apart (Contains-append_cases old others key h))
    record {
      stays = λ k h. ⊎_elim (λ o. Contains-append_left new others k (keeps.stays k o)) (λ o. Contains-append_right new others k o) (Contains-append_cases old others k h);
      has = Contains-append_left new others key keeps.has;
      only = λ k h. ⊎_elim (λ n. ⊎_elim (λ o. inl (Contains-append_left old others k o)) inr (keeps.only k n)) (λ o. inl (Contains-append_right old others k o)) (Contains-append_cases new others k h);
    }
    r

lift_right : {K : Type 0} (key : K) (R : Type 0) (old new others : List K) (a b : ℕ) → (Contains others key → ⊥) → AsksOnce key R old new a b → AsksOnce key R (others ++ old) (others ++ new) a b
lift_right key R old new others a b apart (knew e c) = knew (ap (λ l. others ++ l) e) c
lift_right key R old new others a b apart (asked fresh keeps r) =
    asked
    (λ h. ⊎_elim apart fresh (Contains-append_cases others old key h))
    record {
      stays = λ k h. ⊎_elim (λ o. Contains-append_left others new k o) (λ o. Contains-append_right others new k (keeps.stays k o)) (Contains-append_cases others old k h);
      has = Contains-append_right others new key keeps.has;
      only = λ k h. ⊎_elim (λ o. inl (Contains-append_left others old k o)) (λ n. ⊎_elim (λ o. inl (Contains-append_right others old k o)) inr (keeps.only k n)) (Contains-append_cases others new k h);
    }
    r

not_mapped : {K L : Type 0} (f : K → L) (ks : List K) (y : L) → ((k : K) → f k ≡ y → ⊥) → Contains (map f ks) y → ⊥
not_mapped f ks y never h = let x = Contains-map f ks y h in never x.0 x.1

neither : {K : Type 0} (xs ys : List K) (k : K) → (Contains xs k → ⊥) → (Contains ys k → ⊥) → Contains (xs ++ ys) k → ⊥
neither xs ys k h g i = ⊎_elim h g (Contains-append_cases xs ys k i)

-- the four kinds of questions, as they stand one after another

abbrev asks_out : Value × Name → Question
asks_out k = out k.0 k.1

same_term : (t p : Term) → in_site t ≡ in_site p → t ≡ p
same_term t p e = cc

same_end : (k l : Value × Name) → out k.0 k.1 ≡ out l.0 l.1 → k ≡ l
same_end k l e = let p : k.0 ≡ l.0 = cc in let r : k.1 ≡ l.1 = cc in λ i. (p i, r i)

same_name : (c d : Name) → collected c ≡ collected d → c ≡ d
same_name c d e = cc

same_value : (u v : Value) → template u ≡ template v → u ≡ v
same_value u v e = cc

pub term_asked : (t : Term) (R : Type 0) (old new : List Term) (es : List (Value × Name)) (cs : List Name) (vs : List Value) (a b : ℕ) → AsksOnce t R old new a b → AsksOnce (in_site t) R (all_asked old es cs vs) (all_asked new es cs vs) a b
term_asked t R old new es cs vs a b h =
    lift_left (in_site t) R (map in_site old ++ map asks_out es) (map in_site new ++ map asks_out es) (map collected cs ++ map template vs) a b
    (neither (map collected cs) (map template vs) (in_site t) (not_mapped collected cs (in_site t) (λ c e. cc)) (not_mapped template vs (in_site t) (λ v e. cc)))
    (lift_left (in_site t) R (map in_site old) (map in_site new) (map asks_out es) a b (not_mapped asks_out es (in_site t) (λ k e. cc))
    (lift_map in_site t R old new a b (λ k e. same_term k t e) h))

pub end_asked : (v : Value) (l : Name) (R : Type 0) (ts : List Term) (old new : List (Value × Name)) (cs : List Name) (vs : List Value) (a b : ℕ) → AsksOnce (v, l) R old new a b → AsksOnce (out v l) R (all_asked ts old cs vs) (all_asked ts new cs vs) a b
end_asked v l R ts old new cs vs a b h =
    lift_left (out v l) R (map in_site ts ++ map asks_out old) (map in_site ts ++ map asks_out new) (map collected cs ++ map template vs) a b
    (neither (map collected cs) (map template vs) (out v l) (not_mapped collected cs (out v l) (λ c e. cc)) (not_mapped template vs (out v l) (λ w e. cc)))
    (lift_right (out v l) R (map asks_out old) (map asks_out new) (map in_site ts) a b (not_mapped in_site ts (out v l) (λ k e. cc))
    (lift_map asks_out (v, l) R old new a b (λ k e. same_end k (v, l) e) h))

pub name_asked : (c : Name) (R : Type 0) (ts : List Term) (es : List (Value × Name)) (old new : List Name) (vs : List Value) (a b : ℕ) → AsksOnce c R old new a b → AsksOnce (collected c) R (all_asked ts es old vs) (all_asked ts es new vs) a b
name_asked c R ts es old new vs a b h =
    lift_right (collected c) R (map collected old ++ map template vs) (map collected new ++ map template vs) (map in_site ts ++ map asks_out es) a b
    (neither (map in_site ts) (map asks_out es) (collected c) (not_mapped in_site ts (collected c) (λ t e. cc)) (not_mapped asks_out es (collected c) (λ k e. cc)))
    (lift_left (collected c) R (map collected old) (map collected new) (map template vs) a b (not_mapped template vs (collected c) (λ v e. cc))
    (lift_map collected c R old new a b (λ k e. same_name k c e) h))

pub value_asked : (v : Value) (R : Type 0) (ts : List Term) (es : List (Value × Name)) (cs : List Name) (old new : List Value) (a b : ℕ) → AsksOnce v R old new a b → AsksOnce (template v) R (all_asked ts es cs old) (all_asked ts es cs new) a b
value_asked v R ts es cs old new a b h =
    lift_right (template v) R (map collected cs ++ map template old) (map collected cs ++ map template new) (map in_site ts ++ map asks_out es) a b
    (neither (map in_site ts) (map asks_out es) (template v) (not_mapped in_site ts (template v) (λ t e. cc)) (not_mapped asks_out es (template v) (λ k e. cc)))
    (lift_right (template v) R (map template old) (map template new) (map collected cs) a b (not_mapped collected cs (template v) (λ c e. cc))
    (lift_map template v R old new a b (λ k e. same_value k v e) h))

pub may_keep : (q : Question) (R : Type 0) (old new : List Question) (a b : ℕ) → AsksOnce q R old new a b → MayKeep q old new
may_keep q R old new a b (knew e c) = record { stays = λ r h. subst (λ l. Contains l r) (sym e) h; new = λ r h. inl (subst (λ l. Contains l r) e h) }
may_keep q R old new a b (asked fresh keeps r) = record { stays = keeps.stays; new = keeps.only }

-- ---- the account

module _ (G : DataGraph) (q : Scope) (f : TemplateFile) where
  pub account_none : (n : ℕ) → Account G q f [] n n
  account_none n = record { charges = []; distinct = tt; caused = λ x h. absurd (Contains-nil x h); within = omega arith }

  pub account_more : (x : Question) (old new : List Question) (start a b : ℕ) → Account G q f old start a → AsksOnce x (CountsAtMost (IsCause G q f x) a b) old new a b → Account G q f new start b
  account_more x old new start a b acc (knew e c) = subst (λ l. Account G q f l start b) (sym e) (subst (Account G q f old start) (sym c) acc)
  account_more x old new start a b acc (asked fresh keeps h) = record {
    charges = acc.charges ++ h.things;
    distinct =
        distinct_append acc.charges h.things acc.distinct h.distinct
        (λ y i j. let (z, among, cause) = acc.caused y i in fresh (subst (Contains old) (one_cause G q f y z x cause (h.each y j)) among));
    caused =
        λ y i. ⊎_elim (λ j. let (z, among, cause) = acc.caused y j in (z, keeps.stays z among, cause)) (λ j. (x, keeps.has, h.each y j)) (Contains-append_cases acc.charges h.things y i);
    within = let m = acc.within in let n = h.high in omega (arith, length-append acc.charges h.things, m, n);
  }

  pub account_weight : (p : Term) (kept : List Question) (start now : ℕ) → Account G q f kept start now → KeepsOnly (MayAsk (site_of G q) f p) [] kept → (n : ℕ) × IsAtMostWeight G q f p n × (now ≤ start + n)
  account_weight p kept start now acc only =
      (length acc.charges, (acc.charges, acc.distinct, (λ x h. let (z, among, cause) = acc.caused x h in ⊎_elim (λ none. absurd (Contains-nil z none)) (λ may. charged G q f p z x may cause) (only.only z among)), omega arith), acc.within)

-- ---- what is told

pub entries_put : {K X : Type 0} (Q : K × X → Type 0) (key : K) (t : X) (old new : List (K × X)) → ((e : K × X) → Contains old e → Q e) → Q (key, t) → Puts key t old new → (e : K × X) → Contains new e → Q e
entries_put Q key t old new all q p e h = ⊎_elim (all e) (λ (is : e ≡ (key, t)). subst Q (sym is) q) (p.new_one e h)

pub put_at : {K X : Type 0} (key k : K) (t : X) (old new : List (K × X)) → k ≡ key → Puts k t old new → Puts key t old new
put_at key k t old new e p = subst (λ z. Puts z t old new) e p

pub unchanged_put : {K X : Type 0} (key : K) (t : X) (old mid new : List (K × X)) → new ≡ mid → Puts key t old mid → Puts key t old new
unchanged_put key t old mid new e p = subst (Puts key t old) (sym e) p

pub asks_put : {K X : Type 0} (key : K) (t : X) (R : Type 0) (old new : List (K × X)) (a b : ℕ) → (Contains (keys_of old) key → ⊥) → Puts key t old new → R → AsksOnce key R (keys_of old) (keys_of new) a b
asks_put key t R old new a b fresh p r = asked fresh (keeps_put key t old new p) r

pub asks_twice : {K X : Type 0} (key : K) (t u : X) (R : Type 0) (old mid new : List (K × X)) (a b : ℕ) → (Contains (keys_of old) key → ⊥) → Puts key t old mid → Puts key u mid new → R → AsksOnce key R (keys_of old) (keys_of new) a b
asks_twice key t u R old mid new a b fresh p q r = asked fresh (keeps_again key (keys_of old) (keys_of mid) (keys_of new) (keeps_put key t old mid p) (keeps_put key u mid new q)) r

pub asks_none : {K X : Type 0} (key : K) (R : Type 0) (old new : List (K × X)) (a : ℕ) → new ≡ old → AsksOnce key R (keys_of old) (keys_of new) a a
asks_none key R old new a e = knew (ap keys_of e) refl

pub recalled_true : (P : List Value → Type 0) (o : Option (Vec Value Global)) (items : List Value) → IfSome o (λ vs. P vs.items) → IsSomeAnd o (λ kept. items ≡ kept.items) → P items
recalled_true P None items h s = absurd s
recalled_true P (Some kept) items h s = subst P (sym s) h
