-- Whether a condition holds under an assignment.
use Rattle.std.proofs.Common.{◌≡◌, ◌⊎◌, ◌≤◌, ℕ, zero, suc, ℤ, pos, negsuc, ◌<◌, ◌^◌, ◌-◌, inl, inr, refl, ap}
use Rattle.std.proofs.Common.{subst, ◌∙◌, arith}
use Rattle.std.specs.Prelude.{Contains, Option, Some, None, ◌≤ℤ◌}
use Rattle.std.specs.declared.cmp.Ordering.{Ordering}
use Rattle.std.specs.declared.cmp.Ordering.TheVariants.{Less, Equal, Greater}
use Rattle.std.specs.Ordering.{int_cmp}
use Rattle.std.specs.Fmt.{signed_decimal}
use Rattle.std.proofs.Math.Facts.{leb_yes}
use Rattle.std.proofs.lemmas.Int.{ints, by_lt_z}
use Rattle.sd_value.specs.Names.{Name}
use Rattle.sd_value.specs.Order.{bytes_cmp, value_cmp}
use Rattle.sd_value.specs.OrderLaws.{bytes_cmp-total, bytes_cmp-exact, value_cmp-total, value_cmp-exact}
use Rattle.sd_value.specs.declared.Datum.TheVariants.{Int, Text, Url, File, Node}
use Rattle.sd_value.specs.declared.Value.{Value}
use Rattle.sd_value.specs.declared.Value.TheVariants.{Data, Page}
use Rattle.value_texts.specs.Texts.{text_of}
use Rattle.graph_spec.specs.DataGraph.{DataGraph, node, text, HasEdge, HasMember}
use Rattle.graph_spec.specs.Orders.{member_cmp, member_cmp-total, member_cmp-exact}
use Rattle.query_spec.specs.declared.Op.{Op}
use Rattle.query_spec.specs.declared.Op.TheVariants.{Eq, Ne, Lt, Le, Gt, Ge, Texts}
use Rattle.query_spec.specs.declared.Test.{Test}
use Rattle.query_spec.specs.declared.Test.TheVariants.{IsInt, IsText, IsUrl, IsFile, IsNode}
use Rattle.query_spec.specs.Query.{arc_variable, expression, Condition, member, path, compare, one_of, kind, negation}
use Rattle.query_spec.specs.Holds.{Assignment, operand_value, AreTwins, IsTwinOf, IsEqual, StandIn, Compares, HasKind}
use Rattle.query_spec.specs.Holds.{Holds}
use Rattle.site_graphs.proofs.Decide.{Dec, yes, no, dec_as, dec_not, dec_both, dec_either, dec_some, dec_same, dec_in}
use Rattle.site_graphs.proofs.Decide.{dec_below}
use Rattle.site_graphs.proofs.Texts.{dec_texts}
use Rattle.site_graphs.proofs.Reaching.{Reaches, dec_edge, dec_reaches}

same_name : (a b : Name) → Dec (a ≡ b)
same_name = dec_same bytes_cmp bytes_cmp-total bytes_cmp-exact

same_value : (a b : Value) → Dec (a ≡ b)
same_value = dec_same value_cmp value_cmp-total value_cmp-exact

same_order : (a b : Ordering) → Dec (a ≡ b)
same_order Less Less = yes refl
same_order Less Equal = no (λ e. cc)
same_order Less Greater = no (λ e. cc)
same_order Equal Less = no (λ e. cc)
same_order Equal Equal = yes refl
same_order Equal Greater = no (λ e. cc)
same_order Greater Less = no (λ e. cc)
same_order Greater Equal = no (λ e. cc)
same_order Greater Greater = yes refl

-- ---- numbers and the texts that spell them

pub at_most : (a b : ℤ) → Dec (a ≤ℤ b)
at_most a b = by_lt_z b a (λ lt. no (λ le. omega (arith, ints, lt, le))) (λ le. yes le)

from_two : (version : ℕ) → Dec (2 ≤ version)
from_two zero = no (λ l. omega (arith, l))
from_two (suc zero) = no (λ l. omega (arith, l))
from_two (suc (suc n)) = yes (omega arith)

dec_twins : (version : ℕ) (n : ℤ) (s : Name) → Dec (AreTwins version n s)
dec_twins version n s =
    dec_as (λ h. (h.0, h.1.0, h.1.1.0, h.1.1.1)) (λ h. (h.0, (h.1, (h.2, h.3))))
    (dec_both (from_two version)
    (dec_both (at_most (negsuc (2 ^ 63 - 1)) n)
    (dec_both (at_most n (pos (2 ^ 63 - 1))) (same_name s (signed_decimal n)))))

-- how far a number is from 0, so far as twins go
abbrev Spells : ℕ → Name → (ℤ → Type 0) → ℤ → Type 0
Spells version t Q n = AreTwins version n t × Q n

low : (version k : ℕ) (t : Name) → AreTwins version (negsuc k) t → k < 2 ^ 63
low version k t h = let l = leb_yes h.1.le in omega (arith, l)

high : (version k : ℕ) (t : Name) → AreTwins version (pos k) t → k < 2 ^ 63
high version k t h = let l = leb_yes h.2.le in omega (arith, l)

-- a number that the text spells has Q
dec_spelled : (version : ℕ) (t : Name) (Q : ℤ → Type 0) → ((n : ℤ) → Dec (Q n))
    → Dec ((n : ℤ) × AreTwins version n t × Q n)
dec_spelled version t Q each =
    dec_as to (λ h. from h.0 h.1 h.2)
    (dec_either (dec_below (λ k. Spells version t Q (pos k))
    (λ k. dec_both (dec_twins version (pos k) t) (each (pos k))) (2 ^ 63))
    (dec_below (λ k. Spells version t Q (negsuc k)) (λ k. dec_both (dec_twins version (negsuc k) t) (each (negsuc k)))
    (2 ^ 63)))
  where
    to : ((k : ℕ) × (k < 2 ^ 63) × Spells version t Q (pos k))
        ⊎ ((k : ℕ) × (k < 2 ^ 63) × Spells version t Q (negsuc k))
        → (n : ℤ) × AreTwins version n t × Q n
    to (inl h) = (pos h.0, h.2.0, h.2.1)
    to (inr h) = (negsuc h.0, h.2.0, h.2.1)

    from : (n : ℤ) → AreTwins version n t → Q n
        → ((k : ℕ) × (k < 2 ^ 63) × Spells version t Q (pos k))
        ⊎ ((k : ℕ) × (k < 2 ^ 63) × Spells version t Q (negsuc k))
    from (pos k) a q = inl (k, high version k t a, (a, q))
    from (negsuc k) a q = inr (k, low version k t a, (a, q))

dec_twin_of : (version : ℕ) (u v : Value) → Dec (IsTwinOf version u v)
dec_twin_of version (Data (Int n)) (Data (Text s)) = dec_twins version n s
dec_twin_of version (Data (Text s)) (Data (Int n)) = dec_twins version n s
dec_twin_of version u v = no (λ h. h)

dec_equal : (version : ℕ) (u v : Value) → Dec (IsEqual version u v)
dec_equal version u v = dec_either (same_value u v) (dec_twin_of version u v)

dec_stand : (version : ℕ) (o : Ordering) (u v : Value) → Dec (StandIn version o u v)
dec_stand version o (Data (Int m)) (Data (Int n)) = same_order (int_cmp m n) o
dec_stand version o (Data (Text s)) (Data (Text t)) = same_order (bytes_cmp s t) o
dec_stand version o (Data (Int m)) (Data (Text t)) =
    dec_spelled version t (λ n. int_cmp m n ≡ o) (λ n. same_order (int_cmp m n) o)
dec_stand version o (Data (Text s)) (Data (Int n)) =
    dec_spelled version s (λ m. int_cmp m n ≡ o) (λ m. same_order (int_cmp m n) o)
dec_stand version o u v = no (λ h. h)

dec_compares : (version : ℕ) (op : Op) (u v : Value) → Dec (Compares version op u v)
dec_compares version Eq u v = dec_equal version u v
dec_compares version Ne u v = dec_not (dec_equal version u v)
dec_compares version Lt u v = dec_stand version Less u v
dec_compares version Le u v = dec_either (dec_stand version Less u v) (dec_stand version Equal u v)
dec_compares version Gt u v = dec_stand version Greater u v
dec_compares version Ge u v = dec_either (dec_stand version Greater u v) (dec_stand version Equal u v)
dec_compares version (Texts test) u v = dec_texts test (text_of u) (text_of v)

-- ---- values

-- the value is there, and has P
dec_value : (o : Option Value) (P : Value → Type 0) → ((a : Value) → Dec (P a)) → Dec ((a : Value) × (o ≡ Some a) × P a)
dec_value None P each = no (λ h. let e = h.1 in cc)
dec_value (Some a) P each = by (each a)
  where
    inside : (b : Value) → Some a ≡ Some b → b ≡ a
    inside b e = cc

    by : Dec (P a) → Dec ((b : Value) × (Some a ≡ Some b) × P b)
    by (yes p) = yes (a, refl, p)
    by (no n) = no (λ h. n (subst P (inside h.0 h.1) h.2))

-- the value is a node whose name has Q
dec_node : (Q : Name → Type 0) → ((n : Name) → Dec (Q n)) → (a : Value) → Dec ((n : Name) × (a ≡ node n) × Q n)
dec_node Q each (Data (Node m)) = by (each m)
  where
    inside : (n : Name) → ◌≡◌ {A = Value} (Data (Node m)) (Data (Node n)) → n ≡ m
    inside n e = cc

    by : Dec (Q m) → Dec ((n : Name) × (◌≡◌ {A = Value} (Data (Node m)) (Data (Node n))) × Q n)
    by (yes q) = yes (m, refl, q)
    by (no n) = no (λ h. n (subst Q (inside h.0 h.1) h.2))
dec_node Q each (Data (Int i)) = no (λ h. let e = h.1 in cc)
dec_node Q each (Data (Text s)) = no (λ h. let e = h.1 in cc)
dec_node Q each (Data (Url s)) = no (λ h. let e = h.1 in cc)
dec_node Q each (Data (File s)) = no (λ h. let e = h.1 in cc)
dec_node Q each (Page p) = no (λ h. let e = h.1 in cc)

-- the value is a text that has Q
dec_text : (Q : Name → Type 0) → ((n : Name) → Dec (Q n)) → (a : Value) → Dec ((n : Name) × (a ≡ text n) × Q n)
dec_text Q each (Data (Text m)) = by (each m)
  where
    inside : (n : Name) → ◌≡◌ {A = Value} (Data (Text m)) (Data (Text n)) → n ≡ m
    inside n e = cc

    by : Dec (Q m) → Dec ((n : Name) × (◌≡◌ {A = Value} (Data (Text m)) (Data (Text n))) × Q n)
    by (yes q) = yes (m, refl, q)
    by (no n) = no (λ h. n (subst Q (inside h.0 h.1) h.2))
dec_text Q each (Data (Int i)) = no (λ h. let e = h.1 in cc)
dec_text Q each (Data (Node s)) = no (λ h. let e = h.1 in cc)
dec_text Q each (Data (Url s)) = no (λ h. let e = h.1 in cc)
dec_text Q each (Data (File s)) = no (λ h. let e = h.1 in cc)
dec_text Q each (Page p) = no (λ h. let e = h.1 in cc)

dec_kind : (test : Test) (a : Value) → Dec (HasKind test a)
dec_kind IsInt (Data (Int n)) = yes (n, refl)
dec_kind IsText (Data (Text s)) = yes (s, refl)
dec_kind IsUrl (Data (Url s)) = yes (s, refl)
dec_kind IsFile (Data (File s)) = yes (s, refl)
dec_kind IsNode (Data (Node s)) = yes (s, refl)
dec_kind test a = no (λ h. let e = h.1 in cc)

-- ---- conditions

module _ (G : DataGraph) (version : ℕ) (s : Assignment) where
  dec_member : (c n : Name) → Dec (HasMember G c n)
  dec_member c n = dec_in member_cmp member_cmp-total member_cmp-exact G.members (record { collection = c; node = n })

  pub dec_holds : (k : Condition) → Dec (Holds G version k s)
  dec_holds (member c x) =
      dec_as
      (λ h. (h.2.0, h.1 ∙ ap (λ (a : Value). Some a) h.2.1, h.2.2))
      (λ h. (node h.0, h.1, (h.0, refl, h.2)))
      (dec_value (s x) (λ a. (n : Name) × (a ≡ node n) × HasMember G c n) (dec_node (HasMember G c) (dec_member c)))
  dec_holds (path t (expression r) u) =
      dec_as
      (λ h. (h.0, h.2.0, h.1, h.2.1, h.2.2.0, h.2.2.1, h.2.2.2))
      (λ h. (h.0, h.2, (h.1, h.3, (h.4, h.5, h.6))))
      (dec_value (operand_value s t) (λ a. (b : Value) × (operand_value s u ≡ Some b) × Reaches G r a b)
      (λ a. dec_value (operand_value s u) (Reaches G r a) (dec_reaches G r a)))
  dec_holds (path t (arc_variable x) u) =
      dec_as
      (λ h. (h.0, h.2.0, h.1, h.2.1, h.2.2.2.0, h.2.2.1 ∙ ap (λ (a : Value). Some a) h.2.2.2.1, h.2.2.2.2))
      (λ h. (h.0, h.2, (h.1, h.3, (text h.4, h.5, (h.4, refl, h.6)))))
      (dec_value (operand_value s t)
      (λ a. (b : Value) × (operand_value s u ≡ Some b)
      × ((c : Value) × (s x ≡ Some c) × ((l : Name) × (c ≡ text l) × HasEdge G a l b)))
      (λ a. dec_value (operand_value s u)
      (λ b. (c : Value) × (s x ≡ Some c) × ((l : Name) × (c ≡ text l) × HasEdge G a l b))
      (λ b. dec_value (s x) (λ c. (l : Name) × (c ≡ text l) × HasEdge G a l b)
      (dec_text (λ l. HasEdge G a l b) (λ l. dec_edge G a l b)))))
  dec_holds (compare t op u) =
      dec_as
      (λ h. (h.0, h.2.0, h.1, h.2.1, h.2.2))
      (λ h. (h.0, h.2, (h.1, h.3, h.4)))
      (dec_value (operand_value s t) (λ a. (b : Value) × (operand_value s u ≡ Some b) × Compares version op a b)
      (λ a. dec_value (operand_value s u) (Compares version op a) (dec_compares version op a)))
  dec_holds (one_of t values) =
      dec_as
      (λ h. (h.0, h.1, h.2.0, h.2.1, h.2.2))
      (λ h. (h.0, h.1, (h.2, h.3, h.4)))
      (dec_value (operand_value s t) (λ a. (k : Value) × Contains values k × IsEqual version a k)
      (λ a. dec_some (IsEqual version a) (dec_equal version a) values))
  dec_holds (kind test x) = dec_value (s x) (HasKind test) (dec_kind test)
  dec_holds (negation c) = dec_not (dec_holds c)
