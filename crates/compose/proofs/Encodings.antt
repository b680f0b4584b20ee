-- Two values have two encodings.
use Rattle.std.proofs.Common.{◌≡◌, ℕ, Bool, true, false, List, [], ◌∷◌, ◌++◌, sym, ap, ◌∙◌, refl, subst, append_assoc}
use Rattle.std.specs.Prelude.{◌==◌, if◌then◌else◌, codes}
use Rattle.std.proofs.lemmas.Bool.Decides.{Decides-eqb}
use Rattle.sd_value.specs.Names.{Name}
use Rattle.sd_value.specs.declared.Datum.{Datum}
use Rattle.sd_value.specs.declared.Datum.TheVariants.{Int, Text, Url, File, Node}
use Rattle.sd_value.specs.declared.Term.{Term}
use Rattle.sd_value.specs.declared.Value.{Value}
use Rattle.sd_value.specs.declared.Value.TheVariants.{Data, Page}
use Rattle.page_spec.specs.Show.{address, arguments}
use Rattle.page_spec.specs.Address.{IsName, IsAddressable, is_letter}
use Rattle.page_spec.proofs.Addresses.{address_injective}
use Rattle.compose_spec.specs.Composed.{begins_with_slash, node_name, encoded, IsNameable}

heads : (a b : ℕ) (xs ys : List ℕ) → a ∷ xs ≡ b ∷ ys → a ≡ b
heads a b xs ys h = cc

rests : (a b : ℕ) (xs ys : List ℕ) → a ∷ xs ≡ b ∷ ys → xs ≡ ys
rests a b xs ys h = cc

-- what begins with `/` begins with two
slashed : (n rest : Name) → begins_with_slash n ≡ true → 47 ∷ n ≡ 47 ∷ rest → (more : Name) × (rest ≡ 47 ∷ more)
slashed [] rest is h = cc
slashed (b ∷ bs) rest is h =
    let first : b ≡ 47 = (Decides-eqb b 47).0 is in
    (bs, sym (rests 47 47 (b ∷ bs) rest h) ∙ ap (λ (z : ℕ). z ∷ bs) first)

plain_first : (n rest : Name) → begins_with_slash n ≡ false → n ≡ 47 ∷ rest → ⊥
plain_first [] rest is h = cc
plain_first (b ∷ bs) rest is h =
    let first : b ≡ 47 = heads b 47 bs rest h in
    let on : (b == 47) ≡ true = (Decides-eqb b 47).1 first in cc

-- a node's name that begins with `/` goes on with another
two_slashes : (n rest : Name) → node_name n ≡ 47 ∷ rest → (more : Name) × (rest ≡ 47 ∷ more)
two_slashes n rest h = by (begins_with_slash n) refl h
  where
    by : (b : Bool) → begins_with_slash n ≡ b → (if b then 47 ∷ n else n) ≡ 47 ∷ rest → (more : Name)
        × (rest ≡ 47 ∷ more)
    by true is h = slashed n rest is h
    by false is h = absurd (plain_first n rest is h)

-- a page's address goes on with a letter or `_`
no_address : (t : Term) (n : Name) → IsAddressable t → address t ≡ node_name n → ⊥
no_address t n named h =
    let two = two_slashes n ((t.function ++ arguments t.args) ++ codes ".html") (sym h) in
    by t.function (arguments t.args ++ codes ".html") two.0 named.0
    (sym (append_assoc t.function (arguments t.args) (codes ".html")) ∙ two.1)
  where
    by : (f : Name) (tail more : Name) → IsName f → f ++ tail ≡ 47 ∷ more → ⊥
    by [] tail more named h = absurd named
    by (b ∷ bs) tail more named h =
        let first : b ≡ 47 = heads b 47 (bs ++ tail) more h in
        let letter : is_letter 47 ≡ true = subst (λ (x : ℕ). is_letter x ≡ true) first named.0 in cc

names_same : (n m : Name) → node_name n ≡ node_name m → n ≡ m
names_same n m h = by (begins_with_slash n) (begins_with_slash m) refl refl h
  where
    by : (a b : Bool) → begins_with_slash n ≡ a → begins_with_slash m ≡ b → (if a then 47 ∷ n else n) ≡
        (if b then 47 ∷ m else m) → n ≡ m
    by true true p q h = rests 47 47 n m h
    by true false p q h = absurd (plain_first m n q (sym h))
    by false true p q h = absurd (plain_first n m p h)
    by false false p q h = h

node_same : (a b : Name) → Node a ≡ Node b → a ≡ b
node_same a b h = cc

data_same : (d e : Datum) → encoded (Data d) ≡ encoded (Data e) → d ≡ e
data_same (Node n) (Node m) h = ap Node (names_same n m (node_same (node_name n) (node_name m) h))
data_same (Node n) (Int j) h = cc
data_same (Node n) (Text t) h = cc
data_same (Node n) (Url t) h = cc
data_same (Node n) (File t) h = cc
data_same (Int i) (Node m) h = cc
data_same (Int i) e h = cc
data_same (Text s) (Node m) h = cc
data_same (Text s) e h = cc
data_same (Url s) (Node m) h = cc
data_same (Url s) e h = cc
data_same (File s) (Node m) h = cc
data_same (File s) e h = cc

page_not_data : (t : Term) (d : Datum) → IsAddressable t → encoded (Page t) ≡ encoded (Data d) → ⊥
page_not_data t (Node n) named h = no_address t n named (node_same (address t) (node_name n) h)
page_not_data t (Int i) named h = cc
page_not_data t (Text s) named h = cc
page_not_data t (Url s) named h = cc
page_not_data t (File s) named h = cc

pub encoded_injective : (v w : Value) → IsNameable v → IsNameable w → encoded v ≡ encoded w → v ≡ w
encoded_injective (Page t) (Page u) p q h = ap Page (address_injective t u p q (node_same (address t) (address u) h))
encoded_injective (Page t) (Data d) p q h = absurd (page_not_data t d p h)
encoded_injective (Data d) (Page t) p q h = absurd (page_not_data t d q (sym h))
encoded_injective (Data d) (Data e) p q h = ap Data (data_same d e h)
