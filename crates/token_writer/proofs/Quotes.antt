-- The quoted form of a text spells it.
use Rattle.std.proofs.Common.{◌≡◌, ℕ, Bool, true, false, nat_eq, List, [], ◌∷◌, ◌++◌, Some, refl, sym, ap}
use Rattle.std.specs.List.{flat_map}
use Rattle.std.proofs.lemmas.Bool.{eqb-true}
use Rattle.sd_lex.specs.Lexing.{Spelling, spells_nothing, spells_plain, spells_escape}
use Rattle.token_writer.specs.Writing.{escaped_byte}

-- one byte more in front
byte_spells : (b : ℕ) (later more : List ℕ) → Spelling later more → Spelling (escaped_byte b ++ later) (b ∷ more)
byte_spells b later more h = quote (nat_eq b 34) refl
  where
    plain : (q s f r t : Bool) → nat_eq b 34 ≡ false → nat_eq b 92 ≡ false → nat_eq b 10 ≡ false → nat_eq b 13 ≡ false → nat_eq b 9 ≡ false → Spelling (escaped_byte b ++ later) (b ∷ more)
    plain q s f r t e1 e2 e3 e4 e5 = spells_plain b later more (rw (e1, e2, e3, e4, e5) refl) refl (rw (e1, e2) refl) h

    tab : (t : Bool) → nat_eq b 9 ≡ t → nat_eq b 34 ≡ false → nat_eq b 92 ≡ false → nat_eq b 10 ≡ false → nat_eq b 13 ≡ false → Spelling (escaped_byte b ++ later) (b ∷ more)
    tab true e e1 e2 e3 e4 = spells_escape 116 b later more (rw (e1, e2, e3, e4, e) refl) refl (ap Some (sym (eqb-true b 9 e))) h
    tab false e e1 e2 e3 e4 = plain false false false false false e1 e2 e3 e4 e

    return : (t : Bool) → nat_eq b 13 ≡ t → nat_eq b 34 ≡ false → nat_eq b 92 ≡ false → nat_eq b 10 ≡ false → Spelling (escaped_byte b ++ later) (b ∷ more)
    return true e e1 e2 e3 = spells_escape 114 b later more (rw (e1, e2, e3, e) refl) refl (ap Some (sym (eqb-true b 13 e))) h
    return false e e1 e2 e3 = tab (nat_eq b 9) refl e1 e2 e3 e

    feed : (t : Bool) → nat_eq b 10 ≡ t → nat_eq b 34 ≡ false → nat_eq b 92 ≡ false → Spelling (escaped_byte b ++ later) (b ∷ more)
    feed true e e1 e2 = spells_escape 110 b later more (rw (e1, e2, e) refl) refl (ap Some (sym (eqb-true b 10 e))) h
    feed false e e1 e2 = return (nat_eq b 13) refl e1 e2 e

    slash : (t : Bool) → nat_eq b 92 ≡ t → nat_eq b 34 ≡ false → Spelling (escaped_byte b ++ later) (b ∷ more)
    slash true e e1 = spells_escape 92 b later more (rw (e1, e) refl) refl (ap Some (sym (eqb-true b 92 e))) h
    slash false e e1 = feed (nat_eq b 10) refl e1 e

    quote : (t : Bool) → nat_eq b 34 ≡ t → Spelling (escaped_byte b ++ later) (b ∷ more)
    quote true e = spells_escape 34 b later more (rw e refl) refl (ap Some (sym (eqb-true b 34 e))) h
    quote false e = slash (nat_eq b 92) refl e

pub text_spells : (text : List ℕ) → Spelling (flat_map escaped_byte text) text
text_spells [] = spells_nothing refl refl
text_spells (b ∷ text) = byte_spells b (flat_map escaped_byte text) text (text_spells text)
