-- Texts without marks and case, for comparing and for addresses.
use Rattle.std.specs.Prelude.{ℕ, ◌==◌, ◌||◌, Bool, List, [], ◌∷◌, flat_map, chars, encode_utf8_all, if◌then◌else◌}
use Rattle.unicode.specs.GeneralCategory.{general_category}
use Rattle.unicode.specs.GeneralCategoryGroup.{in_group}
use Rattle.ucd_category.specs.declared.GeneralCategoryGroup.TheVariants.{Mark}
use Rattle.unicode_normalization.specs.Forms.{nfkd}
use Rattle.caseless.specs.Caseless.{default_case_fold}

-- a mark: its general category is M
unfoldable pub is_mark : ℕ → Bool
is_mark c = in_group Mark (general_category c)

-- what stands for a letter that has no decomposition: Ł ł, Ø ø, Đ đ, Ð ð, Þ þ, Æ æ, Œ œ and ı
abbrev pub plain : ℕ → List ℕ
plain c =
    if (c == 0x141) || (c == 0x142) then 108 ∷ []
    else (if (c == 0xd8) || (c == 0xf8) then 111 ∷ []
    else (if (c == 0x110) || (c == 0x111) || (c == 0xd0) || (c == 0xf0) then 100 ∷ []
    else (if (c == 0xde) || (c == 0xfe) then 116 ∷ 104 ∷ []
    else (if (c == 0xc6) || (c == 0xe6) then 97 ∷ 101 ∷ []
    else (if (c == 0x152) || (c == 0x153) then 111 ∷ 101 ∷ []
    else (if c == 0x131 then 105 ∷ [] else c ∷ []))))))

-- a mark is dropped
abbrev pub unmarked : ℕ → List ℕ
unmarked c = if is_mark c then [] else plain c

-- the text decomposed (NFKD), without marks, in plain letters, and by full case folding
unfoldable pub fold : List ℕ → List ℕ
fold t = encode_utf8_all (default_case_fold (flat_map unmarked (nfkd (chars t))))
