-- Texts by their parts: each stands for bytes, or for one of the texts before.
use Rattle.std.specs.Prelude.{◌≡◌, ◌⊎◌, ℕ, ◌<◌, ◌≤◌, List, [], ◌++◌, length, take, get_or, flat_map, All}
use Rattle.page_spec.specs.declared.TheConstants.{PAGE_LIMIT}
use Rattle.page_text.specs.declared.draft.Draft.{Draft}
use Rattle.page_text.specs.declared.draft.Numbered.{Numbered}
use Rattle.page_text.specs.declared.draft.Fragment.{Fragment}
use Rattle.page_text.specs.declared.draft.Fragment.TheVariants.{Stretch, Whole}

-- the text with the number
abbrev pub text_at : List (List ℕ) → ℕ → List ℕ
text_at ts k = get_or ts k []

-- what a part stands for, where `ts` are the texts before
abbrev pub fragment_text : List (List ℕ) → Fragment → List ℕ
fragment_text ts (Stretch t) = t
fragment_text ts (Whole k) = text_at ts k

abbrev pub IsBefore : ℕ → Fragment → Type 0
IsBefore n (Stretch t) = Unit {0}
IsBefore n (Whole k) = k < n

-- the parts of a text, in order
abbrev pub fragments_of : Draft → List Fragment
fragments_of d = d.fragments.items

-- n is the length of t, or both are above the limit of a page
abbrev pub Measures : ℕ → List ℕ → Type 0
Measures n t = (n ≡ length t) ⊎ ((PAGE_LIMIT < n) × (PAGE_LIMIT < length t))

-- the draft is one of t, where `ts` are the texts before
pub record IsDraft (ts : List (List ℕ)) (d : Draft) (t : List ℕ) : Type 0 where
  pub before : All (IsBefore (length ts)) (fragments_of d)
  pub measured : Measures d.size t
  pub parts : length t ≤ PAGE_LIMIT → t ≡ flat_map (fragment_text ts) (fragments_of d)

-- the drafts are those of the texts, each after the texts that it has parts of
pub record AreTexts (ds : List Draft) (ts : List (List ℕ)) : Type 0 where
  pub one_each : length ts ≡ length ds
  pub drafts : (i : ℕ) (d : Draft) → i < length ds → d ≡ get_or ds i d
      → IsDraft (take i ts) d (text_at ts i)

-- t has the number
pub record IsNumbered (ts : List (List ℕ)) (n : Numbered) (t : List ℕ) : Type 0 where
  pub there : n.number < length ts
  pub text : text_at ts n.number ≡ t
  pub measured : Measures n.size t

-- t has the number, perhaps after a text is put after `ts`
abbrev pub Keeps : List (List ℕ) → List ℕ → List Draft → Numbered → Type 0
Keeps ts t ds n = (us : List (List ℕ)) × AreTexts ds (ts ++ us) × IsNumbered (ts ++ us) n t
