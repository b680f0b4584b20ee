-- Fields of other entries, one entry after another.
use Rattle.std.proofs.Common.{◌≡◌, ◌<◌, ◌-◌, true, if◌then◌else◌, ℕ, zero, suc, List, ◌++◌, refl, ap, ◌∙◌, arith, Option, Some, None}
use Rattle.bibtex_spec.specs.declared.Field.{Field}
use Rattle.bibtex_source.specs.Source.{Source, Entries, all_fields, farthest, parent_of, lacking, from_parent, gathered}

-- where the rules ask for them, an entry has the fields of others
pub with_others : (source : Source) (fields : List Field) → source.rules.crossrefs ≡ true → all_fields source fields ≡ gathered source.entries farthest fields fields
with_others source fields h = ap (λ b. if b then gathered source.entries farthest fields fields else fields) h

module _ (entries : Entries) (own last : List Field) where
  pub one_more : (n : ℕ) (fields : List Field) → 0 < n → parent_of entries last ≡ Some fields → gathered entries n own last ≡ gathered entries (n - 1) (own ++ lacking own fields) fields
  one_more zero fields some is = absurd (omega (arith, some))
  one_more (suc n) fields some is =
      let less : n ≡ suc n - 1 = omega arith in
      ap (from_parent (gathered entries n) own) is ∙ ap (λ k. gathered entries k (own ++ lacking own fields) fields) less

  pub no_more : (n : ℕ) → parent_of entries last ≡ None → gathered entries n own last ≡ own
  no_more zero is = refl
  no_more (suc n) is = ap (from_parent (gathered entries n) own) is

  pub all_done : (n : ℕ) → (0 < n → ⊥) → gathered entries n own last ≡ own
  all_done zero done = refl
  all_done (suc n) done = absurd (done (omega arith))
