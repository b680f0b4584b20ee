-- One file that is removed, and one list that is put.
use Rattle.std.proofs.Common.{◌≡◌, ◌∙◌, ⊎_elim, inl, inr, ℕ, List, [], ◌∷◌, ◌++◌, Bool, true, false, refl, sym, ap, subst, append-nil}
use Rattle.std.specs.Prelude.{Contains, Option, Some, None, Result, Ok, Err}
use Rattle.std.specs.Bool.{Decides}
use Rattle.std.specs.Option.{IsSomeAnd}
use Rattle.std.specs.List.{All}
use Rattle.std.proofs.lemmas.Bool.{false≢true}
use Rattle.std.proofs.lemmas.List.Elements.{All-nil, All-cons}
use Rattle.std.proofs.lemmas.Slice.Eq.{bytes_eq-Decides}
use Rattle.std.specs.Str.{bytes_eq}
use Rattle.sd_value.specs.Members.{Contains-nil, Contains-cons_cases}
use Rattle.happenings.specs.Happening.{Happening, Wrote, Kept, WriteFailed, Removed as removed, RemoveFailed}
use Rattle.edge_io.specs.Files.{FileMap, put_file, ChangesOnly, IsRemovalOver, removal_events, stored_event}
use Rattle.edge_io.specs.declared.answers.Removal.{Removal}
use Rattle.edge_io.specs.declared.answers.Removal.TheVariants.{Removed, Absent, Linked}
use Rattle.edge_io.specs.declared.answers.Stored.{Stored}
use Rattle.edge_io.specs.declared.answers.Stored.TheVariants.{Written as stored_new, Kept as stored_same}
use Rattle.files_spec.specs.declared.stop.Stop.{Stop}
use Rattle.files_spec.specs.declared.stop.Stop.TheVariants.{Faulty, Unwritten, NoMemory}
use Rattle.files_spec.specs.Writes.{Adds}
use Rattle.file_list.specs.Lists.{under, IsLeft}
use Rattle.file_list.specs.Calls.{ListPut, ListPutAdds, FileRemoved, RemovalAdds, IsRemoval, RemovalsAdd, StaysOrGoes, IsClean, CleanEnds}
use Rattle.file_list.proofs.Removals.{its_path, its_own}

-- ---- a list

pub put_told : (n : Option FileMap) (path bytes at text : List ℕ) (old : FileMap) → path ≡ at → bytes ≡ text → n ≡ Some (put_file old path bytes) → IsSomeAnd n (λ new. ListPut at text old new (Ok tt))
put_told n path bytes at text old e b told =
    subst (λ (x : Option FileMap). IsSomeAnd x (λ new. ListPut at text old new (Ok tt))) (sym told)
    (ap (λ p. put_file old p bytes) e ∙ ap (put_file old at) b)

pub no_put_told : (n : Option FileMap) (path at text : List ℕ) (old : FileMap) → path ≡ at → IsSomeAnd n (λ new. ChangesOnly old new path) → IsSomeAnd n (λ new. ListPut at text old new (Err (Unwritten path)))
no_put_told None path at text old e h = h
no_put_told (Some new) path at text old e h = (e, subst (ChangesOnly old new) e h)

pub put_added : (answer : Stored) (path bytes at text : List ℕ) (before now : List Happening) → path ≡ at → bytes ≡ text → now ≡ before ++ stored_event answer path bytes ∷ [] → ListPutAdds at text before now (Ok tt)
put_added stored_new path bytes at text before now e b added =
    subst (λ p. ListPutAdds p text before now (Ok tt)) e (subst (λ t. ListPutAdds path t before now (Ok tt)) b (Wrote path bytes, inl refl, added))
put_added stored_same path bytes at text before now e b added =
    subst (λ p. ListPutAdds p text before now (Ok tt)) e (subst (λ t. ListPutAdds path t before now (Ok tt)) b (Kept path bytes, inr refl, added))

pub no_put_added : (path at text : List ℕ) (before now : List Happening) → path ≡ at → now ≡ before ++ WriteFailed path ∷ [] → ListPutAdds at text before now (Err (Unwritten path))
no_put_added path at text before now e added = (e, subst (λ p. now ≡ before ++ WriteFailed p ∷ []) e added)

-- ---- a file

unchanged : (map : FileMap) (path : List ℕ) → ChangesOnly map map path
unchanged map path = record { elsewhere = λ other differs. refl }

gone_there : (n : Option FileMap) (path : List ℕ) (old : FileMap) → IsSomeAnd n (λ now. (now path ≡ None) × ChangesOnly old now path) → IsSomeAnd n (λ new. FileRemoved path old new (Ok true))
gone_there None path old h = h
gone_there (Some new) path old h = h

pub gone_told : (removal : Removal) (n : Option FileMap) (path at : List ℕ) (old : FileMap) → path ≡ at → (removal ≡ Linked → ⊥) → IsRemovalOver old n path removal → IsSomeAnd n (λ new. FileRemoved at old new (Ok true))
gone_told Removed n path at old e other h = subst (λ p. IsSomeAnd n (λ new. FileRemoved p old new (Ok true))) e (gone_there n path old h.1)
gone_told Absent n path at old e other h =
    subst (λ p. IsSomeAnd n (λ new. FileRemoved p old new (Ok true))) e
    (subst (λ (x : Option FileMap). IsSomeAnd x (λ new. FileRemoved path old new (Ok true))) (sym h.1) (h.0, unchanged old path))
gone_told Linked n path at old e other h = absurd (other refl)

pub linked_told : (n : Option FileMap) (at : List ℕ) (old : FileMap) → n ≡ Some old → IsSomeAnd n (λ new. FileRemoved at old new (Ok false))
linked_told n at old h = subst (λ (x : Option FileMap). IsSomeAnd x (λ new. FileRemoved at old new (Ok false))) (sym h) refl

pub not_gone_told : (n : Option FileMap) (path at : List ℕ) (old : FileMap) → path ≡ at → IsSomeAnd n (λ new. ChangesOnly old new path) → IsSomeAnd n (λ new. FileRemoved at old new (Err (Unwritten path)))
not_gone_told None path at old e h = h
not_gone_told (Some new) path at old e h = (e, subst (ChangesOnly old new) e h)

pub gone_added : (removal : Removal) (path at : List ℕ) (before now : List Happening) → path ≡ at → now ≡ before ++ removal_events removal path → RemovalAdds at before now (Ok true)
gone_added Removed path at before now e added = inr (refl, subst (λ p. now ≡ before ++ removed p ∷ []) e added)
gone_added Absent path at before now e added = inl (added ∙ append-nil before)
gone_added Linked path at before now e added = inl (added ∙ append-nil before)

pub linked_added : (at : List ℕ) (before now : List Happening) → now ≡ before ++ [] → RemovalAdds at before now (Ok false)
linked_added at before now added = inl (added ∙ append-nil before)

pub not_gone_added : (path at : List ℕ) (before now : List Happening) → path ≡ at → now ≡ before ++ RemoveFailed path ∷ [] → RemovalAdds at before now (Err (Unwritten path))
not_gone_added path at before now e added = (e, subst (λ p. now ≡ before ++ RemoveFailed p ∷ []) e added)

-- ---- a file of the old list

module _ (folder : List ℕ) (new : List (List ℕ)) (name : List ℕ) where
  abbrev One : List ℕ → Type 0
  One = IsLeft folder (name ∷ []) new

  -- a name that the new list has is not left over
  none_left : Contains new name → (path : List ℕ) → One path → ⊥
  none_left there path h =
      ⊎_elim (λ e. h.2 (subst (Contains new) e there)) (λ z. Contains-nil h.0 z) (Contains-cons_cases name [] h.0 h.1)

  pub stays_told : (o : Option FileMap) (before : FileMap) → Contains new name → o ≡ Some before → IsSomeAnd o (λ now. IsClean One before now true)
  stays_told o before there told =
      subst (λ (x : Option FileMap). IsSomeAnd x (λ now. IsClean One before now true)) (sym told)
      (record { each = λ path. inl refl; gone = λ all path h. absurd (none_left there path h) })

  gone_or_not : (before now : FileMap) (path : List ℕ) (b : Bool) → (Contains new name → ⊥) → now (under folder name) ≡ None → ChangesOnly before now (under folder name) → Decides b (path ≡ under folder name) → StaysOrGoes One before now path
  gone_or_not before now path true over none only d = inr (subst One (sym (d.0 refl)) (its_own folder new name over), ap now (d.0 refl) ∙ none)
  gone_or_not before now path false over none only d = inl (only.elsewhere path (λ e. false≢true (d.1 e)))

  one_clean : (before now : FileMap) (gone : Bool) → (Contains new name → ⊥) → FileRemoved (under folder name) before now (Ok gone) → IsClean One before now gone
  one_clean before now true over h = record {
    each = λ path. gone_or_not before now path (bytes_eq path (under folder name)) over h.0 h.1 (bytes_eq-Decides path (under folder name));
    gone = λ all path one. ap now (its_path folder new name path one) ∙ h.0;
  }
  one_clean before now false over h = record {
    each = λ path. inl (ap (λ (m : FileMap). m path) h);
    gone = λ all path one. absurd (false≢true all);
  }

  one_ends : (before now : FileMap) (end : Result Bool Stop) → (Contains new name → ⊥) → FileRemoved (under folder name) before now end → CleanEnds One before now end
  one_ends before now (Ok gone) over h = one_clean before now gone over h
  one_ends before now (Err (Unwritten missed)) over h =
      (subst One (sym h.0) (its_own folder new name over), λ path differs. inl (h.1.elsewhere path (λ e. differs (e ∙ sym h.0))))
  one_ends before now (Err (Faulty term kind)) over h = h
  one_ends before now (Err NoMemory) over h = λ path. inl (ap (λ (m : FileMap). m path) h)

  pub one_told : (n : Option FileMap) (before : FileMap) (end : Result Bool Stop) → (Contains new name → ⊥) → IsSomeAnd n (λ now. FileRemoved (under folder name) before now end) → IsSomeAnd n (λ now. CleanEnds One before now end)
  one_told None before end over h = h
  one_told (Some now) before end over h = one_ends before now end over h

  nothing_added : (before now : List Happening) → now ≡ before → Adds before now (All (IsRemoval One))
  nothing_added before now e = record { part = []; added = e ∙ sym (append-nil before); its = All-nil (IsRemoval One) }

  pub one_added : (before now : List Happening) (end : Result Bool Stop) → (Contains new name → ⊥) → RemovalAdds (under folder name) before now end → RemovalsAdd One before now end
  one_added before now (Ok gone) over h =
      ⊎_elim (nothing_added before now)
      (λ g. record {
        part = removed (under folder name) ∷ [];
        added = g.1;
        its = All-cons (IsRemoval One) (removed (under folder name)) [] (under folder name, its_own folder new name over, refl) (All-nil (IsRemoval One));
      })
      h
  one_added before now (Err (Unwritten missed)) over h = record {
    part = RemoveFailed (under folder name) ∷ [];
    added = h.1;
    its = record {
      done = [];
      removals = All-nil (IsRemoval One);
      is_over = subst One (sym h.0) (its_own folder new name over);
      part_is = ap (λ p. RemoveFailed p ∷ []) (sym h.0);
    };
  }
  one_added before now (Err (Faulty term kind)) over h = h
  one_added before now (Err NoMemory) over h = nothing_added before now h
