-- What a whole build leaves, also after one that was cut off.
use Rattle.std.proofs.Common.{◌≡◌, ◌≢◌, ◌∙◌, ⊎_elim, ℕ, List, Bool, refl, sym, ap, subst}
use Rattle.std.specs.Prelude.{Contains}
use Rattle.edge_io.specs.Files.{FileMap}
use Rattle.file_list.specs.Lists.{under, list_path, list_text, listed_at, IsLeft}
use Rattle.file_list.specs.Calls.{StaysOrGoes}
use Rattle.file_list.specs.Laws.{AreFileNames, names_at, IsNamed, BuildsWhole, Leaves, WholeLeaves, CutIsMended}
use Rattle.file_list.proofs.Lines.{read_again, there_names, union_names}
use Rattle.file_list.proofs.Maps.{put_here, put_other, same_name, no_list}

module _ (folder : List ℕ) (names gone : List (List ℕ)) (files : AreFileNames names) (gone_files : AreFileNames gone)
    (start old written new : FileMap) (all : Bool) (whole : BuildsWhole folder names start written new all)
    (listed : names_at folder start ≡ gone) (as_before : (path : List ℕ) → path ≢ list_path folder → (IsNamed folder gone path → ⊥) → start path ≡ old path) where
  after_last : (path : List ℕ) → path ≢ list_path folder → new path ≡ whole.cleaned path
  after_last path differs = ap (λ (m : FileMap). m path) whole.last ∙ put_other whole.cleaned (list_path folder) (list_text names) path differs

  kept : (name : List ℕ) → Contains names name → StaysOrGoes (IsLeft folder (names_at folder start) names) written whole.cleaned (under folder name) → whole.cleaned (under folder name) ≡ written (under folder name)
  kept name k h = ⊎_elim (λ e. e) (λ g. absurd (g.0.2 (subst (Contains names) (same_name folder name g.0.0 g.0.3) k))) h

  untouched : (path : List ℕ) → (IsNamed folder gone path → ⊥) → StaysOrGoes (IsLeft folder (names_at folder start) names) written whole.cleaned path → whole.cleaned path ≡ written path
  untouched path unnamed h = ⊎_elim (λ e. e) (λ g. absurd (unnamed (g.0.0, subst (λ (ns : List (List ℕ)). Contains ns g.0.0) listed g.0.1, g.0.3))) h

  pub leaves : Leaves folder names gone old written new all
  leaves = record {
    site = λ name k. after_last (under folder name) (no_list folder names name (under folder name) files k refl) ∙ kept name k (whole.cleans.each (under folder name));
    list = ap (λ (m : FileMap). m (list_path folder)) whole.last ∙ put_here whole.cleaned (list_path folder) (list_text names);
    removed = λ every path left.
        after_last path (no_list folder gone left.0 path gone_files left.1 left.3)
        ∙ whole.cleans.gone every path (left.0, subst (λ (ns : List (List ℕ)). Contains ns left.0) (sym listed) left.1, left.2, left.3);
    others = λ path differs no_name no_gone.
        after_last path differs ∙ untouched path no_gone (whole.cleans.each path) ∙ whole.writes path no_name
        ∙ put_other start (list_path folder) (list_text whole.union) path differs ∙ as_before path differs no_gone;
  }

pub whole_leaves : (folder : List ℕ) (names : List (List ℕ)) → WholeLeaves folder names
whole_leaves folder names files old written new all whole =
    leaves folder names (names_at folder old) files (there_names (old (list_path folder))) old old written new all whole refl (λ path d n. refl)

pub cut_is_mended : (folder : List ℕ) (cut names : List (List ℕ)) → CutIsMended folder cut names
cut_is_mended folder cut names cut_files files old now written new all interrupted whole =
    let unions = union_names (names_at folder old) cut interrupted.union (there_names (old (list_path folder))) cut_files interrupted.is_union.members in
    leaves folder names interrupted.union files unions now old written new all whole
    (ap listed_at interrupted.list ∙ read_again interrupted.union unions interrupted.is_union.short) interrupted.others
