-- Taking names out again that were added.
use Rattle.std.specs.Prelude.{◌≡◌, Bool, true, false, not, List, if◌then◌else◌}
use Rattle.std.specs.List.{list_any}
use Rattle.std.specs.Bool.{OnFalse}
use Rattle.std.specs.BTreeSet.{insert_key}
use Rattle.std.proofs.Common.{refl, ap, ◌∙◌}
use Rattle.std.proofs.lemmas.Cmp.{tied_itself}
use Rattle.sd_value.specs.OrderLaws.{bytes_cmp-total}
use Rattle.sd_graph.specs.Inserted.{removed-inserted}
use Rattle.std.specs.BTreeMap.{is_at}
use Rattle.std.specs.Set.{remove_key}
use Rattle.sd_value.specs.declared.Datum.TheVariants.{Node}
use Rattle.sd_value.specs.declared.Value.{Value}
use Rattle.sd_value.specs.declared.Value.TheVariants.{Data}
use Rattle.sd_value.specs.Order.{bytes_cmp}
use Rattle.graph_spec.specs.DataGraph.{Name}

-- the names without one, if it was added
abbrev pub without : Name → Bool → List Name → List Name
without n added names = if added then remove_key (is_at (bytes_cmp n)) names else names

-- the same of a value that may be a node
abbrev pub without_end : Value → Bool → List Name → List Name
without_end (Data (Node n)) added names = without n added names
without_end v added names = names

-- taking the name out again, if it was added, leaves what was there before
abbrev pub IsUndoneBy : Name → Bool → List Name → List Name → Type 0
IsUndoneBy n added old new = without n added new ≡ old

-- what `insert` reports of a name
pub undone : (n : Name) (added : Bool) (old new : List Name) → new ≡ insert_key bytes_cmp old n
    → (added ≡ not (list_any (is_at (bytes_cmp n)) old)) → (added ≡ false → new ≡ old)
    → IsUndoneBy n added old new
undone n true old new is none same =
    ap (remove_key (is_at (bytes_cmp n))) is ∙ removed-inserted bytes_cmp n
    (tied_itself bytes_cmp-total n) old (absent (list_any (is_at (bytes_cmp n)) old) none)
  where
    absent : (b : Bool) → true ≡ not b → b ≡ false
    absent true h = cc
    absent false h = refl
undone n false old new is none same = same refl

pub unchanged_at : {P : Type 0} (b : Bool) → b ≡ false → OnFalse b P → P
unchanged_at true wrong h = cc
unchanged_at false _ h = h
