-- What is gathered of a template.
use Rattle.std.specs.Prelude.{◌≡◌, Bool, false, ◌||◌, List, ◌++◌}
use Rattle.std.specs.List.{flat_map, list_any}
use Rattle.graph_spec.specs.DataGraph.{Name}
use Rattle.tmpl.specs.declared.Expr.{Expr}
use Rattle.tmpl.specs.Expressions.{Use}
use Rattle.edit_spec.specs.Footprint.{labels_here, labels_beyond, collections_at}
use Rattle.edit_footprint.specs.declared.reads.Reads.{Reads}

-- what is gathered has grown by these labels and collections
pub record Adds (old new : Reads) (embeds : Bool) (own others collections : List Name)
    : Type 0 where
  pub embeds_more : new.embeds ≡ (old.embeds || embeds)
  pub own_more : new.own.items ≡ old.own.items ++ own
  pub others_more : new.others.items ≡ old.others.items ++ others
  pub collections_more : new.collections.items ≡ old.collections.items ++ collections

-- an expression, the words that begin at its values aside
abbrev pub AddsExpr : Reads → Reads → Expr → Type 0
AddsExpr old new x = Adds old new false (labels_here x.root x.word) (labels_beyond x.root x.word)
    (collections_at x.root)

-- the labels of some expressions that are read at the presented value alone
abbrev pub own_of : List Use → List Name
own_of us = flat_map (λ x. labels_here x.expr.root x.expr.word) us

-- those that are read at any value
abbrev pub others_of : List Use → List Name
others_of us =
    flat_map (λ x. labels_beyond x.expr.root x.expr.word ++ flat_map (λ word. word) x.onward) us

-- the collections that they name
abbrev pub collections_of : List Use → List Name
collections_of us = flat_map (λ x. collections_at x.expr.root) us

-- all of some expressions
abbrev pub AddsUses : Reads → Reads → List Use → Type 0
AddsUses old new us = Adds old new (list_any (λ x. x.embeds) us) (own_of us) (others_of us)
    (collections_of us)
