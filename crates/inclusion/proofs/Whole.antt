-- The whole table of a query.
use Rattle.std.specs.Prelude.{map, Contains}
use Rattle.std.specs.Bool.{Decides}
use Rattle.rpe.specs.Regex.{Regex, label, any}
use Rattle.constraint_spec.specs.Entailed.{IsIncluded}
use Rattle.rpe.specs.Reading.{regex_of}
use Rattle.query_blocks.specs.declared.QueryBlocks.{QueryBlocks}
use Rattle.query_blocks.specs.Blocks.{scope_of}
use Rattle.inclusion.specs.declared.table.Inclusions.{Inclusions}
use Rattle.inclusion.specs.Known.{AreKnownBlocks}
use Rattle.inclusion.specs.Answers.{AreRows, bits_of, included_by, IsTableOf}
use Rattle.inclusion.proofs.Kept.{query_known}
use Rattle.inclusion.proofs.Right.{labels_right, included_right, empty_right}
use Rattle.inclusion.proofs.Numbers.{spells_right, twin_right}

tested_right : (t : Inclusions) → AreRows t.expressions.items t.rows.items → (a b : Regex) → Contains (map regex_of t.expressions.items) a → Contains (map regex_of t.expressions.items) b → Decides (included_by t a b) (IsIncluded a b)
tested_right t rows (label l) (label m) ha hb = labels_right l m
tested_right t rows a b ha hb = included_right t.expressions.items (bits_of t.rows.items) rows a b ha hb

pub is_table : (q : QueryBlocks) (t : Inclusions) → Contains (map regex_of t.expressions.items) any → AreKnownBlocks t.expressions.items q.blocks.items → AreRows t.expressions.items t.rows.items → IsTableOf (scope_of q) t
is_table q t has known rows = record {
  known = map regex_of t.expressions.items;
  tests = record {
    any_label = has;
    included = tested_right t rows;
    has_empty = empty_right;
    spells = spells_right;
    has_twin = twin_right;
  };
  all = query_known t.expressions.items q known;
}
