-- Items that end within fewer bytes end within more.
use Rattle.std.proofs.Common.{ℕ, ◌≤◌, List, get_or, arith}
use Rattle.std.specs.Prelude.{All}
use Rattle.template_items.specs.declared.item.Item.{Item}
use Rattle.template_items.specs.declared.item.ItemKind.{ItemKind}
use Rattle.template_items.specs.declared.item.ItemKind.TheVariants as kinds
use Rattle.template_items.specs.Scanning.{KindEnds, EndsWithin}

kind_more : (n m place : ℕ) (kind : ItemKind) → n ≤ m → KindEnds n place kind → KindEnds m place kind
kind_more n m place (kinds.Text t) more ends = omega (arith, more, ends)
kind_more n m place (kinds.Mark mark) more ends = tt
kind_more n m place (kinds.Token token) more ends = tt

pub ends_more : (n m : ℕ) (items : List Item) → n ≤ m → All (EndsWithin n) items → All (EndsWithin m) items
ends_more n m items more all = λ k d lt. kind_more n m (get_or items k d).place (get_or items k d).kind more (all k d lt)
