use Rattle.std.proofs.Common.{List, ◌↔◌, sym, subst, ◌∙◌}
use Rattle.std.specs.Prelude.{Contains, IsTrue}
use Rattle.std.specs.List.Sorted.{IsStrictlySortedBy}
use Rattle.sd_value.specs.Names.{Name}
use Rattle.sd_value.specs.Order.{bytes_cmp}
use Rattle.link_index.proofs.Ascending.{among}
use Rattle.link_index.proofs.names.NameSet.has.Goals as goal

pub returns : goal.returns
returns c =
    subst (λ (xs : List Name). IsTrue c.is_ok.result ↔ Contains xs c.args.name.now) (c.deref.ensures.value ∙ c.self.view_is)
    (among c.deref.result.now c.args.name.now c.binary_search.result c.is_ok.result c.is_ok.ensures.value c.binary_search.ensures.bound c.binary_search.ensures.position
    (subst (λ (xs : List Name). IsStrictlySortedBy bytes_cmp xs) (sym c.deref.ensures.value) c.self.invariant))
