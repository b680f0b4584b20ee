use Rattle.std.proofs.Common.{◌↔◌, ℕ, List, sym, subst}
use Rattle.std.specs.Prelude.{Contains, IsTrue}
use Rattle.site_spec.specs.Site.{Scope}
use Rattle.query_blocks.specs.Blocks.{scope_of}
use Rattle.list_lookup.specs.Picked.{IsPlaced, HasOne}
use Rattle.link_index.specs.declared.gathered.QuotedLink.{QuotedLink}
use Rattle.link_index.specs.Links.{quoted_links}
use Rattle.link_index.specs.Found.{quoted_name, pair_cmp}
use Rattle.link_index.proofs.Lookups.{quoted_placed, quoted_found}
use Rattle.link_index.proofs.index.LinkIndex.has_quoted.Goals as goal

pub has-requires : goal.has-requires
has-requires c =
    subst (λ (l : List QuotedLink). IsPlaced (λ k. pair_cmp (quoted_name k) (c.args.function.now, c.args.label.now)) l) (sym c.as_slice.ensures.value) (quoted_placed _ _ c.self.invariant.0 (c.args.function.now, c.args.label.now))

pub returns : goal.returns
returns c =
    let p : List ℕ × List ℕ = (c.args.function.now, c.args.label.now) in
    let both = quoted_found _ _ c.self.invariant.0 p in
    let found = subst (λ (l : List QuotedLink). IsTrue c.has.result ↔ HasOne (λ k. pair_cmp (quoted_name k) p) l) c.as_slice.ensures.value c.has.ensures in
    let there : IsTrue c.has.result ↔ Contains (quoted_links (scope_of c.self.inside.query.now)) p = (λ t. both.0 (found.0 t), λ h. found.1 (both.1 h)) in
    subst (λ (q : Scope). IsTrue c.has.result ↔ Contains (quoted_links q) p) c.self.view_is
    there
