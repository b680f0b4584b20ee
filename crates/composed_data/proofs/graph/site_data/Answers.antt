use Rattle.std.proofs.Common.{List, inr, sym, ap, subst, ◌∙◌}
use Rattle.std.specs.Prelude.{Err}
use Rattle.std.proofs.lemmas.Result.{err_from_is_err_and}
use Rattle.sd_graph.specs.declared.GraphRefusal.{GraphRefusal}
use Rattle.sd_value.specs.Names.{Name, Label}
use Rattle.sd_value.specs.Order.{bytes_cmp}
use Rattle.sd_value.specs.Ascending.{ListsExactly}
use Rattle.sd_value.specs.declared.Term.{Term}
use Rattle.query_blocks.specs.declared.QueryBlocks.{QueryBlocks}
use Rattle.query_blocks.specs.Blocks.{scope_of}
use Rattle.weight_spec.specs.Site.{site_of}
use Rattle.compose.specs.Listed.{IsListed}
use Rattle.composed_data.specs.Named.{IsCollectName}
use Rattle.composed_data.proofs.Ends.{listed_at, ends_at}
use Rattle.composed_data.proofs.graph.site_data.Goals as goal

pub site_graph-requires-clause-listed : goal.site_graph-requires-clause-listed
site_graph-requires-clause-listed g c =
    let w = c.in_ok-whole.whole in
    let G = g.A.Asker.graph w.asker in
    let terms = c.in_ok-all_terms.all_terms.items in
    let labels = c.in_ok-all_labels.all_labels.items in
    let names = c.in_ok-all_names.all_names.items in
    subst (λ (ts : List Term). IsListed (site_of G (scope_of w.scopes.now)) c.args.graph.now ts
    c.as_slice-labels.result.now c.as_slice-names.result.now) (sym c.as_slice-terms.ensures.value)
    (subst (λ (ls : List Label). IsListed (site_of G (scope_of w.scopes.now)) c.args.graph.now terms ls
    c.as_slice-names.result.now) (sym c.as_slice-labels.ensures.value)
    (subst (λ (ns : List Name). IsListed (site_of G (scope_of w.scopes.now)) c.args.graph.now terms labels ns)
    (sym c.as_slice-names.ensures.value)
    (listed_at G c.args.graph.now w.scopes.now w.contents c.in_ok-whole.ensures.whole
    (c.in_ok-whole.ensures.graph ∙ c.requires.asked) terms labels names
    c.in_ok-all_terms.ensures c.in_ok-all_labels.ensures
    (subst (λ (s : QueryBlocks). ListsExactly bytes_cmp (IsCollectName (scope_of s)) names)
    (sym c.in_ok-whole.ensures.scopes) c.in_ok-all_names.ensures))))

pub returns : goal.returns
returns g c =
    let w = c.in_ok-whole.whole in
    ends_at (g.A.Asker.graph w.asker) c.args.graph.now (scope_of w.scopes.now) (scope_of c.args.scopes.now)
    c.args.limits c.site_graph.result
    (c.in_ok-whole.ensures.graph ∙ c.requires.asked) (ap scope_of c.in_ok-whole.ensures.scopes)
    c.site_graph.ensures.limits

pub returns-in_err-whole : goal.returns-in_err-whole
returns-in_err-whole g c =
    let p = err_from_is_err_and c.from_residual.result c.from_residual.ensures.1 in
    inr (p.1 ∙ ap (λ (e : GraphRefusal). Err e) p.2)

pub returns-in_err-all_terms : goal.returns-in_err-all_terms
returns-in_err-all_terms g c =
    let p = err_from_is_err_and c.from_residual-in_err-all_terms.result c.from_residual-in_err-all_terms.ensures.1 in
    inr (p.1 ∙ ap (λ (e : GraphRefusal). Err e) p.2)

pub returns-in_err-all_labels : goal.returns-in_err-all_labels
returns-in_err-all_labels g c =
    let p = err_from_is_err_and c.from_residual-in_err-all_labels.result c.from_residual-in_err-all_labels.ensures.1 in
    inr (p.1 ∙ ap (λ (e : GraphRefusal). Err e) p.2)

pub returns-in_err-all_names : goal.returns-in_err-all_names
returns-in_err-all_names g c =
    let p = err_from_is_err_and c.from_residual-in_err-all_names.result c.from_residual-in_err-all_names.ensures.1 in
    inr (p.1 ∙ ap (λ (e : GraphRefusal). Err e) p.2)
