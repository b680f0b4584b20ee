use Rattle.std.proofs.Common.{◌≡◌}
use Rattle.std.proofs.lemmas.Result.{err_from_is_err_and}
use Rattle.sd_value.specs.declared.Term.{Term}
use Rattle.graph_spec.specs.Statement.{Statement}
use Rattle.compose.specs.Stated.{page_node}
use Rattle.compose.proofs.Adding.{each_nil, each_next, each_cut, each_end}
use Rattle.compose.proofs.nodes.add_pages.Goals as goal

pub loop-page-init : goal.loop-page-init
loop-page-init c = each_nil (λ (z : Term) (s : Statement). page_node z ≡ s) c.args.builder.now

pub returns-in_err-add_page : goal.returns-in_err-add_page
returns-in_err-add_page c =
    let p = err_from_is_err_and c.from_residual.result c.from_residual.ensures.1 in
    rw (p.1, p.2)
    (each_cut (λ (z : Term) (s : Statement). page_node z ≡ s) c.args.pages.now c.loop-page.page-index c.page-item.result
    c.args.builder.now c.loop-page.builder c.add_page.new.builder c.add_page.new.builder
    c.in_err-add_page.field-0.0 c.loop-page-test.true c.page-item.is c.loop-page.invariant c.in_err-add_page.ensures)

pub loop-page-preserved : goal.loop-page-preserved
loop-page-preserved c =
    each_next (λ (z : Term) (s : Statement). page_node z ≡ s) c.args.pages.now c.loop-page.page-index c.page-item.result
    c.args.builder.now c.loop-page.builder c.add_page.new.builder
    c.loop-page-test.true c.page-item.is c.loop-page.invariant c.in_ok-add_page.ensures

pub returns : goal.returns
returns c = each_end (λ (z : Term) (s : Statement). page_node z ≡ s) c.args.pages.now c.loop-page.page-index
    c.args.builder.now c.loop-page.builder c.loop-page-test.false c.loop-page.invariant
