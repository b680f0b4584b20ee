use Rattle.std.proofs.Common.{refl}
use Rattle.query_blocks.specs.Blocks.{scope_of}
use Rattle.site_lookups.proofs.Targets.{page_edges, data_edges}
use Rattle.site_lookups.proofs.Counts.{link_causes, edge_causes}
use Rattle.weight_spec.proofs.Handing.{hands_same}
use Rattle.weight_spec.specs.CountsAtMost.{CountsAtMost}
use Rattle.weight_spec.specs.Charges.{IsCause}
use Rattle.page_spec.specs.Question.{out}
use Rattle.sd_value.specs.declared.Value.{Value as AnyValue}
use Rattle.std.proofs.Common.{sym, subst}
use Rattle.site_lookups.proofs.linked.edges_out.Goals as goal

pub returns-in_ok-ends-in-Page-clause-ends : goal.returns-in_ok-ends-in-Page-clause-ends
returns-in_ok-ends-in-Page-clause-ends g c = page_edges (g.A.Asker.graph c.args.asker.now) (scope_of c.args.scopes.now) c.in-Page.term c.args.label.now c.args.value.now c.in_ok-ends-in-Page.ends.items c.in-Page.is c.in_ok-ends-in-Page.ensures.ends

pub returns-in_ok-ends-in-Data-clause-ends : goal.returns-in_ok-ends-in-Data-clause-ends
returns-in_ok-ends-in-Data-clause-ends g c = data_edges (g.A.Asker.graph c.args.asker.now) (scope_of c.args.scopes.now) c.args.scopes.now.blocks.items c.in-Data.field-0 c.args.label.now c.args.value.now c.in_ok-ends-in-Data.ends.items c.in-Data.is c.requires.scoped refl c.in_ok-ends-in-Data.ensures.ends

pub returns-in_err-ends-in-Page-clause-counted : goal.returns-in_err-ends-in-Page-clause-counted
returns-in_err-ends-in-Page-clause-counted g c =
    λ f. subst (λ (v : AnyValue). CountsAtMost (IsCause (g.A.Asker.graph c.args.asker.now) (scope_of c.args.scopes.now) f (out v c.args.label.now)) (g.A.Asker.count c.args.asker.now) (g.A.Asker.count c.links_out.new.asker)) (sym c.in-Page.is) (link_causes (g.A.Asker.graph c.args.asker.now) (scope_of c.args.scopes.now) c.args.scopes.now.blocks.items f refl c.requires.scoped c.in-Page.term c.args.label.now (g.A.Asker.count c.args.asker.now) (g.A.Asker.count c.links_out.new.asker) c.in_err-ends-in-Page.ensures.counted)

pub returns-in_ok-ends-in-Page-clause-counted : goal.returns-in_ok-ends-in-Page-clause-counted
returns-in_ok-ends-in-Page-clause-counted g c =
    λ f. subst (λ (v : AnyValue). CountsAtMost (IsCause (g.A.Asker.graph c.args.asker.now) (scope_of c.args.scopes.now) f (out v c.args.label.now)) (g.A.Asker.count c.args.asker.now) (g.A.Asker.count c.links_out.new.asker)) (sym c.in-Page.is) (link_causes (g.A.Asker.graph c.args.asker.now) (scope_of c.args.scopes.now) c.args.scopes.now.blocks.items f refl c.requires.scoped c.in-Page.term c.args.label.now (g.A.Asker.count c.args.asker.now) (g.A.Asker.count c.links_out.new.asker) c.in_ok-ends-in-Page.ensures.counted)

pub returns-in_err-ends-in-Data-clause-counted : goal.returns-in_err-ends-in-Data-clause-counted
returns-in_err-ends-in-Data-clause-counted g c =
    λ f. hands_same (IsCause (g.A.Asker.graph c.args.asker.now) (scope_of c.args.scopes.now) f (out c.args.value.now c.args.label.now)) (g.A.Asker.count c.args.asker.now) (g.A.Asker.count c.out.new.self) c.in_err-ends-in-Data.ensures.counted

pub returns-in_ok-ends-in-Data-clause-counted : goal.returns-in_ok-ends-in-Data-clause-counted
returns-in_ok-ends-in-Data-clause-counted g c =
    λ f. edge_causes (g.A.Asker.graph c.args.asker.now) (scope_of c.args.scopes.now) c.args.scopes.now.blocks.items f refl c.args.value.now c.args.label.now c.in_ok-ends-in-Data.ends.items (g.A.Asker.count c.args.asker.now) (g.A.Asker.count c.out.new.self) c.in_ok-ends-in-Data.ensures.ends c.in_ok-ends-in-Data.ensures.counted
