use Rattle.std.proofs.Common.{◌≡◌, sym, ◌∙◌}
use Rattle.struql_ast.specs.declared.SkolemTerm.{SkolemTerm}
use Rattle.struql_ast.specs.Reading.{term_of}
use Rattle.query_parts.proofs.Same.{term_decides}
use Rattle.site_lookups.proofs.Some.{some_from, item_in}
use Rattle.site_build.proofs.terms.is_among.Goals as goal

pub returns-then-same_terms : goal.returns-then-same_terms
returns-then-same_terms c = λ _.
    some_from (λ (w : SkolemTerm). term_of w ≡ term_of c.args.term.now) c.args.terms.now c.other-item.result (item_in _ _ _ c.loop-other-test.true c.other-item.is) ((term_decides (term_of c.other-item.result) (term_of c.args.term.now)).0 (sym c.same_terms.ensures ∙ c.if-same_terms.true))
