use Rattle.site_lookups.proofs.Labels.{none_labelled, none_starts, starts_solved, solves_long, none_solved}
use Rattle.site_spec.specs.Site.{IsTermUnder}
use Rattle.struql_ast.specs.Reading.{term_of, target_of, link_of, operand_of}
use Rattle.sd_value.specs.Members.{Contains-here}
use Rattle.std.proofs.Common.{◌≡◌, [], refl, ap, sym, ◌∙◌}
use Rattle.struql_ast.specs.declared.SkolemTerm.{SkolemTerm as WrittenTerm}
use Rattle.struql_ast.specs.declared.Target.{Target}
use Rattle.struql_ast.specs.declared.Target.TheVariants.{Plain, Made, Summed}
use Rattle.query_spec.specs.Query.{SkolemTerm, made}
use Rattle.site_lookups.proofs.linked.bound_by.Goals as goal

never_made : (t : Target) → ((w : WrittenTerm) → t ≡ Made w → ⊥) → (m : SkolemTerm) → target_of t ≡ made m → ⊥
never_made (Plain o) n m e = cc
never_made (Made w) n m e = n w refl
never_made (Summed a span) n m e = cc

pub returns-in_default : goal.returns-in_default
returns-in_default c = absurd (never_made c.args.link.now.source c.in_default.not-Made c.requires.made.0 c.requires.made.1)

pub matches-requires : goal.matches-requires
matches-requires c =
    record { declared = c.requires.declared (term_of c.in-Made.written) (rw c.in-Made.is (Contains-here (term_of c.in-Made.written) [])) }

pub returns-in-None : goal.returns-in-None
returns-in-None c =
    none_starts c.args.variables.now (link_of c.args.link.now) (term_of c.in-Made.written) c.args.term.now c.args.label.now (ap target_of c.in-Made.is) (none_solved c.args.variables.now (λ s. IsTermUnder s (term_of c.in-Made.written) c.args.term.now) c.in_ok-matches.field-0 c.in-None.is c.in_ok-matches.ensures)

pub returns-in_ok-bound-in-Some : goal.returns-in_ok-bound-in-Some
returns-in_ok-bound-in-Some c =
    starts_solved c.args.variables.now (link_of c.args.link.now) (term_of c.in-Made.written) c.args.term.now c.args.label.now (ap target_of c.in-Made.is) c.in-Some.bound c.in_ok-bound-in-Some.bound (solves_long c.args.variables.now (λ s. IsTermUnder s (term_of c.in-Made.written) c.args.term.now) c.in_ok-matches.field-0 c.in-Some.bound c.in-Some.is c.in_ok-matches.ensures) c.in_ok-bound-in-Some.ensures

pub returns-then-not-may_have_label : goal.returns-then-not-may_have_label
returns-then-not-may_have_label c =
    none_labelled c.args.variables.now (link_of c.args.link.now) c.args.term.now c.args.label.now (λ a. let yes = c.may_have_label.ensures.1 a in let no = c.if-not-may_have_label.true in cc)

pub bound_by_label-requires-clause-may_have : goal.bound_by_label-requires-clause-may_have
bound_by_label-requires-clause-may_have c = c.may_have_label.ensures.0 c.if-not-may_have_label.false
