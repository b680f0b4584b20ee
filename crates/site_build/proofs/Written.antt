-- Terms that are written alike, and what they name under rows.
use Rattle.std.proofs.Common.{◌≡◌, ◌+◌, List, [], ◌∷◌, ◌++◌, inl, ⊎_elim, sym, subst}
use Rattle.std.specs.Prelude.{Contains}
use Rattle.sd_value.specs.declared.Term.{Term}
use Rattle.sd_value.specs.declared.Value.{Value}
use Rattle.sd_value.specs.Members.{Contains-nil}
use Rattle.query_spec.specs.declared.Variable.{Variable}
use Rattle.query_spec.specs.Query.{SkolemTerm}
use Rattle.query_spec.specs.Rows.{value_in}
use Rattle.struql_ast.specs.declared.SkolemTerm.{SkolemTerm as WrittenTerm}
use Rattle.struql_ast.specs.Reading.{term_of}
use Rattle.site_spec.specs.Site.{SomeOf, IsTermUnder}
use Rattle.site_lookups.proofs.Some.{some_from, some_cons}
use Rattle.site_build.specs.Gains.{Gains}
use Rattle.site_build.specs.Materialised.{HasCreated}
use Rattle.site_build.proofs.Growing.{gains_none, gains_both, gains_only, gains_turned}

-- the terms that one of these names under one of the rows
abbrev pub NamedBy : List Variable → List (List Value) → List SkolemTerm → Term → Type 0
NamedBy vs rows ts p = SomeOf (λ row. SomeOf (λ t. IsTermUnder (value_in vs row) t p) ts) rows

-- nothing is named by no term
pub names_nothing : (vs : List Variable) (rows : List (List Value)) (made : List Term) → Gains (NamedBy vs rows []) made made
names_nothing vs rows made = gains_none (NamedBy vs rows []) made (λ p s. absurd (Contains-nil s.holds.item s.holds.within))

-- what a CREATE makes that is written alike is there already
pub names_known : (vs : List Variable) (rows : List (List Value)) (ws : List WrittenTerm) (t : SkolemTerm) (made : List Term) → HasCreated vs rows ws made → SomeOf (λ w. term_of w ≡ t) ws → Gains (NamedBy vs rows (t ∷ [])) made made
names_known vs rows ws t made has among = record { to = λ p h. inl h; kept = λ p h. h; gained = known }
  where
    known : (p : Term) → NamedBy vs rows (t ∷ []) p → Contains made p
    known p s =
        let under : IsTermUnder (value_in vs s.item) t p = ⊎_elim (λ q. q) (λ r. absurd (Contains-nil r.item r.within)) (some_cons (λ z. IsTermUnder (value_in vs s.item) z p) t [] s.holds) in
        has p (some_from (λ row. SomeOf (λ w. IsTermUnder (value_in vs row) (term_of w) p) ws) rows s.item s.within
        (some_from (λ w. IsTermUnder (value_in vs s.item) (term_of w) p) ws among.item among.within (subst (λ z. IsTermUnder (value_in vs s.item) z p) (sym among.holds) under)))

-- what one term names
pub names_one : (vs : List Variable) (rows : List (List Value)) (t : SkolemTerm) (old new : List Term) → Gains (λ p. SomeOf (λ row. IsTermUnder (value_in vs row) t p) rows) old new → Gains (NamedBy vs rows (t ∷ [])) old new
names_one vs rows t old new g =
    gains_turned (λ (row : List Value) (z : SkolemTerm) (p : Term). IsTermUnder (value_in vs row) z p) rows (t ∷ []) old new
    (gains_only (λ (z : SkolemTerm) (p : Term). SomeOf (λ (row : List Value). IsTermUnder (value_in vs row) z p) rows) t old new g)

-- what some terms name, and then what others do
pub names_both : (vs : List Variable) (rows : List (List Value)) (ss ts : List SkolemTerm) (a b c : List Term) → Gains (NamedBy vs rows ss) a b → Gains (NamedBy vs rows ts) b c → Gains (NamedBy vs rows (ss ++ ts)) a c
names_both vs rows ss ts a b c g h =
    gains_turned (λ (row : List Value) (t : SkolemTerm) (p : Term). IsTermUnder (value_in vs row) t p) rows (ss ++ ts) a c
    (gains_both (λ (t : SkolemTerm) (p : Term). SomeOf (λ (row : List Value). IsTermUnder (value_in vs row) t p) rows) ss ts a b c (turned ss a b g) (turned ts b c h))
  where
    turned : (ts : List SkolemTerm) (a b : List Term) → Gains (NamedBy vs rows ts) a b → Gains (λ p. SomeOf (λ t. SomeOf (λ (row : List Value). IsTermUnder (value_in vs row) t p) rows) ts) a b
    turned ts a b g = gains_turned (λ (t : SkolemTerm) (row : List Value) (p : Term). IsTermUnder (value_in vs row) t p) ts rows a b g
