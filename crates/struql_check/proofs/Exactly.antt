-- The faults of one item, each told exactly.
use Rattle.std.proofs.Common.{◌≡◌, ℕ, ◌≤◌, List, length, refl, subst}
use Rattle.std.specs.Prelude.{Bool, true, false, Option, Some, None}
use Rattle.struql_check.specs.declared.faults.Check.{Check}
use Rattle.struql_check.specs.declared.faults.Check.TheVariants.{Unbound, ArcAsNode, NotLabel, TooManyVariables}
use Rattle.struql_check.specs.declared.faults.Fault.{Fault}
use Rattle.struql_check.specs.declared.mentions.VariableUse.{VariableUse}
use Rattle.struql_check.specs.declared.mentions.Role.{Role}
use Rattle.struql_check.specs.declared.mentions.Role.TheVariants.{Arc, End, Label, Other}
use Rattle.struql_check.specs.Faults.{RoleFault, IsPast, ChainFault}
use Rattle.struql_check.specs.First.{IsFirst, fault_at, broken_role}
use Rattle.struql_check.specs.Known.{names_of}
use Rattle.struql_check.proofs.ChainNames.{never_past, past_once}
use Rattle.struql_check.proofs.Firsts.{first_exactly}

role_told : (s : Option Bool) (r : Role) (here : ℕ) (check : Check) (at : ℕ) → RoleFault s r here check at → fault_at (broken_role s r) here ≡ Some (record { check = check; at = at })
role_told s r here Unbound at p = rw (p.0, p.1) refl
role_told s r here ArcAsNode at p = rw (p.0, p.1, p.2) refl
role_told s Arc here NotLabel at p = rw (p.1, p.2) refl
role_told s End here NotLabel at p = absurd p.0
role_told s Label here NotLabel at p = rw (p.1, p.2) refl
role_told s Other here NotLabel at p = absurd p.0
role_told s r here check at p = absurd p

at_fault : (P : Check → ℕ → Type 0) (f g : Fault) → ◌≡◌ {A = Option Fault} (Some g) (Some f) → P g.check g.at → P f.check f.at
at_fault P f g e p = let h : g ≡ f = cc in subst (λ (k : Fault). P k.check k.at) h p

role_is : (s : Option Bool) (r : Role) (here : ℕ) (f : Fault) → fault_at (broken_role s r) here ≡ Some f → RoleFault s r here f.check f.at
role_is None r here f e = at_fault (RoleFault None r here) f (record { check = Unbound; at = here }) e (refl, refl)
role_is (Some true) Arc here f e = absurd cc
role_is (Some true) End here f e = at_fault (RoleFault (Some true) End here) f (record { check = ArcAsNode; at = here }) e (refl, refl, refl)
role_is (Some true) Label here f e = absurd cc
role_is (Some true) Other here f e = absurd cc
role_is (Some false) Arc here f e = at_fault (RoleFault (Some false) Arc here) f (record { check = NotLabel; at = here }) e (tt, refl, refl)
role_is (Some false) End here f e = absurd cc
role_is (Some false) Label here f e = at_fault (RoleFault (Some false) Label here) f (record { check = NotLabel; at = here }) e (tt, refl, refl)
role_is (Some false) Other here f e = absurd cc

pub role_first : (s : Option Bool) (r : Role) (here : ℕ) → IsFirst (RoleFault s r here) (fault_at (broken_role s r) here)
role_first s r here = first_exactly (RoleFault s r here) (fault_at (broken_role s r) here) (role_told s r here) (role_is s r here)

chain_told : (ms : List VariableUse) (here : ℕ) → IsPast ms here → (check : Check) (at : ℕ) → ChainFault ms check at → ◌≡◌ {A = Option Fault} (Some (record { check = TooManyVariables; at = here })) (Some (record { check = check; at = at }))
chain_told ms here is TooManyVariables at p = rw (past_once ms here at is p) refl
chain_told ms here is check at p = absurd p

pub chain_past : (ms : List VariableUse) (here : ℕ) → IsPast ms here → IsFirst (ChainFault ms) (Some (record { check = TooManyVariables; at = here }))
chain_past ms here is = first_exactly (ChainFault ms) (Some (record { check = TooManyVariables; at = here })) (chain_told ms here is) (λ f e. at_fault (ChainFault ms) f (record { check = TooManyVariables; at = here }) e is)

few_never : (ms : List VariableUse) → length (names_of ms) ≤ 32 → (check : Check) (at : ℕ) → ChainFault ms check at → ⊥
few_never ms few TooManyVariables at p = never_past ms at few p
few_never ms few check at p = p

pub chain_few : (ms : List VariableUse) → length (names_of ms) ≤ 32 → IsFirst (ChainFault ms) None
chain_few ms few = few_never ms few
