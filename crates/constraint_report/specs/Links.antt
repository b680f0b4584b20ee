-- What a constraint says of one page, and what a search over links has found.
use Rattle.std.specs.Prelude.{◌≡◌, ◌++◌, List, Contains, Option, Some, None, IfSome}
use Rattle.sd_value.specs.declared.Value.{Value}
use Rattle.sd_value.specs.declared.Value.TheVariants.{Page}
use Rattle.sd_value.specs.declared.Term.{Term}
use Rattle.sd_value.specs.Names.{Name, Label}
use Rattle.site_spec.specs.Site.{SomeOf}
use Rattle.page_spec.specs.Site.{Site}
use Rattle.constraint_spec.specs.declared.Constraint.{Constraint}
use Rattle.constraint_spec.specs.declared.Constraint.TheVariants.{Reachable, Each, Only, Never}
use Rattle.constraint_spec.specs.declared.Constraint.TheVariants.{One}
use Rattle.constraint_spec.specs.Meets.{root_page, IsPageOf, IsReached, LinksTo}
use Rattle.constraint_spec.specs.Meets.{LinksOnce}

-- the function of whose pages the constraint says something
abbrev pub function_of : Constraint → Name
function_of (Reachable f root) = f
function_of (Each f label h) = f
function_of (Only f label h) = f
function_of (Never f label) = f
function_of (One f label) = f

-- the function of the root page from which links are to lead, if the constraint has one
abbrev pub root_of : Constraint → Option Name
root_of (Reachable f root) = Some root
root_of (Each f label h) = None
root_of (Only f label h) = None
root_of (Never f label) = None
root_of (One f label) = None

-- a list has gained, behind what it had, what has P and nothing else
pub record Adds {X : Type 0} (P : X → Type 0) (old new : List X) : Type 0 where
  pub more : List X
  pub is : new ≡ old ++ more
  pub only : (x : X) → Contains more x → P x
  pub all : (x : X) → P x → Contains new x

module _ (site : Site) where
  -- what the constraint says of a page of its function
  abbrev pub IsMetAt : Constraint → Term → Type 0
  IsMetAt (Reachable f root) p = IsReached site.has site.edge root p
  IsMetAt (Each f label h) p = LinksTo site.has site.edge p label h
  IsMetAt (Only f label h) p = (v : Value) → site.edge (Page p) label v → IsPageOf h v
  IsMetAt (Never f label) p = (v : Value) → site.edge (Page p) label v → ⊥
  IsMetAt (One f label) p = LinksOnce site.has site.edge p label

  -- the page, if it is one of the constraint's function, is as the constraint says
  abbrev pub Agrees : Constraint → Term → Type 0
  Agrees c p = p.function ≡ function_of c → IsMetAt c p

  -- a link by the label leads from one page to another
  abbrev pub IsNext : Term → Label → Term → Type 0
  IsNext page label next = site.edge (Page page) label (Page next)

  -- a link by one of the labels does
  abbrev pub IsNextBy : List Label → Term → Term → Type 0
  IsNextBy labels page next = SomeOf (λ label. IsNext page label next) labels

  -- the root page alone, if it is in the site
  pub record IsBegun (root : Name) (found : List Term) : Type 0 where
    pub only : (t : Term) → Contains found t → (t ≡ root_page root) × site.has t
    pub all : site.has (root_page root) → Contains found (root_page root)

  -- the terms are those that links reach from the root page
  pub record AreReached (root : Name) (found : List Term) : Type 0 where
    pub sound : (t : Term) → Contains found t → IsReached site.has site.edge root t
    pub complete : (t : Term) → IsReached site.has site.edge root t → Contains found t

  -- where the constraint has a root, the terms are those that links reach from its page
  abbrev pub HasReached : Constraint → List Term → Type 0
  HasReached c found = IfSome (root_of c) (λ root. AreReached root found)
