-- What the lines of front matter say, line after line.
use Rattle.std.specs.Prelude.{◌≡◌, ◌-◌, ◌≤◌, ◌<◌, ◌+◌, ℕ, true, false, List, [], ◌∷◌, ◌++◌, length, codes, Option, Some, None, Result, Ok, Err}
use Rattle.std.specs.Str.{bytes_eq}
use Rattle.std.proofs.Common.{refl, sym, ◌∙◌, ap, append_assoc, arith}
use Rattle.std.proofs.lemmas.List.{append-nil}
use Rattle.graph_spec.specs.DataGraph.{Name}
use Rattle.text_source.specs.declared.facts.Fact.{Fact}
use Rattle.text_source.specs.declared.refusal.TextFileRefusal.{TextFileRefusal}
use Rattle.text_source.specs.declared.refusal.TextFileRefusal.TheVariants.{NotUtf8, Expected, TooManyEdges, TooManyNodes, NoMemory}
use Rattle.text_source.specs.Lines.{line, lines_of, before_fence}
use Rattle.text_source.specs.Cuts.{lines_left, Cuts}
use Rattle.text_source.specs.Front.{said, said_by, said_then, kind_of, label_after, before}
use Rattle.text_source.specs.Scans.{SaysAll}
use Rattle.text_source.proofs.Left.{After}

before_more : (front more : List Fact) (rest : Result (List Fact) ℕ) → before front (before more rest) ≡ before (front ++ more) rest
before_more front more (Ok rest) = ap Ok (sym (append_assoc front more rest))
before_more front more (Err at) = refl

-- a line that is no fence
goes_on : (size : ℕ) (above : Option Name) (text first : List ℕ) (next : Option (List ℕ)) → Cuts size text first next → bytes_eq first (codes "---") ≡ false
    → said above (before_fence (lines_of size text))
    ≡ said_then (size - length text) (said_by (size - length text) above (kind_of first)) (said (label_after above (kind_of first)) (before_fence (lines_left size next)))
goes_on size above text first next cut h = rw (cut, h) refl

-- a fence
stops : (size : ℕ) (above : Option Name) (text first : List ℕ) (next : Option (List ℕ)) → Cuts size text first next → bytes_eq first (codes "---") ≡ true → said above (before_fence (lines_of size text)) ≡ Ok []
stops size above text first next cut h = rw (cut, h) refl

pub after_line : (size : ℕ) (old now new : List Fact) (all : Result (List Fact) ℕ) (above below : Option Name) (text first : List ℕ) (next : Option (List ℕ)) (more : List Fact)
    → After old now all (said above (before_fence (lines_of size text))) → Cuts size text first next → bytes_eq first (codes "---") ≡ false
    → said_by (size - length text) above (kind_of first) ≡ Some more → new ≡ now ++ more → below ≡ label_after above (kind_of first)
    → After old new all (said below (before_fence (lines_left size next)))
after_line size old now new all above below text first next more h cut line_is says new_is below_is = record {
  more = h.more ++ more;
  now_is = new_is ∙ ap (λ x. x ++ more) h.now_is ∙ append_assoc old h.more more;
  all_is =
      let e = goes_on size above text first next cut line_is in
      h.all_is ∙ ap (before h.more) e ∙ rw (says, ← below_is) (before_more h.more more (said below (before_fence (lines_left size next))));
}

all_said : (old now : List Fact) (all rest : Result (List Fact) ℕ) → After old now all rest → rest ≡ Ok [] → SaysAll all old now (Ok tt)
all_said old now all rest h e = (h.more, h.all_is ∙ rw e (ap Ok (append-nil h.more)), h.now_is)

-- the closing fence
pub at_fence : (size : ℕ) (old now : List Fact) (all : Result (List Fact) ℕ) (above : Option Name) (text first : List ℕ) (next : Option (List ℕ))
    → After old now all (said above (before_fence (lines_of size text))) → Cuts size text first next → bytes_eq first (codes "---") ≡ true → SaysAll all old now (Ok tt)
at_fence size old now all above text first next h cut fence = all_said old now all (said above (before_fence (lines_of size text))) h (stops size above text first next cut fence)

-- no line left
pub at_end : (old now : List Fact) (all : Result (List Fact) ℕ) (above : Option Name) → After old now all (said above []) → SaysAll all old now (Ok tt)
at_end old now all above h = all_said old now all (said above []) h refl

-- a line that can't stand there
pub at_fault : (size : ℕ) (old now new : List Fact) (all : Result (List Fact) ℕ) (above : Option Name) (text first : List ℕ) (next : Option (List ℕ))
    → After old now all (said above (before_fence (lines_of size text))) → Cuts size text first next → bytes_eq first (codes "---") ≡ false
    → said_by (size - length text) above (kind_of first) ≡ None → all ≡ Err (size - length text)
at_fault size old now new all above text first next h cut line_is says =
    let e = goes_on size above text first next cut line_is in
    h.all_is ∙ ap (before h.more) e ∙ rw says refl
