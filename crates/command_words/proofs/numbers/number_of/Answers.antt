use Rattle.std.proofs.Common.{◌∙◌, arith, List, ℕ, Some, option_map, refl, sym, ap, subst}
use Rattle.std.specs.Borrow.{Bor}
use Rattle.command_spec.specs.declared.numbers.NumberOption.{NumberOption}
use Rattle.command_spec.specs.declared.numbers.NumberOption.TheVariants.{Port, Connections, Requests, Turns, Cache, CacheBytes, Idle, Stall, OpenAtOnce, Every}
use Rattle.command_spec.specs.Numbers.{default_of, greatest, number_or_default}
use Rattle.command_spec.specs.Ranges.{IsFrom1To}
use Rattle.command_words.proofs.numbers.number_of.Goals as goal

default_within : (o : NumberOption) → IsFrom1To (greatest o) (default_of o)
default_within Port = (omega arith, omega arith)
default_within Connections = (omega arith, omega arith)
default_within Requests = (omega arith, omega arith)
default_within Turns = (omega arith, omega arith)
default_within Cache = (omega arith, omega arith)
default_within CacheBytes = (omega arith, omega arith)
default_within Idle = (omega arith, omega arith)
default_within Stall = (omega arith, omega arith)
default_within OpenAtOnce = (omega arith, omega arith)
default_within Every = (omega arith, omega arith)

pub returns-in-None-clause-exact : goal.returns-in-None-clause-exact
returns-in-None-clause-exact c =
    ap Some c.otherwise.ensures ∙ ap (λ t. number_or_default c.args.option (option_map (λ (s : Bor (List ℕ)). s.now) t)) (sym c.in-None.is)
    ∙ ap (number_or_default c.args.option) c.text_in.ensures

pub returns-in-Some-clause-exact : goal.returns-in-Some-clause-exact
returns-in-Some-clause-exact c =
    c.number.ensures.exact ∙ rw (c.greatest.ensures, c.as_bytes.ensures.value) refl
    ∙ ap (λ t. number_or_default c.args.option (option_map (λ (s : Bor (List ℕ)). s.now) t)) (sym c.in-Some.is)
    ∙ ap (number_or_default c.args.option) c.text_in.ensures

pub returns-in-None-clause-range : goal.returns-in-None-clause-range
returns-in-None-clause-range c =
    subst (IsFrom1To (greatest c.args.option)) (sym c.otherwise.ensures) (default_within c.args.option)
