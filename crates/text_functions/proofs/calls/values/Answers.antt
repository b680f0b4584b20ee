use Rattle.function_spec.specs.declared.Function.TheVariants.{Lower, Upper, Fold, Slug, Trim, First, Last, Rest, Before, After, Replace, Join, Length, Number, Decimal, Plus, Minus, Times, Div, Mod}
use Rattle.text_functions.proofs.Parting.{call_listed}
use Rattle.text_functions.proofs.calls.values.Goals as goal

pub returns-in_ok-lower-in-Lower : goal.returns-in_ok-lower-in-Lower
returns-in_ok-lower-in-Lower c = call_listed (λ vs. vs.items) c.args.function Lower c.args.arguments.now c.in_ok-lower-in-Lower.field-0 c.listed.result c.in-Lower.is c.in_ok-lower-in-Lower.ensures c.listed.ensures

pub returns-in_ok-upper-in-Upper : goal.returns-in_ok-upper-in-Upper
returns-in_ok-upper-in-Upper c = call_listed (λ vs. vs.items) c.args.function Upper c.args.arguments.now c.in_ok-upper-in-Upper.field-0 c.listed-in-Upper.result c.in-Upper.is c.in_ok-upper-in-Upper.ensures c.listed-in-Upper.ensures

pub returns-in_ok-fold-in-Fold : goal.returns-in_ok-fold-in-Fold
returns-in_ok-fold-in-Fold c = call_listed (λ vs. vs.items) c.args.function Fold c.args.arguments.now c.in_ok-fold-in-Fold.field-0 c.listed-in-Fold.result c.in-Fold.is c.in_ok-fold-in-Fold.ensures c.listed-in-Fold.ensures

pub returns-in_ok-slug-in-Slug : goal.returns-in_ok-slug-in-Slug
returns-in_ok-slug-in-Slug c = call_listed (λ vs. vs.items) c.args.function Slug c.args.arguments.now c.in_ok-slug-in-Slug.field-0 c.listed-in-Slug.result c.in-Slug.is c.in_ok-slug-in-Slug.ensures c.listed-in-Slug.ensures

pub returns-in_ok-trim-in-Trim : goal.returns-in_ok-trim-in-Trim
returns-in_ok-trim-in-Trim c = call_listed (λ vs. vs.items) c.args.function Trim c.args.arguments.now c.in_ok-trim-in-Trim.field-0 c.listed-in-Trim.result c.in-Trim.is c.in_ok-trim-in-Trim.ensures c.listed-in-Trim.ensures

pub returns-in_ok-first-in-First : goal.returns-in_ok-first-in-First
returns-in_ok-first-in-First c = call_listed (λ vs. vs.items) c.args.function First c.args.arguments.now c.in_ok-first-in-First.field-0 c.listed-in-First.result c.in-First.is c.in_ok-first-in-First.ensures c.listed-in-First.ensures

pub returns-in_ok-last-in-Last : goal.returns-in_ok-last-in-Last
returns-in_ok-last-in-Last c = call_listed (λ vs. vs.items) c.args.function Last c.args.arguments.now c.in_ok-last-in-Last.field-0 c.listed-in-Last.result c.in-Last.is c.in_ok-last-in-Last.ensures c.listed-in-Last.ensures

pub returns-in_ok-rest-in-Rest : goal.returns-in_ok-rest-in-Rest
returns-in_ok-rest-in-Rest c = call_listed (λ vs. vs.items) c.args.function Rest c.args.arguments.now c.in_ok-rest-in-Rest.field-0 c.listed-in-Rest.result c.in-Rest.is c.in_ok-rest-in-Rest.ensures c.listed-in-Rest.ensures

pub returns-in_ok-before-in-Before : goal.returns-in_ok-before-in-Before
returns-in_ok-before-in-Before c = call_listed (λ vs. vs.items) c.args.function Before c.args.arguments.now c.in_ok-before-in-Before.field-0 c.listed-in-Before.result c.in-Before.is c.in_ok-before-in-Before.ensures c.listed-in-Before.ensures

pub returns-in_ok-after-in-After : goal.returns-in_ok-after-in-After
returns-in_ok-after-in-After c = call_listed (λ vs. vs.items) c.args.function After c.args.arguments.now c.in_ok-after-in-After.field-0 c.listed-in-After.result c.in-After.is c.in_ok-after-in-After.ensures c.listed-in-After.ensures

pub returns-in_ok-replace-in-Replace : goal.returns-in_ok-replace-in-Replace
returns-in_ok-replace-in-Replace c = call_listed (λ vs. vs.items) c.args.function Replace c.args.arguments.now c.in_ok-replace-in-Replace.field-0 c.listed-in-Replace.result c.in-Replace.is c.in_ok-replace-in-Replace.ensures c.listed-in-Replace.ensures

pub returns-in_ok-join-in-Join : goal.returns-in_ok-join-in-Join
returns-in_ok-join-in-Join c = call_listed (λ vs. vs.items) c.args.function Join c.args.arguments.now c.in_ok-join-in-Join.field-0 c.listed-in-Join.result c.in-Join.is c.in_ok-join-in-Join.ensures c.listed-in-Join.ensures

pub returns-in_ok-length-in-Length : goal.returns-in_ok-length-in-Length
returns-in_ok-length-in-Length c = call_listed (λ vs. vs.items) c.args.function Length c.args.arguments.now c.in_ok-length-in-Length.field-0 c.listed-in-Length.result c.in-Length.is c.in_ok-length-in-Length.ensures c.listed-in-Length.ensures

pub returns-in_ok-number-in-Number : goal.returns-in_ok-number-in-Number
returns-in_ok-number-in-Number c = call_listed (λ vs. vs.items) c.args.function Number c.args.arguments.now c.in_ok-number-in-Number.field-0 c.listed-in-Number.result c.in-Number.is c.in_ok-number-in-Number.ensures c.listed-in-Number.ensures

pub returns-in_ok-decimal-in-Decimal : goal.returns-in_ok-decimal-in-Decimal
returns-in_ok-decimal-in-Decimal c = call_listed (λ vs. vs.items) c.args.function Decimal c.args.arguments.now c.in_ok-decimal-in-Decimal.field-0 c.listed-in-Decimal.result c.in-Decimal.is c.in_ok-decimal-in-Decimal.ensures c.listed-in-Decimal.ensures

pub returns-in-Plus : goal.returns-in-Plus
returns-in-Plus c = call_listed (λ vs. vs.items) c.args.function Plus c.args.arguments.now c.plus.result c.listed-in-Plus.result c.in-Plus.is c.plus.ensures c.listed-in-Plus.ensures

pub returns-in-Minus : goal.returns-in-Minus
returns-in-Minus c = call_listed (λ vs. vs.items) c.args.function Minus c.args.arguments.now c.minus.result c.listed-in-Minus.result c.in-Minus.is c.minus.ensures c.listed-in-Minus.ensures

pub returns-in-Times : goal.returns-in-Times
returns-in-Times c = call_listed (λ vs. vs.items) c.args.function Times c.args.arguments.now c.times.result c.listed-in-Times.result c.in-Times.is c.times.ensures c.listed-in-Times.ensures

pub returns-in-Div : goal.returns-in-Div
returns-in-Div c = call_listed (λ vs. vs.items) c.args.function Div c.args.arguments.now c.div.result c.listed-in-Div.result c.in-Div.is c.div.ensures c.listed-in-Div.ensures

pub returns-in-Mod : goal.returns-in-Mod
returns-in-Mod c = call_listed (λ vs. vs.items) c.args.function Mod c.args.arguments.now c.modulo.result c.listed-in-Mod.result c.in-Mod.is c.modulo.ensures c.listed-in-Mod.ensures
