-- Each function has a place among all.
use Rattle.std.proofs.Common.{◌≡◌, ◌<◌, ℕ, get_or, refl, lit<}
use Rattle.function_spec.specs.declared.Function.{Function}
use Rattle.function_spec.specs.declared.Function.TheVariants.{Lower, Upper, Fold, Slug, Trim, First, Last, Rest, Before, After, Replace, Join, Length, Number, Decimal, Plus, Minus, Times, Div, Mod, Split}
use Rattle.function_names.specs.declared.TheConstants.{ALL}

pub place : (f : Function) → (k : ℕ) × (k < 21) × (get_or ALL k Lower ≡ f)
place Lower = (0, lit< tt, refl)
place Upper = (1, lit< tt, refl)
place Fold = (2, lit< tt, refl)
place Slug = (3, lit< tt, refl)
place Trim = (4, lit< tt, refl)
place First = (5, lit< tt, refl)
place Last = (6, lit< tt, refl)
place Rest = (7, lit< tt, refl)
place Before = (8, lit< tt, refl)
place After = (9, lit< tt, refl)
place Replace = (10, lit< tt, refl)
place Join = (11, lit< tt, refl)
place Length = (12, lit< tt, refl)
place Number = (13, lit< tt, refl)
place Decimal = (14, lit< tt, refl)
place Plus = (15, lit< tt, refl)
place Minus = (16, lit< tt, refl)
place Times = (17, lit< tt, refl)
place Div = (18, lit< tt, refl)
place Mod = (19, lit< tt, refl)
place Split = (20, lit< tt, refl)
