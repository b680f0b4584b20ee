-- Texts that are addresses of the web.
use Rattle.std.specs.Prelude.{◌&&◌, ◌||◌, ℕ, Bool, nat_eq, List, codes, if◌then◌else◌}
use Rattle.std.specs.List.{starts_with}
use Rattle.sd_value.specs.declared.Value.{Value}
use Rattle.sd_value.specs.declared.Value.TheVariants.{Data}
use Rattle.sd_value.specs.declared.Datum.TheVariants.{Text, Url}

-- whether a text begins with `http://` or `https://`
abbrev pub is_link : List ℕ → Bool
is_link text =
    starts_with nat_eq text (codes "http://") || starts_with nat_eq text (codes "https://")

-- the value of a text: a URL if links are URLs and it is one
abbrev pub text_value : (links : Bool) → List ℕ → Value
text_value links text = Data (if links && is_link text then Url text else Text text)
