-- How the command line is put together.
use Rattle.std.proofs.Common.{◌≡◌, ◌∙◌, ℕ, ◌<◌, ◌≤◌, ◌+◌, zero, suc, arith, add-one, List, [], ◌∷◌, ◌++◌, map, take, length, get_or, refl, sym, ap, ap₂, Bool, false, true}
use Rattle.std.proofs.lemmas.List.{take_all}
use Rattle.clap.specs.Walk.{rule_of}
use Rattle.clap.specs.Simple.{App, Shape, app_of, new_app, with_rule, with_subcommand}
use Rattle.clap.specs.Built.{AddsArg, AddsSubcommand}
use Rattle.clap.specs.declared.builder.arg.Arg.{Arg}
use Rattle.clap.specs.declared.builder.command.Command.{Command}
use Rattle.clap.specs.declared.builder.command.Command.TheViews.{out-Command}
use Rattle.command_spec.specs.declared.options.ValueOption.{ValueOption}
use Rattle.command_spec.specs.declared.rows.CommandRow.{CommandRow}
use Rattle.command_spec.specs.declared.rows.CommandName.{CommandName}
use Rattle.command_spec.specs.Rows.{Row, row, row_of, names}
use Rattle.command_spec.specs.Values.{option_name}
use Rattle.command_words.specs.Parsed.{IsLeaf, leaf, option_rule, program, row_leaf, top, words_rule}

abbrev pub alone : Shape → App
alone shape = record { top = shape; subs = [] }

more_options : (xs : List ValueOption) (o : ValueOption) → map (λ x. option_rule (option_name x)) xs ++ option_rule (option_name o) ∷ [] ≡ map (λ x. option_rule (option_name x)) (xs ++ o ∷ [])
more_options [] o = refl
more_options (x ∷ xs) o = ap (λ rs. option_rule (option_name x) ∷ rs) (more_options xs o)

take_more : {X : Type 0} (xs : List X) (i : ℕ) (x : X) → i < length xs → x ≡ get_or xs i x → take (i + 1) xs ≡ take i xs ++ x ∷ []
take_more [] i x within is = absurd (omega arith)
take_more (y ∷ ys) zero x within is = ap (λ z. z ∷ []) (sym is)
take_more (y ∷ ys) (suc i) x within is = rw add-one (ap (λ zs. y ∷ zs) (rw add-one at (take_more ys i x (omega arith) is)))

-- the words' argument comes first
pub first_argument : (start c : Command) (a : Arg) (name : List ℕ) (options : List ValueOption) → AddsArg start a c → app_of start ≡ new_app name → (out-Command start).has_globals ≡ false → rule_of a ≡ words_rule → a.global ≡ false → options ≡ [] → IsLeaf name options c
first_argument start c a name options adds is no_globals rule own none =
    (adds.shape own ∙ ap₂ with_rule is rule ∙ ap (λ os. alone (leaf name os)) (sym none), adds.globals ∙ rw (no_globals, own) refl)

-- and then each option
pub next_argument : (start c : Command) (a : Arg) (name : List ℕ) (options more : List ValueOption) (o : ValueOption) → AddsArg start a c → IsLeaf name options start → rule_of a ≡ option_rule (option_name o) → a.global ≡ false → more ≡ options ++ o ∷ [] → IsLeaf name more c
next_argument start c a name options more o adds is rule own same =
    (adds.shape own ∙ ap₂ with_rule is.0 rule ∙ ap (λ rs. alone (record (leaf name []) { rules = words_rule ∷ rs })) (more_options options o) ∙ ap (λ os. alone (leaf name os)) (sym same), adds.globals ∙ rw (is.1, own) refl)

pub one_more : {X : Type 0} (xs : List X) (i : ℕ) (x : X) → i < length xs → x ≡ get_or xs i x → take (i + 1) xs ≡ take i xs ++ x ∷ []
one_more = take_more

pub next_command : (old sub new : Command) (name : List ℕ) (options : List ValueOption) → AddsSubcommand old sub new → IsLeaf name options sub → app_of new ≡ with_subcommand (app_of old) (leaf name options)
next_command old sub new name options adds is = adds.shape is.1 ∙ ap (λ (a : App). with_subcommand (app_of old) a.top) is.0

pub take_none : (xs : List ValueOption) → take 0 xs ≡ []
take_none [] = refl
take_none (x ∷ xs) = refl

-- the subcommand of a command is that of its row
pub next_leaf : (old sub new : Command) (command : CommandName) (its : CommandRow) → AddsSubcommand old sub new → IsLeaf its.name.now its.options.now sub → row_of its ≡ row command → app_of new ≡ with_subcommand (app_of old) (row_leaf command)
unfolding row_leaf
next_leaf old sub new command its adds is same =
    next_command old sub new its.name.now its.options.now adds is ∙ ap (λ (r : Row). with_subcommand (app_of old) (leaf r.name r.options)) same

-- no command is there
abbrev is_bare : List CommandName → Bool
is_bare [] = true
is_bare (name ∷ rows) = false

-- the command line with the subcommands of these commands
abbrev pub with_commands : List CommandName → App
with_commands rows = record {
  top = record top { is_leaf = is_bare rows };
  subs = map row_leaf rows;
}

not_empty : (rows : List CommandName) (name : CommandName) → false ≡ is_bare (rows ++ name ∷ [])
not_empty [] name = refl
not_empty (r ∷ rows) name = refl

more_leaves : (rows : List CommandName) (name : CommandName) → map row_leaf rows ++ row_leaf name ∷ [] ≡ map row_leaf (rows ++ name ∷ [])
more_leaves [] name = refl
more_leaves (r ∷ rows) name = ap (λ leaves. row_leaf r ∷ leaves) (more_leaves rows name)

more_commands : (rows : List CommandName) (name : CommandName) → with_subcommand (with_commands rows) (row_leaf name) ≡ with_commands (rows ++ name ∷ [])
more_commands rows name = ap₂ (λ empty leaves. record { top = record top { is_leaf = empty }; subs = leaves }) (not_empty rows name) (more_leaves rows name)

pub next_row : (old new : Command) (rows : List CommandName) (i : ℕ) (name : CommandName) → app_of new ≡ with_subcommand (app_of old) (row_leaf name) → app_of old ≡ with_commands (take i rows) → i < length rows → name ≡ get_or rows i name → app_of new ≡ with_commands (take (i + 1) rows)
next_row old new rows i name is was within at =
    is ∙ ap (λ app. with_subcommand app (row_leaf name)) was ∙ more_commands (take i rows) name ∙ ap with_commands (sym (take_more rows i name within at))

-- once all commands are taken
pub all_rows : (rows : List CommandName) (i : ℕ) (app : App) → app ≡ with_commands (take i rows) → length rows ≤ i → rows ≡ names → app ≡ program
unfolding row_leaf
all_rows rows i app is least same = is ∙ ap with_commands (take_all i rows least ∙ same)
