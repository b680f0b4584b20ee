-- What `help` and `version` print.
use Rattle.std.specs.Prelude.{ℕ, List, ◌++◌, flat_map, codes}
use Rattle.std.specs.Prelude.{Option, None, Some}
use Rattle.command_spec.specs.declared.rows.CommandName.{CommandName}
use Rattle.command_spec.specs.Rows.{row, names}

-- how the usage of the program begins
abbrev pub program_head : List ℕ
program_head =
    codes "Strudel makes a web site of data, a query and templates.\n\n"
    ++ codes "usage: strudel COMMAND\n\n"

-- how it ends
abbrev pub program_end : List ℕ
program_end =
    codes "\nAn option is --name=VALUE, or --name VALUE. Behind a word -- no word is an option.\n"

-- the usage of the program: its lines of each command between a head and an end
abbrev pub program_usage : List ℕ
program_usage = program_head ++ flat_map (λ name. (row name).summary) names ++ program_end

-- the usage of this command, or of the program
abbrev pub usage_of : Option CommandName → List ℕ
usage_of None = program_usage
usage_of (Some name) = (row name).usage

-- the version of the program, and of the kit that proved it
abbrev pub version_text : List ℕ
version_text =
    codes "strudel 0.1.0\n"
    ++ codes "rattle-kit-13f logic dac8208d650f15bf\n"
