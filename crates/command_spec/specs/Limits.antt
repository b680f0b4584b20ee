-- The limits of accepted inputs: the most bytes of a file, the most nodes and edges of the data, and the greatest numbers
-- of a command line.
use Rattle.std.specs.Prelude.{ℕ}

-- the most bytes of a data file
abbrev pub data_limit : ℕ
data_limit = 67108864

-- the most bytes of a query, and of a file of templates
abbrev pub text_limit : ℕ
text_limit = 1048576

-- the most bytes of a script
abbrev pub script_limit : ℕ
script_limit = 67108864

-- the most nodes of the union of the data
abbrev pub node_limit : ℕ
node_limit = 1048576

-- the most edges of the union of the data
abbrev pub edge_limit : ℕ
edge_limit = 4194304

-- the most entries of a trial
abbrev pub entry_limit : ℕ
entry_limit = 20000

-- the most connections that are served, replies to one connection, and events that are taken
abbrev pub count_limit : ℕ
count_limit = 4294967296

-- the greatest port
abbrev pub port_limit : ℕ
port_limit = 65535

-- the most pages that are kept
abbrev pub cache_limit : ℕ
cache_limit = 4096

-- the most bytes of pages that are kept
abbrev pub cache_bytes_limit : ℕ
cache_bytes_limit = 4294967296

-- the longest wait for a connection, in milliseconds
abbrev pub wait_limit : ℕ
wait_limit = 4294967295

-- the most connections that are open at once
abbrev pub open_limit : ℕ
open_limit = 16384
