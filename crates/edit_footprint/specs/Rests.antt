-- Why pages rest on a block, as tests.
use Rattle.std.specs.Prelude.{Bool, true, false, ◌&&◌, ◌||◌, List}
use Rattle.std.specs.List.{list_any}
use Rattle.graph_spec.specs.DataGraph.{Name}
use Rattle.query_spec.specs.Query.{SkolemTerm, Target, plain, made, summed, LinkLabel, quoted, label_variable, Link, Collect, Body}
use Rattle.query_spec.specs.Mentions.{same_name}

-- a term of the function
abbrev pub is_of : Name → SkolemTerm → Bool
is_of function t = same_name t.function function

-- the target is such a term
abbrev pub is_made_of : Name → Target → Bool
is_made_of function (plain operand) = false
is_made_of function (made t) = same_name t.function function
is_made_of function (summed a) = false

-- an end of the link is one
abbrev pub link_names : Name → Link → Bool
link_names function k = is_made_of function k.source || is_made_of function k.target

-- what is collected is one
abbrev pub collect_names : Name → Collect → Bool
collect_names function c = is_made_of function c.target

-- the block names one
abbrev pub names_term : Name → Body → Bool
names_term function b = list_any (is_of function) b.creates ||
    (list_any (link_names function) b.links || list_any (collect_names function) b.collects)

-- the link's label may be this one
abbrev pub may_carry : LinkLabel → Name → Bool
may_carry (quoted m) l = same_name m l
may_carry (label_variable x) l = true

-- a link from the function that may carry one of these labels
abbrev pub has_own_link : Name → List Name → Link → Bool
has_own_link function own k = is_made_of function k.source && list_any (may_carry k.label) own

-- a link that may carry one of these labels
abbrev pub has_link : List Name → Link → Bool
has_link others k = list_any (may_carry k.label) others

-- two names are one
abbrev pub same : Name → Name → Bool
same = same_name

-- a COLLECT under one of these names
abbrev pub is_under : List Name → Collect → Bool
is_under collections c = list_any (same_name c.collection) collections

-- a link or a COLLECT of the block is read
abbrev pub is_read : Name → List Name → List Name → List Name → Body → Bool
is_read function own others collections b =
    list_any (has_own_link function own) b.links ||
    (list_any (has_link others) b.links || list_any (is_under collections) b.collects)

-- the pages of the function rest on the block
abbrev pub rests_on : Name → List Name → List Name → List Name → Body → Bool
rests_on function own others collections b =
    names_term function b || is_read function own others collections b
