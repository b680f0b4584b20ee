-- The kinds that directives give to texts without a kind.
use Rattle.std.specs.Prelude.{ℕ, Bool, ◌&&◌, not, List, [], ◌∷◌, if◌then◌else◌, nat_eq}
use Rattle.std.specs.List.{flat_map, list_all, list_any}
use Rattle.std.specs.Ordering.{eq_by_cmp}
use Rattle.sd_value.specs.Order.{bytes_cmp}
pub use Rattle.sd_value.specs.Names.{Name}
use Rattle.ddl_text.specs.declared.tree.Kind.{Kind}
use Rattle.ddl_text.specs.declared.tree.Kind.TheVariants as kinds
use Rattle.sd_ddl.specs.declared.part.Part.{Part}
use Rattle.sd_ddl.specs.declared.part.Part.TheVariants.{Gives, Node, Member, Edge}
use Rattle.sd_ddl.specs.declared.kinds.StatedKinds.{StatedKinds}
use Rattle.sd_ddl.specs.declared.kinds.StatedKinds.TheVariants.{Nothing, One, Several}

abbrev pub same_name : Name → Name → Bool
same_name = eq_by_cmp bytes_cmp

abbrev pub kind_number : Kind → ℕ
kind_number kinds.Text = 0
kind_number kinds.Url = 1
kind_number kinds.File = 2

abbrev pub same_kind : Kind → Kind → Bool
same_kind k j = nat_eq (kind_number k) (kind_number j)

abbrev pub given_by : Name → Name → Part → List Kind
given_by collection attribute (Gives g) =
    if same_name g.collection collection && same_name g.attribute attribute then g.kind.kind
    ∷ [] else []
given_by collection attribute (Node n) = []
given_by collection attribute (Member c n) = []
given_by collection attribute (Edge o l v) = []

-- the kinds that directives of the collection give the attribute
abbrev pub given : List Part → Name → Name → List Kind
given parts collection attribute = flat_map (given_by collection attribute) parts

abbrev pub collection_by : Name → Part → List Name
collection_by object (Gives g) = []
collection_by object (Node n) = []
collection_by object (Member c n) = if same_name n object then c.text ∷ [] else []
collection_by object (Edge o l v) = []

-- the collections of the object, by all its statements
abbrev pub collections : List Part → Name → List Name
collections parts object = flat_map (collection_by object) parts

abbrev pub giver_by : Name → Part → List Name
giver_by attribute (Gives g) = if same_name g.attribute attribute then g.collection ∷ [] else []
giver_by attribute (Node n) = []
giver_by attribute (Member c n) = []
giver_by attribute (Edge o l v) = []

-- the collections whose directives give the attribute a kind
abbrev pub givers : List Part → Name → List Name
givers parts attribute = flat_map (giver_by attribute) parts

-- the kinds that directives of the object's collections give the attribute
abbrev pub kinds_of : List Part → Name → Name → List Kind
kinds_of parts object attribute = flat_map (λ c. given parts c attribute) (collections parts object)

-- no kind, one kind however often, or several
abbrev pub told : List Kind → StatedKinds
told [] = Nothing
told (k ∷ ks) = if list_all (same_kind k) ks then One k else Several

-- whether one of the kinds is another than k
abbrev pub differs : List Kind → Kind → Bool
differs ks k = list_any (λ j. not (same_kind j k)) ks
