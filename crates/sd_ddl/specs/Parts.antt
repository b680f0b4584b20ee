-- What a data text says, part by part, in the order of the text.
use Rattle.std.specs.Prelude.{ℕ, List, ◌∷◌, ◌++◌, map}
use Rattle.std.specs.List.{flat_map}
use Rattle.token_reader.specs.declared.reading.Word.{Word}
use Rattle.ddl_text.specs.declared.tree.Entry.{Entry}
use Rattle.ddl_text.specs.declared.tree.Field.{Field}
use Rattle.ddl_text.specs.declared.tree.Statement.{Statement}
use Rattle.ddl_text.specs.declared.tree.Statement.TheVariants.{Collection, Object}
use Rattle.sd_ddl.specs.declared.part.Part.{Part}
use Rattle.sd_ddl.specs.declared.part.Part.TheVariants.{Gives, Node, Member, Edge}

abbrev pub kind_part : List ℕ → Entry → Part
kind_part collection entry =
    Gives (record { collection = collection; attribute = entry.name.text; kind = entry.kind })

abbrev pub member_part : List ℕ → Word → Part
member_part object collection = Member collection object

abbrev pub edge_part : List ℕ → Field → Part
edge_part object field = Edge object field.name.text field.value

-- a directive gives kinds. An object is a node, then in its collections, and then has its attributes
abbrev pub parts_of : Statement → List Part
parts_of (Collection name entries) = map (kind_part name.text) entries
parts_of (Object name collections fields) =
    Node name ∷ (map (member_part name.text) collections ++ map (edge_part name.text) fields)

abbrev pub parts : List Statement → List Part
parts = flat_map parts_of
