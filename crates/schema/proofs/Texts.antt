-- The text and the picture of the schema, from what the engine keeps.
use Rattle.std.proofs.Common.{◌≡◌, ℕ, List, [], ◌∷◌, ◌++◌, map, refl, sym, ap, subst, ◌∙◌, append_assoc}
use Rattle.std.specs.Prelude.{filter, codes}
use Rattle.std.specs.List.{flat_map}
use Rattle.query_spec.specs.Query as plain
use Rattle.query_spec.specs.Query.{Target, made, Query}
use Rattle.sd_value.specs.Names.{Name}
use Rattle.site_spec.specs.Schema as spec
use Rattle.site_spec.specs.Schema.{schema_edges, starts_at}
use Rattle.schema.specs.declared.SchemaFunction.{SchemaFunction}
use Rattle.schema.specs.declared.SchemaEdge.{SchemaEdge}
use Rattle.schema.specs.declared.SiteSchema.{SiteSchema}
use Rattle.schema.specs.Rows.{row, target_function, rows_from, IsSchema}
use Rattle.schema.specs.Text.{end_text, edge_line, function_lines, IsSchemaText}
use Rattle.schema.specs.Picture.{end_node, edge_statement, function_statements, IsPicture}
use Rattle.schema.specs.Lines.{end_word, row_line, row_lines, end_name, row_statement, row_statements}

end_is : (t : Target) → end_word (target_function t) ≡ end_text t
end_is (plain.plain operand) = refl
end_is (made t) = refl
end_is (plain.summed a) = refl

line_is : (version : ℕ) (e : spec.SchemaEdge) → row_line (row version e) ≡ edge_line e
line_is version e = rw (end_is e.link.target) refl

name_is : (t : Target) → end_name (target_function t) ≡ end_node t
name_is (plain.plain operand) = refl
name_is (made t) = refl
name_is (plain.summed a) = refl

statement_is : (version : ℕ) (f : SchemaFunction) (e : spec.SchemaEdge) → row_statement f (row version e) ≡ edge_statement version f e
statement_is version f e = rw (name_is e.link.target) refl

mapped_texts : {X Y : Type 0} (g : X → Y) (a : Y → List ℕ) (b : X → List ℕ) (xs : List X) → ((x : X) → a (g x) ≡ b x) → flat_map a (map g xs) ≡ flat_map b xs
mapped_texts g a b [] same = refl
mapped_texts g a b (x ∷ xs) same = rw (same x, mapped_texts g a b xs same) refl

same_texts : {X : Type 0} (a b : X → List ℕ) (xs : List X) → ((x : X) → a x ≡ b x) → flat_map a xs ≡ flat_map b xs
same_texts a b [] same = refl
same_texts a b (x ∷ xs) same = rw (same x, same_texts a b xs same) refl

module _ (q : Query) (s : SiteSchema) (is : IsSchema q s) where
  lines_are : (f : SchemaFunction) → row_lines s.edges.items f ≡ function_lines (schema_edges q) f
  lines_are f = rw (is.edges f.name, mapped_texts (row q.version) row_line edge_line (filter (starts_at f.name) (schema_edges q)) (line_is q.version)) refl

  statements_are : (f : SchemaFunction) → row_statements s.edges.items f ≡ function_statements q.version (schema_edges q) f
  statements_are f = rw (is.edges f.name, mapped_texts (row q.version) (row_statement f) (edge_statement q.version f) (filter (starts_at f.name) (schema_edges q)) (statement_is q.version f)) refl

  pub is_text : (old first new : List ℕ) → first ≡ old ++ codes "other\n" → new ≡ first ++ flat_map (row_lines s.edges.items) s.functions.items
      → (text : List ℕ) × IsSchemaText q text × (new ≡ old ++ text)
  is_text old first new f n =
      let lines = flat_map (function_lines (schema_edges q)) s.functions.items in
      let all = same_texts (row_lines s.edges.items) (function_lines (schema_edges q)) s.functions.items lines_are in
      (codes "other\n" ++ lines, (s.functions.items, is.functions, refl), rw (n, f, all) (append_assoc old (codes "other\n") lines))

  pub is_picture : (old first second new : List ℕ) → first ≡ old ++ codes "digraph site {\n  \"other\"\n" → second ≡ first ++ flat_map (row_statements s.edges.items) s.functions.items → new ≡ second ++ codes "}\n"
      → (text : List ℕ) × IsPicture q text × (new ≡ old ++ text)
  is_picture old first second new f m n =
      let head = codes "digraph site {\n  \"other\"\n" in
      let lines = flat_map (function_statements q.version (schema_edges q)) s.functions.items in
      let all = same_texts (row_statements s.edges.items) (function_statements q.version (schema_edges q)) s.functions.items statements_are in (
        head ++ (lines ++ codes "}\n"),
        (s.functions.items, is.functions, refl),
        rw (n, m, f, all) (append_assoc (old ++ head) lines (codes "}\n") ∙ append_assoc old head (lines ++ codes "}\n")),
      )
