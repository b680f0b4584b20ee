-- Templates in tables.
use Rattle.std.specs.Prelude.{◌≡◌, ◌<◌, false, true, List, length, map, All}
use Rattle.tmpl.specs.Reading.{named_of, template_body}
use Rattle.template_reader.specs.declared.templates.Tables.{Tables}
use Rattle.template_reader.specs.Template.{Entry}
use Rattle.template_reader.specs.Entries.{named_from}

-- The tables have these templates, in order.
pub record Filed (t : Tables) (entries : List Entry) : Type 0 where
  pub bodies : map template_body t.bodies.items ≡ map (λ e. e.body) entries
  pub functions : map named_of t.functions.items ≡ named_from false 0 entries
  pub collections : map named_of t.collections.items ≡ named_from true 0 entries
  pub functions_in_range : All (λ n. n.template < length t.bodies.items) t.functions.items
  pub collections_in_range : All (λ n. n.template < length t.bodies.items) t.collections.items
