-- A data file has one answer, by its format.
use Rattle.std.specs.Prelude.{◌≡◌, ℕ, List, Result, Ok, Err, ⊤}
use Rattle.std.proofs.Common.{refl, sym, ◌∙◌, ap}
use Rattle.sd_graph.specs.Statement.{Building}
use Rattle.token_reader.specs.declared.refusal.TextRefusal.TheVariants as text
use Rattle.sd_ddl.specs.declared.refusal.DdlRefusal.{DdlRefusal}
use Rattle.sd_ddl.specs.declared.refusal.DdlRefusal.TheVariants as ddl
use Rattle.csv_source.specs.Once as csv_law
use Rattle.json_source.specs.Once as json_law
use Rattle.bibtex_source.specs.Once as bib_law
use Rattle.sqlite_source.specs.Once as db_law
use Rattle.text_source.specs.Once as text_law
use Rattle.ddl_laws.specs.OneAnswer.{IsSettled}
use Rattle.ddl_laws.proofs.DataText as ddl_law
use Rattle.data_source.specs.declared.rules.SourceRules.{SourceRules}
use Rattle.data_source.specs.declared.format.Format.{Format}
use Rattle.data_source.specs.declared.format.Format.TheVariants.{DataText, Csv, Json, BibTex, Database, Text}
use Rattle.data_source.specs.declared.refusal.SourceRefusal.{SourceRefusal}
use Rattle.data_source.specs.declared.refusal.SourceRefusal.TheVariants.{NoMemory}
use Rattle.data_source.specs.Told.{ddl_told, csv_told, json_told, bib_told, db_told, text_file_told, answer_told}
use Rattle.data_source.specs.Formats.{format_of}
use Rattle.data_source.specs.Takes.{TakesAs}
use Rattle.data_source.specs.OneAnswer.{HasOneAnswer}

settled : (p : Result ⊤ DdlRefusal) → (answer_told ddl_told p ≡ Err NoMemory → ⊥) → IsSettled p
settled (Ok u) h = tt
settled (Err (ddl.Text text.NoMemory)) h = h refl
settled (Err e) h = tt

-- the same of a format
pub as_one : (rules : SourceRules) (format : Format) (limit : ℕ) (bytes : List ℕ) (b c d : Building) (r s : Result ⊤ SourceRefusal)
    → TakesAs rules format limit bytes b c r → TakesAs rules format limit bytes b d s → (r ≡ Err NoMemory → ⊥) → (s ≡ Err NoMemory → ⊥) → (c ≡ d) × (r ≡ s)
as_one rules DataText limit bytes b c d r s (p, reads, is) (q, reads2, is2) left right =
    let both = ddl_law.one_answer limit bytes b c d p q reads reads2 (settled p (λ e. left (is ∙ e))) (settled q (λ e. right (is2 ∙ e))) in
    (both.0, is ∙ ap (answer_told ddl_told) both.1 ∙ sym is2)
as_one rules (Csv stem) limit bytes b c d r s (p, reads, is) (q, reads2, is2) left right =
    let both = csv_law.has_one_answer rules.csv stem bytes b c d p q reads reads2 (λ e. left (is ∙ ap (answer_told csv_told) e)) (λ e. right (is2 ∙ ap (answer_told csv_told) e)) in
    (both.0, is ∙ ap (answer_told csv_told) both.1 ∙ sym is2)
as_one rules (Json stem) limit bytes b c d r s (p, reads, is) (q, reads2, is2) left right =
    let both = json_law.has_one_answer rules.json stem bytes b c d p q reads reads2 (λ e. left (is ∙ ap (answer_told json_told) e)) (λ e. right (is2 ∙ ap (answer_told json_told) e)) in
    (both.0, is ∙ ap (answer_told json_told) both.1 ∙ sym is2)
as_one rules (BibTex stem) limit bytes b c d r s (p, reads, is) (q, reads2, is2) left right =
    let both = bib_law.has_one_answer rules.bibtex stem bytes b c d p q reads reads2 (λ e. left (is ∙ ap (answer_told bib_told) e)) (λ e. right (is2 ∙ ap (answer_told bib_told) e)) in
    (both.0, is ∙ ap (answer_told bib_told) both.1 ∙ sym is2)
as_one rules (Database stem) limit bytes b c d r s (p, reads, is) (q, reads2, is2) left right =
    let both = db_law.has_one_answer stem bytes b c d p q reads reads2 (λ e. left (is ∙ ap (answer_told db_told) e)) (λ e. right (is2 ∙ ap (answer_told db_told) e)) in
    (both.0, is ∙ ap (answer_told db_told) both.1 ∙ sym is2)
as_one rules (Text stem folder) limit bytes b c d r s (p, reads, is) (q, reads2, is2) left right =
    let both = text_law.has_one_answer stem folder bytes b c d p q reads reads2 (λ e. left (is ∙ ap (answer_told text_file_told) e)) (λ e. right (is2 ∙ ap (answer_told text_file_told) e)) in
    (both.0, is ∙ ap (answer_told text_file_told) both.1 ∙ sym is2)

pub one_answer : (rules : SourceRules) (path : List ℕ) (limit : ℕ) (bytes : List ℕ) (b : Building) → HasOneAnswer rules path limit bytes b
one_answer rules path limit bytes b = as_one rules (format_of rules path) limit bytes b
