-- What `lint` tells: exactly the findings.
use Rattle.std.specs.Prelude.{◌≡◌, ◌↔◌, ℕ, List, ◌++◌, Bool, IsTrue, Option, Ok}
use Rattle.edge_io.specs.Files.{FileMap}
use Rattle.edge_io.specs.Sink.{Gains}
use Rattle.command_spec.specs.Limits.{text_limit}
use Rattle.command_spec.specs.declared.DataFiles.{DataFiles}
use Rattle.graph_spec.specs.DataGraph.{DataGraph}
use Rattle.query_spec.specs.Query as plain
use Rattle.tmpl.specs.Body.{TemplateFile}
use Rattle.lint_spec.specs.Findings.{are_notes}
use Rattle.run_report.specs.declared.status.Status.{Status}
use Rattle.run_report.specs.declared.status.Status.TheVariants as status
use Rattle.site_inputs.specs.Runs.{FileEnds}
use Rattle.site_inputs.specs.Sources.{GraphEnds, empty_building}
use Rattle.site_inputs.specs.Sites.{QueryTaken, TemplatesTaken}
use Rattle.command_lint.specs.Ends.{SiteTexts, IsLintReport}

module _ (map : FileMap) (sources : DataFiles) (query_path templates_path : List ℕ) where
  -- the files spell these data, this query and these templates, and these are the texts of the last two
  pub record AreInputs (graph : DataGraph) (query : plain.Query) (templates : TemplateFile)
      (texts : SiteTexts) : Type 0 where
    pub is_graph : GraphEnds map empty_building sources (Ok graph)
    pub query_file : texts.query_path ≡ query_path
    pub query_bytes : FileEnds text_limit map query_path (Ok texts.query)
    pub is_query : QueryTaken query_path texts.query (Ok query)
    pub templates_file : texts.templates_path ≡ templates_path
    pub template_bytes : FileEnds text_limit map templates_path (Ok texts.templates)
    pub are_templates : TemplatesTaken templates_path texts.templates (Ok templates)

  -- The output has gained exactly the lines of the findings in the files' texts, and the status is 0
  -- exactly if each is a note.
  pub record TellsFindings (old new : Option (List ℕ)) (reached : Status) : Type 0 where
    pub graph : DataGraph
    pub query : plain.Query
    pub templates : TemplateFile
    pub texts : SiteTexts
    pub inputs : AreInputs graph query templates texts
    pub text : List ℕ
    pub all_met : Bool
    pub report : IsLintReport graph query templates texts text all_met
    pub gained : Gains old new text
    pub clean : (reached ≡ status.Ok)
        ↔ IsTrue (are_notes (report.in_query ++ report.in_templates))
