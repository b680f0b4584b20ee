-- How the values of the program are read as plain ones.
use Rattle.std.specs.Prelude.{Result, Ok, Err}
use Rattle.tmpl.specs.Body.{TemplateFile}
use Rattle.tmpl.specs.Reading.{file_of}
use Rattle.tmpl.specs.declared.Templates.{Templates}
use Rattle.site_inputs.specs.declared.fault.Fault.{Fault}
use Rattle.site_inputs.specs.declared.site.SiteInputs.{SiteInputs}
use Rattle.site_inputs.specs.Sites.{Inputs}

-- templates as a plain file, or the same fault
abbrev pub file_result : Result Templates Fault → Result TemplateFile Fault
file_result (Ok t) = Ok (file_of t)
file_result (Err fault) = Err fault

-- the inputs as plain ones
abbrev pub inputs_of : SiteInputs → Inputs
inputs_of s = record {
  graph = s.graph;
  first = s.first;
  query = s.query;
  templates = file_of s.templates;
}

-- the inputs as plain ones, or the same fault
abbrev pub inputs_result : Result SiteInputs Fault → Result Inputs Fault
inputs_result (Ok s) = Ok (inputs_of s)
inputs_result (Err fault) = Err fault
