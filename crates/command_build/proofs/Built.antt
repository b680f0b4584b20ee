-- How a build ends.
use Rattle.std.proofs.Common.{◌≡◌, ◌∙◌, ℕ, List, inl, inr, ⊎_elim, refl, sym, ap, subst, arith}
use Rattle.std.specs.Prelude.{Option, None, Some, Result, Ok, Err, ⊤}
use Rattle.sd_value.specs.declared.Term.{Term}
use Rattle.edge_io.specs.Files.{FileMap}
use Rattle.graph_spec.specs.DataGraph.{DataGraph}
use Rattle.tmpl.specs.Body.{TemplateFile}
use Rattle.site_spec.specs.Site.{Scope}
use Rattle.weight_spec.specs.Site.{site_of}
use Rattle.page_spec.specs.Site.{Site}
use Rattle.run_report.specs.declared.status.PageKind.{PageKind}
use Rattle.files_spec.specs.declared.stop.Stop.{Stop}
use Rattle.files_spec.specs.declared.stop.Stop.TheVariants as stop
use Rattle.files_spec.specs.Files.{SiteEnds}
use Rattle.files_spec.specs.Causes.{IsSitePath, WritesHaveCause}
use Rattle.command_spec.specs.declared.BuildCommand.{BuildCommand}
use Rattle.std.specs.Option.{IsSomeAnd}
use Rattle.std.specs.Prelude.{IfOk, length}
use Rattle.sd_value.specs.Order.{term_cmp}
use Rattle.sd_value.specs.Ascending.{ListsExactly}
use Rattle.page_spec.specs.Page.{IsPresent}
use Rattle.site_spec.specs.Site.{scope_of}
use Rattle.site_spec.specs.Root.{root_function}
use Rattle.run_report.specs.declared.status.Status.{Status}
use Rattle.run_report.specs.declared.status.Status.TheVariants as status
use Rattle.edge_io.specs.Sink.{Gains, GainsPart}
use Rattle.edge_io.specs.Counts.{Rose}
use Rattle.site_inputs.specs.declared.fault.Fault.{Fault}
use Rattle.site_inputs.specs.declared.fault.Fault.TheVariants as fault
use Rattle.site_inputs.specs.Sites.{Inputs, InputsEnd}
use Rattle.site_inputs.specs.Statuses.{status_of}
use Rattle.site_inputs.specs.Outside.{Host, host}
use Rattle.site_inputs.proofs.PageFaults.{inputs_none}
use Rattle.command_build.specs.Ends.{BuiltEnds, Builds, BuildEnds, IsSiteFile, SiteRose, build_text, written_end, stop_status}

-- a page's fault leaves what is left when out of memory at that page
site_no_memory : (s : Site) (f : TemplateFile) (folder : List ℕ) (terms : List Term) (root : Option (List ℕ)) (old new : FileMap) (term : Term) (kind : PageKind)
    → SiteEnds s f folder terms root old new (Err (stop.Faulty term kind)) → SiteEnds s f folder terms root old new (Err stop.NoMemory)
site_no_memory s f folder terms root old new term kind (inl at) = inl (record { front = at.front; at = at.at; back = at.back; split = at.split; between = at.between; written = at.written; stops = at.stops.2 })
site_no_memory s f folder terms None old new term kind (inr after) = absurd after.then_root
site_no_memory s f folder terms (Some root) old new term kind (inr after) = absurd after.then_root

not_both : (term : Term) (kind : PageKind) → ◌≡◌ {A = Result (List ℕ) Stop} (Err (stop.Faulty term kind)) (Err stop.NoMemory) → ⊥
not_both term kind e = cc

pub faulty_is_no_memory : (old new : FileMap) (command : BuildCommand) (term : Term) (kind : PageKind) → Builds old new command (Err (stop.Faulty term kind)) → Builds old new command (Err stop.NoMemory)
faulty_is_no_memory old new command term kind b = record {
  inputs = b.inputs;
  taken = b.taken;
  built = ⊎_elim
      (λ i. inl (record { pages = i.pages; are_pages = i.are_pages; files = site_no_memory _ _ _ _ _ _ _ term kind i.files; told = tt }))
      (λ n. absurd (not_both term kind n.0))
      b.built;
}

-- the files of a site over equal parts
pub site_ends_over : (graph graph2 : DataGraph) (scope scope2 : Scope) (file file2 : TemplateFile) (root root2 : Option (List ℕ)) (folder : List ℕ) (terms : List Term) (old new : FileMap) (end : Result ⊤ Stop)
    → graph ≡ graph2 → scope ≡ scope2 → file ≡ file2 → root ≡ root2 → SiteEnds (site_of graph scope) file folder terms root old new end → SiteEnds (site_of graph2 scope2) file2 folder terms root2 old new end
site_ends_over graph graph2 scope scope2 file file2 root root2 folder terms old new end is_graph is_scope is_file is_root ends = rw (sym is_graph, sym is_scope, sym is_file, sym is_root) ends

-- a path of a site that was written from its inputs
pub site_file : (s : Inputs) (graph : DataGraph) (scope : Scope) (file : TemplateFile) (root : Option (List ℕ)) (folder : List ℕ) (terms : List Term) (path : List ℕ)
    → graph ≡ s.graph → scope ≡ scope_of s.query → file ≡ s.templates → root ≡ root_function s.query → ListsExactly term_cmp (IsPresent (site_of graph scope) file) terms → IsSitePath folder terms root path → IsSiteFile s folder path
site_file s graph scope file root folder terms path is_graph is_scope is_file is_root listed is_path = record {
  pages = terms;
  are_pages = rw (sym is_graph, sym is_scope, sym is_file) listed;
  is_path = rw (sym is_root) is_path;
}

-- a site that was written from its inputs
pub built_told : (n : Option FileMap) (s : Inputs) (graph : DataGraph) (scope : Scope) (file : TemplateFile) (root : Option (List ℕ)) (folder : List ℕ) (terms : List Term) (old : FileMap) (end : Result (List ℕ) Stop)
    → graph ≡ s.graph → scope ≡ scope_of s.query → file ≡ s.templates → root ≡ root_function s.query → ListsExactly term_cmp (IsPresent (site_of graph scope) file) terms → IfOk end (λ text. text ≡ build_text (length terms))
    → IsSomeAnd n (λ new. SiteEnds (site_of graph scope) file folder terms root old new (written_end end)) → IsSomeAnd n (λ new. BuiltEnds s folder old new end)
built_told None s graph scope file root folder terms old end is_graph is_scope is_file is_root listed told h = h
built_told (Some new) s graph scope file root folder terms old end is_graph is_scope is_file is_root listed told h = inl (record {
  pages = terms;
  are_pages = rw (sym is_graph, sym is_scope, sym is_file) listed;
  files = site_ends_over graph s.graph scope (scope_of s.query) file s.templates root (root_function s.query) folder terms old new (written_end end) is_graph is_scope is_file is_root h;
  told = told;
})

-- out of memory before the first file
pub unbuilt_told : (o n : Option FileMap) (s : Inputs) (folder : List ℕ) (old : FileMap) (end : Result (List ℕ) Stop) → n ≡ o → o ≡ Some old → end ≡ Err stop.NoMemory → IsSomeAnd n (λ new. BuiltEnds s folder old new end)
unbuilt_told o n s folder old end same told is =
    let at : n ≡ Some old = same ∙ told in
    subst (λ (x : Option FileMap). IsSomeAnd x (λ new. BuiltEnds s folder old new end)) (sym at) (inr (is, refl))

-- ---- statuses

-- an input that isn't taken ends the run, and nothing is written or put
refused_ends : (command : BuildCommand) (before after : Host) (reason : Fault)
    → after.files ≡ before.files → after.output ≡ before.output
    → InputsEnd before.files command.sources command.over command.query command.templates (Err reason)
    → BuildEnds command before after (status_of reason)
refused_ends command before after (fault.Refused refusal) files out h = (h, files)
refused_ends command before after (fault.Unread path) files out h = (h, files)
refused_ends command before after (fault.Faulty term kind) files out h =
    absurd ((inputs_none before.files command.sources command.over command.query command.templates).none (fault.Faulty term kind) tt h)
refused_ends command before after fault.NotFound files out h =
    absurd ((inputs_none before.files command.sources command.over command.query command.templates).none fault.NotFound tt h)
refused_ends command before after fault.NoMemory files out h = (inl files, out)

stopped_ends : (command : BuildCommand) (before after : Host) (s : Inputs) (reason : Stop)
    → after.output ≡ before.output
    → InputsEnd before.files command.sources command.over command.query command.templates (Ok s)
    → BuiltEnds s command.folder before.files after.files (Err reason)
    → ((path : List ℕ) → reason ≡ stop.Unwritten path → SiteRose s command.folder before.failed_writes after.failed_writes path)
    → BuildEnds command before after (stop_status reason)
stopped_ends command before after s (stop.Faulty term kind) out taken built rose = record { inputs = s; taken = taken; built = built }
stopped_ends command before after s (stop.Unwritten path) out taken built rose = record { builds = record { inputs = s; taken = taken; built = built }; rose = rose path refl; quiet = out }
stopped_ends command before after s stop.NoMemory out taken built rose = (inr (record { inputs = s; taken = taken; built = built }), out)

-- the counts and the output before and after
module _ (reads reads_now writes writes_now : List ℕ → ℕ) (output output_now : Option (List ℕ)) (puts puts_now : ℕ) where
  abbrev pub Before : FileMap → Host
  Before map = host map reads writes output puts

  abbrev pub After : FileMap → Host
  After map = host map reads_now writes_now output_now puts_now

  pub refused_told : (o n : Option FileMap) (map : FileMap) (command : BuildCommand) (reason : Fault) (ended : Status)
      → output_now ≡ output → n ≡ o → o ≡ Some map → ended ≡ status_of reason
      → InputsEnd map command.sources command.over command.query command.templates (Err reason)
      → IsSomeAnd n (λ now. BuildEnds command (Before map) (After now) ended)
  refused_told o n map command reason ended out same told is h =
      let at : n ≡ Some map = same ∙ told in
      subst (λ (x : Option FileMap). IsSomeAnd x (λ now. BuildEnds command (Before map) (After now) ended)) (sym at)
      (subst (BuildEnds command (Before map) (After map)) (sym is) (refused_ends command (Before map) (After map) reason refl out h))

  pub stopped_told : (n : Option FileMap) (old : FileMap) (command : BuildCommand) (s : Inputs) (reason : Stop) (ended : Status)
      → output_now ≡ output → ended ≡ stop_status reason
      → InputsEnd old command.sources command.over command.query command.templates (Ok s)
      → IsSomeAnd n (λ new. BuiltEnds s command.folder old new (Err reason))
      → ((path : List ℕ) → reason ≡ stop.Unwritten path → SiteRose s command.folder writes writes_now path)
      → IsSomeAnd n (λ new. BuildEnds command (Before old) (After new) ended)
  stopped_told None old command s reason ended out is taken h rose = h
  stopped_told (Some new) old command s reason ended out is taken h rose =
      subst (BuildEnds command (Before old) (After new)) (sym is) (stopped_ends command (Before old) (After new) s reason out taken h rose)

  pub whole_told : (n : Option FileMap) (old : FileMap) (command : BuildCommand) (s : Inputs) (line : List ℕ)
      → InputsEnd old command.sources command.over command.query command.templates (Ok s)
      → IsSomeAnd n (λ new. BuiltEnds s command.folder old new (Ok line)) → Gains output output_now line
      → IsSomeAnd n (λ new. BuildEnds command (Before old) (After new) status.Ok)
  whole_told None old command s line taken h gained = h
  whole_told (Some new) old command s line taken h gained = (line, record { inputs = s; taken = taken; built = h }, gained)

  pub part_told : (n : Option FileMap) (old : FileMap) (command : BuildCommand) (s : Inputs) (line : List ℕ)
      → InputsEnd old command.sources command.over command.query command.templates (Ok s)
      → IsSomeAnd n (λ new. BuiltEnds s command.folder old new (Ok line)) → GainsPart output output_now line → Rose puts puts_now
      → IsSomeAnd n (λ new. BuildEnds command (Before old) (After new) status.WriteFault)
  part_told None old command s line taken h gained rose = h
  part_told (Some new) old command s line taken h gained rose = record { text = line; builds = record { inputs = s; taken = taken; built = h }; gained = gained; rose = rose }

pub unwritten_of : (reason : Stop) (ended : Status) (path : List ℕ) → ended ≡ stop_status reason → ended ≡ status.FileFault path → reason ≡ stop.Unwritten path
unwritten_of (stop.Faulty term kind) ended path e u = let both = sym e ∙ u in cc
unwritten_of (stop.Unwritten other) ended path e u = let both = sym e ∙ u in cc
unwritten_of stop.NoMemory ended path e u = let both = sym e ∙ u in cc

-- a build that stops has no output that failed
pub no_put_failed : (reason : Stop) (ended : Status) → ended ≡ stop_status reason → ended ≡ status.WriteFault → ⊥
no_put_failed (stop.Faulty term kind) ended e u = let both = sym e ∙ u in cc
no_put_failed (stop.Unwritten path) ended e u = let both = sym e ∙ u in cc
no_put_failed stop.NoMemory ended e u = let both = sym e ∙ u in cc

stop_is : (reason : Stop) (path : List ℕ) → ◌≡◌ {A = Result (List ℕ) Stop} (Err reason) (Err (stop.Unwritten path)) → reason ≡ stop.Unwritten path
stop_is reason path e = cc

-- a fault, whatever it is a fault of
pub unwritten_again : (reason : Stop) (path : List ℕ) → ◌≡◌ {A = Result (List ℕ) Stop} (Err reason) (Err (stop.Unwritten path)) → ◌≡◌ {A = Result ⊤ Stop} (Err reason) (Err (stop.Unwritten path))
unwritten_again reason path e = ap (λ (r : Stop). Err r) (stop_is reason path e)

-- where it was out of memory before anything was written, no count rose
pub no_write : (P : List ℕ → Type 0) (counts : List ℕ → ℕ) (end : Result (List ℕ) Stop) → end ≡ Err stop.NoMemory → WritesHaveCause P counts counts end
no_write P counts end is = record { later = λ path. omega arith; failed = λ path e. absurd cc }
