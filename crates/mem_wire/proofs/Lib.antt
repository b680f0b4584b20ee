mod EntryLemmas
mod SteadyLemmas
