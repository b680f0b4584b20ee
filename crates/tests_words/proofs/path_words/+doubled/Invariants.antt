use Rattle.tests_words.proofs.path_words.+doubled.Given as goal

abbrev pub decreases-doubled : goal.decreases-doubled
decreases-doubled l = l.times
