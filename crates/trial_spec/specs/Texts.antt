-- The query and the templates of a trial's site.
use Rattle.std.specs.Prelude.{ℕ, List, ◌++◌, codes}

-- the query
abbrev pub query_text : List ℕ
query_text =
    codes "INPUT Bib\n{ CREATE RootPage() }\n{ WHERE Publications(x), x -> l -> v\n"
    ++ codes "  CREATE PaperPage(x)\n  LINK PaperPage(x) -> l -> v, "
    ++ codes "RootPage() -> \"Paper\" -> PaperPage(x)\n  { WHERE l = \"year\"\n"
    ++ codes "    CREATE YearPage(v)\n    LINK YearPage(v) -> \"Year\" -> v, "
    ++ codes "YearPage(v) -> \"Paper\" -> PaperPage(x),\n"
    ++ codes "         RootPage() -> \"Year\" -> YearPage(v) } }\nOUTPUT Home\n"

-- the templates
abbrev pub templates_text : List ℕ
templates_text =
    codes "<TEMPLATE RootPage><h1>Home</h1><SFMT @Paper LINK=title DELIM=\", \"></TEMPLATE>\n"
    ++ codes "<TEMPLATE PaperPage><h1><SFMT @title></h1><SFMT @author DELIM=\" and \">"
    ++ codes "</TEMPLATE>\n<TEMPLATE YearPage><h1><SFMT @Year></h1>"
    ++ codes "<SFMT @Paper LINK=title DELIM=\", \"></TEMPLATE>\n"
