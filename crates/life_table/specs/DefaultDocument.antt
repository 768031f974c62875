-- The default table as a document writes it.
use Rattle.std.specs.Prelude.{ℕ, List, ◌++◌, codes}

abbrev pub default_document : List ℕ
default_document = codes "version = 1\nlate = 600\n"
    ++ (codes "[[text]]\ntype = \"METAR\"\nwords = 2\nlife = 7200\nform = 0\n"
    ++ (codes "[[text]]\ntype = \"SPECI\"\nas = \"METAR\"\n"
    ++ (codes "[[text]]\ntype = \"TAF\"\nwords = 2\nlife = 28800\nform = 0\n"
    ++ (codes "[[text]]\ntype = \"TAF.AMD\"\nas = \"TAF\"\n"
    ++ (codes "[[text]]\ntype = \"PIREP\"\nwords = 3\nlife = 10800\nform = 0\n"
    ++ (codes "[[text]]\ntype = \"WINDS\"\nwords = 3\nlife = 86400\nform = 2\n"
    ++ (codes "[[radar]]\nproduct = 63\nlife = 1200\nform = 0\n"
    ++ codes "[[radar]]\nproduct = 64\nlife = 2700\nform = 0\n")))))))
