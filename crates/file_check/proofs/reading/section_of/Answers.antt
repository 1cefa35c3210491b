use Rattle.file_check.proofs.reading.section_of.Goals as goal

pub returns : goal.returns
returns c = λ tops taken.
    c.finish.ensures tops taken.gathered taken.good taken.ended (record {
      tables = taken.tables_are;
      tally = λ section at. c.in-Ok.ensures tops section taken.gathered at taken.good;
      behind = taken.behind_is;
    })
