-- The printing is the one whose file and options were found.
use Rattle.std.proofs.Common.{◌∷◌, [], refl, subst, sym, codes, inl, inr}
use Rattle.command_words.specs.Commands.{Flags, synopsis_of}
use Rattle.command_words.specs.Items.{given}
use Rattle.command_words.specs.Matches.{rows_found}
use Rattle.command_words.specs.declared.verbs.Verb.TheVariants as verb
use Rattle.command_words.proofs.CommandLemmas.{cat_is, cat_selects, dash_bad, file_of_cat, places_in, range_of_cat}
use Rattle.command_words.proofs.parse.cat_of.Goals as goal

pub returns-in-Err-clause-bad : goal.returns-in-Err-clause-bad
returns-in-Err-clause-bad c = λ words reading why printing is.
    let rows = rows_found c.args.found.now in
    c.in-Err.ensures.bad (synopsis_of verb.Cat) reading.items (places_in reading) cat_selects reading.shows why printing.range (range_of_cat words rows reading printing is)
    (λ dash. dash_bad (synopsis_of verb.Cat) words rows reading is.items (printing.file ∷ []) (codes "topic") (inr (inr (inl refl))) dash is.reads)

pub returns-in-Err-one_name-clause-bad : goal.returns-in-Err-one_name-clause-bad
returns-in-Err-one_name-clause-bad c = λ words reading why printing is.
    c.in-Err-one_name.ensures.bad why printing.file is.named (file_of_cat words (rows_found c.args.found.now) reading printing is)

pub returns-in-Ok-one_name-clause-command : goal.returns-in-Ok-one_name-clause-command
returns-in-Ok-one_name-clause-command c = λ words reading.
    let rows = rows_found c.args.found.now in
    let selected = c.in-Ok.ensures.selected (synopsis_of verb.Cat) reading.items (places_in reading) cat_selects reading.shows in
    let flag = reading.shows.flags (codes "indexed") (inl refl) in
    let flagged : Flags (given (codes "indexed") reading.items) c.has_flag.result = subst (Flags (given (codes "indexed") reading.items)) (sym (c.has_flag.ensures flag.0 flag.2)) flag.1 in
    (cat_is words rows reading c.in-Ok-one_name.file c.has_flag.result c.in-Ok.selected.range c.in-Ok.selected.topic c.in-Ok-one_name.ensures.file.1 c.in-Ok-one_name.ensures.file.0 flagged selected.0 selected.1 selected.2, refl)
