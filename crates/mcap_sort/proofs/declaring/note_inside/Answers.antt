use Rattle.std.proofs.Common.{[], ◌++◌, ◌∷◌, List, sym, ap, subst, ◌∙◌, append-nil, append_assoc}
use Rattle.mcap_model.specs.Tops.{Top, records_in}
use Rattle.mcap_model.specs.Walk.{inner_top}
use Rattle.mcap_sort.specs.Declaring.{NotesAll}
use Rattle.mcap_sort.proofs.Declared.{notes_none, notes_on}
use Rattle.mcap_sort.proofs.declaring.note_inside.Goals as goal

pub records-init : goal.records-init
records-init c = ([], ap records_in (sym c.new-walk.ensures.rest), notes_none c.args.tables.now)

pub records-preserved : goal.records-preserved
records-preserved c =
    let (done, is, notes) = c.records.invariant in
    let t = inner_top c.in-Some.inner in (
      done ++ t ∷ [],
      is ∙ ap (λ (l : List Top). done ++ l) c.in-Some.ensures.first ∙ sym (append_assoc done (t ∷ []) _),
      notes_on c.args.tables.now c.records.tables c.note_one.new.tables done (t ∷ []) notes c.in-Ok.ensures,
    )

pub returns-in-None : goal.returns-in-None
returns-in-None c =
    let (done, is, notes) = c.records.invariant in
    subst (NotesAll c.args.tables.now c.records.tables) (sym (is ∙ ap (λ (l : List Top). done ++ l) c.in-None.ensures.0 ∙ append-nil done)) notes
