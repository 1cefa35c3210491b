use Rattle.std.proofs.Common.{ℕ, ◌∷◌, [], sym, subst, rules}
use Rattle.mcap_model.specs.Made.{top}
use Rattle.mcap_model.proofs.ShownMessages.{ok_then}
use Rattle.mcap_sort.specs.Declaring.{NotesAll}
use Rattle.mcap_sort.proofs.Declared.{other_noted}
use Rattle.mcap_sort.proofs.declaring.note_one.Goals as goal

pub returns-in-3 : goal.returns-in-3
returns-in-3 c = ok_then c.note_schema.result c.note_schema.ensures (λ notes. subst (λ (n : ℕ). NotesAll c.args.tables.now c.note_schema.new.tables (top n c.args.content.now ∷ [])) (sym c.in-3.is) notes)

pub returns-in-4 : goal.returns-in-4
returns-in-4 c = ok_then c.note_channel.result c.note_channel.ensures (λ notes. subst (λ (n : ℕ). NotesAll c.args.tables.now c.note_channel.new.tables (top n c.args.content.now ∷ [])) (sym c.in-4.is) notes)

pub returns-in_default : goal.returns-in_default
returns-in_default c = other_noted c.args.tables.now (top c.args.op c.args.content.now) (λ kind. search rules) (λ kind. search rules)
