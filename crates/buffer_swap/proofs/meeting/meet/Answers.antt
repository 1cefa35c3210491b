use Rattle.std.proofs.Common.{rules, ap, sym, subst, ◌∙◌}
use Rattle.mcap_model.specs.declared.ends.End.{End}
use Rattle.buffer_swap.specs.Posts.{note_post}
use Rattle.buffer_swap.specs.Turns.{newcomer}
use Rattle.buffer_swap.specs.Plays.{reads, IsMet, Met}
use Rattle.buffer_swap.specs.declared.view.View.{View}
use Rattle.buffer_swap.proofs.Keeps.{notes_drain, reads_note, meets}
use Rattle.buffer_swap.proofs.meeting.meet.Goals as goal

pub split_seat-note-requires : goal.split_seat-note-requires
split_seat-note-requires c = (search rules, search rules, notes_drain _ _ c.args.drain.now.kind)

pub join_seat-requires : goal.join_seat-requires
join_seat-requires c = let e = ap (λ m. m.0) c.split_seat-note.ensures.4 in (
  search rules,
  search rules,
  search rules,
  search rules,
  reads_note _ _ _ _ c.args.control.now.controls c.args.control.now.drains c.args.control.now.seated
      (e ∙ sym (ap (λ (x : View). newcomer 0 (note_post x.post.stop x.post.taken x.post.told)) e)),
)

pub load-requires : goal.load-requires
load-requires c = (search rules, search rules, meets _ _ _)

pub returns-clause-met : goal.returns-clause-met
returns-clause-met c = λ end over.
    let v = c.args.control.now.seat.me.0 in
    let read = ap (λ m. m.0) c.join_seat.ensures.2 ∙ ap (λ m. reads v m.0) c.split_seat-note.ensures.4 in
    subst (λ (x : View). (e : End) → IsMet x e → Met x.post.made x.post.known x.post.closed x.post.stop x.post.taken e) read c.load.ensures.2.1 end
    (record {
      controls = c.args.control.now.controls;
      quiet = c.args.control.now.publishes;
      own = c.args.control.now.own;
      all = c.requires.gathered;
      found = over.found;
      told = over.shown;
      ended = over.ended;
      count = over.count;
    })
