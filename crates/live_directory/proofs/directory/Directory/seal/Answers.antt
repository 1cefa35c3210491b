use Rattle.std.proofs.Common.{rules, ◌≡◌, [], subst, true}
use Rattle.live_directory.specs.Writing.{DirectoryState, Seals, StaysUnsealed, seen_of, EndAdded}
use Rattle.live_directory.proofs.Sending.{seals, stays_unsealed}
use Rattle.live_directory.proofs.directory.Directory.seal.Goals as goal

pub returns-in-Ok-show : goal.returns-in-Ok-show
returns-in-Ok-show g c =
    let o = c.self.inside.outbox in
    let unlisted : o.unlisted ≡ [] = search rules in
    let ending : EndAdded c.settle.new.self c.add_end.new.self c.args.end = search rules in
    subst (λ (d : DirectoryState g.row.X.Denot). Seals d (seen_of c.show.new.self true) c.args.end c.note-note.result) c.self.view_is
    (seals o c.settle.new.self c.add_end.new.self c.show.new.self c.args.end c.self.inside.short true c.note-note.result unlisted (search rules) ending (search rules) c.note-note.ensures.note)

pub returns-in-Err-show : goal.returns-in-Err-show
returns-in-Err-show g c =
    let o = c.self.inside.outbox in
    let unlisted : o.unlisted ≡ [] = search rules in
    let ending : EndAdded c.settle.new.self c.add_end.new.self c.args.end = search rules in
    subst (λ (d : DirectoryState g.row.X.Denot). StaysUnsealed d (seen_of c.show.new.self true)) c.self.view_is
    (stays_unsealed o c.settle.new.self c.add_end.new.self c.show.new.self c.args.end c.self.inside.short unlisted (search rules) ending (search rules))
