-- What became of the file decides whether its messages are played.
use Rattle.std.proofs.Common.{◌≡◌, List, [], Result, Ok, Err, refl, subst, ap, ◌∙◌}
use Rattle.std.specs.Prelude.{false, true}
use Rattle.mcap_model.specs.Plain.{asked_topic}
use Rattle.mcap_model.specs.Scan.{Seen}
use Rattle.mcap_model.specs.declared.refusals.ReadingRefused.{ReadingRefused}
use Rattle.time_player.specs.Stretches.{TimedLine}
use Rattle.command_base.specs.declared.file_reading.Reading.{Reading}
use Rattle.command_base.specs.declared.file_reading.Reading.TheVariants as readings
use Rattle.command_base.specs.ComplaintTroubles.{complained}
use Rattle.command_base.specs.OneFile.{failing, refusal_ending}
use Rattle.command_base.specs.Readings.{ending_of, IsSourceRead}
use Rattle.command_base.specs.Scenes.{scene}
use Rattle.command_base.proofs.ReadNames.{reading_halts}
use Rattle.command_base.proofs.Refusals.{refusal_is}
use Rattle.command_read.specs.Cat.{selection}
use Rattle.command_read.specs.PlaySteps.{LinesComeTo}
use Rattle.command_read.proofs.PlayDecides.{plays_file}
use Rattle.command_read.proofs.Plays.{file_replayed, file_refused, file_unopened}
use Rattle.command_read.proofs.Unplayed.{finds_unread, unopened_ending, unopened_is, unopened_halts, unopened_none, unopened_lacks, unopened_alike}
use Rattle.command_read.proofs.playing.play_file.Goals as goal

pub play_lines-requires-clause-rise : goal.play_lines-requires-clause-rise
play_lines-requires-clause-rise g c κs within =
    let name = c.read_source_name-reading.ensures in
    let asked = selection c.args.range (asked_topic c.args.topic) in
    let file = c.args.file.now in
    let world = g.W.World.state c.args.world.now in
    let read = subst (λ (r : Reading (List TimedLine) ReadingRefused). IsSourceRead (LinesComeTo asked) file world name.entries r) (c.in-Opened-Ok.is ∙ ap (λ (r : Result (List TimedLine) ReadingRefused). readings.Opened r) c.in-Opened-Ok.came-is) name.reading in
    (file_replayed asked file world name.entries c.in-Opened-Ok.lines name.name.opened read).rise

pub returns-in-Opened-Ok : goal.returns-in-Opened-Ok
returns-in-Opened-Ok g c =
    let name = c.read_source_name-reading.ensures in
    let asked = selection c.args.range (asked_topic c.args.topic) in
    let file = c.args.file.now in
    let world = g.W.World.state c.args.world.now in
    let old = scene world (g.O.Sink.state c.args.out.now) (g.E.Sink.state c.args.err.now) in
    let new = scene (g.W.World.state c.play_lines.new.world) (g.O.Sink.state c.play_lines.new.out) (g.E.Sink.state c.play_lines.new.err) in
    let read = subst (λ (r : Reading (List TimedLine) ReadingRefused). IsSourceRead (LinesComeTo asked) file world name.entries r) (c.in-Opened-Ok.is ∙ ap (λ (r : Result (List TimedLine) ReadingRefused). readings.Opened r) c.in-Opened-Ok.came-is) name.reading in
    let replayed = file_replayed asked file world name.entries c.in-Opened-Ok.lines name.name.opened read in
    plays_file asked file c.args.script.now old new c.play_lines.result name.entries (readings.Opened (Ok replayed.shown)) replayed.read
    (c.play_lines.ensures old name.entries replayed.shown c.of-before.ensures.are refl refl replayed.lines_are replayed.back name.name)

pub returns-in-Opened-Err : goal.returns-in-Opened-Err
returns-in-Opened-Err g c =
    let name = c.read_source_name-reading.ensures in
    let asked = selection c.args.range (asked_topic c.args.topic) in
    let file = c.args.file.now in
    let script = c.args.script.now in
    let world = g.W.World.state c.args.world.now in
    let now = g.W.World.state c.read_source_name-reading.new.world in
    let out = g.O.Sink.state c.args.out.now in
    let why = c.in-Opened-Err.why in
    let failed = c.read_source_name-reading.result.failed in
    let old = scene world out (g.E.Sink.state c.args.err.now) in
    let new = scene now out (g.E.Sink.state c.answer_two.new.err) in
    let found = c.unread-found.ensures in
    let read = subst (λ (r : Reading (List TimedLine) ReadingRefused). IsSourceRead (LinesComeTo asked) file world name.entries r) (c.in-Opened-Err.is ∙ ap (λ (r : Result (List TimedLine) ReadingRefused). readings.Opened r) c.in-Opened-Err.came-is) name.reading in
    let sure : refusal_ending file why ≡ failing → failed ≡ true =
    λ e. name.sure (ap (λ (r : Reading (List TimedLine) ReadingRefused). ending_of (λ lines. []) (refusal_ending file) r) (c.in-Opened-Err.is ∙ ap (λ (r : Result (List TimedLine) ReadingRefused). readings.Opened r) c.in-Opened-Err.came-is) ∙ e) in
    plays_file asked file script old new c.answer_two.result name.entries (readings.Opened (Err why)) (file_refused asked file world name.entries why read)
    (c.answer_two.ensures old name.entries false (refusal_ending file why) c.of-before.ensures.are refl
    (finds_unread file script old now out name.entries failed (refusal_ending file why) c.unread-found.result refl name.name sure
    (reading_halts {T = List Seen} (λ shown. []) (refusal_ending file) (refusal_is file) (readings.Opened (Err why))) (refusal_is file why) (record {
      file = ap complained found.file ∙ c.reading_complaint.ensures;
      other = found.other;
      lacks = found.lacked ∙ c.lacks_memory.ensures file;
      file_failed = found.failed;
      other_failed = found.other_failed;
      broke = found.broke;
    })))

pub returns-in-Unopened : goal.returns-in-Unopened
returns-in-Unopened g c =
    let name = c.read_source_name-reading.ensures in
    let asked = selection c.args.range (asked_topic c.args.topic) in
    let file = c.args.file.now in
    let script = c.args.script.now in
    let world = g.W.World.state c.args.world.now in
    let now = g.W.World.state c.read_source_name-reading.new.world in
    let out = g.O.Sink.state c.args.out.now in
    let why = c.in-Unopened.why in
    let failed = c.read_source_name-reading.result.failed in
    let old = scene world out (g.E.Sink.state c.args.err.now) in
    let new = scene now out (g.E.Sink.state c.answer_two-in-Unopened.new.err) in
    let found = c.unread-found-in-Unopened.ensures in
    let read = subst (λ (r : Reading (List TimedLine) ReadingRefused). IsSourceRead (LinesComeTo asked) file world name.entries r) c.in-Unopened.is name.reading in
    let sure : unopened_ending file why ≡ failing → failed ≡ true =
    λ e. name.sure (ap (λ (r : Reading (List TimedLine) ReadingRefused). ending_of (λ lines. []) (refusal_ending file) r) c.in-Unopened.is ∙ unopened_alike file why e) in
    plays_file asked file script old new c.answer_two-in-Unopened.result name.entries (readings.Unopened why) (file_unopened asked file world name.entries why read)
    (c.answer_two-in-Unopened.ensures old name.entries false (unopened_ending file why) c.of-before.ensures.are refl
    (finds_unread file script old now out name.entries failed (unopened_ending file why) c.unread-found-in-Unopened.result refl name.name sure
    (unopened_halts file why) (unopened_is file why) (record {
      file = ap complained found.file ∙ unopened_none file why;
      other = found.other;
      lacks = found.lacked ∙ unopened_lacks file why c.is_failed.result c.is_failed.ensures.failed c.is_failed.ensures.memory;
      file_failed = found.failed;
      other_failed = found.other_failed;
      broke = found.broke;
    })))
