-- What the reading of the script came to, and what was printed and told of it.
use Rattle.std.proofs.Common.{◌≡◌, List, [], ◌++◌, ap, subst, inr, ◌∙◌, refl, true}
use Rattle.std.specs.Prelude.{Vec}
use Rattle.std.specs.Global.{Global}
use Rattle.mcap_io.specs.Outside.{SinkState}
use Rattle.time_player.specs.declared.timed_lines.Stretch.{Stretch}
use Rattle.time_player.specs.Stretches.{TimedLine, stretches_text}
use Rattle.command_base.specs.OneFile.{Ending, text_of}
use Rattle.command_base.specs.OneFileSteps.{PrintsEnding}
use Rattle.command_base.specs.Printing.{Takes}
use Rattle.command_base.specs.Readings.{ending_of, IsSourceRead}
use Rattle.command_base.specs.Scenes.{scene}
use Rattle.command_base.proofs.OneFile.{either}
use Rattle.command_base.proofs.ReadNames.{reading_halts}
use Rattle.command_read.specs.Play.{script_ending}
use Rattle.command_read.specs.PlaySteps.{ScriptShows, played_ending, script_is}
use Rattle.command_read.specs.TwoFiles.{ReadsTwo}
use Rattle.command_read.proofs.TwoNames.{two_read, told_before}
use Rattle.command_read.proofs.Plays.{as_text, ending_same, script_read, lie_among, same_lack, fails_alike}
use Rattle.command_read.proofs.playing.play_lines.Goals as goal

pub print_played-broke-requires : goal.print_played-broke-requires
print_played-broke-requires g c =
    let second = c.read_source_name-read.ensures in
    lie_among c.args.lines c.args.names.other.now _ second.entries c.read_source_name-read.result.reading
    (subst (λ (l : List TimedLine). IsSourceRead (ScriptShows l) c.args.names.other.now (g.W.World.state c.args.world.now) second.entries c.read_source_name-read.result.reading) c.of-what.ensures second.reading)

pub returns : goal.returns
returns g c = λ old entries shown counted out_same err_same lines_are back name.
    let file = c.args.names.file.now in
    let other = c.args.names.other.now in
    let lines = c.args.lines in
    let second = c.read_source_name-read.ensures in
    let reading = c.read_source_name-read.result.reading in
    let failed = c.args.failed in
    let also = c.read_source_name-read.result.failed in
    let w1 = g.W.World.state c.args.world.now in
    let w2 = g.W.World.state c.read_source_name-read.new.world in
    let out = g.O.Sink.state c.print_played-broke.new.out in
    let broke = c.print_played-broke.result in
    let none : Vec Stretch Global → List _ = λ s. [] in
    let text : Vec Stretch Global → List _ = λ s. stretches_text lines s.items in
    let refusal = script_ending other in
    let ending : Ending = played_ending lines other reading in
    let same : ending ≡ ending_of (λ t. t) refusal (as_text shown reading) =
    ap (λ (l : List TimedLine). played_ending l other reading) lines_are ∙ ending_same shown other reading in
    record {
      more = second.entries;
      reading = as_text shown reading;
      read = script_read shown other old.world w1 second.entries reading (told_before file old.world w1 entries failed name other)
          (subst (λ (l : List TimedLine). IsSourceRead (ScriptShows l) other w1 second.entries reading) (c.of-what.ensures ∙ lines_are) second.reading);
      ran = subst (λ (e : Ending). ReadsTwo file other old (scene w2 out (g.E.Sink.state c.answer_two.new.err)) (entries ++ second.entries) true e c.answer_two.result) same
          (c.answer_two.ensures old (entries ++ second.entries) true ending counted err_same (record {
            names = two_read file other old.world w1 w2 entries second.entries failed also back name second.name;
            sure = λ e. either failed also (inr (second.sure (fails_alike text none refusal reading e)));
            well = reading_halts text refusal (script_is other) reading;
            prints = subst (λ (s : SinkState). PrintsEnding s out ending broke) out_same (c.print_played-broke.ensures.prints other);
            takes = subst (λ (s : SinkState). Takes s out (text_of ending)) out_same (c.print_played-broke.ensures.takes other);
            file_halt = refl;
            other_halt = c.script_halt-halt.ensures lines;
            lacks = c.has_lacked-lacked.ensures other ∙ same_lack none text refusal reading;
          }));
    }
