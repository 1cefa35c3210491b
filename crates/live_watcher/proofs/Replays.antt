-- What a replay of blocks gives.
use Rattle.std.proofs.Common.{◌≡◌, ℕ, List, length, Option, sym, ap, subst, ◌∙◌, le_refl}
use Rattle.std.proofs.lemmas.List.{length-map, take_all}
use Rattle.mcap_crc.specs.Remainder.{remainder}
use Rattle.mcap_model.specs.declared.replay.Range.{Range}
use Rattle.mcap_model.specs.declared.replay.Replayed.{Replayed}
use Rattle.mcap_model.specs.Scan.{Seen}
use Rattle.mcap_model.specs.Showing.{shown_as, Shows}
use Rattle.time_player.specs.Text.{cat_text}
use Rattle.live_entry.specs.declared.entry.Entry.{Entry}
use Rattle.live_entry.specs.Following.{Stored}
use Rattle.live_replay.specs.Replaying.{PlaysStored}
use Rattle.live_watcher.specs.Text.{IsReplayText, ReplayText, replays_of, front_line}
use Rattle.live_watcher.specs.WatcherSteps.{IsFrontLineOf}

pub replay_text : (range : Range) (stored : List Stored) (played : Replayed) (count : ℕ) (text : List ℕ) → PlaysStored range stored played → count ≡ length played.shown.items → ((messages : List Seen) → Shows played messages → text ≡ cat_text messages)
    → ReplayText range stored count text
replay_text range stored played count text plays many lines =
    let p = plays.played_are in
    record {
      stretches = plays.stretches;
      follow = plays.follow;
      messages = plays.messages;
      scan = plays.scan;
      shown = p.shown;
      replay = p.replay;
      count_is = many ∙ ap length p.shows.shown ∙ length-map p.shown shown_as;
      text_is = lines p.shown p.shows;
    }

-- all blocks are the first ones, as many as there are
pub all_replayed : {X : Type 0} (tells : X → Option (List ℕ)) (range : Range) (entries : List (Entry X)) (count : ℕ) (text : List ℕ) → IsReplayText tells range entries count text → replays_of tells range entries (length entries) count text
all_replayed {X} tells range entries count text replays =
    subst (λ (es : List (Entry X)). IsReplayText tells range es count text) (sym (take_all (length entries) entries (le_refl (length entries)))) replays

-- the line of the front of all these blocks
pub front_piece : {X : Type 0} (tells : X → Option (List ℕ)) (range : Range) (entries : List (Entry X)) (count crc : ℕ) (text line : List ℕ) → IsReplayText tells range entries count text → crc ≡ remainder text → line ≡ front_line (length entries) count crc
    → IsFrontLineOf tells range entries (length entries) line
front_piece tells range entries count crc text line replays sum is = record {
  within = le_refl (length entries);
  count = count;
  text = text;
  replay = all_replayed tells range entries count text replays;
  line_is = is ∙ ap (front_line (length entries) count) sum;
}
