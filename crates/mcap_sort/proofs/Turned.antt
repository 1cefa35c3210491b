-- The messages of turns, put one after the other.
use Rattle.std.proofs.Common.{◌≡◌, ◌⊎◌, ℕ, zero, suc, ◌<◌, true, List, [], ◌∷◌, ◌++◌, length, None, refl, sym, ap, subst, inl, inr, ◌∙◌, arith}
use Rattle.std.specs.List.{AllZip}
use Rattle.rec_data.specs.declared.owned.Rec.{Rec}
use Rattle.rec_data.specs.Fields.{MessageFields}
use Rattle.rec_data.specs.Records.{ShowsMessage}
use Rattle.mcap_io.specs.Outside.{LiveState}
use Rattle.mcap_model.specs.declared.ends.Stop.{Stop}
use Rattle.mcap_model.specs.Places.{At, Has}
use Rattle.mcap_model.specs.Tops.{Top}
use Rattle.mcap_model.specs.Made.{top}
use Rattle.mcap_model.specs.Rules.{V6}
use Rattle.mcap_model.specs.History.{message_of}
use Rattle.mcap_model.proofs.Places.{has_kept}
use Rattle.mcap_model.proofs.OneMore.{zip_push}
use Rattle.chunk_writer.specs.declared.phase.Phase.TheVariants as phases
use Rattle.chunk_writer.specs.Scribes.{GathersExtra, phase_of}
use Rattle.merge_walk.specs.declared.turns.Turn.{Turn}
use Rattle.merge_walk.specs.declared.walk.Walk.{Walk}
use Rattle.merge_walk.specs.Pieces.{InputBytes}
use Rattle.merge_walk.specs.Walks.{Text, turns_in, IsMessageAt, WalkStands, IsOfHeld, Advances}
use Rattle.mcap_merge.specs.declared.input.Input.{Input}
use Rattle.mcap_merge.proofs.Merging.{zip_weaker}
use Rattle.record_keeping.specs.declared.keeping.Keeping.{Keeping}
use Rattle.mcap_sort.specs.declared.gathering.Gathered.{Gathered}
use Rattle.mcap_sort.specs.Declaring.{Finds}
use Rattle.mcap_sort.specs.Putting.{PutsRecords, PutsMessage}
use Rattle.mcap_sort.specs.Turns.{only, IsRecOfTurn, PutSoFar, PutAll, PutSome}
use Rattle.mcap_sort.proofs.Puts.{puts_none, puts_on, puts_stopped, puts_lack}

-- the messages stay where more is loaded
rec_kept : (input : Input) (texts more : List Text) (t : Turn) (r : Rec) → IsRecOfTurn input texts t r → IsRecOfTurn input (texts ++ more) t r
rec_kept input texts more t r is = record {
  text = is.text;
  among = has_kept texts more is.text is.among;
  has = is.has;
  top = is.top;
  there = is.there;
  channel = is.channel;
  message = is.message;
  shows = is.shows;
  used = is.used;
  is = is.is;
}

recs_kept : (input : Input) (texts more : List Text) (given : List Turn) (records : List Rec) → AllZip (IsRecOfTurn input texts) given records → AllZip (IsRecOfTurn input (texts ++ more)) given records
recs_kept input texts more given records zip = zip_weaker (IsRecOfTurn input texts) (IsRecOfTurn input (texts ++ more)) given records (λ t r is. rec_kept input texts more t r is) zip

-- the walk gave this turn, whose message is at hand
pub record IsGiven (g : Gathered) (texts : List Text) (t : Turn) (channel : ℕ) (m : MessageFields) : Type 0 where
  pub text : Text
  pub among : Has texts text
  pub has : Has (turns_in text) t
  pub top : Top
  pub there : IsMessageAt text t top
  pub shows : ShowsMessage top.content channel m
  pub used : At g.input.used.items channel true

rec_of : (g : Gathered) (texts : List Text) (t : Turn) (channel : ℕ) (m : MessageFields) → IsGiven g texts t channel m → IsRecOfTurn g.input texts t (message_of channel m)
rec_of g texts t channel m given = record {
  text = given.text;
  among = given.among;
  has = given.has;
  top = given.top;
  there = given.there;
  channel = channel;
  message = m;
  shows = given.shows;
  used = given.used;
  is = refl;
}

module _ {L : Type 0} (seen : L → LiveState) (files : InputBytes) (g : Gathered) where
  pub put_begins : (w : Walk) (k : Keeping L) → WalkStands files w [] [] → PutSoFar seen files g w k k
  put_begins w k stands = record {
    texts = [];
    given = [];
    stands = stands;
    records = [];
    are = tt;
    puts = λ history finds. puts_none seen k history;
  }

  -- the message of a turn more
  pub put_more : (w after : Walk) (old mid new : Keeping L) (was : PutSoFar seen files g w old mid) (more : List Text) (t : Turn) (channel : ℕ) (m : MessageFields) → WalkStands files after (was.texts ++ more) (was.given ++ t ∷ []) → (given : IsGiven g (was.texts ++ more) t channel m)
      → PutsMessage seen mid new g.declared channel given.top.content → PutSoFar seen files g after old new
  put_more w after old mid new was more t channel m stands given puts = record {
    texts = was.texts ++ more;
    given = was.given ++ t ∷ [];
    stands = stands;
    records = was.records ++ message_of channel m ∷ [];
    are = zip_push (IsRecOfTurn g.input (was.texts ++ more)) was.given was.records t (message_of channel m) (recs_kept g.input was.texts more was.given was.records was.are) (rec_of g (was.texts ++ more) t channel m given);
    puts = λ history finds. let before = was.puts in
        puts_on seen old mid new history was.records (message_of channel m ∷ []) (before history finds) (puts history finds m given.shows);
  }

  -- it stopped at that
  pub stopped_at : (start w after : Walk) (old mid new : Keeping L) (was : PutSoFar seen files g w old mid) (more : List Text) (t : Turn) (channel : ℕ) (m : MessageFields) (stop : Stop) → after.pieces ≡ start.pieces → WalkStands files after (was.texts ++ more) (was.given ++ t ∷ [])
      → (given : IsGiven g (was.texts ++ more) t channel m) → PutsMessage seen mid new g.declared channel given.top.content → phase_of new.scribe ≡ phases.Stopped stop → PutSome seen files g start old new
  unfolding put_more
  stopped_at start w after old mid new was more t channel m stop same stands given puts stopped =
      let now = put_more w after old mid new was more t channel m stands given puts in
      record {
        walk = after;
        pieces = same;
        texts = now.texts;
        given = now.given;
        stands = now.stands;
        records = now.records;
        are = now.are;
        puts = λ history finds others. let all = now.puts in puts_stopped seen old new history now.records others stop stopped (all history finds);
      }

  -- or before the next turn, for want of memory
  pub stopped_before : (start w : Walk) (old mid new : Keeping L) (stop : Stop) → PutSoFar seen files g w old mid → w.pieces ≡ start.pieces → ((t : Top) → GathersExtra seen mid.scribe new.scribe t) → phase_of new.scribe ≡ phases.Stopped stop → PutSome seen files g start old new
  stopped_before start w old mid new stop was same gathers stopped = record {
    walk = w;
    pieces = same;
    texts = was.texts;
    given = was.given;
    stands = was.stands;
    records = was.records;
    are = was.are;
    puts = λ history finds others. let all = was.puts in puts_lack seen old mid new history was.records others stop gathers stopped (all history finds);
  }

  -- no turn is left
  pub put_all : (start w after : Walk) (old now : Keeping L) → PutSoFar seen files g w old now → w.pieces ≡ start.pieces → Advances files w after None → PutAll seen files g start old now
  put_all start w after old now was same advances =
      let steps = advances.stands in
      let (more, (stands, all, loaded)) = steps was.texts was.given was.stands in
      record {
        walk = after;
        pieces = advances.pieces ∙ same;
        put = record {
          texts = was.texts ++ more;
          given = was.given;
          stands = stands;
          records = was.records;
          are = recs_kept g.input was.texts more was.given was.records was.are;
          puts = was.puts;
        };
        all = all;
      }

-- ---- the only input

pub only_here : (g : Gathered) (n : ℕ) → n < 1 → At (only g) n g.input
only_here g zero within = refl
only_here g (suc n) within = absurd (omega (arith, within))

five_apart : (n : ℕ) → (n < 5) ⊎ (5 < n) → 5 ≡ n → ⊥
five_apart n (inl less) e = omega (arith, less, e)
five_apart n (inr more) e = omega (arith, more, e)

-- a content that shows a Message keeps the rule on layouts
pub message_v6 : (content : List ℕ) (channel : ℕ) (m : MessageFields) → ShowsMessage content channel m → V6 (top 5 content)
message_v6 content channel m shows = record {
  header = λ e. absurd (five_apart 1 (inl (omega arith)) e);
  footer = λ e. absurd (five_apart 2 (inl (omega arith)) e);
  schema = λ e. absurd (five_apart 3 (inl (omega arith)) e);
  channel = λ e. absurd (five_apart 4 (inl (omega arith)) e);
  message = λ e. (channel, m, record { kind = refl; layout = shows });
  chunk = λ e. absurd (five_apart 6 (inr (omega arith)) e);
  message_index = λ e. absurd (five_apart 7 (inr (omega arith)) e);
  chunk_index = λ e. absurd (five_apart 8 (inr (omega arith)) e);
  attachment = λ e. absurd (five_apart 9 (inr (omega arith)) e);
  attachment_index = λ e. absurd (five_apart 10 (inr (omega arith)) e);
  statistics = λ e. absurd (five_apart 11 (inr (omega arith)) e);
  metadata = λ e. absurd (five_apart 12 (inr (omega arith)) e);
  metadata_index = λ e. absurd (five_apart 13 (inr (omega arith)) e);
  summary_offset = λ e. absurd (five_apart 14 (inr (omega arith)) e);
  data_end = λ e. absurd (five_apart 15 (inr (omega arith)) e);
}
