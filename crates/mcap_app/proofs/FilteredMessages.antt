-- What is filtered of some bytes can be written and read, and has those of their messages that are asked for.
use Rattle.std.proofs.Common.{◌≡◌, ℕ, suc, ◌^◌, ◌<◌, ◌≤◌, Bool, true, ◌&&◌, List, [], ◌∷◌, ◌++◌, length, map, Option, Some, None, refl, sym, ap, subst, ◌∙◌, cond, arith}
use Rattle.std.specs.Prelude.{filter, IsUtf8, nat_le, ◌==◌, ◌||◌}
use Rattle.std.specs.List.{AllZip}
use Rattle.std.proofs.lemmas.Bool.{le-leb}
use Rattle.rec_data.specs.declared.owned.Rec.{Rec}
use Rattle.rec_data.specs.declared.owned.Rec.TheVariants.{Schema, Channel, Message, Extra}
use Rattle.mcap_model.specs.declared.options.FileOptions.{FileOptions}
use Rattle.mcap_model.specs.Places.{At, Has, Each}
use Rattle.mcap_model.specs.Tops.{Top, placed, flat}
use Rattle.mcap_model.specs.Fields.{ChannelFields, MessageFields, IsChannel}
use Rattle.mcap_model.specs.Kept.{Good, Kept, Halts, reading_limits, at_end}
use Rattle.mcap_model.specs.Scan.{Seen, HasTopic, is_message_top, tops_of, Scan, is_within}
use Rattle.mcap_model.specs.History.{rec_top, channel_of, is_message, body_of, extras_in, without_repeats}
use Rattle.mcap_model.specs.Blocks.{pieces_of, blocks_in}
use Rattle.mcap_model.specs.File.{file_of}
use Rattle.mcap_model.specs.ReadBack.{IsReadBack, IsExtraKind, IsExtra}
use Rattle.mcap_model.specs.Repaired.{is_extra, ProfileIs, Repairs}
use Rattle.mcap_model.specs.Whole.{count_of}
use Rattle.mcap_model.specs.Laws.{HoldsSeen, CanBeWritten, CanBeRead}
use Rattle.mcap_model.specs.Recovery.{FilesAreRepaired, RepairsKeepMessages}
use Rattle.mcap_model.proofs.Asides.{body_whole, no_extras, filter_all}
use Rattle.mcap_model.proofs.Flat.{good_lists_are_scanned, placed_tops}
use Rattle.mcap_model.proofs.Histories.{recs_are_flat}
use Rattle.mcap_model.proofs.Lists.{filter_passed}
use Rattle.mcap_model.proofs.NamedTopics.{known_all}
use Rattle.mcap_model.proofs.ReadBack.{channel_back, at_map}
use Rattle.mcap_model.proofs.Readings.{kept_once}
use Rattle.mcap_model.proofs.Repairs.{repairs_once}
use Rattle.mcap_model.proofs.WrittenChunks.{empty_utf8}
use Rattle.mcap_laws.proofs.Ranges.{small_blocks_fit}
use Rattle.mcap_laws.proofs.Scanned.{files_are_scanned}
use Rattle.chunk_writer.specs.Limits.{FileHolds}
use Rattle.time_player.specs.Asking.{is_asked, is_topic as is_played}
use Rattle.record_keeping.specs.NewFiles.{recovered_options}
use Rattle.mcap_filter.specs.declared.answers.Picked.{Picked}
use Rattle.mcap_filter.specs.Picked.{Asking, is_topic, picked, filtered}
use Rattle.mcap_filter.specs.Laws.{MessagesAreThosePicked, everything as all_messages}
use Rattle.mcap_filter.specs.FilteredHistories.{StandsAsItIs, FilteredHistoriesStand, is_seen_asked, PickedAreAsked, FilteredTwiceIsOnce}
use Rattle.command_write.specs.Filter.{FilterRequest, filter_request}
use Rattle.mcap_app.specs.Laws.{IsChunkSize, AreCounted}
use Rattle.mcap_app.specs.FilteredFiles.{IsFilteredOf, SameButPlace, those_asked, FilteredAreAsked, AllAreKept, FilteredTwiceAreOnce}
use Rattle.mcap_app.proofs.ShortContents.{extras_short, can_be_read}

-- ---- the file can be written, and read

-- a profile that fits its field
abbrev FitsField : List ℕ → Type 0
FitsField profile = IsUtf8 profile × (length profile < 2 ^ 32)

none_fits : FitsField []
none_fits = (empty_utf8, omega arith)

profile_there : (tops : List Top) (profile : List ℕ) → Good reading_limits tops → ProfileIs tops profile → FitsField profile
profile_there [] profile good is = subst FitsField (sym is) none_fits
profile_there (t ∷ ts) profile good (header, same) = let fit = header.layout.1.fit in subst FitsField same (fit.0.1, (let few = fit.0.0 in omega (arith, few)))

kind_of : (n : ℕ) → ((n == 9) || ((n == 12) || nat_le 128 n)) ≡ true → IsExtraKind n
kind_of n is = grind arith

extras_meet : (tops : List Top) → Good reading_limits tops → Each IsExtra (filter is_extra tops)
extras_meet tops good n t at =
    let passed = filter_passed is_extra tops n t at in
    let fits = good passed.0.0 t passed.0.1 in
    record { kind = kind_of t.op passed.1; v6 = fits.v6; v10 = fits.v10 }

module _ (stand : FilteredHistoriesStand) (asked : FilterRequest) (bytes file : List ℕ) (answer : Picked) (is : IsFilteredOf asked bytes file answer) where
  -- what is written, and how
  abbrev pub out : List Rec
  out = filtered asked.asking is.history

  abbrev pub options : FileOptions
  options = recovered_options is.profile asked.chunk

  good : Good reading_limits is.tops
  good = is.halts.kept.good

  pub stands : StandsAsItIs out
  stands = stand asked.asking is.tops is.extras is.profile is.history good is.repairs

  pub fits : FitsField is.profile
  fits = profile_there is.tops is.profile good is.repairs.profile_is

  alone : extras_in out ++ is.extras ≡ is.extras
  alone = ap (λ (l : List Top). l ++ is.extras) (no_extras out stands.inner)

  pub meet : Each IsExtra (extras_in out ++ is.extras)
  meet = subst (Each IsExtra) (sym (alone ∙ is.repairs.extras_are)) (extras_meet is.tops good)

  pub can_be_written : IsChunkSize asked.chunk → AreCounted is.extras → CanBeWritten options is.extras out
  can_be_written size few =
      let within = is.within in
      let bytes_are = ap (λ (l : List ℕ). length l) is.file_is in
      record {
        profile = fits.0;
        profile_fits = fits.1;
        records_fit = stands.back;
        numbered = stands.numbered;
        ids_agree = stands.ids_agree;
        extras_meet = meet;
        entries_fit = small_blocks_fit asked.chunk None out (omega (arith, size.0)) size.1;
        few_blocks = (let blocks = within.holds.few in omega (arith, blocks));
        few_attachments = (let same = ap (count_of 9) alone in omega (arith, few.0, same));
        few_metadata = (let same = ap (count_of 12) alone in omega (arith, few.1, same));
        size_fits = (let small = within.holds.small in omega (arith, small, bytes_are));
      }

  pub readable : CanBeRead options is.extras out
  readable =
      let within : FileHolds is.profile (blocks_in (pieces_of (Some asked.chunk) None out)) (length (file_of options is.extras out)) =
      subst (λ (l : List ℕ). FileHolds is.profile (blocks_in (pieces_of (Some asked.chunk) None out)) (length l)) is.file_is is.within in
      can_be_read asked.chunk is.profile is.extras out stands.inner within (subst (Each (λ t. length t.content ≤ 268435456)) (sym is.repairs.extras_are) (extras_short is.tops good))

-- ---- messages of a file and of a scan

abbrev fields_in : MessageFields → Rec → MessageFields
fields_in other (Schema id s) = other
fields_in other (Channel id s topic encoding metadata) = other
fields_in other (Message channel sequence log_time publish_time payload) = record { sequence = sequence; log_time = log_time; publish_time = publish_time; payload = payload }
fields_in other (Extra op content) = other

abbrev channel_in : ℕ → Rec → ℕ
channel_in other (Schema id s) = other
channel_in other (Channel id s topic encoding metadata) = other
channel_in other (Message channel sequence log_time publish_time payload) = channel
channel_in other (Extra op content) = other

-- two that are one record are one but for their places, where their topics are
same_seen : (r : Rec) (x y : Seen) → HoldsSeen r x → HoldsSeen r y → (x.channel ≡ y.channel → x.topic ≡ y.topic) → SameButPlace x y
same_seen r x y one other topics =
    let same = sym one ∙ other in
    let channel : x.channel ≡ y.channel = ap (channel_in x.channel) same in
    record { channel = channel; topic = topics channel; message = ap (fields_in x.message) same }

same_all : (rs : List Rec) (xs ys : List Seen) → AllZip HoldsSeen rs xs → AllZip HoldsSeen rs ys → ((x y : Seen) → Has xs x → Has ys y → x.channel ≡ y.channel → x.topic ≡ y.topic) → AllZip SameButPlace xs ys
same_all [] [] [] one other topics = tt
same_all [] [] (y ∷ ys) one other topics = absurd other
same_all [] (x ∷ xs) ys one other topics = absurd one
same_all (r ∷ rs) [] ys one other topics = absurd one
same_all (r ∷ rs) (x ∷ xs) [] one other topics = absurd other
same_all (r ∷ rs) (x ∷ xs) (y ∷ ys) one other topics = (
  same_seen r x y one.0 other.0 (topics x y (0, refl) (0, refl)),
  same_all rs xs ys one.1 other.1 (λ u v has there. topics u v (suc has.0, has.1) (suc there.0, there.1)),
)

-- a Channel of the history has the topic that a message on it has in a scan of its file
channel_there : (out : List Rec) (tops : List Top) (messages : List Seen) (s : Seen) → Each IsReadBack out → flat tops ≡ map rec_top out → Scan tops messages → Has messages s → (f : ChannelFields) × Has out (channel_of s.channel f) × (f.topic ≡ s.topic)
channel_there out tops messages s back flat_are scan has =
    let known = known_all (tops_of (placed tops)) (filter (λ p. is_message_top p.top) (placed tops)) messages scan s has in
    let topic = subst (λ (l : List Top). HasTopic l s.channel s.topic) (placed_tops 8 tops ∙ flat_are) known in
    let (r, at, same) = at_map rec_top out topic.place topic.top topic.at in
    let own : r ≡ channel_of s.channel topic.shown = channel_back r s.channel topic.shown (back topic.place r at) (subst (λ (t : Top). IsChannel t s.channel topic.shown) same topic.is) in
    (topic.shown, (topic.place, subst (λ (x : Rec). At out topic.place x) own at), topic.topic_is)

one_topic : (f : ChannelFields) (one other : List ℕ) → f.topic ≡ one → f.topic ≡ other → one ≡ other
one_topic f one other first second = sym first ∙ second

-- what a printing asks for is what is asked for
asked_topic : (asked : Option (List ℕ)) (topic : List ℕ) → is_played asked topic ≡ is_topic asked topic
asked_topic None topic = refl
asked_topic (Some name) topic = refl

asked_same : (a : Asking) (messages : List Seen) → those_asked a messages ≡ filter (is_seen_asked a) messages
asked_same a [] = refl
asked_same a (s ∷ ss) =
    ap (λ (l : List Seen). cond (is_asked a.range a.topic s) (s ∷ l) l) (asked_same a ss)
    ∙ ap (λ (b : Bool). cond (is_within a.range s.message.log_time && b) (s ∷ filter (is_seen_asked a) ss) (filter (is_seen_asked a) ss)) (asked_topic a.topic s.topic)

-- ---- what is filtered has them

pub filtered_are_asked : FilteredHistoriesStand → PickedAreAsked → MessagesAreThosePicked → RepairsKeepMessages → FilteredAreAsked
filtered_are_asked stand picks those keep asked bytes file answer is =
    let good = is.halts.kept.good in
    let written = out stand asked bytes file answer is in
    let right = stands stand asked bytes file answer is in
    let utf8 = (fits stand asked bytes file answer is).0 in
    let extras = meet stand asked bytes file answer is in
    let (messages, scan, alone) = good_lists_are_scanned reading_limits is.tops good in
    let chosen = picks asked.asking is.tops is.extras is.profile is.history messages good is.repairs scan (keep is.tops is.extras is.profile is.history messages good is.repairs scan) in
    let (tops, end, halts, flat_are, messages_are) = files_are_scanned (options stand asked bytes file answer is) is.extras written utf8 right.back right.numbered right.ids_agree extras (readable stand asked bytes file answer is) in
    let (found, file_scan, one) = good_lists_are_scanned reading_limits tops halts.kept.good in
    let flats : flat tops ≡ map rec_top written = flat_are ∙ recs_are_flat written right.back ∙ ap (map rec_top) (body_whole written right.inner) in
    let held : AllZip HoldsSeen (picked asked.asking is.history) found = subst (λ (l : List Rec). AllZip HoldsSeen l found) (those asked.asking is.history) (messages_are found file_scan) in
    record {
      messages = messages;
      scan = scan;
      file_tops = tops;
      end = end;
      halts = subst (λ (l : List ℕ). Halts reading_limits l tops (at_end end)) (sym is.file_is) halts;
      found = found;
      file_scan = file_scan;
      are = subst (λ (l : List Seen). AllZip SameButPlace l found) (sym (asked_same asked.asking messages)) (same_all (picked asked.asking is.history) (filter (is_seen_asked asked.asking) messages) found chosen.are held
          (λ x y has there same.
          let (f, stands_there, topic) = channel_there written tops found y right.back flats file_scan there in
          let passed = filter_passed (is_seen_asked asked.asking) messages has.0 x has.1 in
          one_topic f x.topic y.topic (chosen.topics x f passed.0 (subst (λ (c : ℕ). Has written (channel_of c f)) (sym same) stands_there)) topic));
    }

-- all of them, where all are asked for
all_chosen : (messages : List Seen) → those_asked all_messages messages ≡ messages
all_chosen messages = filter_all (is_asked all_messages.range all_messages.topic) messages (λ n s at. ap (λ (b : Bool). (b && true) && true) (le-leb 0 s.message.log_time (omega arith)))

pub all_are_kept : FilteredAreAsked → AllAreKept
all_are_kept asked_are chunk bytes file answer is =
    let it = asked_are (filter_request all_messages chunk) bytes file answer is in
    record {
      messages = it.messages;
      scan = it.scan;
      file_tops = it.file_tops;
      end = it.end;
      halts = it.halts;
      found = it.found;
      file_scan = it.file_scan;
      are = subst (λ (l : List Seen). AllZip SameButPlace l it.found) (all_chosen it.messages) it.are;
    }

-- ---- to filter it again is to filter once

same_file : (chunk : ℕ) (p q : List ℕ) (xs ys : List Top) (rs ss : List Rec) → p ≡ q → xs ≡ ys → rs ≡ ss → file_of (recovered_options p chunk) xs rs ≡ file_of (recovered_options q chunk) ys ss
same_file chunk p q xs ys rs ss profiles extras records =
    ap (λ (l : List ℕ). file_of (recovered_options l chunk) xs rs) profiles ∙ ap (λ (l : List Top). file_of (recovered_options q chunk) l rs) extras
    ∙ ap (λ (l : List Rec). file_of (recovered_options q chunk) ys l) records

pub filtered_twice_are_once : FilteredHistoriesStand → FilteredTwiceIsOnce → FilesAreRepaired → FilteredTwiceAreOnce
filtered_twice_are_once stand twice repaired one other both chunk later_chunk bytes middle file answer again asks size first few second =
    let asked = filter_request one chunk in
    let written = out stand asked bytes middle answer first in
    let right = stands stand asked bytes middle answer first in
    let how = options stand asked bytes middle answer first in
    let (tops, end, halts, repairs) = repaired how first.extras written (can_be_written stand asked bytes middle answer first size few) (readable stand asked bytes middle answer first) in
    let there : Kept reading_limits middle tops = subst (λ (l : List ℕ). Kept reading_limits l tops) (sym first.file_is) halts.kept in
    let same_tops : tops ≡ second.tops = kept_once middle tops second.tops there second.halts.kept in
    let (profiles, extras, histories) = repairs_once second.tops (extras_in written ++ first.extras) second.extras first.profile second.profile (without_repeats (body_of written)) second.history
    (subst (λ (l : List Top). Repairs l first.profile (extras_in written ++ first.extras) (without_repeats (body_of written))) same_tops repairs) second.repairs in
    let same_extras : second.extras ≡ first.extras = sym extras ∙ ap (λ (l : List Top). l ++ first.extras) (no_extras written right.inner) in
    let same_history : second.history ≡ written = sym histories ∙ ap without_repeats (body_whole written right.inner) ∙ right.once in
    let all : filtered other second.history ≡ filtered both first.history =
    ap (filtered other) same_history ∙ twice one other both first.tops first.extras first.profile first.history asks first.halts.kept.good first.repairs in
    let file_is = same_file later_chunk second.profile first.profile second.extras first.extras (filtered other second.history) (filtered both first.history) (sym profiles) same_extras all in
    record {
      tops = first.tops;
      end = first.end;
      halts = first.halts;
      profile = first.profile;
      extras = first.extras;
      history = first.history;
      repairs = first.repairs;
      messages = second.messages ∙ ap (λ (l : List Rec). length (filter is_message l)) all;
      records = second.records ∙ ap (λ (l : List Rec). length l) all;
      file_is = second.file_is ∙ file_is;
      within = subst (λ (p : List ℕ). FileHolds p (blocks_in (pieces_of (Some later_chunk) None (filtered both first.history))) (length file)) (sym profiles)
          (subst (λ (l : List Rec). FileHolds second.profile (blocks_in (pieces_of (Some later_chunk) None l)) (length file)) all second.within);
    }
