-- Where the store tells, the messages of the turns are those of the replay, in its order.
use Rattle.std.proofs.Common.{◌≡◌, ◌⊎◌, ℕ, zero, suc, ◌+◌, ◌-◌, ◌<◌, ◌≤◌, List, [], ◌∷◌, ◌++◌, map, Option, Some, None, refl, sym, ap, subst, inl, inr, ◌∙◌, arith}
use Rattle.std.specs.Prelude.{AllPairs}
use Rattle.std.specs.List.{AllZip}
use Rattle.std.proofs.lemmas.Bool.{cases_lt}
use Rattle.std.proofs.lemmas.List.{map-append}
use Rattle.rec_data.specs.declared.owned.Rec.{Rec}
use Rattle.rec_data.specs.Fields.{MessageFields}
use Rattle.mcap_io.specs.Stores.{StoreState}
use Rattle.mcap_model.specs.Places.{At, Has, Each}
use Rattle.mcap_model.specs.Fields.{IsMessage}
use Rattle.mcap_model.specs.Scan.{Seen, ComesBefore, IsAsked, Replay}
use Rattle.mcap_model.specs.History.{message_of}
use Rattle.mcap_model.specs.Merged.{Sent, IsFrom, MergesBefore, AreInTurn}
use Rattle.mcap_model.proofs.Flat.{at_mapped}
use Rattle.mcap_model.proofs.Lists.{pairs_at, pairs_from, has_taken, at_taken}
use Rattle.mcap_model.proofs.NamedTopics.{unmapped, zip_back}
use Rattle.mcap_model.proofs.Maps.{message_once}
use Rattle.mcap_model.proofs.Places.{at_one, at_none}
use Rattle.merge_walk.specs.declared.turns.Turn.{Turn}
use Rattle.merge_walk.specs.declared.pieces.Piece.{Piece}
use Rattle.merge_walk.specs.declared.walk.Walk.{Walk}
use Rattle.merge_walk.specs.Cursors.{TurnBefore}
use Rattle.merge_walk.specs.Stores.{files_of}
use Rattle.merge_walk.specs.Walks.{Text, turns_in, turns_of, pieces_in, pieces_loaded, pieces_ahead, IsTextOf, WalkStands, AllGiven}
use Rattle.merge_walk.proofs.Ordered.{before_each}
use Rattle.mcap_merge.specs.declared.input.Input.{Input}
use Rattle.mcap_merge.specs.ReadInputs.{Read, read_tops}
use Rattle.mcap_merge.proofs.Sources.{sent, AreScanned, are_scanned, from_read, message_from}
use Rattle.mcap_merge.proofs.InTurn.{messages_there}
use Rattle.mcap_merge.proofs.Dropped.{dropped}
use Rattle.mcap_merge.proofs.FirstOfAll.{first_of_all}
use Rattle.mcap_merge.proofs.ToldTurns.{Listed, Told, TurnIs, before_merges, record_is, message_told}
use Rattle.mcap_merge.proofs.Told.{sents_rise, sent_there, turn_there, merges_apart}
use Rattle.mcap_sort.specs.Sorted.{all_times, message_seen}
use Rattle.mcap_sort.specs.Turns.{IsRecOfTurn}

-- ---- the messages of turns

abbrev rec_sent : Sent → Rec
rec_sent m = message_seen m.seen

-- those are the messages of these turns, and these are their records
record SentsAre (reads : List Read) (given : List Turn) (records : List Rec) : Type 0 where
  sents : List Sent
  are : AllZip (λ t m. TurnIs reads t m × IsFrom (read_tops reads) m) given sents
  records_are : records ≡ map rec_sent sents

module _ (stores : List StoreState) (reads : List Read) (inputs : List Input) (pieces some : List Piece) (texts : List Text) (input : Input) (told : Told stores reads inputs pieces) (among : (p : Piece) → Has some p → Has pieces p) (are : AllZip (IsTextOf (files_of stores)) some texts) where
  rec_told : (t : Turn) (r : Rec) → IsRecOfTurn input texts t r → (m : Sent) × (TurnIs reads t m × IsFrom (read_tops reads) m) × (r ≡ rec_sent m)
  rec_told t r is =
      let (p, at_p, text) = zip_back (IsTextOf (files_of stores)) some texts is.among.0 is.text are is.among.1 in
      let found = record_is stores reads inputs pieces told.listed p is.text t is.top (let tell = told.tell in tell p.input) (among p (is.among.0, at_p)) text is.has is.there in
      let m = found.message in
      let mine : IsMessage is.top is.channel is.message = record { kind = found.shows.kind; layout = is.shows } in
      let (channel, message) = message_once is.top is.channel m.seen.channel is.message m.seen.message mine found.shows in
      (m, (found.is, found.from), is.is ∙ ap (λ (n : ℕ). message_of n is.message) channel ∙ ap (message_of m.seen.channel) message)

  sents_are : (given : List Turn) (records : List Rec) → AllZip (IsRecOfTurn input texts) given records → SentsAre reads given records
  sents_are [] [] zip = record { sents = []; are = tt; records_are = refl }
  sents_are [] (r ∷ rs) zip = absurd zip
  sents_are (t ∷ ts) [] zip = absurd zip
  sents_are (t ∷ ts) (r ∷ rs) zip =
      let (m, is, same) = rec_told t r zip.0 in
      let rest = sents_are ts rs zip.1 in
      record { sents = m ∷ rest.sents; are = (is, rest.are); records_are = ap (λ (x : Rec). x ∷ rs) same ∙ ap (λ (l : List Rec). rec_sent m ∷ l) rest.records_are }

-- ---- the messages of one input in turn are its replay

only_input : (r : Read) (m : Sent) → IsFrom (read_tops (r ∷ [])) m → m.input ≡ 0
only_input r m from = by m.input from.at
  where
    by : (n : ℕ) → At (read_tops (r ∷ [])) n from.tops → n ≡ 0
    by zero at = refl
    by (suc n) at = absurd (at_none n from.tops at)

abbrev seen_of : Sent → Seen
seen_of m = m.seen

comes_so : (a b : Sent) → a.input ≡ b.input → MergesBefore a b → ComesBefore a.seen b.seen
comes_so a b same (inl less) = inl less
comes_so a b same (inr (time, inl less)) = absurd (omega (arith, same, less))
comes_so a b same (inr (time, inr (input, place))) = inr (time, place)

none_end : (end : ℕ) → None ≡ Some end → ⊥
none_end end is = cc

none_topic : (topic : List ℕ) → None ≡ Some topic → ⊥
none_topic topic is = cc

pub asked_all : (s : Seen) → IsAsked all_times None s
asked_all s = let least : 0 ≤ s.message.log_time = omega arith in (record { from = least; before = λ end is. absurd (none_end end is) }, λ t is. absurd (none_topic t is))

replay_of : (r : Read) (sents : List Sent) → AreScanned (r ∷ []) → AreInTurn (read_tops (r ∷ [])) sents → Replay all_times None r.messages (map seen_of sents)
replay_of r sents scanned turn =
    let listed = turn.are in
    let whole = turn.all in
    record {
      rises = pairs_from ComesBefore (map seen_of sents) (λ i j x y less at_x at_y.
          let (a, at_a, one) = unmapped seen_of sents i x at_x in
          let (b, at_b, other) = unmapped seen_of sents j y at_y in
          let before = pairs_at MergesBefore sents turn.rise i j a b less at_a at_b in
          let same : a.input ≡ b.input = only_input r a (listed a (i, at_a)) ∙ sym (only_input r b (listed b (j, at_b))) in
          subst (λ (s : Seen). ComesBefore s y) one (subst (λ (s : Seen). ComesBefore a.seen s) other (comes_so a b same before)));
      are = λ s has.
          let (m, at, same) = unmapped seen_of sents has.0 s has.1 in
          let from = listed m (has.0, at) in
          let found = from_read (r ∷ []) m scanned from in
          let read : found.read ≡ r = at_one (r ∷ []) 0 found.read r (subst (λ (n : ℕ). At (r ∷ []) n found.read) (only_input r m from) found.at) refl in
          (subst (λ (x : Seen). Has r.messages x) same (subst (λ (x : Read). Has x.messages m.seen) read found.has), asked_all s);
      all = λ s has asked.
          let (good, scan) = scanned 0 r refl in
          let there = whole (sent 0 s) (message_from (r ∷ []) 0 r s refl scan has) in
          (there.0, at_mapped seen_of sents there.0 (sent 0 s) there.1);
    }

map_map : (sents : List Sent) → map rec_sent sents ≡ map message_seen (map seen_of sents)
map_map [] = refl
map_map (m ∷ ms) = ap (λ (l : List Rec). rec_sent m ∷ l) (map_map ms)

-- the records are those of the replay of the messages
pub record AreReplayed (r : Read) (records : List Rec) : Type 0 where
  pub shown : List Seen
  pub replay : Replay all_times None r.messages shown
  pub are : records ≡ map message_seen shown

-- ---- all turns

pub all_told : (stores : List StoreState) (r : Read) (input : Input) (pieces : List Piece) (texts : List Text) (given : List Turn) (records : List Rec) → Told stores (r ∷ []) (input ∷ []) pieces → AllGiven (files_of stores) pieces texts given → AllZip (IsRecOfTurn input texts) given records → AreReplayed r records
all_told stores r input pieces texts given records told all zip =
    let reads = r ∷ [] in
    let inputs = input ∷ [] in
    let mine : (p : Piece) → Has pieces p → Has pieces p = λ p has. has in
    let found = sents_are stores reads inputs pieces pieces texts input told mine all.texts_are given records zip in
    let turn : AreInTurn (read_tops reads) found.sents = record {
      rise = sents_rise stores reads inputs pieces pieces texts told mine all.texts_are given found.sents all.rise found.are;
      are = λ m has. let (t, at, is) = zip_back (λ (t : Turn) (n : Sent). TurnIs reads t n × IsFrom (read_tops reads) n) given found.sents has.0 m found.are has.1 in is.1;
      all = λ m from.
          let is = message_told stores reads inputs pieces told.listed m (let tell = told.tell in tell m.input) from in
          let whole = all.all in
          sent_there stores reads inputs pieces pieces texts told mine all.texts_are given found.sents is.turn m found.are is.is from
          (whole is.turn (turn_there stores reads inputs pieces pieces texts told mine all.texts_are m is is.has));
    } in
    record {
      shown = map seen_of found.sents;
      replay = replay_of r found.sents (are_scanned reads inputs told.listed.hold) turn;
      are = found.records_are ∙ map_map found.sents;
    }

-- ---- the first turns

module _ (stores : List StoreState) (r : Read) (input : Input) (w : Walk) (texts : List Text) (given : List Turn) (records : List Rec) (told : Told stores (r ∷ []) (input ∷ []) (pieces_in w)) (stands : WalkStands (files_of stores) w texts given) (zip : AllZip (IsRecOfTurn input texts) given records) where
  abbrev reads : List Read
  reads = r ∷ []

  abbrev inputs : List Input
  inputs = input ∷ []

  loaded_there : (p : Piece) → Has (pieces_loaded w) p → Has (pieces_in w) p
  loaded_there p has = (has.0, (has_taken w.pieces.items w.next has.0 p has.1).1)

  found : SentsAre reads given records
  found = sents_are stores reads inputs (pieces_in w) (pieces_loaded w) texts input told loaded_there stands.taken given records zip

  -- a message whose turn is left, or whose piece wasn't loaded yet, comes behind all whose turns were given
  comes_behind : (m : Sent) (t : Turn) → TurnIs reads t m → ((g : Turn) → Has given g → TurnBefore g t) → Each (λ n. MergesBefore n m) found.sents
  comes_behind m t is before k n at =
      let (g, at_g, there) = zip_back (λ (u : Turn) (s : Sent). TurnIs reads u s × IsFrom (read_tops reads) s) given found.sents k n found.are at in
      before_merges reads g t n m there.0 is (before g (k, at_g))

  place_of : (m : Sent) → IsFrom (read_tops reads) m → Has found.sents m ⊎ Each (λ n. MergesBefore n m) found.sents
  place_of m from =
      let is = message_told stores reads inputs (pieces_in w) told.listed m (let tell = told.tell in tell m.input) from in
      let early = stands.early in
      let past = stands.queues.past in
      let whole = stands.all.all in
      let place = is.has.0 in
      elim (cases_lt place w.next) [
        | inl less ↦
            let loaded : Has (pieces_loaded w) is.piece = (place, at_taken w.pieces.items w.next place is.piece less is.has.1) in
            elim (whole is.turn (turn_there stores reads inputs (pieces_in w) (pieces_loaded w) texts told loaded_there stands.taken m is loaded)) [
              | inl gone ↦ inl (sent_there stores reads inputs (pieces_in w) (pieces_loaded w) texts told loaded_there stands.taken given found.sents is.turn m found.are is.is from gone)
              | inr (q, has_q, there) ↦ inr (comes_behind m is.turn is.is (λ g has_g. past g is.turn q has_g has_q there))
            ]
        | inr later ↦
            let ahead : Has (pieces_ahead w) is.piece = (place - w.next, dropped w.pieces.items w.next place (place - w.next) is.piece (omega (arith, later)) is.has.1) in
            let least = is.least in
            inr (comes_behind m is.turn is.is (λ g has_g. before_each g is.turn is.piece (early g is.piece has_g ahead) least is.of_input is.begins))
      ]

  -- what was put so far is the first of what is replayed
  pub first_told : (more : List Rec) × AreReplayed r (records ++ more)
  first_told =
      let scanned = are_scanned reads inputs told.listed.hold in
      let (messages, in_turn) = messages_there reads scanned in
      let listed = in_turn.all in
      let are = in_turn.are in
      let rise = sents_rise stores reads inputs (pieces_in w) (pieces_loaded w) texts told loaded_there stands.taken given found.sents stands.queues.rise found.are in
      let (more, cut) = first_of_all MergesBefore merges_apart found.sents messages rise in_turn.rise
      (λ m has. let (t, at, is) = zip_back (λ (u : Turn) (s : Sent). TurnIs reads u s × IsFrom (read_tops reads) s) given found.sents has.0 m found.are has.1 in listed m is.1) (λ m has. place_of m (are m has)) in (
        map rec_sent more,
        record {
          shown = map seen_of messages;
          replay = replay_of r messages scanned in_turn;
          are = ap (λ (l : List Rec). l ++ map rec_sent more) found.records_are ∙ sym (map-append rec_sent found.sents more) ∙ ap (map rec_sent) (sym cut) ∙ map_map messages;
        },
      )
