-- The records that are put for turns make a sound history.
use Rattle.std.proofs.Common.{◌≡◌, ℕ, ◌≤◌, List, [], ◌∷◌, ◌++◌, length, take, drop, refl, sym, ap, subst, inl, inr, ◌∙◌, append_assoc, arith}
use Rattle.std.specs.Prelude.{AllPairs, filter}
use Rattle.std.specs.List.{AllZip}
use Rattle.std.proofs.lemmas.List.{take_at, drop_at, length-append}
use Rattle.mcap_wire.specs.Layout.{number, le}
use Rattle.mcap_wire.proofs.Numbers.{length-le, number-le}
use Rattle.rec_data.specs.declared.owned.Rec.{Rec}
use Rattle.rec_data.specs.Records.{ShowsMessage}
use Rattle.mcap_model.specs.Places.{Each}
use Rattle.mcap_model.specs.Tops.{Top}
use Rattle.mcap_model.specs.Fields.{MessageFields}
use Rattle.mcap_model.specs.History.{message_of, is_message}
use Rattle.mcap_model.specs.ReadBack.{IsReadBack, IsExtra}
use Rattle.mcap_model.specs.Merged.{Sent, MergesBefore, IsMerged, MergeOf}
use Rattle.mcap_model.proofs.Lists.{pairs_at, pairs_from}
use Rattle.mcap_model.proofs.NamedTopics.{zip_front, zip_back}
use Rattle.mcap_scan.specs.HeadTimes.{time_in}
use Rattle.merge_walk.specs.declared.turns.Turn.{Turn}
use Rattle.merge_walk.specs.Cursors.{TurnBefore}
use Rattle.merge_walk.specs.Walks.{Text}
use Rattle.mcap_merge.specs.Uses.{Use, history_of, IsUse, AreUses}
use Rattle.mcap_merge.specs.Contents.{IdsSuffice}
use Rattle.mcap_merge.specs.Turns.{IsUseOfTurn}
use Rattle.mcap_merge.specs.Sound.{LoggedInTurn, IsSoundHistory}
use Rattle.mcap_merge.proofs.Merging.{merges_all, inner_all}
use Rattle.mcap_merge.proofs.ReadBack.{message_back}
use Rattle.mcap_merge.proofs.FewIds.{IsWholeUse, history_back}

-- the log time of a Message stands behind two numbers
pub time_shown : (content : List ℕ) (channel : ℕ) (m : MessageFields) → ShowsMessage content channel m → time_in content ≡ m.log_time
time_shown content channel m shows =
    let first = le 2 channel ++ le 4 m.sequence in
    let behind = le 8 m.log_time ++ (le 8 m.publish_time ++ m.payload) in
    let size : length first ≡ 6 = let long = length-append (le 2 channel) (le 4 m.sequence) in omega (arith, long, length-le 2 channel, length-le 4 m.sequence) in
    let parts : content ≡ first ++ behind = shows.spelled_there ∙ sym (append_assoc (le 2 channel) (le 4 m.sequence) behind) in
    let there : drop 6 content ≡ behind = ap (drop 6) parts ∙ drop_at first behind 6 size in
    ap number (ap (take 8) there ∙ take_at (le 8 m.log_time) (le 8 m.publish_time ++ m.payload) 8 (length-le 8 m.log_time)) ∙ number-le 8 m.log_time shows.fit.1.1.0

-- ---- the messages that are put

-- a message that is put for a turn
record IsSentFor (m : Sent) (t : Turn) : Type 0 where
  time : m.seen.message.log_time ≡ t.log_time

record SentsFor (all : List (List Top)) (given : List Turn) (uses : List Use) : Type 0 where
  sents : List Sent
  used : AreUses all sents uses
  are : AllZip IsSentFor sents given

sent_for : (all : List (List Top)) (texts : List Text) (t : Turn) (u : Use) → IsUseOfTurn all texts t u → (m : Sent) × IsUse all m u × IsSentFor m t
sent_for all texts t u is = (
  record { input = is.sent.input; seen = record { place = is.sent.seen.place; channel = is.sent.seen.channel; topic = is.sent.seen.topic; message = u.message } },
  record { tops = is.content.tops; at = is.content.at; content = is.content.is; message = refl },
  record { time = sym (is.there.time ∙ time_shown is.top.content is.channel u.message is.shows) },
)

sents_for : (all : List (List Top)) (texts : List Text) (given : List Turn) (uses : List Use) → AllZip (IsUseOfTurn all texts) given uses → SentsFor all given uses
sents_for all texts [] [] zip = record { sents = []; used = tt; are = tt }
sents_for all texts [] (u ∷ us) zip = absurd zip
sents_for all texts (t ∷ ts) [] zip = absurd zip
sents_for all texts (t ∷ ts) (u ∷ us) zip =
    let (m, used, is) = sent_for all texts t u zip.0 in
    let rest = sents_for all texts ts us zip.1 in
    record { sents = m ∷ rest.sents; used = (used, rest.used); are = (is, rest.are) }

not_behind : (t u : Turn) → TurnBefore t u → t.log_time ≤ u.log_time
not_behind t u (inl less) = omega (arith, less)
not_behind t u (inr same) = omega (arith, same.0)

-- ---- the history

whole : (all : List (List Top)) (texts : List Text) (t : Turn) (u : Use) → IsUseOfTurn all texts t u → IsWholeUse all u
whole all texts t u is = record {
  used = record { message = is.sent; from = is.from; tops = is.content.tops; at = is.content.at; is = is.content.is };
  fits = is.content.fits;
  back = λ id small. message_back is.top.content is.channel id u.message is.shows small;
}

pub is_sound : (all : List (List Top)) (texts : List Text) (given : List Turn) (uses : List Use) (extras : List Top) → IdsSuffice all → AllZip (IsUseOfTurn all texts) given uses → AllPairs TurnBefore given → Each IsExtra extras → IsSoundHistory extras (history_of uses)
is_sound all texts given uses extras suffice zip rise meet =
    let history = history_of uses in
    let put = sents_for all texts given uses zip in
    let merges = merges_all all put.sents uses put.used in
    record {
      inner = inner_all uses;
      numbered = merges.numbered;
      placed = merges.placed;
      back = history_back all uses suffice (λ n u at. let found = zip_back (IsUseOfTurn all texts) given uses n u zip at in whole all texts found.0 u found.2);
      rise = pairs_from LoggedInTurn (filter is_message history) (λ i j r s less at_r at_s.
          let (m, at_m, is_r) = zip_back (IsMerged all history) put.sents (filter is_message history) i r merges.merged at_r in
          let (n, at_n, is_s) = zip_back (IsMerged all history) put.sents (filter is_message history) j s merges.merged at_s in
          let (t, at_t, first) = zip_front IsSentFor put.sents given i m put.are at_m in
          let (u, at_u, second) = zip_front IsSentFor put.sents given j n put.are at_n in
          let before = not_behind t u (pairs_at TurnBefore given rise i j t u less at_t at_u) in
          let in_turn : LoggedInTurn (message_of is_r.channel m.seen.message) (message_of is_s.channel n.seen.message) = omega (arith, before, first.time, second.time) in
          subst (LoggedInTurn r) (sym is_s.is) (subst (λ (x : Rec). LoggedInTurn x (message_of is_s.channel n.seen.message)) (sym is_r.is) in_turn));
      extras_meet = meet;
    }

-- ---- a merge

not_later : (m n : Sent) → MergesBefore m n → m.seen.message.log_time ≤ n.seen.message.log_time
not_later m n (inl less) = omega (arith, less)
not_later m n (inr same) = omega (arith, same.0)

-- the records of a merge are sound where they are read back
pub merge_sound : (inputs : List (List Top)) (profile : List ℕ) (extras : List Top) (history : List Rec) → MergeOf inputs profile extras history → Each IsReadBack history → Each IsExtra extras → IsSoundHistory extras history
merge_sound inputs profile extras history merge back meet = record {
  inner = merge.inner;
  numbered = merge.numbered;
  placed = merge.placed;
  back = back;
  rise = pairs_from LoggedInTurn (filter is_message history) (λ i j r s less at_r at_s.
      let (m, at_m, is_r) = zip_back (IsMerged inputs history) merge.messages (filter is_message history) i r merge.merged at_r in
      let (n, at_n, is_s) = zip_back (IsMerged inputs history) merge.messages (filter is_message history) j s merge.merged at_s in
      let in_turn : LoggedInTurn (message_of is_r.channel m.seen.message) (message_of is_s.channel n.seen.message) = not_later m n (pairs_at MergesBefore merge.messages merge.in_turn.rise i j m n less at_m at_n) in
      subst (LoggedInTurn r) (sym is_s.is) (subst (λ (x : Rec). LoggedInTurn x (message_of is_s.channel n.seen.message)) (sym is_r.is) in_turn));
  extras_meet = meet;
}
