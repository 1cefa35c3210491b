-- Where stores tell, what is put for the turns of a walk is the merge of the records that were read.
use Rattle.std.proofs.Common.{◌≡◌, ◌⊎◌, ℕ, ◌-◌, ◌<◌, List, [], ◌∷◌, ◌++◌, take, fold, refl, sym, ap, subst, inl, inr, ◌∙◌, append-nil, append_assoc, arith}
use Rattle.std.specs.Prelude.{AllPairs}
use Rattle.std.specs.List.{AllZip, flat_map}
use Rattle.std.proofs.lemmas.Bool.{cases_lt}
use Rattle.std.proofs.lemmas.List.Sums.{fold-append}
use Rattle.rec_data.specs.declared.owned.Rec.{Rec}
use Rattle.rec_data.specs.declared.channel.ChannelDef.{ChannelDef}
use Rattle.mcap_io.specs.Stores.{StoreState}
use Rattle.mcap_model.specs.Places.{At, Has, Each}
use Rattle.mcap_model.specs.Tops.{Top, flat}
use Rattle.mcap_model.specs.declared.replay.Place.{Place}
use Rattle.mcap_model.specs.Fields.{MessageFields, IsMessage}
use Rattle.mcap_model.specs.Scan.{PlaceBefore}
use Rattle.mcap_model.specs.Merged.{Sent, IsFrom, MergesBefore, AreInTurn, CommonProfile, MergeOf, IsContent}
use Rattle.mcap_model.proofs.Places.{at_one, has_kept}
use Rattle.mcap_model.proofs.Lists.{cut_flat, pairs_at, pairs_from, has_taken, at_taken}
use Rattle.mcap_model.proofs.Members.{has_second}
use Rattle.mcap_model.proofs.NamedTopics.{unmapped, zip_front, zip_back}
use Rattle.mcap_model.proofs.Maps.{message_once}
use Rattle.merge_walk.specs.declared.turns.Turn.{Turn}
use Rattle.merge_walk.specs.declared.pieces.Piece.{Piece}
use Rattle.merge_walk.specs.declared.walk.Walk.{Walk}
use Rattle.merge_walk.specs.Cursors.{TurnBefore}
use Rattle.merge_walk.specs.Stores.{files_of}
use Rattle.merge_walk.specs.Walks.{Text, turns_in, turns_of, pieces_in, pieces_loaded, pieces_ahead, IsTextOf, WalkStands, AllGiven}
use Rattle.merge_walk.proofs.Ordered.{before_each}
use Rattle.mcap_merge.specs.declared.input.Input.{Input}
use Rattle.mcap_merge.specs.Inputs.{HoldsInput, HoldInputs}
use Rattle.mcap_merge.specs.ReadInputs.{Read, read_tops}
use Rattle.mcap_merge.specs.Uses.{Use, added_by, with_use, history_of, IsUse, AreUses}
use Rattle.mcap_merge.specs.Turns.{IsUseOfTurn}
use Rattle.mcap_merge.specs.Writing.{extras_of}
use Rattle.mcap_merge.proofs.Contents.{content_once}
use Rattle.mcap_merge.proofs.Merging.{merges_all, inner_all}
use Rattle.mcap_merge.proofs.Sources.{are_scanned}
use Rattle.mcap_merge.proofs.InTurn.{one_message, extras_are}
use Rattle.mcap_merge.proofs.Dropped.{dropped}
use Rattle.mcap_merge.proofs.FirstOfAll.{first_of_all}
pub use Rattle.mcap_merge.proofs.ToldStays.{told_stays}
use Rattle.merge_walk.proofs.Held.{has_flat}
pub use Rattle.mcap_merge.proofs.ToldTurns.{Listed, TellsAt, Told}
use Rattle.mcap_merge.proofs.ToldTurns.{TurnIs, before_merges, record_is, MessageTold, message_told}

-- ---- the messages of turns

-- those are the messages of these turns, and these are their uses
record SentsTold (reads : List Read) (given : List Turn) (uses : List Use) : Type 0 where
  sents : List Sent
  are : AllZip (λ t m. TurnIs reads t m × IsFrom (read_tops reads) m) given sents
  used : AreUses (read_tops reads) sents uses

module _ (stores : List StoreState) (reads : List Read) (inputs : List Input) (pieces some : List Piece) (texts : List Text) (told : Told stores reads inputs pieces) (among : (p : Piece) → Has some p → Has pieces p) (are : AllZip (IsTextOf (files_of stores)) some texts) where
  abbrev Is : Turn → Sent → Type 0
  Is t m = TurnIs reads t m × IsFrom (read_tops reads) m

  use_told : (t : Turn) (u : Use) → IsUseOfTurn (read_tops reads) texts t u → (m : Sent) × Is t m × IsUse (read_tops reads) m u
  use_told t u is =
      let (p, at_p, text) = zip_back (IsTextOf (files_of stores)) some texts is.among.0 is.text are is.among.1 in
      let found = record_is stores reads inputs pieces told.listed p is.text t is.top (let tell = told.tell in tell p.input) (among p (is.among.0, at_p)) text is.has is.there in
      let m = found.message in
      let mine : IsMessage is.top is.channel u.message = record { kind = found.shows.kind; layout = is.shows } in
      let (channel, message) = message_once is.top is.channel m.seen.channel u.message m.seen.message mine found.shows in
      let input : is.sent.input ≡ m.input = is.input ∙ found.is.input in (
        m,
        (found.is, found.from),
        record {
          tops = is.content.tops;
          at = subst (λ (n : ℕ). At (read_tops reads) n is.content.tops) input is.content.at;
          content = subst (λ (n : ℕ). IsContent (flat is.content.tops) n u.content) (is.on ∙ channel) is.content.is;
          message = message;
        },
      )

  sents_told : (given : List Turn) (uses : List Use) → AllZip (IsUseOfTurn (read_tops reads) texts) given uses → SentsTold reads given uses
  sents_told [] [] zip = record { sents = []; are = tt; used = tt }
  sents_told [] (u ∷ us) zip = absurd zip
  sents_told (t ∷ ts) [] zip = absurd zip
  sents_told (t ∷ ts) (u ∷ us) zip =
      let (m, is, used) = use_told t u zip.0 in
      let rest = sents_told ts us zip.1 in
      record { sents = m ∷ rest.sents; are = (is, rest.are); used = (used, rest.used) }

  pub sents_rise : (given : List Turn) (sents : List Sent) → AllPairs TurnBefore given → AllZip Is given sents → AllPairs MergesBefore sents
  sents_rise given sents rise zip = pairs_from MergesBefore sents (λ i j m n less at_m at_n.
      let (t, at_t, one) = zip_back Is given sents i m zip at_m in
      let (u, at_u, other) = zip_back Is given sents j n zip at_n in
      before_merges reads t u m n one.0 other.0 (pairs_at TurnBefore given rise i j t u less at_t at_u))

  -- the turn of a message that was given is that of this message alone
  pub sent_there : (given : List Turn) (sents : List Sent) (t : Turn) (m : Sent) → AllZip Is given sents → TurnIs reads t m → IsFrom (read_tops reads) m → Has given t → Has sents m
  sent_there given sents t m zip is from has =
      let (n, at_n, other) = zip_front Is given sents has.0 t zip has.1 in
      let there = other.0 in
      let same : n ≡ m = one_message reads (are_scanned reads inputs told.listed.hold) n m other.1 from (sym there.input ∙ is.input) (sym there.top ∙ is.top) (sym there.inner ∙ is.inner) in
      (has.0, subst (At sents has.0) same at_n)

  -- the turn of a message whose piece has a text is one of the texts
  pub turn_there : (m : Sent) (is : MessageTold stores reads inputs pieces told.listed m) → Has some is.piece → Has (turns_of texts) is.turn
  turn_there m is has =
      let (x, at_x, text) = zip_front (IsTextOf (files_of stores)) some texts has.0 is.piece are has.1 in
      has_flat turns_in texts x is.turn (has.0, at_x) (is.given x text)

-- ---- all turns

-- the messages of the inputs, and their uses
pub record AreTold (inputs : List (List Top)) (uses : List Use) : Type 0 where
  pub messages : List Sent
  pub in_turn : AreInTurn inputs messages
  pub used : AreUses inputs messages uses

module _ (stores : List StoreState) (reads : List Read) (inputs : List Input) (pieces : List Piece) (texts : List Text) (given : List Turn) (uses : List Use) (told : Told stores reads inputs pieces) (all : AllGiven (files_of stores) pieces texts given)
    (are : AllZip (IsUseOfTurn (read_tops reads) texts) given uses) where
  -- the turns that were all given are the messages of the inputs
  pub told_all : AreTold (read_tops reads) uses
  told_all =
      let mine : (p : Piece) → Has pieces p → Has pieces p = λ p has. has in
      let found = sents_told stores reads inputs pieces pieces texts told mine all.texts_are given uses are in
      record {
        messages = found.sents;
        in_turn = record {
          rise = sents_rise stores reads inputs pieces pieces texts told mine all.texts_are given found.sents all.rise found.are;
          are = λ m has. let (t, at, is) = zip_back (λ (t : Turn) (n : Sent). TurnIs reads t n × IsFrom (read_tops reads) n) given found.sents has.0 m found.are has.1 in is.1;
          all = λ m from.
              let is = message_told stores reads inputs pieces told.listed m (let tell = told.tell in tell m.input) from in
              let whole = all.all in
              sent_there stores reads inputs pieces pieces texts told mine all.texts_are given found.sents is.turn m found.are is.is from
              (whole is.turn (turn_there stores reads inputs pieces pieces texts told mine all.texts_are m is is.has));
        };
        used = found.used;
      }

-- what is put for them is the merge
pub merged_told : (stores : List StoreState) (reads : List Read) (inputs : List Input) (pieces : List Piece) (texts : List Text) (given : List Turn) (uses : List Use) (profile : List ℕ) → Told stores reads inputs pieces → AllGiven (files_of stores) pieces texts given
    → AllZip (IsUseOfTurn (read_tops reads) texts) given uses → CommonProfile (read_tops reads) profile → MergeOf (read_tops reads) profile (extras_of inputs) (history_of uses)
merged_told stores reads inputs pieces texts given uses profile told all are common =
    let them = told_all stores reads inputs pieces texts given uses told all are in
    let merges = merges_all (read_tops reads) them.messages uses them.used in
    record {
      profile_is = common;
      extras_are = extras_are reads inputs told.listed.hold;
      inner = inner_all uses;
      numbered = merges.numbered;
      messages = them.messages;
      in_turn = them.in_turn;
      merged = merges.merged;
      placed = merges.placed;
    }

-- ---- the first turns

pub merges_apart : (m n : Sent) → MergesBefore m n → MergesBefore n m → ⊥
merges_apart m n (inl one) (inl other) = omega (arith, one, other)
merges_apart m n (inl one) (inr other) = let same = other.0 in omega (arith, one, same)
merges_apart m n (inr one) (inl other) = let same = one.0 in omega (arith, same, other)
merges_apart m n (inr (time, one)) (inr (same, other)) = by one other
  where
    places : (p q : Place) → PlaceBefore p q → PlaceBefore q p → ⊥
    places p q (inl first) (inl second) = omega (arith, first, second)
    places p q (inl first) (inr second) = let top = second.0 in omega (arith, first, top)
    places p q (inr first) (inl second) = let top = first.0 in omega (arith, top, second)
    places p q (inr first) (inr second) = let less = first.1 in let more = second.1 in omega (arith, less, more)

    by : (m.input < n.input) ⊎ ((m.input ≡ n.input) × PlaceBefore m.seen.place n.seen.place) → (n.input < m.input) ⊎ ((n.input ≡ m.input) × PlaceBefore n.seen.place m.seen.place) → ⊥
    by (inl first) (inl second) = omega (arith, first, second)
    by (inl first) (inr second) = let input = second.0 in omega (arith, first, input)
    by (inr first) (inl second) = let input = first.0 in omega (arith, input, second)
    by (inr first) (inr second) = places m.seen.place n.seen.place first.1 second.1

-- ---- uses

abbrev made : ChannelDef → MessageFields → Use
made d n = record { content = d; message = n }

made_by : (c d : ChannelDef) (n k : MessageFields) → c ≡ d → n ≡ k → made c n ≡ made d k
made_by c d n k contents messages = ap (λ (e : ChannelDef). made e n) contents ∙ ap (made d) messages

module _ (reads : List Read) (inputs : List Input) (hold : HoldInputs reads inputs) where
  use_once : (m : Sent) (u v : Use) → IsUse (read_tops reads) m u → IsUse (read_tops reads) m v → u ≡ v
  use_once m u v one other =
      let (r, at, same) = unmapped (λ (x : Read). x.tops) reads m.input one.tops one.at in
      let (input, here, holds) = zip_front HoldsInput reads inputs m.input r hold at in
      let tops : other.tops ≡ one.tops = at_one (read_tops reads) m.input other.tops one.tops other.at one.at in
      let mine : IsContent (flat r.tops) m.seen.channel u.content = subst (λ (l : List Top). IsContent (flat l) m.seen.channel u.content) (sym same) one.content in
      let theirs : IsContent (flat r.tops) m.seen.channel v.content = subst (λ (l : List Top). IsContent (flat l) m.seen.channel v.content) (tops ∙ sym same) other.content in
      made_by u.content v.content u.message v.message (content_once (flat r.tops) input.tables m.seen.channel u.content v.content holds.tables_are mine theirs) (one.message ∙ sym other.message)

  uses_first : (sents more : List Sent) (uses all : List Use) → AreUses (read_tops reads) (sents ++ more) all → AreUses (read_tops reads) sents uses → (others : List Use) × (all ≡ uses ++ others)
  uses_first [] more [] all whole some = (all, refl)
  uses_first [] more (u ∷ us) all whole some = absurd some
  uses_first (m ∷ ms) more [] all whole some = absurd some
  uses_first (m ∷ ms) more (u ∷ us) [] whole some = absurd whole
  uses_first (m ∷ ms) more (u ∷ us) (v ∷ vs) whole some =
      let (others, rest) = uses_first ms more us vs whole.1 some.1 in
      (others, ap (λ (w : Use). w ∷ vs) (use_once m v u whole.0 some.0) ∙ ap (λ (l : List Use). u ∷ l) rest)

-- the history of the first uses is the first of the history
pub history_front : (uses more : List Use) → (records : List Rec) × (history_of (uses ++ more) ≡ history_of uses ++ records)
history_front uses more =
    let (records, is) = grown (history_of uses) more in
    (records, fold-append with_use [] uses more ∙ is)
  where
    grown : (h : List Rec) (us : List Use) → (records : List Rec) × (fold with_use h us ≡ h ++ records)
    grown h [] = ([], sym (append-nil h))
    grown h (u ∷ us) =
        let (records, is) = grown (with_use h u) us in
        (added_by h u ++ records, is ∙ append_assoc h (added_by h u) records)

module _ (stores : List StoreState) (reads : List Read) (inputs : List Input) (w : Walk) (texts : List Text) (given : List Turn) (uses : List Use) (messages : List Sent) (all : List Use) (told : Told stores reads inputs (pieces_in w))
    (stands : WalkStands (files_of stores) w texts given) (are : AllZip (IsUseOfTurn (read_tops reads) texts) given uses) (in_turn : AreInTurn (read_tops reads) messages) (used : AreUses (read_tops reads) messages all) where
  loaded_there : (p : Piece) → Has (pieces_loaded w) p → Has (pieces_in w) p
  loaded_there p has = (has.0, (has_taken w.pieces.items w.next has.0 p has.1).1)

  found : SentsTold reads given uses
  found = sents_told stores reads inputs (pieces_in w) (pieces_loaded w) texts told loaded_there stands.taken given uses are

  -- a message whose turn is left, or whose piece wasn't loaded yet, comes behind all whose turns were given
  comes_behind : (m : Sent) (t : Turn) → TurnIs reads t m → ((g : Turn) → Has given g → TurnBefore g t) → Each (λ n. MergesBefore n m) found.sents
  comes_behind m t is before k n at =
      let (g, at_g, there) = zip_back (λ (u : Turn) (s : Sent). TurnIs reads u s × IsFrom (read_tops reads) s) given found.sents k n found.are at in
      before_merges reads g t n m there.0 is (before g (k, at_g))

  place_of : (m : Sent) → Has messages m → Has found.sents m ⊎ Each (λ n. MergesBefore n m) found.sents
  place_of m has =
      let from_all = in_turn.are in
      let from = from_all m has in
      let is = message_told stores reads inputs (pieces_in w) told.listed m (let tell = told.tell in tell m.input) from in
      let early = stands.early in
      let past = stands.queues.past in
      let whole = stands.all.all in
      let place = is.has.0 in
      elim (cases_lt place w.next) [
        | inl less ↦
            let loaded : Has (pieces_loaded w) is.piece = (place, at_taken w.pieces.items w.next place is.piece less is.has.1) in
            elim (whole is.turn (turn_there stores reads inputs (pieces_in w) (pieces_loaded w) texts told loaded_there stands.taken m is loaded)) [
              | inl gone ↦ inl (sent_there stores reads inputs (pieces_in w) (pieces_loaded w) texts told loaded_there stands.taken given found.sents is.turn m found.are is.is from gone)
              | inr (q, has_q, there) ↦ inr (comes_behind m is.turn is.is (λ g has_g. past g is.turn q has_g has_q there))
            ]
        | inr later ↦
            let ahead : Has (pieces_ahead w) is.piece = (place - w.next, dropped w.pieces.items w.next place (place - w.next) is.piece (omega (arith, later)) is.has.1) in
            let least = is.least in
            inr (comes_behind m is.turn is.is (λ g has_g. before_each g is.turn is.piece (early g is.piece has_g ahead) least is.of_input is.begins))
      ]

  -- what was put so far is the first of the whole merge
  pub told_first : (more : List Use) × (all ≡ uses ++ more)
  told_first =
      let listed = in_turn.all in
      let rise = sents_rise stores reads inputs (pieces_in w) (pieces_loaded w) texts told loaded_there stands.taken given found.sents stands.queues.rise found.are in
      let (more, cut) = first_of_all MergesBefore merges_apart found.sents messages rise in_turn.rise
      (λ m has. let (t, at, is) = zip_back (λ (u : Turn) (s : Sent). TurnIs reads u s × IsFrom (read_tops reads) s) given found.sents has.0 m found.are has.1 in listed m is.1) place_of in
      uses_first reads inputs told.listed.hold found.sents more uses all (subst (λ (l : List Sent). AreUses (read_tops reads) l all) cut used) found.used

  pub told_begins : (records : List Rec) × (history_of all ≡ history_of uses ++ records)
  told_begins =
      let (more, is) = told_first in
      let (records, grows) = history_front uses more in
      (records, ap history_of is ∙ grows)
