-- What a replay has kept so far, and what it comes to.
use Rattle.std.proofs.Common.{◌≡◌, ℕ, suc, Bool, true, false, List, [], ◌∷◌, ◌++◌, map, refl, sym, ap, subst, ◌∙◌, append_assoc, append-nil, cond, Option, Some, None}
use Rattle.std.specs.Prelude.{filter, ◌==◌, AllPairs, IsPermutation}
use Rattle.std.specs.Bool.{Decides}
use Rattle.std.specs.List.{AllZip, list_any}
use Rattle.std.proofs.lemmas.Bool.Decides.{Decides-and}
use Rattle.std.proofs.lemmas.Bool.{eqb-true}
use Rattle.std.proofs.lemmas.List.{map-append}
use Rattle.std.proofs.lemmas.List.Elements.{filter-append}
use Rattle.std.proofs.lemmas.List.Kept.{AllPairs-filter}
use Rattle.std.proofs.lemmas.List.Sorted.{Contains-permutation}
use Rattle.std.specs.Cmp.Lexicographic.{bytes_decides}
use Rattle.mcap_model.specs.declared.replay.Place.{Place}
use Rattle.mcap_model.specs.declared.replay.Range.{Range}
use Rattle.mcap_model.specs.declared.replay.Shown.{Shown}
use Rattle.mcap_model.specs.declared.replay.Topic.{Topic}
use Rattle.mcap_model.specs.declared.replay.Replayed.{Replayed}
use Rattle.mcap_model.specs.declared.tables.Tables.{Tables}
use Rattle.mcap_model.specs.Places.{Has, At, EachBehind}
use Rattle.mcap_model.specs.Tops.{Top, Placed, placed, is_flat_kind, flat as flat_tops}
use Rattle.mcap_model.specs.Rules.{Agrees}
use Rattle.mcap_model.specs.Kept.{reading_limits}
use Rattle.mcap_model.specs.Scan.{Seen, HasTopic, IsSeen, OnTopic, IsAsked, tops_of, is_within}
use Rattle.mcap_model.specs.Showing.{shown_as, Shows}
use Rattle.mcap_model.specs.Plain.{is_used, is_chosen, AreNamed, PlacesDiffer, InOrder, IsShown}
use Rattle.mcap_model.proofs.Places.{at_kept, each_at}
use Rattle.mcap_model.proofs.Lists.{pairs_at, pairs_from, filter_passed, filter_has}
use Rattle.std.proofs.lemmas.Option.{same_Some}
use Rattle.mcap_model.proofs.Flat.{at_mapped, placed_tops, topic_once, good_lists_agree, good_lists_are_scanned}
use Rattle.mcap_model.proofs.ShownMessages.{is_message_placed}
use Rattle.mcap_model.proofs.NamedTopics.{AreKnown, known_all, are_channels, are_declared, topics_right, unmapped, contained, has_there}
use Rattle.mcap_model.proofs.PlacesApart.{places_differ}
use Rattle.mcap_model.proofs.Replays.{IsPut, replayed, asked_decided, range_decided, used_there}
use Rattle.mcap_io.specs.Outside.{SourceState}
use Rattle.mcap_scan.specs.Scanning.{IsGoing}
use Rattle.mcap_scan.proofs.Scanning.{tables_stand, good_stand, lacks_behind}
use Rattle.mcap_scan.specs.declared.flat_reader.FlatReader.{FlatReader}
use Rattle.mcap_scan.specs.Walking.{flat_content, flat_tables, ahead_of, placed_at, FlatStands, FlatGives, FlatFinds}
use Rattle.mcap_scan.proofs.Walked.{walked_flat_tops, walked_messages}
use Rattle.time_player.specs.Asking.{is_topic, is_asked, Knows, KeepsAmong, KeepsAsked}
use Rattle.time_player.specs.Replaying.{IsGoodScan, IsPlayed, KeepsAll}
use Rattle.time_player.proofs.Chosen.{kept, kept_joined, zip_parts}

-- ---- records that are read

abbrev is_flat_placed : Placed → Bool
is_flat_placed p = is_flat_kind p.top

-- the Schemas, Channels and Messages among those that were given
abbrev pub records_of : List Placed → List Top
records_of given = tops_of (filter is_flat_placed given)

records_joined : (ps qs : List Placed) → records_of (ps ++ qs) ≡ records_of ps ++ records_of qs
records_joined ps qs = ap tops_of (filter-append is_flat_placed ps qs) ∙ map-append (λ (p : Placed). p.top) (filter is_flat_placed ps) (filter is_flat_placed qs)

-- of the messages that were given those that are asked for are kept, whatever stands behind them
abbrev pub KeepsGiven : Range → Option (List ℕ) → List Placed → List Shown → Type 0
KeepsGiven range topic given shown = (more : List Top) → EachBehind Agrees (records_of given ++ more) → KeepsAmong range topic (records_of given ++ more) given [] shown

-- the reader stands for records, and of the messages that it gave those that are asked for are kept
pub record PlaysSoFar (range : Range) (topic : Option (List ℕ)) (flat : FlatReader) (before now : SourceState) (shown : List Shown) : Type 0 where
  pub tops : List Top
  pub given : List Placed
  pub stands : FlatStands flat before now tops given
  pub keeps : KeepsGiven range topic given shown

-- nothing was read
pub plays_begin : (range : Range) (topic : Option (List ℕ)) (flat : FlatReader) (before : SourceState) (shown : List Shown) → FlatStands flat before before [] [] → shown ≡ [] → PlaysSoFar range topic flat before before shown
plays_begin range topic flat before shown stands none = record { tops = []; given = []; stands = stands; keeps = λ more agree messages zip. none ∙ by (records_of [] ++ more) messages zip }
  where
    by : (records : List Top) (messages : List Seen) → AllZip (IsSeen records) [] messages → [] ≡ kept range topic messages
    by records [] zip = refl
    by records (m ∷ ms) zip = absurd zip

-- ---- a record more

-- a Message's channel stands among the records in front of it, so it is seen whatever stands behind it
seen_again : (front more others : List Top) (p : Placed) (m : Seen) → EachBehind Agrees (front ++ p.top ∷ more) → IsSeen (front ++ p.top ∷ more) p m → IsSeen (front ++ others) p m
seen_again front more others p m agree seen =
    let here = each_at Agrees front p.top more agree in
    let has = here.channel m.channel m.message seen.is in
    let one : HasTopic (front ++ p.top ∷ more) m.channel has.shown.topic = record { place = has.place; top = has.top; shown = has.shown; at = at_kept front (p.top ∷ more) has.place has.top has.at; is = has.is; topic_is = refl } in
    let same = topic_once (front ++ p.top ∷ more) m.channel has.shown.topic m.topic agree one seen.known in
    record {
      place = seen.place;
      is = seen.is;
      known = record { place = has.place; top = has.top; shown = has.shown; at = at_kept front others has.place has.top has.at; is = has.is; topic_is = same };
    }

-- what is seen of one record
zip_again : (records others : List Top) (p : Placed) (ms : List Seen) → (p.top.op ≡ 5 → (m : Seen) → IsSeen records p m → IsSeen others p m) → AllZip (IsSeen records) (filter is_message_placed (p ∷ [])) ms → AllZip (IsSeen others) (filter is_message_placed (p ∷ [])) ms
zip_again records others p ms again = by (is_message_placed p) refl ms
  where
    by : (b : Bool) → is_message_placed p ≡ b → (ms : List Seen) → AllZip (IsSeen records) (cond b (p ∷ []) []) ms → AllZip (IsSeen others) (cond b (p ∷ []) []) ms
    by true is [] zip = absurd zip
    by true is (m ∷ []) zip = (again (eqb-true p.top.op 5 is) m zip.0, tt)
    by true is (m ∷ n ∷ ms) zip = absurd zip.1
    by false is [] zip = tt
    by false is (m ∷ ms) zip = absurd zip

-- a Message is one of the records
alone : (p : Placed) → p.top.op ≡ 5 → records_of (p ∷ []) ≡ p.top ∷ []
alone p is = ap (λ (b : Bool). tops_of (cond b (p ∷ []) [])) (ap (λ (n : ℕ). list_any (λ kind. kind == n) (3 ∷ 4 ∷ 5 ∷ [])) is)

keeps_on : (range : Range) (topic : Option (List ℕ)) (tables : Tables) (given : List Placed) (p : Placed) (behind : List Top) (old new : List Shown) → KeepsGiven range topic given old → Knows (records_of given ++ (records_of (p ∷ []) ++ behind)) tables → KeepsAsked range topic tables (p ∷ []) old new
    → KeepsGiven range topic (given ++ p ∷ []) new
keeps_on range topic tables given p behind old new was knows keeps more agree messages zip =
    let front = records_of given in
    let one = records_of (p ∷ []) in
    let split : records_of (given ++ p ∷ []) ++ more ≡ front ++ (one ++ more) = ap (λ (l : List Top). l ++ more) (records_joined given (p ∷ [])) ∙ append_assoc front one more in
    let agreed = subst (EachBehind Agrees) split agree in
    let zipped : AllZip (IsSeen (front ++ (one ++ more))) (filter is_message_placed given ++ filter is_message_placed (p ∷ [])) messages =
    subst (λ (l : List Placed). AllZip (IsSeen (front ++ (one ++ more))) l messages) (filter-append is_message_placed given (p ∷ []))
    (subst (λ (l : List Top). AllZip (IsSeen l) (filter is_message_placed (given ++ p ∷ [])) messages) split zip) in
    let parts = zip_parts (IsSeen (front ++ (one ++ more))) (filter is_message_placed given) (filter is_message_placed (p ∷ [])) messages zipped in
    let again : p.top.op ≡ 5 → (m : Seen) → IsSeen (front ++ (one ++ more)) p m → IsSeen (front ++ (one ++ behind)) p m = λ is m seen.
    let front_there = ap (λ (l : List Top). front ++ (l ++ more)) (alone p is) in
    seen_again front more (one ++ behind) p m (subst (EachBehind Agrees) front_there agreed) (subst (λ (l : List Top). IsSeen l p m) front_there seen) in
    keeps (front ++ (one ++ behind)) knows parts.1 (zip_again (front ++ (one ++ more)) (front ++ (one ++ behind)) p parts.1 again parts.4)
    ∙ ap (λ (l : List Shown). l ++ kept range topic parts.1) (was (one ++ more) agreed parts.0 parts.3)
    ∙ sym (kept_joined range topic parts.0 parts.1)
    ∙ ap (kept range topic) (sym parts.2)

pub plays_on : (range : Range) (topic : Option (List ℕ)) (flat flat_new : FlatReader) (before now now_new : SourceState) (old new : List Shown) (op : ℕ) (place : Place) (was : PlaysSoFar range topic flat before now old) → FlatGives flat_new before now_new was.tops was.given op place
    → KeepsAsked range topic (flat_tables flat_new) (placed_at place op (flat_content flat_new) ∷ []) old new → PlaysSoFar range topic flat_new before now_new new
plays_on range topic flat flat_new before now now_new old new op place was gives keeps =
    let p = placed_at place op (flat_content flat_new) in
    let tops = gives.tops in
    let stands = gives.stands in
    let front = records_of was.given in
    let behind = records_of (ahead_of flat_new) in
    let are = tables_stand flat_new.reader before now_new tops gives.going stands.stands in
    let good = good_stand flat_new.reader before now_new tops gives.going stands.stands in
    let all : flat_tops tops ≡ front ++ (records_of (p ∷ []) ++ behind) =
    sym (walked_flat_tops tops)
    ∙ ap records_of stands.all
    ∙ records_joined (was.given ++ p ∷ []) (ahead_of flat_new)
    ∙ ap (λ (l : List Top). l ++ behind) (records_joined was.given (p ∷ []))
    ∙ append_assoc front (records_of (p ∷ [])) behind in
    let agree = (good_lists_agree reading_limits tops good).1 in
    let knows : Knows (front ++ (records_of (p ∷ []) ++ behind)) (flat_tables flat_new) = subst (λ (l : List Top). Knows l (flat_tables flat_new)) all (record { agree = agree; tables_are = are }) in
    record { tops = tops; given = was.given ++ p ∷ []; stands = stands; keeps = keeps_on range topic (flat_tables flat_new) was.given p behind old new was.keeps knows keeps }

-- the Data End was given
pub plays_end : (range : Range) (topic : Option (List ℕ)) (flat flat_new : FlatReader) (before now now_new : SourceState) (tables : Tables) (shown : List Shown) (offset : ℕ) (was : PlaysSoFar range topic flat before now shown) → tables ≡ flat_tables flat_new → FlatFinds flat_new before now_new was.tops was.given offset
    → KeepsAll range topic before now_new tables shown
plays_end range topic flat flat_new before now now_new tables shown offset was same found =
    let tops = found.tops in
    let finds = found.finds in
    let is = finds.is in
    let scan = good_lists_are_scanned reading_limits tops is.good in
    let agree = (good_lists_agree reading_limits tops is.good).1 in
    let all : records_of was.given ++ [] ≡ flat_tops tops = append-nil (records_of was.given) ∙ ap records_of found.whole ∙ walked_flat_tops tops in
    let messages : filter is_message_placed (placed tops) ≡ filter is_message_placed was.given = sym (walked_messages tops) ∙ ap (filter is_message_placed) (sym found.whole) in
    let zip : AllZip (IsSeen (records_of was.given ++ [])) (filter is_message_placed was.given) scan.0 =
    subst (λ (l : List Placed). AllZip (IsSeen (records_of was.given ++ [])) l scan.0) messages
    (subst (λ (l : List Top). AllZip (IsSeen l) (filter is_message_placed (placed tops)) scan.0) (placed_tops 8 tops ∙ sym all) scan.1) in
    record {
      tops = tops;
      end = offset;
      messages = scan.0;
      halts = finds.halts;
      lacks = lacks_behind flat_new.reader before now_new tops (subst IsGoing (sym finds.stage) tt) finds.stands;
      told = subst (λ (t : Tables). IsGoodScan tops t scan.0) (sym same) (record { good = is.good; tables_are = is.tables_are; scan = scan.1 });
      kept_are = was.keeps [] (subst (EachBehind Agrees) (sym all) agree) scan.0 zip;
    }

-- ---- the end

-- a test that all pass keeps all
pub filter_all : {X : Type 0} (test : X → Bool) (xs : List X) → ((x : X) → Has xs x → test x ≡ true) → xs ≡ filter test xs
filter_all test [] pass = refl
filter_all {X} test (x ∷ xs) pass =
    ap (λ (l : List X). x ∷ l) (filter_all test xs (λ y has. pass y (suc has.0, has.1)))
    ∙ sym (ap (λ (b : Bool). cond b (x ∷ filter test xs) (filter test xs)) (pass x (0, refl)))

asked_is : (range : Range) (topic : Option (List ℕ)) (m : Seen) → Decides (is_asked range topic m) (IsAsked range topic m)
asked_is range topic m = Decides-and (is_within range m.message.log_time) (is_topic topic m.topic) (range_decided range m.message.log_time) (by topic)
  where
    by : (asked : Option (List ℕ)) → Decides (is_topic asked m.topic) (OnTopic asked m.topic)
    by None = (λ yes t is. absurd (none_some t is), λ all. refl)
      where
        none_some : (t : List ℕ) → None ≡ Some t → ⊥
        none_some t is = cc
    by (Some asked) = (λ yes t is. (bytes_decides m.topic asked).0 yes ∙ same_Some asked t is, λ all. (bytes_decides m.topic asked).1 (all asked refl))

-- the messages stand at places of their own
shown_all : (records : List Top) (ps : List Placed) (ms : List Seen) → AllZip (IsSeen records) ps ms → AllZip IsShown ps (map shown_as ms)
shown_all records [] [] zip = tt
shown_all records [] (m ∷ ms) zip = absurd zip
shown_all records (p ∷ ps) [] zip = absurd zip
shown_all records (p ∷ ps) (m ∷ ms) zip = let seen = zip.0 in (record { place = seen.place; is = seen.is }, shown_all records ps ms zip.1)

kept_differ : (range : Range) (topic : Option (List ℕ)) (messages : List Seen) → PlacesDiffer (map shown_as messages) → PlacesDiffer (kept range topic messages)
kept_differ range topic messages differ =
    let apart : AllPairs (λ (m : Seen) (n : Seen). m.place ≡ n.place → ⊥) messages = pairs_from (λ (m : Seen) (n : Seen). m.place ≡ n.place → ⊥) messages (λ i j m n less at_m at_n.
    pairs_at (λ (s : Shown) (r : Shown). s.place ≡ r.place → ⊥) (map shown_as messages) differ i j (shown_as m) (shown_as n) less (at_mapped shown_as messages i m at_m) (at_mapped shown_as messages j n at_n)) in
    let chosen = filter (is_asked range topic) messages in
    let still = AllPairs-filter (λ (m : Seen) (n : Seen). m.place ≡ n.place → ⊥) (is_asked range topic) messages apart in
    pairs_from (λ (s : Shown) (r : Shown). s.place ≡ r.place → ⊥) (kept range topic messages) (λ i j s r less at_s at_r.
    let a = unmapped shown_as chosen i s at_s in
    let b = unmapped shown_as chosen j r at_r in
    λ same. pairs_at (λ (m : Seen) (n : Seen). m.place ≡ n.place → ⊥) chosen still i j a.0 b.0 less a.1 b.1 (ap (λ (z : Shown). z.place) a.2 ∙ same ∙ sym (ap (λ (z : Shown). z.place) b.2)))

-- what was kept is shown, with the topics of its channels
kept_shown : (range : Range) (topic : Option (List ℕ)) (tops : List Top) (tables : Tables) (messages : List Seen) (all : Replayed) → IsGoodScan tops tables messages → all.shown.items ≡ kept range topic messages → AreNamed tables.channels all.shown.items all.topics.items
    → Shows all (filter (is_asked range topic) messages)
kept_shown range topic tops tables messages all told same named =
    let chosen = filter (is_asked range topic) messages in
    let agree = good_lists_agree reading_limits tops told.good in
    let zip : AllZip (IsSeen (flat_tops tops)) (filter is_message_placed (placed tops)) messages = subst (λ (l : List Top). AllZip (IsSeen l) (filter is_message_placed (placed tops)) messages) (placed_tops 8 tops) told.scan in
    let heard : AreKnown (flat_tops tops) messages = known_all (flat_tops tops) (filter is_message_placed (placed tops)) messages zip in
    let known : AreKnown (flat_tops tops) chosen = λ s has. heard s (filter_passed (is_asked range topic) messages has.0 s has.1).0 in
    let have = named (are_channels (flat_tops tops) tables told.tables_are) (are_declared (flat_tops tops) tables chosen all.shown.items told.tables_are known same) in
    record { shown = same; topics = topics_right (flat_tops tops) tables chosen all.shown.items all.topics.items agree.1 told.tables_are known same have }

mapped_there : (chosen : List Seen) (m : Seen) → Has chosen m → Has (map shown_as chosen) (shown_as m)
mapped_there chosen m has = (has.0, at_mapped shown_as chosen has.0 m has.1)

-- a channel that a message is on is used in another order too
used_still : (xs ys : List Shown) (channel : ℕ) → IsPermutation xs ys → {s : Shown} → Has xs s → s.channel ≡ channel → is_used ys channel ≡ true
used_still xs ys channel moved {s} has is = used_there ys s channel (has_there ys s (Contains-permutation xs ys s moved (contained xs s has))) is

pub played : (range : Range) (topic : Option (List ℕ)) (tops : List Top) (tables : Tables) (messages : List Seen) (all out : Replayed) → IsGoodScan tops tables messages → all.shown.items ≡ kept range topic messages → AreNamed tables.channels all.shown.items all.topics.items
    → out.topics.items ≡ all.topics.items → IsPermutation all.shown.items out.shown.items → InOrder out.shown.items → IsPlayed range topic messages out
played range topic tops tables messages all out told same named topics moved order =
    let chosen = filter (is_asked range topic) messages in
    let shows = kept_shown range topic tops tables messages all told same named in
    let of = shows.topics in
    let zip : AllZip (IsSeen (tops_of (placed tops))) (filter is_message_placed (placed tops)) messages = told.scan in
    let differ : PlacesDiffer all.shown.items = subst PlacesDiffer (sym same) (kept_differ range topic messages (places_differ tops (map shown_as messages) (shown_all (tops_of (placed tops)) (filter is_message_placed (placed tops)) messages zip))) in
    let asked : (m : Seen) → Has chosen m → Has messages m × IsAsked range topic m = λ m has. let p = filter_passed (is_asked range topic) messages has.0 m has.1 in (p.0, (asked_is range topic m).0 p.1) in
    let pass : (s : Shown) → Has all.shown.items s → is_chosen all.topics.items range topic s ≡ true = λ s has.
    let m = unmapped shown_as chosen has.0 s (subst (λ (l : List Shown). At l has.0 s) same has.1) in
    subst (λ (r : Shown). is_chosen all.topics.items range topic r ≡ true) m.2 ((asked_decided chosen all.topics.items range topic m.0 of (has.0, m.1)).1 (asked m.0 (has.0, m.1)).1) in
    let put : IsPut all range topic all.shown.items out.shown.items = record { chosen_are = filter_all (is_chosen all.topics.items range topic) all.shown.items pass; moved = moved; order = order; differ = differ } in
    let used : out.topics.items ≡ filter (λ t. is_used out.shown.items t.channel) all.topics.items = topics ∙ filter_all (λ (t : Topic). is_used out.shown.items t.channel) all.topics.items (λ t has.
    let s = of.are t has in
    used_still all.shown.items out.shown.items t.channel moved (subst (λ (l : List Shown). Has l (shown_as s.0)) (sym same) (mapped_there chosen s.0 s.1)) (ap (λ (u : Topic). u.channel) s.2)) in
    let done = replayed all out range topic chosen all.shown.items shows put used in
    let replay = done.1 in
    record {
      shown = done.0;
      replay = record {
        rises = replay.rises;
        are = λ s has. let there = replay.are s has in ((asked s there.0).0, there.1);
        all = λ s has is. replay.all s (filter_has (is_asked range topic) messages has.0 s has.1 ((asked_is range topic s).1 is)) is;
      };
      shows = done.2;
    }
