-- Why a limit is told where the data of messages is too much; and that each chunk has one Chunk Index among those that were
-- loaded.
use Rattle.std.proofs.Common.{◌≡◌, ℕ, zero, suc, ◌+◌, ◌<◌, ◌≤◌, Bool, true, false, cond, List, [], ◌∷◌, length, refl, sym, ap, subst, inl, inr, ◌∙◌, arith}
use Rattle.std.specs.Prelude.{◌≢◌, ◌==◌, AllPairs}
use Rattle.std.specs.List.{AllZip}
use Rattle.std.proofs.lemmas.Bool.{cases_order}
use Rattle.std.proofs.lemmas.List.Sums.{sum_by-cons}
use Rattle.std.proofs.lemmas.Option.{same_Some}
use Rattle.mcap_model.specs.declared.replay.Range.{Range}
use Rattle.mcap_model.specs.declared.replay.Shown.{Shown}
use Rattle.mcap_model.specs.Places.{At}
use Rattle.mcap_model.specs.Tops.{Top, top_bytes}
use Rattle.mcap_model.specs.Scan.{Seen}
use Rattle.mcap_model.specs.Showing.{shown_as}
use Rattle.mcap_model.specs.Led.{LedByIndex, Led}
use Rattle.mcap_model.proofs.Places.{at_none}
use Rattle.mcap_model.proofs.Lists.{pairs_at, pairs_from}
use Rattle.mcap_model.proofs.NamedTopics.{zip_front, zip_back}
use Rattle.mcap_model.proofs.Readings.{length-top}
use Rattle.time_player.specs.DataOfMessages.{data_in}
use Rattle.summary_read.specs.Parts.{Parts, IsLoaded, of_kind, offsets_of_kind}
use Rattle.mcap_model.specs.declared.refusals.IndexedRefused.{IndexedRefused}
use Rattle.indexed_replay.specs.declared.spots.Request.{Request}
use Rattle.indexed_replay.specs.Reaching.{IsReached, data_of, too_much_data}
use Rattle.indexed_replay.specs.Replaying.{IsReason}
use Rattle.indexed_replay.specs.Apart.{HaveOne}
use Rattle.indexed_replay.specs.Lists.{KnowsSummaryChannels}
use Rattle.indexed_replay.specs.Gathering.{AreApart, AreIndexed, IndexFills}
use Rattle.indexed_replay.proofs.Once.{Differ}
use Rattle.indexed_replay.proofs.Naming.{zip_all}
use Rattle.indexed_replay.proofs.Playing.{seen_of, to_led}
use Rattle.indexed_replay.proofs.Summed.{loaded_summary}

-- ---- offsets

-- a record of a kind has an offset beside it
placed : (op start : ℕ) (tops : List Top) (n : ℕ) (t : Top) → At (of_kind op tops) n t → (a : ℕ) × At (offsets_of_kind op start tops) n a
placed op start [] n t at = absurd (at_none n t at)
placed op start (u ∷ us) n t at = by (u.op == op) n at (λ k there. placed op (start + length (top_bytes u)) us k t there)
  where
    by : (b : Bool) (k : ℕ) → At (cond b (u ∷ of_kind op us) (of_kind op us)) k t → ((j : ℕ) → At (of_kind op us) j t → (a : ℕ) × At (offsets_of_kind op (start + length (top_bytes u)) us) j a)
        → (a : ℕ) × At (cond b (start ∷ offsets_of_kind op (start + length (top_bytes u)) us) (offsets_of_kind op (start + length (top_bytes u)) us)) k a
    by true zero there later = (start, refl)
    by true (suc k) there later = later k there
    by false k there later = later k there

-- none stands in front of the first record
from_start : (op start : ℕ) (tops : List Top) (n a : ℕ) → At (offsets_of_kind op start tops) n a → start ≤ a
from_start op start [] n a at = absurd (at_none n a at)
from_start op start (u ∷ us) n a at = by (u.op == op) n at (λ k there. let more = from_start op (start + length (top_bytes u)) us k a there in omega (arith, more))
  where
    by : (b : Bool) (k : ℕ) → At (cond b (start ∷ offsets_of_kind op (start + length (top_bytes u)) us) (offsets_of_kind op (start + length (top_bytes u)) us)) k a → ((j : ℕ) → At (offsets_of_kind op (start + length (top_bytes u)) us) j a → start ≤ a) → start ≤ a
    by true zero there later = let same = same_Some start a there in omega (arith, same)
    by true (suc k) there later = later k there
    by false k there later = later k there

-- offsets rise
rising : (op start : ℕ) (tops : List Top) (j k a b : ℕ) → j < k → At (offsets_of_kind op start tops) j a → At (offsets_of_kind op start tops) k b → a < b
rising op start [] j k a b less at_j at_k = absurd (at_none j a at_j)
rising op start (u ∷ us) j k a b less at_j at_k = by (u.op == op) j k less at_j at_k (λ m n fewer first second. rising op (start + length (top_bytes u)) us m n a b fewer first second)
  where
    behind : ℕ
    behind = start + length (top_bytes u)

    by : (c : Bool) (m n : ℕ) → m < n → At (cond c (start ∷ offsets_of_kind op behind us) (offsets_of_kind op behind us)) m a → At (cond c (start ∷ offsets_of_kind op behind us) (offsets_of_kind op behind us)) n b
        → ((m n : ℕ) → m < n → At (offsets_of_kind op behind us) m a → At (offsets_of_kind op behind us) n b → a < b) → a < b
    by true zero zero fewer first second later = absurd (omega (arith, fewer))
    by true zero (suc n) fewer first second later = let more : start + length (top_bytes u) ≤ b = from_start op behind us n b second in let same : start ≡ a = same_Some start a first in omega (arith, more, same, length-top u)
    by true (suc m) zero fewer first second later = absurd (omega (arith, fewer))
    by true (suc m) (suc n) fewer first second later = later m n (omega (arith, fewer)) first second
    by false m n fewer first second later = later m n fewer first second

pub apart_of : (file : List ℕ) (p : Parts) → IsLoaded file p → HaveOne p.chunk_indexes p.chunk_index_offsets → AreApart p.chunk_indexes
apart_of file p loaded have j k t u f g at_j at_k is_t is_u same =
    let listed = loaded.listed in
    let start = (p.footer).summary_start in
    let (a, at_a) = placed 8 start loaded.tops j t (subst (λ (l : List Top). At l j t) listed.chunk_indexes at_j) in
    let (b, at_b) = placed 8 start loaded.tops k u (subst (λ (l : List Top). At l k u) listed.chunk_indexes at_k) in
    let own_a = subst (λ (l : List ℕ). At l j a) (sym loaded.placed) at_a in
    let own_b = subst (λ (l : List ℕ). At l k b) (sym loaded.placed) at_b in
    let equal : a ≡ b = have j k (record { chunk = f.offset; at = a }) (record { chunk = g.offset; at = b }) (record { top = t; shown = f; there = at_j; is = is_t; chunk = refl; at = own_a }) (record { top = u; shown = g; there = at_k; is = is_u; chunk = refl; at = own_b }) same in
    elim (cases_order j k) [
      | inl here ↦ here
      | inr (inl less) ↦ let more = rising 8 start loaded.tops j k a b less at_a at_b in absurd (omega (arith, more, equal))
      | inr (inr less) ↦ let more = rising 8 start loaded.tops k j b a less at_b at_a in absurd (omega (arith, more, equal))
    ]

-- ---- the messages with their topics

module _ (file : List ℕ) (range : Range) where
  abbrev IsTopped : Shown → Seen → Type 0
  IsTopped s m = (topic : List ℕ) × (m ≡ seen_of s topic) × Led file range m

  once_topped : (xs : List Shown) (ms : List Seen) → AllZip IsTopped xs ms → AllPairs Differ xs → AllPairs (λ (m n : Seen). m ≢ n) ms
  once_topped xs ms zip once = pairs_from (λ (m n : Seen). m ≢ n) ms (λ i j m n less at_m at_n.
      let (s, at_s, one) = zip_back IsTopped xs ms i m zip at_m in
      let (r, at_r, other) = zip_back IsTopped xs ms j n zip at_n in
      let differ = pairs_at Differ xs once i j s r less at_s at_r in
      let back : shown_as m ≡ s = ap shown_as one.1 in
      let forth : shown_as n ≡ r = ap shown_as other.1 in
      λ same. differ (sym back ∙ ap shown_as same ∙ forth))

  data_topped : (xs : List Shown) (ms : List Seen) → AllZip IsTopped xs ms → data_of ms ≡ data_in xs
  data_topped [] [] zip = refl
  data_topped [] (m ∷ ms) zip = absurd zip
  data_topped (x ∷ xs) [] zip = absurd zip
  data_topped (x ∷ xs) (m ∷ ms) zip =
      let same : length m.message.payload ≡ length x.payload = ap (λ (n : Seen). length n.message.payload) zip.0.1 in
      omega (arith, same, data_topped xs ms zip.1, sum_by-cons (λ (n : Seen). length n.message.payload) m ms, sum_by-cons (λ (s : Shown). length s.payload) x xs)

-- ---- why

pub fills_reason : (file : List ℕ) (request : Request) (p : Parts) (old : List Shown) (why : IndexedRefused) → IsLoaded file p → KnowsSummaryChannels file request.tables.now.channels → AreIndexed file p.chunk_indexes p.chunk_index_offsets → old ≡ []
    → IndexFills file request p.chunk_indexes old why → IsReason file request.range why
fills_reason file request p old why loaded known indexed none fills =
    let (is, over) = fills.fills in
    let f = fills.shown in
    let listed = loaded.listed in
    let start = (p.footer).summary_start in
    let (a, at_a) = placed 8 start loaded.tops fills.place fills.index (subst (λ (l : List Top). At l fills.place fills.index) listed.chunk_indexes fills.at) in
    let reached : IsReached file request.range a f = record { indexed = indexed fills.place fills.index f a fills.at fills.is (subst (λ (l : List ℕ). At l fills.place a) (sym loaded.placed) at_a); meets = fills.meets } in
    let are = over.are in
    let zipped = zip_all (IsTopped file request.range) over.more ([]) (λ n s at. let (topic, led, on, first) = to_led file request start loaded.tops p.chunk_indexes (loaded_summary file p loaded) listed.chunk_indexes known s (are s (n, at)) in (seen_of s topic, (topic, refl, led))) in
    let ms = zipped.0 in
    let zip = zipped.1 in
    let has = over.there in
    let (last, at_last, topped) = zip_front (IsTopped file request.range) over.more ms has.0 over.last zip has.1 in
    let named = over.is in
    let by = named.led in
    let list = by.led in
    let message = list.message in
    let past : length file < data_of ms = (let past = subst (λ (l : List Shown). length file < data_in l + data_in over.more) none over.past in omega (arith, past, data_topped file request.range over.more ms zip)) in
    subst (IsReason file request.range) (sym is) (too_much_data (fills.named).1 (record {
      messages = ms;
      are = λ m there. let (s, at_s, one) = zip_back (IsTopped file request.range) over.more ms there.0 m zip there.1 in one.2;
      once = once_topped file request.range over.more ms zip over.once;
      past = past;
      last = last;
      there = (has.0, at_last);
      at = a;
      index = f;
      channel = (fills.named).0;
      names = record { reached = reached; named = fills.there };
      led = subst (λ (m : Seen). LedByIndex file request.range f.offset (fills.named).1 m) (sym topped.1) (record {
        list = list.list;
        entries = list.entries;
        there = list.there;
        is = list.is;
        entry = list.entry;
        in_range = list.in_range;
        message = record { place = message.place; top = message.top; there = message.there; is = message.is };
      });
    }))
