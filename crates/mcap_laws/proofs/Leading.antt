-- The summary of a fully indexed file leads to the messages of its scan.
use Rattle.std.proofs.Common.{◌≡◌, ◌⊎◌, ℕ, zero, suc, ◌+◌, ◌-◌, ◌^◌, ◌<◌, ◌≤◌, Bool, true, false, eqb, List, [], ◌∷◌, ◌++◌, length, take, drop, refl, sym, ap, subst, inl, inr, ◌∙◌, append_assoc, cond, arith}
use Rattle.std.specs.Prelude.{◌≢◌, filter, take_while, if◌then◌else◌}
use Rattle.std.specs.List.{list_any}
use Rattle.std.proofs.lemmas.Bool.{both_ways, cases_lt, eqb-true, eq-eqb}
use Rattle.std.proofs.lemmas.List.{append-nil, append_cancel_left, length-append, drop_at, take_at, drop-drop, take-append-le, take-append-drop}
use Rattle.std.proofs.lemmas.List.Sums.{take_while-cons}
use Rattle.std.proofs.lemmas.Grind.{flat_map-append}
use Rattle.std.proofs.lemmas.Option.{same_Some}
use Rattle.mcap_wire.specs.Layout.{magic, part}
use Rattle.mcap_wire.proofs.Framing.{records_apart}
use Rattle.rec_data.specs.Fields.{FooterFields}
use Rattle.rec_data.specs.Records.{ShowsFooter}
use Rattle.rec_data.proofs.Contents.{length-footer_text, footer_decided}
use Rattle.mcap_model.specs.declared.replay.Place.{Place}
use Rattle.mcap_model.specs.declared.replay.Range.{Range}
use Rattle.mcap_model.specs.Places.{At, Has, Each, EachBehind}
use Rattle.mcap_model.specs.Tops.{Top, top_bytes, spelled, offset_behind, is_chunk, inner_tops, records_in, is_flat_kind, flattened, flat, Placed, placed, placed_from, placed_one, placed_inside}
use Rattle.mcap_model.specs.Fields.{MessageFields, IsMessage, ChannelFields, IsChannel, ChunkFields, IsChunk, IsMessageIndex, ChunkIndexFields, IsFooter}
use Rattle.mcap_model.specs.Rules.{V3, V5, V6, HasDataEnd, Agrees, ChunkIsRight, TimesAre, stands_in_section}
use Rattle.mcap_model.specs.Kept.{reading_limits, Halts, at_end}
use Rattle.mcap_model.specs.Scan.{Seen, HasTopic, IsSeen, is_message_top, tops_of, Scan, InRange}
use Rattle.mcap_model.specs.Whole.{offset_of, offset_among, AreShort, IsWhole, stands_in_summary, is_index, indexes_behind, AreEntries, IsEntryOf, NamesIndexes, IsNamed}
use Rattle.mcap_model.specs.Valid.{Valid, HasIndex, FullyIndexed}
use Rattle.mcap_model.specs.Led.{HasSummary, FirstTopic, IsThere, LedByChunk, Led}
use Rattle.mcap_model.specs.Laws.{IndexesLeadToTheScan, LedReplaysAreScans}
use Rattle.mcap_model.proofs.Places.{at_none, at_within, at_one, at_kept, at_last, has_kept}
use Rattle.mcap_model.proofs.Lists.{at_either, at_second, cut_flat, take_first, take_second, each_cons, filter_passed, filter_has}
use Rattle.mcap_model.proofs.Readings.{top_of, all_short, short_there, one_follows, length-top}
use Rattle.mcap_model.proofs.Unpacking.{chunks_are_opened}
use Rattle.mcap_model.proofs.OpenedChunks.{stands_inside, placed_at, inside_at, inside_back}
use Rattle.mcap_model.proofs.Flat.{named_or, agree_more, topic_once, placed_tops, at_mapped}
use Rattle.mcap_model.proofs.Flaws.{none_spelled}
use Rattle.mcap_model.proofs.TakenRecords.{ended_front}
use Rattle.mcap_model.proofs.Maps.{message_once, shows_once}
use Rattle.mcap_model.proofs.NamedTopics.{zip_front, zip_back}
use Rattle.mcap_model.proofs.Prefixes.{ends_there}

-- ---- lists

ended_longer : (xs : List Top) (n k : ℕ) → n ≤ k → HasDataEnd (take n xs) → HasDataEnd (take k xs)
ended_longer xs zero k few ended = absurd ended
ended_longer [] (suc n) k few ended = absurd ended
ended_longer (x ∷ xs) (suc n) zero few ended = absurd (omega (arith, few))
ended_longer (x ∷ xs) (suc n) (suc k) few (inl here) = inl here
ended_longer (x ∷ xs) (suc n) (suc k) few (inr more) = inr (ended_longer xs n k (omega (arith, few)) more)

-- what passes a test together with all in front of it
at_while : {X : Type 0} (test : X → Bool) (xs : List X) (n : ℕ) (x : X) → At (take_while test xs) n x → At xs n x × Each (λ y. test y ≡ true) (take n xs)
at_while test [] n x at = absurd (at_none n x at)
at_while {X} test (y ∷ ys) n x at = by (test y) refl n (subst (λ (l : List X). At l n x) (take_while-cons test y ys) at) (λ k there. at_while test ys k x there)
  where
    by : (b : Bool) → test y ≡ b → (n : ℕ) → At (cond b (y ∷ take_while test ys) []) n x → ((k : ℕ) → At (take_while test ys) k x → At ys k x × Each (λ z. test z ≡ true) (take k ys))
        → At (y ∷ ys) n x × Each (λ z. test z ≡ true) (take n (y ∷ ys))
    by false is n there more = absurd (at_none n x there)
    by true is zero there more = (there, λ k z none. absurd (at_none k z none))
    by true is (suc n) there more = let behind = more n there in (behind.0, each_cons (λ z. test z ≡ true) y (take n ys) is behind.1)

pub at_dropped : {X : Type 0} (xs : List X) (n p : ℕ) (x : X) → At (drop n xs) p x → (m : ℕ) → m ≡ n + p → At xs m x
at_dropped {X} xs zero p x at m is = let same : p ≡ m = omega (arith, is) in subst (λ (k : ℕ). At xs k x) same at
at_dropped [] (suc n) p x at m is = absurd (at_none p x at)
at_dropped (y ∷ xs) (suc n) p x at zero is = absurd (omega (arith, is))
at_dropped (y ∷ xs) (suc n) p x at (suc m) is = at_dropped xs n p x at m (omega (arith, is))

at_behind : {X : Type 0} (xs : List X) (n m : ℕ) (x : X) → n ≤ m → At xs m x → At (drop n xs) (m - n) x
at_behind {X} xs zero m x few at = let same : m ≡ m - 0 = omega arith in subst (λ (k : ℕ). At xs k x) same at
at_behind [] (suc n) m x few at = absurd (at_none m x at)
at_behind (y ∷ xs) (suc n) zero x few at = absurd (omega (arith, few))
at_behind {X} (y ∷ xs) (suc n) (suc m) x few at = let same : m - n ≡ suc m - suc n = omega arith in subst (λ (k : ℕ). At (drop n xs) k x) same (at_behind xs n m x (omega (arith, few)) at)

-- what stands in front of a place behind an element
taken_behind : {X : Type 0} (xs : List X) (c p : ℕ) (x : X) → At xs c x → (m : ℕ) → m ≡ suc (c + p) → take m xs ≡ take c xs ++ x ∷ take p (drop (suc c) xs)
taken_behind [] c p x at m is = absurd (at_none c x at)
taken_behind {X} (y ∷ xs) zero p x at m is =
    let same : m ≡ suc p = omega (arith, is) in
    ap (λ (k : ℕ). take k (y ∷ xs)) same ∙ ap (λ (z : X). z ∷ take p xs) (same_Some y x at)
taken_behind (y ∷ xs) (suc c) p x at zero is = absurd (omega (arith, is))
taken_behind {X} (y ∷ xs) (suc c) p x at (suc m) is = ap (λ (l : List X). y ∷ l) (taken_behind xs c p x at m (omega (arith, is)))

pub spelled_once : (xs ys : List Top) → AreShort xs → AreShort ys → spelled xs ≡ spelled ys → xs ≡ ys
spelled_once xs ys short_xs short_ys same = elim (one_follows xs ys [] [] (all_short xs short_xs) (all_short ys short_ys) (ap (λ (l : List ℕ). l ++ []) same)) [
  | inl behind ↦ sym (behind.longer ∙ ap (λ (l : List Top). xs ++ l) (nothing behind.more behind.left) ∙ append-nil xs)
  | inr behind ↦ behind.longer ∙ ap (λ (l : List Top). ys ++ l) (nothing behind.more behind.left) ∙ append-nil ys
]
  where
    nothing : (more : List Top) → [] ≡ spelled more ++ [] → more ≡ []
    nothing more left = let size : 0 ≡ length (spelled more ++ []) = ap length left in none_spelled more (omega (arith, size, length-append (spelled more) []))

-- ---- records at an offset

regroup : (m f b s e : List ℕ) → m ++ ((f ++ (b ++ s)) ++ e) ≡ (m ++ f) ++ (b ++ (s ++ e))
regroup m f b s e = simp append_assoc refl

pub from_there : (file : List ℕ) (tops : List Top) (n : ℕ) (t : Top) → IsWhole file tops → At tops n t → (rest : List ℕ) × (drop (offset_of tops n) file ≡ top_bytes t ++ rest)
from_there file tops n t whole at =
    let front = spelled (take n tops) in
    let (more, all) = cut_flat top_bytes tops n t at in
    let size : length (magic ++ front) ≡ offset_of tops n = omega (arith, length-append magic front) in (
      spelled more ++ magic,
      ap (drop (offset_of tops n)) (whole.split ∙ ap (λ (l : List ℕ). magic ++ (l ++ magic)) all ∙ regroup magic front (top_bytes t) (spelled more) magic)
          ∙ drop_at (magic ++ front) (top_bytes t ++ (spelled more ++ magic)) (offset_of tops n) size,
    )

pub there_same : (file : List ℕ) (offset : ℕ) (t u : Top) (rest : List ℕ) → drop offset file ≡ top_bytes t ++ rest → length t.content < 2 ^ 64 → IsThere file offset u → u ≡ t
there_same file offset t u rest is short there =
    let stands = there.stands in
    let parts = records_apart u.op t.op u.content t.content stands.rest rest there.short short (sym stands.there ∙ is) in
    ap (λ (o : ℕ). top_of o u.content) parts.0 ∙ ap (top_of t.op) parts.1

pub is_there : (file : List ℕ) (offset : ℕ) (t : Top) (rest : List ℕ) → drop offset file ≡ top_bytes t ++ rest → length t.content < 2 ^ 64 → IsThere file offset t
is_there file offset t rest is short = record { stands = record { rest = rest; there = is }; short = short }

-- ---- the ends of a fully indexed file

pub record Ends (tops : List Top) : Type 0 where
  pub before : List Top
  pub foot : Top
  pub joined : tops ≡ before ++ foot ∷ []
  pub start : ℕ
  pub offsets : ℕ
  pub crc : ℕ
  pub is : IsFooter foot start offsets crc
  pub end : ℕ
  pub top : Top
  pub at : At tops end top
  pub kind : top.op ≡ 15
  pub first : HasDataEnd (take end tops) → ⊥
  pub there : start ≡ offset_of tops (suc end)
  pub inside : end < length before

pub ends_of : (file : List ℕ) (tops : List Top) → FullyIndexed file tops → Ends tops
ends_of file tops full =
    let valid = full.valid in
    let (before, foot, joined, footer, none) = valid.v17 in
    let (start, offsets, crc, is) = footer in
    let v11 = valid.v11 in
    let size : length tops ≡ suc (length before) = omega (arith, ap length joined, length-append before (foot ∷ [])) in
    let at_foot : At tops (length before) foot = subst (λ (l : List Top). At l (length before) foot) (sym joined) (at_last before foot []) in
    let names = (v11 (length before) foot at_foot).0 start offsets crc size is in
    let (k, top, at, kind, first, why) = names.start in
    let (n, t, at_t, within, eleven) = full.statistics in
    let near : k < length before = elim (cases_lt k (length before)) [
      | inl less ↦ less
      | inr more ↦
          let last : k ≡ length before = let room = at_within tops k top at in omega (arith, more, size, room) in
          let same : foot ≡ top = at_one tops k foot top (subst (λ (m : ℕ). At tops m foot) (sym last) at_foot) at in
          absurd (apart foot top is.kind kind same)
    ] in
    record {
      before = before;
      foot = foot;
      joined = joined;
      start = start;
      offsets = offsets;
      crc = crc;
      is = is;
      end = k;
      top = top;
      at = at;
      kind = kind;
      first = first;
      there = elim why [
        | inl none_there ↦ absurd (first (ended_longer tops n k (let room = within.1 in let last = none_there.1 in omega (arith, room, last, size)) within.0))
        | inr named ↦ named
      ];
      inside = near;
    }
  where
    apart : (foot top : Top) → foot.op ≡ 2 → top.op ≡ 15 → foot ≡ top → ⊥
    apart foot top two fifteen same = omega (arith, two, fifteen, ap (λ (x : Top). x.op) same)

abbrev pub summary_of : {tops : List Top} → Ends tops → List Top
summary_of e = drop (suc e.end) e.before

abbrev pub front_of : {tops : List Top} → Ends tops → List Top
front_of e = take (suc e.end) e.before

footer_size : (foot : Top) (start offsets crc : ℕ) → IsFooter foot start offsets crc → length foot.content ≡ 20
footer_size foot start offsets crc is =
    let f : FooterFields = record { summary_start = start; summary_offset_start = offsets; summary_crc = crc } in
    let row = is.layout in
    ap length row.spelled_there ∙ length-footer_text f

pub in_before : (tops : List Top) (e : Ends tops) (n : ℕ) (t : Top) → At tops n t → t.op ≢ 2 → At e.before n t
in_before tops e n t at other = elim (at_either e.before (e.foot ∷ []) n t (subst (λ (l : List Top). At l n t) e.joined at)) [
  | inl first ↦ first
  | inr (k, there, last) ↦ absurd (none k last)
]
  where
    none : (k : ℕ) → At (e.foot ∷ []) k t → ⊥
    none zero last = let is = e.is in other (sym (ap (λ (x : Top). x.op) (same_Some e.foot t last)) ∙ is.kind)
    none (suc k) last = at_none k t last

-- behind a Data End, and no Footer
pub in_summary : (tops : List Top) (e : Ends tops) (n : ℕ) (t : Top) → At tops n t → HasDataEnd (take n tops) → t.op ≢ 2 → Has (summary_of e) t
in_summary tops e n t at ended other = elim (cases_lt e.end n) [
  | inl behind ↦ (n - suc e.end, at_behind e.before (suc e.end) n t (omega (arith, behind)) (in_before tops e n t at other))
  | inr before ↦ absurd (let first = e.first in first (ended_longer tops n e.end before ended))
]

-- a record of the summary stands in the file
pub from_summary : (tops : List Top) (e : Ends tops) (i : ℕ) (t : Top) → At (summary_of e) i t → (n : ℕ) × At tops n t
from_summary tops e i t at =
    let n = suc e.end + i in
    (n, subst (λ (l : List Top). At l n t) (sym e.joined) (at_kept e.before (e.foot ∷ []) n t (at_dropped e.before (suc e.end) i t at n refl)))

regroup_ends : (m f s b e : List ℕ) → m ++ (((f ++ s) ++ (b ++ [])) ++ e) ≡ (m ++ f) ++ (s ++ (b ++ e))
regroup_ends m f s b e = simp (append_assoc, append-nil) refl

pub whole_bytes : (file : List ℕ) (tops : List Top) → IsWhole file tops → (e : Ends tops) → file ≡ (magic ++ spelled (front_of e)) ++ (spelled (summary_of e) ++ (top_bytes e.foot ++ magic))
whole_bytes file tops whole e =
    let cut : spelled e.before ≡ spelled (front_of e) ++ spelled (summary_of e) =
    ap spelled (sym (take-append-drop (suc e.end) e.before)) ∙ flat_map-append top_bytes (front_of e) (summary_of e) in
    let all : spelled tops ≡ (spelled (front_of e) ++ spelled (summary_of e)) ++ (top_bytes e.foot ++ []) =
    ap spelled e.joined ∙ flat_map-append top_bytes e.before (e.foot ∷ []) ∙ ap (λ (l : List ℕ). l ++ (top_bytes e.foot ++ [])) cut in
    whole.split ∙ ap (λ (l : List ℕ). magic ++ (l ++ magic)) all ∙ regroup_ends magic (spelled (front_of e)) (spelled (summary_of e)) (top_bytes e.foot) magic

pub start_is : (tops : List Top) (e : Ends tops) → e.start ≡ length (magic ++ spelled (front_of e))
start_is tops e =
    let inside = e.inside in
    let same : take (suc e.end) tops ≡ front_of e = ap (take (suc e.end)) e.joined ∙ take-append-le (suc e.end) e.before (e.foot ∷ []) (omega (arith, inside)) in
    let size : length (spelled (take (suc e.end) tops)) ≡ length (spelled (front_of e)) = ap (λ (l : List Top). length (spelled l)) same in
    omega (arith, e.there, size, length-append magic (spelled (front_of e)))

pub summary_there : (file : List ℕ) (tops : List Top) → IsWhole file tops → (e : Ends tops) → HasSummary file e.start (summary_of e)
summary_there file tops whole e =
    let all = whole_bytes file tops whole e in
    let front = magic ++ spelled (front_of e) in
    let summary = spelled (summary_of e) in
    let tail = top_bytes e.foot ++ magic in
    let begins = start_is tops e in
    let tail_size : length tail ≡ 37 = omega (arith, length-append (top_bytes e.foot) magic, length-top e.foot, footer_size e.foot e.start e.offsets e.crc e.is) in
    let size : length file ≡ length front + (length summary + 37) = omega (arith, ap length all, length-append front (summary ++ tail), length-append summary tail, tail_size) in
    let short = whole.short in
    record {
      footer = e.foot;
      offsets = e.offsets;
      crc = e.crc;
      is = e.is;
      last = ap (drop (length file - 37)) (all ∙ sym (append_assoc front summary tail)) ∙ drop_at (front ++ summary) tail (length file - 37) (omega (arith, size, length-append front summary));
      some = λ none. omega (arith, none, begins, length-append magic (spelled (front_of e)));
      records =
          ap (λ (l : List ℕ). take (length file - 37 - e.start) l) (ap (drop e.start) all ∙ drop_at front (summary ++ tail) e.start (sym begins))
          ∙ take_at summary tail (length file - 37 - e.start) (omega (arith, size, begins));
      short = λ i t at. let there = from_summary tops e i t at in short there.0 t there.1;
    }

-- a file has one summary
summary_once : (file : List ℕ) (tops : List Top) → IsWhole file tops → (e : Ends tops) (start : ℕ) (summary : List Top) → HasSummary file start summary → summary ≡ summary_of e
unfolding summary_there
summary_once file tops whole e start summary has =
    let own = summary_there file tops whole e in
    let foot = has.footer in
    let size = footer_size foot start has.offsets has.crc has.is in
    let own_size = footer_size e.foot e.start e.offsets e.crc e.is in
    let parts = records_apart foot.op (e.foot).op foot.content (e.foot).content magic magic (omega (arith, size)) (omega (arith, own_size)) (sym has.last ∙ own.last) in
    let is = has.is in
    let own_is = e.is in
    let other : FooterFields = record { summary_start = start; summary_offset_start = has.offsets; summary_crc = has.crc } in
    let mine : FooterFields = record { summary_start = e.start; summary_offset_start = e.offsets; summary_crc = e.crc } in
    let same = footer_decided (e.foot).content other mine (subst (λ (l : List ℕ). ShowsFooter l other) parts.1 is.layout) own_is.layout in
    let starts : start ≡ e.start = ap (λ (f : FooterFields). f.summary_start) same in
    spelled_once summary (summary_of e) has.short own.short
    (sym has.records ∙ ap (λ (n : ℕ). part n (length file - 37) file) starts ∙ own.records)

-- ---- a chunk's records

-- the records of a chunk that stands at that place of the file
pub record Opened (file : List ℕ) (tops : List Top) (c : ℕ) (chunk : Top) (g : ChunkFields) : Type 0 where
  pub times : TimesAre (inner_tops chunk) g.start g.end
  pub behind : (j : ℕ) (u : Top) → At (inner_tops chunk) j u → (rest : List ℕ) × (drop (offset_of tops c + 49 + offset_among (inner_tops chunk) j) file ≡ top_bytes u ++ rest)
  pub short : AreShort (inner_tops chunk)

pub opened : (file : List ℕ) (tops : List Top) (c : ℕ) (chunk : Top) (g : ChunkFields) → Valid file tops → At tops c chunk → IsChunk chunk g → Opened file tops c chunk g
opened file tops c chunk g valid at is =
    let v8 = valid.v8 in
    let all_plain = valid.plain in
    let whole = valid.v4 in
    let plain : g.compression ≡ [] = named_or chunk g g.compression is refl (all_plain c chunk at) in
    let right : ChunkIsRight g = v8 c chunk at g is plain in
    let found : records_in g.records ≡ inner_tops chunk = ap records_in (sym (chunks_are_opened chunk g is)) in
    let (more, there) = from_there file tops c chunk whole at in
    let all_short = whole.short in
    record {
      times = subst (λ (l : List Top). TimesAre l g.start g.end) found right.times;
      behind = λ j u at_j.
          let inside = stands_inside chunk g is plain right j u at_j in
          let o = offset_among (inner_tops chunk) j in
          let same : offset_of tops c + 49 + o ≡ offset_of tops c + (49 + o) = omega arith in
          let stands = inside.there in (
            inside.rest ++ more,
            ap (λ (n : ℕ). drop n file) same ∙ sym (drop-drop (49 + o) (offset_of tops c) file) ∙ ap (drop (49 + o)) there ∙ stands more,
          );
      short = λ j u at_j.
          let inside = stands_inside chunk g is plain right j u at_j in
          omega (arith, all_short c chunk at, inside.within, length-top u, length-top chunk);
    }

-- ---- places of records

abbrev all_of : ℕ → Top → Bool → List Placed
all_of at t b = if b then placed_inside at 0 (inner_tops t) else placed_at at 0 t ∷ []

one_has : (at : ℕ) (t : Top) (j : ℕ) (u : Top) → t.op ≡ 6 → At (inner_tops t) j u → u.op ≡ 5 → Has (placed_one at t) (placed_at at (offset_among (inner_tops t) j) u)
one_has at t j u six here five =
    let o = offset_among (inner_tops t) j in
    let there = inside_at at 0 (inner_tops t) j u here o (omega arith) in
    filter_has (λ (p : Placed). is_flat_kind p.top) (all_of at t (is_chunk t)) j (placed_at at o u)
    (subst (λ (b : Bool). At (all_of at t b) j (placed_at at o u)) (sym (eq-eqb t.op 6 six)) there)
    (ap (λ (op : ℕ). list_any (λ kind. eqb kind op) (3 ∷ 4 ∷ 5 ∷ [])) five)

from_has : (at : ℕ) (ts : List Top) (n : ℕ) (t : Top) (p : Placed) → At ts n t → (m : ℕ) → m ≡ at + length (spelled (take n ts)) → Has (placed_one m t) p → Has (placed_from at ts) p
from_has at [] n t p here m is has = absurd (at_none n t here)
from_has at (x ∷ ts) zero t p here m is has =
    let same : m ≡ at = omega (arith, is) in
    let there : Has (placed_one at x) p = subst (λ (k : ℕ). Has (placed_one k x) p) same (subst (λ (y : Top). Has (placed_one m y) p) (sym (same_Some x t here)) has) in
    has_kept (placed_one at x) (placed_from (at + length (top_bytes x)) ts) p there
from_has at (x ∷ ts) (suc n) t p here m is has =
    let more = from_has (at + length (top_bytes x)) ts n t p here m (omega (arith, is, length-append (top_bytes x) (spelled (take n ts)))) has in
    (length (placed_one at x) + more.0, at_second (placed_one at x) (placed_from (at + length (top_bytes x)) ts) more.0 p more.1)

-- the record of the top level that a placed one is or stands in
record Comes (at : ℕ) (ts : List Top) (p : Placed) : Type 0 where
  n : ℕ
  top : Top
  here : At ts n top
  m : ℕ
  offset : m ≡ at + length (spelled (take n ts))
  has : Has (placed_one m top) p

from_back : (at : ℕ) (ts : List Top) (i : ℕ) (p : Placed) → At (placed_from at ts) i p → Comes at ts p
from_back at [] i p here = absurd (at_none i p here)
from_back at (x ∷ ts) i p here = elim (at_either (placed_one at x) (placed_from (at + length (top_bytes x)) ts) i p here) [
  | inl first ↦ record { n = 0; top = x; here = refl; m = at; offset = omega arith; has = (i, first) }
  | inr (k, there, second) ↦ behind (from_back (at + length (top_bytes x)) ts k p second)
]
  where
    behind : Comes (at + length (top_bytes x)) ts p → Comes at (x ∷ ts) p
    behind later = record { n = suc later.n; top = later.top; here = later.here; m = later.m; offset = (let offset = later.offset in omega (arith, offset, length-append (top_bytes x) (spelled (take later.n ts)))); has = later.has }

-- the chunk in which a placed message stands, or the message itself
one_back : (m : ℕ) (t : Top) (p : Placed) → Has (placed_one m t) p → (t ≡ p.top) ⊎ ((t.op ≡ 6) × (j : ℕ) × At (inner_tops t) j p.top × (p.place.top ≡ m) × (p.place.inner ≡ offset_among (inner_tops t) j))
one_back m t p has = by (is_chunk t) refl (filter_passed (λ (q : Placed). is_flat_kind q.top) (all_of m t (is_chunk t)) has.0 p has.1).0
  where
    alone : (k : ℕ) → At (placed_at m 0 t ∷ []) k p → t ≡ p.top
    alone zero here = ap (λ (q : Placed). q.top) (same_Some (placed_at m 0 t) p here)
    alone (suc k) here = absurd (at_none k p here)

    by : (b : Bool) → is_chunk t ≡ b → Has (all_of m t b) p → (t ≡ p.top) ⊎ ((t.op ≡ 6) × (j : ℕ) × At (inner_tops t) j p.top × (p.place.top ≡ m) × (p.place.inner ≡ offset_among (inner_tops t) j))
    by true is there = let back = inside_back m 0 (inner_tops t) there.0 p there.1 in let inner = back.2 in inr (eqb-true t.op 6 is, there.0, back.0, back.1, omega (arith, inner))
    by false is there = inl (alone there.0 there.1)

-- ---- topics

-- a record of the top level that is a Channel stands among the flat ones
flat_channel : (tops : List Top) (n : ℕ) (t : Top) → At tops n t → t.op ≡ 4 → Has (flat tops) t
flat_channel tops n t at four =
    let (more, all) = cut_flat flattened tops n t at in
    let alone : flattened t ≡ t ∷ [] = kept (is_chunk t) (ap (λ (op : ℕ). eqb op 6) four) in
    let here : At (flat (take n tops) ++ (t ∷ [] ++ flat more)) (length (flat (take n tops))) t = at_last (flat (take n tops)) t (flat more) in
    (length (flat (take n tops)), subst (λ (l : List Top). At l (length (flat (take n tops))) t) (sym (all ∙ ap (λ (l : List Top). flat (take n tops) ++ (l ++ flat more)) alone)) here)
  where
    kept : (b : Bool) → b ≡ false → filter is_flat_kind (if b then inner_tops t else t ∷ []) ≡ t ∷ []
    kept true is = absurd (both_ways true is refl)
    kept false is = ap (λ (c : Bool). cond c (t ∷ []) []) (ap (λ (op : ℕ). list_any (λ kind. eqb kind op) (3 ∷ 4 ∷ 5 ∷ [])) four)

-- whether a record is a Channel of that id
is_channel_of : (t : Top) (id : ℕ) → V6 t → ((f : ChannelFields) × IsChannel t id f) ⊎ ((f : ChannelFields) → IsChannel t id f → ⊥)
is_channel_of t id v6 = by (eqb t.op 4) refl
  where
    same : (other : ℕ) (f : ChannelFields) → IsChannel t other f → (b : Bool) → eqb other id ≡ b → ((g : ChannelFields) × IsChannel t id g) ⊎ ((g : ChannelFields) → IsChannel t id g → ⊥)
    same other f is true e = inl (f, subst (λ (n : ℕ). IsChannel t n f) (eqb-true other id e) is)
    same other f is false e = inr (λ g shows. both_ways (eqb other id) e (eq-eqb other id (shows_once t other id f g is shows).0))

    by : (b : Bool) → eqb t.op 4 ≡ b → ((f : ChannelFields) × IsChannel t id f) ⊎ ((f : ChannelFields) → IsChannel t id f → ⊥)
    by true e = let (other, f, is) = v6.channel (eqb-true t.op 4 e) in same other f is (eqb other id) refl
    by false e = inr (λ f is. both_ways (eqb t.op 4) e (eq-eqb t.op 4 is.kind))

first_channel : (xs : List Top) (id : ℕ) → Each V6 xs → (n : ℕ) (t : Top) (f : ChannelFields) → At xs n t → IsChannel t id f → (topic : List ℕ) × FirstTopic xs id topic
first_channel [] id meets n t f at is = absurd (at_none n t at)
first_channel (x ∷ xs) id meets n t f at is = by (is_channel_of x id (meets 0 x refl)) n at (λ k there. first_channel xs id (λ i y at_y. meets (suc i) y at_y) k t f there is)
  where
    later : ((g : ChannelFields) → IsChannel x id g → ⊥) → (topic : List ℕ) × FirstTopic xs id topic → (topic : List ℕ) × FirstTopic (x ∷ xs) id topic
    later none (topic, found) = (
      topic,
      record {
        place = suc found.place;
        top = found.top;
        shown = found.shown;
        at = found.at;
        is = found.is;
        first = each_cons (λ u. (g : ChannelFields) → IsChannel u id g → ⊥) x (take found.place xs) none found.first;
        topic_is = found.topic_is;
      },
    )

    by : ((g : ChannelFields) × IsChannel x id g) ⊎ ((g : ChannelFields) → IsChannel x id g → ⊥) → (n : ℕ) → At (x ∷ xs) n t → ((k : ℕ) → At xs k t → (topic : List ℕ) × FirstTopic xs id topic) → (topic : List ℕ) × FirstTopic (x ∷ xs) id topic
    by (inl (g, here)) n at rest = (g.topic, record { place = 0; top = x; shown = g; at = refl; is = here; first = λ k u none. absurd (at_none k u none); topic_is = refl })
    by (inr none) zero at rest = absurd (none f (subst (λ (y : Top). IsChannel y id f) (sym (same_Some x t at)) is))
    by (inr none) (suc k) at rest = later none (rest k at)

-- ---- the records up to the Data End

few_bytes : (more : List Top) (rest : List ℕ) → magic ≡ spelled more ++ rest → more ≡ []
few_bytes [] rest left = refl
few_bytes (t ∷ ts) rest left = let size : 8 ≡ length (spelled (t ∷ ts) ++ rest) = ap length left in absurd (omega (arith, size, length-append (spelled (t ∷ ts)) rest, length-append (top_bytes t) (spelled ts), length-top t))

pub section_first : (file : List ℕ) (tops section : List Top) (end : ℕ) → IsWhole file tops → Halts reading_limits file section (at_end end) → (more : List Top) × (tops ≡ section ++ more) × HasDataEnd section
section_first file tops section end whole halts =
    let (rest, stands, ended) = ends_there file section (at_end end) end halts.there refl in
    let kept = halts.kept in
    let good = kept.good in
    let same : spelled section ++ rest ≡ spelled tops ++ magic = append_cancel_left magic (spelled section ++ rest) (spelled tops ++ magic) (sym stands.split ∙ whole.split) in
    elim (one_follows section tops rest magic (all_short section (λ n t at. let fits = good n t at in short_there _ (length t.content) fits.within)) (all_short tops whole.short) same) [
      | inl behind ↦ (behind.more, behind.longer, ended)
      | inr behind ↦
          let none = few_bytes behind.more rest behind.left in
          ([], sym (behind.longer ∙ ap (λ (l : List Top). tops ++ l) none ∙ append-nil tops) ∙ sym (append-nil section), ended)
    ]

pub ended_before : (before : List Top) (t : Top) → t.op ≡ 8 → V3 before t → V5 before t → HasDataEnd before
ended_before [] t eight v3 v5 = absurd (omega (arith, eight, v3.kind))
ended_before (x ∷ xs) t eight v3 v5 = elim v5.1 [
  | inl ended ↦ ended
  | inr stands ↦ absurd (both_ways (stands_in_section t.op) (ap stands_in_section eight) stands)
]

topic_longer : (xs ys : List Top) (channel : ℕ) (topic : List ℕ) → HasTopic xs channel topic → HasTopic (xs ++ ys) channel topic
topic_longer xs ys channel topic has = record { place = has.place; top = has.top; shown = has.shown; at = at_kept xs ys has.place has.top has.at; is = has.is; topic_is = has.topic_is }

abbrev place_made : ℕ → ℕ → Place
place_made top inner = record { top = top; inner = inner }

place_by : (p q : Place) → p.top ≡ q.top → p.inner ≡ q.inner → place_made p.top p.inner ≡ place_made q.top q.inner
place_by p q top inner = cc

abbrev seen_made : Place → ℕ → List ℕ → MessageFields → Seen
seen_made place channel topic message = record { place = place; channel = channel; topic = topic; message = message }

seen_by : (a b : Seen) → a.place ≡ b.place → a.channel ≡ b.channel → a.topic ≡ b.topic → a.message ≡ b.message → seen_made a.place a.channel a.topic a.message ≡ seen_made b.place b.channel b.topic b.message
seen_by a b place channel topic message = cc

-- ---- what a fully indexed file leads to

pub named_of : (tops : List Top) (k : ℕ) (f : ChunkIndexFields) (key offset : ℕ) → NamesIndexes tops k f → Has {X = ℕ × ℕ} f.indexes (key, offset) → (entries : List (ℕ × ℕ)) × IsNamed tops k key offset entries
named_of tops k f key offset (inl none) has = absurd (at_none has.0 (key, offset) (subst (λ (l : List (ℕ × ℕ)). At {X = ℕ × ℕ} l has.0 (key, offset)) none has.1))
named_of tops k f key offset (inr all) has = all.0 key offset has

-- a message stands in a chunk at that place of the section
record Found (tops section : List Top) (s : Seen) : Type 0 where
  c : ℕ
  chunk : Top
  at : At section c chunk
  six : chunk.op ≡ 6
  j : ℕ
  top : Top
  at_top : At (inner_tops chunk) j top
  is : IsMessage top s.channel s.message
  place : s.place.top ≡ offset_of tops c
  inner : s.place.inner ≡ offset_among (inner_tops chunk) j

module _ (file : List ℕ) (tops : List Top) (full : FullyIndexed file tops) (section more : List Top) (joined : tops ≡ section ++ more) (ended : HasDataEnd section) (messages : List Seen) (scan : Scan section messages) (range : Range) where
  valid : Valid file tops
  valid = full.valid

  whole : IsWhole file tops
  whole = let v = valid in v.v4

  e : Ends tops
  e = ends_of file tops full

  agree : EachBehind Agrees (flat tops)
  agree = let v = valid in agree_more [] tops v.v7 (λ n x at. absurd (at_none n x at))

  flat_joined : flat tops ≡ flat section ++ flat more
  flat_joined = ap flat joined ∙ flat_map-append flattened section more

  in_tops : (n : ℕ) (t : Top) → At section n t → At tops n t
  in_tops n t at = subst (λ (l : List Top). At l n t) (sym joined) (at_kept section more n t at)

  same_offset : (n : ℕ) (t : Top) → At section n t → offset_of section n ≡ offset_of tops n
  same_offset n t at = ap offset_behind (sym (ap (take n) joined ∙ take_first section more n t at))

  chunk_first : (c : ℕ) (chunk : Top) → At tops c chunk → chunk.op ≡ 6 → At section c chunk
  chunk_first c chunk at six = elim (at_either section more c chunk (subst (λ (l : List Top). At l c chunk) joined at)) [
    | inl first ↦ first
    | inr (k, there, second) ↦ absurd (behind k there)
  ]
    where
      behind : (k : ℕ) → c ≡ length section + k → ⊥
      behind k there =
          let front : take c tops ≡ section ++ take k more = ap (λ (n : ℕ). take n tops) there ∙ ap (take (length section + k)) joined ∙ take_second section more k in
          let over : HasDataEnd (take c tops) = subst HasDataEnd (sym front) (ended_front section (take k more) ended) in
          let ends = e in
          let near = at_within ends.before c chunk (in_before tops ends c chunk at (λ two. omega (arith, six, two))) in
          let size : length tops ≡ suc (length ends.before) = omega (arith, ap length ends.joined, length-append ends.before (ends.foot ∷ [])) in
          let v = valid in
          let rule = v.v5_behind in
          both_ways (stands_in_summary chunk.op) (ap stands_in_summary six) ((rule c chunk at).0 (over, omega (arith, near, size)))

  -- the Message Index at a place behind a chunk
  index_there : (c p : ℕ) (top : Top) → At (indexes_behind tops c) p top → At tops (suc (c + p)) top
  index_there c p top at = at_dropped tops (suc c) p top (at_while is_index (drop (suc c) tops) p top at).0 (suc (c + p)) (omega arith)

  pub index_right : (c p : ℕ) (chunk top : Top) (channel : ℕ) (entries : List (ℕ × ℕ)) → At tops c chunk → chunk.op ≡ 6 → At (indexes_behind tops c) p top → IsMessageIndex top channel entries → AreEntries (inner_tops chunk) channel entries
  index_right c p chunk top channel entries at six at_index is =
      let passed = (at_while is_index (drop (suc c) tops) p top at_index).1 in
      let v = valid in
      let rule = v.v9 in
      let belongs = (rule (suc (c + p)) top (index_there c p top at_index)).0 is.kind in
      let right_of = belongs.right in
      let right = right_of (take c tops) chunk (take p (drop (suc c) tops)) (taken_behind tops c p chunk at (suc (c + p)) refl) six (λ k u at_u. eqb-true u.op 7 (passed k u at_u)) in
      let of = right.entries in
      of channel entries is

  -- where it stands in the file
  pub index_stands : (c p offset : ℕ) (top : Top) → At (indexes_behind tops c) p top → offset ≡ offset_of tops (suc c + p) → (rest : List ℕ) × (drop offset file ≡ top_bytes top ++ rest) × (length top.content < 2 ^ 64)
  index_stands c p offset top at is =
      let n = suc (c + p) in
      let there = index_there c p top at in
      let (rest, stands) = from_there file tops n top whole there in
      let same : suc c + p ≡ n = omega arith in
      let w = whole in
      let short = w.short in
      (rest, ap (λ (o : ℕ). drop o file) (is ∙ ap (offset_of tops) same) ∙ stands, short n top there)

  found : (s : Seen) → Led file range s → Found tops section s
  found s led =
      let summary = led.led in
      let (i, at_i) = subst (λ (l : List Top). Has l summary.index) (summary_once file tops whole e led.start led.summary led.has) summary.indexed in
      let (n, at_n) = from_summary tops e i summary.index at_i in
      let v = valid in
      let rule = v.v12 in
      let right = rule n summary.index at_n summary.shown summary.is in
      let of = right.is in
      let by = summary.led in
      let list = by.led in
      let (others, named) = named_of tops right.k summary.shown by.key by.offset right.names by.named in
      let is_chunk = of.is in
      let (rest, stands, short) = index_stands right.k named.place by.offset named.top named.at named.there in
      let same_list = there_same file by.offset named.top list.list rest stands short list.there in
      let entries = index_right right.k named.place right.chunk named.top s.channel list.entries of.at is_chunk.kind named.at (subst (λ (t : Top). IsMessageIndex t s.channel list.entries) same_list list.is) in
      let are = entries.are in
      let entry : IsEntryOf (inner_tops right.chunk) s.channel (s.message.log_time, s.place.inner) = are (s.message.log_time, s.place.inner) list.entry in
      let chunk = opened file tops right.k right.chunk right.shown valid of.at of.is in
      let behind = chunk.behind in
      let all_short = chunk.short in
      let (after, here) = behind entry.place entry.top entry.at in
      let message = list.message in
      let inner : s.place.inner ≡ offset_among (inner_tops right.chunk) entry.place = entry.offset in
      let offset : (summary.shown).offset + 49 + s.place.inner ≡ offset_of tops right.k + 49 + offset_among (inner_tops right.chunk) entry.place = omega (arith, of.offset, inner) in
      let same = there_same file ((summary.shown).offset + 49 + s.place.inner) entry.top message.top after (ap (λ (o : ℕ). drop o file) offset ∙ here) (all_short entry.place entry.top entry.at) message.there in
      record {
        c = right.k;
        chunk = right.chunk;
        at = chunk_first right.k right.chunk of.at is_chunk.kind;
        six = is_chunk.kind;
        j = entry.place;
        top = entry.top;
        at_top = entry.at;
        is = subst (λ (t : Top). IsMessage t s.channel s.message) same message.is;
        place = message.place ∙ of.offset;
        inner = inner;
      }

  -- the topic of a channel of the summary, and that of a message
  summary_topic : (channel : ℕ) (topic : List ℕ) → FirstTopic (summary_of e) channel topic → HasTopic (flat tops) channel topic
  summary_topic channel topic first =
      let (n, at) = from_summary tops e first.place first.top first.at in
      let is = first.is in
      let has = flat_channel tops n first.top at is.kind in
      record { place = has.0; top = first.top; shown = first.shown; at = has.1; is = first.is; topic_is = first.topic_is }

  scan_topic : (channel : ℕ) (topic : List ℕ) → HasTopic (tops_of (placed section)) channel topic → HasTopic (flat tops) channel topic
  scan_topic channel topic has =
      subst (λ (l : List Top). HasTopic l channel topic) (sym flat_joined)
      (topic_longer (flat section) (flat more) channel topic (subst (λ (l : List Top). HasTopic l channel topic) (placed_tops 8 section) has))

  led_seen : (s : Seen) → Led file range s → Has messages s × InRange range s.message.log_time
  led_seen s led =
      let f = found s led in
      let is = f.is in
      let o = offset_among (inner_tops f.chunk) f.j in
      let p = placed_at (offset_of section f.c) o f.top in
      let (n, at_n) = from_has 8 section f.c f.chunk p f.at (offset_of section f.c) refl (one_has (offset_of section f.c) f.chunk f.j f.top f.six f.at_top is.kind) in
      let (k, at_k) = filter_has (λ (q : Placed). is_message_top q.top) (placed section) n p at_n (ap (λ (op : ℕ). eqb op 5) is.kind) in
      let (m, at_m, seen) = zip_front (IsSeen (tops_of (placed section))) (filter (λ (q : Placed). is_message_top q.top) (placed section)) messages k p scan at_k in
      let once = message_once f.top m.channel s.channel m.message s.message seen.is is in
      let place : m.place ≡ s.place = sym seen.place ∙ place_by p.place s.place (same_offset f.c f.chunk f.at ∙ sym f.place) (sym f.inner) in
      let summary = led.led in
      let first = subst (λ (l : List Top). FirstTopic l s.channel s.topic) (summary_once file tops whole e led.start led.summary led.has) summary.topic in
      let topic : m.topic ≡ s.topic = topic_once (flat tops) s.channel m.topic s.topic agree (subst (λ (c : ℕ). HasTopic (flat tops) c m.topic) once.0 (scan_topic m.channel m.topic seen.known)) (summary_topic s.channel s.topic first) in
      let by = summary.led in
      let list = by.led in
      ((k, subst (λ (x : Seen). At messages k x) (seen_by m s place once.0 topic once.1) at_m), list.in_range)

  -- a chunk's index leads to a message in it
  led_chunk : (s : Seen) (c : ℕ) (chunk : Top) (j : ℕ) (u : Top) → At tops c chunk → chunk.op ≡ 6 → At (inner_tops chunk) j u → IsMessage u s.channel s.message
      → s.place.top ≡ offset_of tops c → s.place.inner ≡ offset_among (inner_tops chunk) j → InRange range s.message.log_time
      → (h : HasIndex tops c chunk) → LedByChunk file range h.shown s
  led_chunk s c chunk j u at six at_u is top inner in_range h =
      let (g, of) = h.of in
      let names = h.names in
      let (offset, entries, named, has) = names j s.channel u s.message at_u is in
      let right = index_right c named.place chunk named.top s.channel entries at six named.at named.is in
      let all = right.all in
      let entry : IsEntryOf (inner_tops chunk) s.channel (s.message.log_time, s.place.inner) = record { place = j; top = u; message = s.message; at = at_u; is = is; time = refl; offset = inner } in
      let (rest, stands, short) = index_stands c named.place offset named.top named.at named.there in
      let chunk_open = opened file tops c chunk g valid at of.is in
      let behind = chunk_open.behind in
      let all_short = chunk_open.short in
      let times = chunk_open.times in
      let (after, here) = behind j u at_u in
      let (low, high, first, last) = times s.message.log_time (record { place = j; top = u; channel = s.channel; message = s.message; at = at_u; is = is; then = refl }) in
      let there : (h.shown).offset + 49 + s.place.inner ≡ offset_of tops c + 49 + offset_among (inner_tops chunk) j = omega (arith, of.offset, inner) in
      record {
        meets = (s.message.log_time, omega (arith, low, of.start), omega (arith, high, of.end), in_range);
        key = s.channel;
        offset = offset;
        named = has;
        led = record {
          list = named.top;
          entries = entries;
          there = is_there file offset named.top rest stands short;
          is = named.is;
          entry = all (s.message.log_time, s.place.inner) entry;
          in_range = in_range;
          message = record {
            place = top ∙ sym of.offset;
            top = u;
            there = is_there file ((h.shown).offset + 49 + s.place.inner) u after (ap (λ (o : ℕ). drop o file) there ∙ here) (all_short j u at_u);
            is = is;
          };
        };
      }

  index_in_summary : (c : ℕ) (chunk : Top) (h : HasIndex tops c chunk) → Has (summary_of e) h.top
  index_in_summary c chunk h =
      let v = valid in
      let v3 = v.v3 in
      let v5 = v.v5 in
      let is = h.is in
      let over = ended_before (take h.place tops) h.top is.kind (v3 h.place h.top h.at) (v5 h.place h.top h.at) in
      in_summary tops e h.place h.top h.at over (λ two. omega (arith, is.kind, two))

  -- the summary has the topic of a message
  topic_there : (k : ℕ) (u : Top) (s : Seen) → At (flat tops) k u → IsMessage u s.channel s.message → HasTopic (flat tops) s.channel s.topic → FirstTopic (summary_of e) s.channel s.topic
  topic_there k u s at is known =
      let channels = full.channels in
      let has = channels k s.channel u s.message at is in
      let shows = has.is in
      let within = has.within in
      let (i, at_i) = in_summary tops e has.place has.top has.at within.0 (λ two. omega (arith, shows.kind, two)) in
      let v = valid in
      let v6 = v.v6 in
      let (topic, first) = first_channel (summary_of e) s.channel (λ n t at_t. let (m, there) = from_summary tops e n t at_t in v6 m t there) i has.top has.shown at_i has.is in
      let same : topic ≡ s.topic = topic_once (flat tops) s.channel topic s.topic agree (summary_topic s.channel topic first) known in
      subst (λ (t : List ℕ). FirstTopic (summary_of e) s.channel t) same first

  seen_led : (s : Seen) → Has messages s → InRange range s.message.log_time → Led file range s
  seen_led s has in_range =
      let (p, at_p, seen) = zip_back (IsSeen (tops_of (placed section))) (filter (λ (q : Placed). is_message_top q.top) (placed section)) messages has.0 s scan has.1 in
      let passed = (filter_passed (λ (q : Placed). is_message_top q.top) (placed section) has.0 p at_p).0 in
      let is = seen.is in
      let k = passed.0 in
      let in_flat : At (flat tops) k p.top = subst (λ (l : List Top). At l k p.top) (sym flat_joined) (at_kept (flat section) (flat more) k p.top
      (subst (λ (l : List Top). At l k p.top) (placed_tops 8 section) (at_mapped (λ (q : Placed). q.top) (placed section) k p passed.1))) in
      let comes = from_back 8 section k p passed.1 in
      by p is seen.place (topic_there k p.top s in_flat is (scan_topic s.channel s.topic seen.known)) comes (one_back comes.m comes.top p comes.has)
    where
      by : (p : Placed) → IsMessage p.top s.channel s.message → p.place ≡ s.place → FirstTopic (summary_of e) s.channel s.topic → (comes : Comes 8 section p)
          → (comes.top ≡ p.top) ⊎ ((comes.top.op ≡ 6) × (j : ℕ) × At (inner_tops comes.top) j p.top × (p.place.top ≡ comes.m) × (p.place.inner ≡ offset_among (inner_tops comes.top) j)) → Led file range s
      by p is place topic comes (inl same) =
          let none = full.no_message in
          absurd (none comes.n comes.top (in_tops comes.n comes.top comes.here) (ap (λ (t : Top). t.op) same ∙ is.kind))
      by p is place topic comes (inr (six, j, at_j, top, inner)) =
          let at = in_tops comes.n comes.top comes.here in
          let indexed = full.chunks in
          let h = indexed comes.n comes.top at six in
          let offset : comes.m ≡ offset_of tops comes.n = comes.offset ∙ same_offset comes.n comes.top comes.here in
          let ends = e in
          record {
            start = ends.start;
            summary = summary_of ends;
            has = summary_there file tops whole ends;
            led = record {
              index = h.top;
              shown = h.shown;
              indexed = index_in_summary comes.n comes.top h;
              is = h.is;
              led = led_chunk s comes.n comes.top j p.top at six at_j is
                  (sym (ap (λ (x : Place). x.top) place) ∙ top ∙ offset) (sym (ap (λ (x : Place). x.inner) place) ∙ inner) in_range h;
              topic = topic;
            };
          }

-- ---- the laws

pub indexes_lead_to_the_scan : IndexesLeadToTheScan
indexes_lead_to_the_scan file section end messages range (tops, full) halts scan s =
    let valid = full.valid in
    let (more, joined, ended) = section_first file tops section end valid.v4 halts in (
      led_seen file tops full section more joined ended messages scan range s,
      λ has. seen_led file tops full section more joined ended messages scan range s has.0 has.1,
    )

pub led_replays_are_scans : LedReplaysAreScans
led_replays_are_scans file section end messages range full halts scan topic shown =
    let same = indexes_lead_to_the_scan file section end messages range full halts scan in (
      (λ replay. record {
        rises = replay.rises;
        are = λ s has. let is = replay.are s has in (((same s).0 is.0).0, is.1);
        all = λ s has asked. replay.all s ((same s).1 (has, asked.0)) asked;
      }),
      λ replay. record {
        rises = replay.rises;
        are = λ s has. let is = replay.are s has in let asked = is.1 in ((same s).1 (is.0, asked.0), is.1);
        all = λ s led asked. replay.all s ((same s).0 led).0 asked;
      },
    )
