-- The bytes of an extra, and what is noted of it.
use Rattle.std.proofs.Common.{◌≡◌, Bool, true, false, ℕ, zero, suc, ◌+◌, ◌<◌, ◌≤◌, map, take, List, [], ◌∷◌, ◌++◌, length, drop, Option, Some, None, refl, sym, ap, subst, inl, inr, ◌∙◌, append_assoc, append-nil, length-append, arith}
use Rattle.std.proofs.lemmas.List.{drop_at}
use Rattle.std.specs.Prelude.{get_or, nat_le}
use Rattle.std.proofs.lemmas.Bool.{both_ways, lt-leb}
use Rattle.mcap_model.specs.History.{is_inner, rec_top}
use Rattle.chunk_build.specs.Chunker.{AreFramed, AreInner}
use Rattle.rec_data.specs.OwnedReading.{ExtraMeets}
use Rattle.rec_data.specs.declared.owned.Rec.TheVariants.{Schema, Channel, Message, Extra}
use Rattle.std.proofs.lemmas.List.{map-append, length-map, take_all}
use Rattle.mcap_model.specs.Places.{At, Each}
use Rattle.mcap_model.proofs.Places.{at_more}
use Rattle.chunk_writer.specs.Scribes.{AreWaiting, FillsExtras}
use Rattle.chunk_writer.specs.declared.scribe.Scribe.{Scribe}
use Rattle.mcap_io.specs.Outside.{LiveState}
use Rattle.mcap_model.specs.declared.ends.Stop.{Stop}
use Rattle.chunk_writer.specs.Stops.{numbers}
use Rattle.chunk_writer.specs.StopSteps.{StopsBehind}
use Rattle.mcap_wire.specs.Layout.{le, framed}
use Rattle.mcap_wire.proofs.Numbers.{length-le}
use Rattle.mcap_wire.proofs.Framing.{length-framed}
use Rattle.rec_data.specs.Fields.{AttachmentFields, MetadataFields}
use Rattle.rec_data.specs.Records.{ShowsAttachment, ShowsMetadata}
use Rattle.rec_data.specs.declared.owned.Rec.{Rec}
use Rattle.mcap_model.specs.declared.options.FileOptions.{FileOptions}
use Rattle.mcap_model.specs.Tops.{Top, top_bytes, spelled}
use Rattle.mcap_model.specs.ReadBack.{IsExtraKind, IsExtra}
use Rattle.mcap_model.specs.Blocks.{pieces_of, pieces_bytes}
use Rattle.mcap_model.specs.File.{front, section, noted, alone_from, extras_from}
use Rattle.mcap_model.specs.Summary.{Noted}
use Rattle.std.proofs.lemmas.Grind.{flat_map-append}
use Rattle.summary_write.specs.Tally.{Tally, SummaryStandsFor, with_noted_extra}
use Rattle.summary_write.proofs.Tallying.{stands_unindexed}
use Rattle.chunk_writer.specs.declared.body.Body.{Body}
use Rattle.chunk_writer.specs.declared.phase.Phase.{Phase}
use Rattle.chunk_writer.specs.Bodies.{SummaryFor}
use Rattle.chunk_writer.specs.Planning.{Planning}
use Rattle.chunk_writer.specs.Waiting.{AreExtra, AreAside}
use Rattle.rec_data.specs.Owned.{rec_opcode, rec_text, rec_bytes, ShowsRec, IsExtraContent}
use Rattle.chunk_writer.specs.Plans.{IsFilled}

pub long : (bytes : List ℕ) (t : Top) → bytes ≡ top_bytes t → length bytes ≡ 9 + length t.content
long bytes t is = ap (λ (l : List ℕ). length l) is ∙ length-framed t.op t.content

pub op_there : (bytes : List ℕ) (t : Top) → bytes ≡ top_bytes t → get_or bytes 0 0 ≡ t.op
op_there bytes t is = ap (λ (l : List ℕ). get_or l 0 0) is

pub content_there : (bytes : List ℕ) (t : Top) → bytes ≡ top_bytes t → drop 9 bytes ≡ t.content
content_there bytes t is = ap (drop 9) is ∙ drop_at (t.op ∷ le 8 (length t.content)) t.content 9 (let size = length-le 8 (length t.content) in omega (arith, size))

-- an extra that keeps its rules has a content that meets its layout
content_meets : (t : Top) → IsExtra t → IsExtraContent t.op t.content
content_meets t extra = by extra.kind
  where
    by : IsExtraKind t.op → IsExtraContent t.op t.content
    by (inl nine) = let (f, shown) = extra.v6.attachment nine in inl (nine, f, shown.layout)
    by (inr (inl twelve)) = let (name, pairs, shown) = extra.v6.metadata twelve in inr (inl (twelve, record { name = name; metadata = pairs }, shown.layout))
    by (inr (inr high)) = inr (inr high)

pub extra_aside : (bytes : List ℕ) → AreExtra bytes → AreAside bytes
extra_aside bytes (t, is, extra) = (t, is, content_meets t extra)

pub attachment_meets : (bytes content : List ℕ) → AreAside bytes → get_or bytes 0 0 ≡ 9 → content ≡ drop 9 bytes → (f : AttachmentFields) × ShowsAttachment content f
attachment_meets bytes content (t, is, extra) first same = by (sym (op_there bytes t is) ∙ first) extra
  where
    by : t.op ≡ 9 → IsExtraContent t.op t.content → (f : AttachmentFields) × ShowsAttachment content f
    by op (inl (nine, f, shown)) = (f, subst (λ (l : List ℕ). ShowsAttachment l f) (sym (same ∙ content_there bytes t is)) shown)
    by op (inr (inl (twelve, f, shown))) = absurd (omega (arith, op, twelve))
    by op (inr (inr high)) = absurd (omega (arith, op, high))

pub metadata_meets : (bytes content : List ℕ) → AreAside bytes → get_or bytes 0 0 ≡ 12 → content ≡ drop 9 bytes → (f : MetadataFields) × ShowsMetadata content f
metadata_meets bytes content (t, is, extra) first same = by (sym (op_there bytes t is) ∙ first) extra
  where
    by : t.op ≡ 12 → IsExtraContent t.op t.content → (f : MetadataFields) × ShowsMetadata content f
    by op (inl (nine, f, shown)) = absurd (omega (arith, op, nine))
    by op (inr (inl (twelve, f, shown))) = (f, subst (λ (l : List ℕ). ShowsMetadata l f) (sym (same ∙ content_there bytes t is)) shown)
    by op (inr (inr high)) = absurd (omega (arith, op, high))

-- a record that is an extra has such a content
pub record_aside : (bytes : List ℕ) (r : Rec) → AreFramed bytes r → is_inner r ≡ false → AreAside bytes
record_aside bytes (Schema id schema) is extra = absurd (both_ways true extra refl)
record_aside bytes (Channel id schema topic encoding metadata) is extra = absurd (both_ways true extra refl)
record_aside bytes (Message channel sequence log_time publish_time payload) is extra = absurd (both_ways true extra refl)
record_aside bytes (Extra op content) is extra = (rec_top (Extra op content), is.spelled, is.shown.2)

-- the first byte tells whether a record is one
pub inner_there : (bytes : List ℕ) (r : Rec) → AreFramed bytes r → nat_le (get_or bytes 0 0) 5 ≡ is_inner r
inner_there bytes r is = ap (λ (l : List ℕ). nat_le (get_or l 0 0) 5) is.spelled ∙ by r is.shown
  where
    above : (op : ℕ) (content : List ℕ) → IsExtraContent op content → 5 < op
    above op content (inl nine) = omega (arith, nine.0)
    above op content (inr (inl twelve)) = omega (arith, twelve.0)
    above op content (inr (inr high)) = omega (arith, high)

    by : (s : Rec) → ShowsRec (rec_opcode s) (rec_text s) s → nat_le (get_or (rec_bytes s) 0 0) 5 ≡ is_inner s
    by (Schema id schema) shown = refl
    by (Channel id schema topic encoding metadata) shown = refl
    by (Message channel sequence log_time publish_time payload) shown = refl
    by (Extra op content) shown = lt-leb op 5 (above op content shown.2)

pub framed_inner : (bytes : List ℕ) (b : Bool) (r : Rec) → AreFramed bytes r → b ≡ is_inner r → b ≡ true → AreInner bytes r
framed_inner bytes b r framed is so = record { framed = framed; inner = sym is ∙ so }

pub framed_outer : (b : Bool) (r : Rec) → b ≡ is_inner r → b ≡ false → is_inner r ≡ false
framed_outer b r is so = sym is ∙ so

pub some_bytes : (bytes : List ℕ) (r : Rec) → AreFramed bytes r → 0 < length bytes
some_bytes bytes r is = let size = ap (λ (l : List ℕ). length l) is.spelled in omega (arith, size, length-framed (rec_opcode r) (rec_text r))

-- what add_extra asks of an extra, put asks too
pub extra_meets : (r : Rec) → (is_inner r ≡ false → IsExtra (rec_top r)) → ExtraMeets r
extra_meets (Schema id schema) extra = tt
extra_meets (Channel id schema topic encoding metadata) extra = tt
extra_meets (Message channel sequence log_time publish_time payload) extra = tt
extra_meets (Extra op content) extra = content_meets (rec_top (Extra op content)) (extra refl)

-- a record of an application isn't indexed
pub noted_other : (bytes : List ℕ) (t : Top) (at : ℕ) (n : Noted) (s : Tally) → bytes ≡ top_bytes t → (get_or bytes 0 0 ≡ 9 → ⊥) → (get_or bytes 0 0 ≡ 12 → ⊥) → SummaryStandsFor s n → SummaryStandsFor s (with_noted_extra n at t)
noted_other bytes t at n s is nine twelve stands = stands_unindexed s n at t (λ e. nine (op_there bytes t is ∙ e)) (λ e. twelve (op_there bytes t is ∙ e)) stands

pub noted_attachment : (bytes content : List ℕ) (t : Top) (at : ℕ) (n : Noted) (after : Tally) → bytes ≡ top_bytes t → get_or bytes 0 0 ≡ 9 → content ≡ drop 9 bytes
    → SummaryStandsFor after (with_noted_extra n at (record { op = 9; content = content })) → SummaryStandsFor after (with_noted_extra n at t)
noted_attachment bytes content t at n after is first same stands =
    subst (λ (k : ℕ). SummaryStandsFor after (with_noted_extra n at (record { op = k; content = t.content }))) (sym first ∙ op_there bytes t is)
    (subst (λ (l : List ℕ). SummaryStandsFor after (with_noted_extra n at (record { op = 9; content = l }))) (same ∙ content_there bytes t is) stands)

pub noted_metadata : (bytes content : List ℕ) (t : Top) (at : ℕ) (n : Noted) (after : Tally) → bytes ≡ top_bytes t → get_or bytes 0 0 ≡ 12 → content ≡ drop 9 bytes
    → SummaryStandsFor after (with_noted_extra n at (record { op = 12; content = content })) → SummaryStandsFor after (with_noted_extra n at t)
noted_metadata bytes content t at n after is first same stands =
    subst (λ (k : ℕ). SummaryStandsFor after (with_noted_extra n at (record { op = k; content = t.content }))) (sym first ∙ op_there bytes t is)
    (subst (λ (l : List ℕ). SummaryStandsFor after (with_noted_extra n at (record { op = 12; content = l }))) (same ∙ content_there bytes t is) stands)

-- ---- a plan with an extra more

extras_append : (at : ℕ) (ts : List Top) (t : Top) → extras_from at (ts ++ t ∷ []) ≡ extras_from at ts ++ (at + length (spelled ts), t) ∷ []
extras_append at [] t = ap (λ (k : ℕ). (k, t) ∷ []) (let e : at ≡ at + 0 = omega arith in e)
extras_append at (u ∷ ts) t =
    let size = length-append (top_bytes u) (spelled ts) in
    ap (λ (l : List (ℕ × Top)). (at, u) ∷ l) (extras_append (at + length (top_bytes u)) ts t
    ∙ ap (λ (k : ℕ). extras_from (at + length (top_bytes u)) ts ++ (k, t) ∷ []) (let e : at + length (top_bytes u) + length (spelled ts) ≡ at + length (spelled (u ∷ ts)) = omega (arith, size) in e))

noted_more : (options : FileOptions) (extras : List Top) (t : Top) (history : List Rec) (at : ℕ) → at ≡ length (section options extras history) → with_noted_extra (noted options extras history) at t ≡ noted options (extras ++ t ∷ []) history
noted_more options extras t history at is =
    let start = length (front options.profile) + length (pieces_bytes (pieces_of options.chunk options.span history)) in
    let among = alone_from (length (front options.profile)) (pieces_of options.chunk options.span history) in
    let size = length-append (front options.profile) (pieces_bytes (pieces_of options.chunk options.span history) ++ spelled extras) in
    let more = length-append (pieces_bytes (pieces_of options.chunk options.span history)) (spelled extras) in
    let place : at ≡ start + length (spelled extras) = omega (arith, is, size, more) in
    ap with_extras (append_assoc among (extras_from start extras) ((at, t) ∷ []) ∙ ap (λ (l : List (ℕ × Top)). among ++ l) (ap (λ (k : ℕ). extras_from start extras ++ (k, t) ∷ []) place ∙ sym (extras_append start extras t)))
  where
    with_extras : List (ℕ × Top) → Noted
    with_extras l = let m = noted options extras history in record { records = m.records; blocks = m.blocks; extras = l }

section_long : (options : FileOptions) (extras : List Top) (t : Top) (history : List Rec) (bytes len : ℕ) → bytes ≡ length (section options extras history) → len ≡ length (top_bytes t) → bytes + len ≡ length (section options (extras ++ t ∷ []) history)
section_long options extras t history bytes len is size =
    let ps = pieces_bytes (pieces_of options.chunk options.span history) in
    let all : spelled (extras ++ t ∷ []) ≡ spelled extras ++ top_bytes t = flat_map-append top_bytes extras (t ∷ []) ∙ ap (λ (l : List ℕ). spelled extras ++ l) (append-nil (top_bytes t)) in
    let whole = ap (λ (l : List ℕ). length (front options.profile ++ (ps ++ l))) all in
    omega (
      arith,
      is,
      size,
      whole,
      length-append (front options.profile) (ps ++ spelled extras),
      length-append ps (spelled extras),
      length-append (front options.profile) (ps ++ (spelled extras ++ top_bytes t)),
      length-append ps (spelled extras ++ top_bytes t),
      length-append (spelled extras) (top_bytes t),
    )

body_noted : (size : Option ℕ) (n m : Noted) (b : Body) (after : Tally) → (SummaryStandsFor b.summary n → SummaryStandsFor after m) → SummaryFor size n (Some b) → SummaryFor size m (Some (record { chunker = b.chunker; summary = after }))
body_noted None n m b after notes stands = absurd stands
body_noted (Some k) n m b after notes stands = notes stands

body_none : (size : Option ℕ) (n m : Noted) → SummaryFor size n None → SummaryFor size m None
body_none None n m stands = tt
body_none (Some k) n m stands = absurd stands

pub noted_some : (size : Option ℕ) (n m : Noted) (old : Option Body) (b : Body) (after : Tally) → old ≡ Some b → (SummaryStandsFor b.summary n → SummaryStandsFor after m) → SummaryFor size n old → SummaryFor size m (Some (record { chunker = b.chunker; summary = after }))
noted_some size n m old b after is notes stands = body_noted size n m b after notes (subst (λ (x : Option Body). SummaryFor size n x) is stands)

pub noted_none : (size : Option ℕ) (n m : Noted) (old : Option Body) → old ≡ None → SummaryFor size n old → SummaryFor size m old
noted_none size n m old is stands = subst (λ (x : Option Body). SummaryFor size m x) (sym is) (body_none size n m (subst (λ (x : Option Body). SummaryFor size n x) is stands))

pub filled_more : (options : FileOptions) (extras : List Top) (t : Top) (history : List Rec) (p : Planning) (body : Option Body) (phase : Phase) (framed : List ℕ) (len : ℕ) → framed ≡ top_bytes t → len ≡ length framed
    → ((size : Option ℕ) (n : Noted) → SummaryFor size n p.body → SummaryFor size (with_noted_extra n p.bytes t) body) → IsFilled options extras history p
    → IsFilled options (extras ++ t ∷ []) history (record { body = body; blocks = p.blocks; bytes = p.bytes + len; phase = phase })
filled_more options extras t history p body phase framed len is size notes filled = record {
  body = subst (λ (k : Noted). SummaryFor options.chunk k body) (noted_more options extras t history p.bytes filled.bytes) (notes options.chunk (noted options extras history) filled.body);
  blocks = filled.blocks;
  bytes = section_long options extras t history p.bytes len filled.bytes (size ∙ ap (λ (l : List ℕ). length l) is);
  contents = filled.contents;
}

-- ---- extras that wait

each_more : (extras : List Top) (t : Top) → Each IsExtra extras → IsExtra t → Each IsExtra (extras ++ t ∷ [])
each_more extras t each it n x at = elim (at_more extras t n x at) [
  | inl there ↦ each n x there
  | inr last ↦ subst IsExtra (sym last.1) it
]

pub waits_more : (phase : Phase) (extras : List Top) (t : Top) (xs ys : List (List ℕ)) (piece : List ℕ) → ys ≡ xs ++ piece ∷ [] → piece ≡ top_bytes t → IsExtra t → AreWaiting phase extras xs → AreWaiting phase (extras ++ t ∷ []) ys
waits_more phase extras t xs ys piece is spelled it waits going =
    let (are, each) = waits going in (
      is ∙ ap (λ (l : List (List ℕ)). l ++ piece ∷ []) are ∙ ap (λ (p : List ℕ). map top_bytes extras ++ p ∷ []) spelled ∙ sym (map-append top_bytes extras (t ∷ [])),
      each_more extras t each it,
    )

-- the extra that waits at a place
pub record WaitsAt (extras : List Top) (xs : List (List ℕ)) (n : ℕ) : Type 0 where
  pub t : Top
  pub there : get_or xs n [] ≡ top_bytes t
  pub more : take (suc n) extras ≡ take n extras ++ t ∷ []
  pub whole : extras ≡ take n extras ++ t ∷ drop (suc n) extras
  pub at : At extras n t

pub read_at : (extras : List Top) (xs : List (List ℕ)) (n : ℕ) → xs ≡ map top_bytes extras → n < length xs → WaitsAt extras xs n
read_at [] xs n is less = let none = ap (λ (l : List (List ℕ)). length l) is in absurd (omega (arith, less, none))
read_at (t ∷ ts) [] n is less = absurd (omega (arith, less))
read_at (t ∷ ts) (x ∷ xs) zero is less = record { t = t; there = (let same : x ≡ top_bytes t = cc in same); more = refl; whole = refl; at = refl }
read_at (t ∷ ts) (x ∷ xs) (suc n) is less =
    let rest : xs ≡ map top_bytes ts = cc in
    let found = read_at ts xs n rest (omega (arith, less)) in
    record {
      t = found.t;
      there = found.there;
      more = ap (λ (l : List Top). t ∷ l) found.more;
      whole = ap (λ (l : List Top). t ∷ l) found.whole;
      at = found.at;
    }

-- ---- the walk over the extras that wait

abbrev pub Filling : {L : Type 0} → (L → LiveState) → Scribe L → Scribe L → ℕ → Type 0
Filling state before now place = (options : FileOptions) (extras : List Top) (opened : LiveState) (history : List Rec) → before.extras ≡ map top_bytes extras
    → FillsExtras options [] opened.held (state before.store).held history before.plan → FillsExtras options (take place extras) opened.held (state now.store).held history now.plan

pub filling_on : {L : Type 0} (state : L → LiveState) (before now after : Scribe L) (place : ℕ) → place < length before.extras → now.extras ≡ before.extras → Filling state before now place
    → ((t : Top) → get_or now.extras place [] ≡ top_bytes t → (options : FileOptions) (extras : List Top) (opened : LiveState) (history : List Rec)
    → FillsExtras options extras opened.held (state now.store).held history now.plan → FillsExtras options (extras ++ t ∷ []) opened.held (state after.store).held history after.plan)
    → Filling state before after (place + 1)
filling_on state before now after place less same so_far step options extras opened history is fills =
    let found = read_at extras before.extras place is less in
    let next = step found.t (ap (λ (l : List (List ℕ)). get_or l place []) same ∙ found.there) options (take place extras) opened history (so_far options extras opened history is fills) in
    let count : place + 1 ≡ suc place = omega arith in
    subst (λ (l : List Top). FillsExtras options l opened.held (state after.store).held history after.plan) (sym (ap (λ (k : ℕ). take k extras) count ∙ found.more)) next

pub filling_stopped : {L : Type 0} (state : L → LiveState) (before now after : Scribe L) (place : ℕ) (stop : Stop) (blocks bytes : ℕ) → place < length before.extras → now.extras ≡ before.extras → Filling state before now place
    → ((t : Top) → get_or now.extras place [] ≡ top_bytes t → (options : FileOptions) (extras behind : List Top) (opened : LiveState) (history : List Rec)
    → FillsExtras options extras opened.held (state now.store).held history now.plan → StopsBehind options (extras ++ t ∷ behind) history opened.held (state after.store).held stop (numbers blocks bytes))
    → (options : FileOptions) (extras : List Top) (opened : LiveState) (history : List Rec) → before.extras ≡ map top_bytes extras → FillsExtras options [] opened.held (state before.store).held history before.plan
    → StopsBehind options extras history opened.held (state after.store).held stop (numbers blocks bytes)
filling_stopped state before now after place stop blocks bytes less same so_far step options extras opened history is fills =
    let found = read_at extras before.extras place is less in
    subst (λ (l : List Top). StopsBehind options l history opened.held (state after.store).held stop (numbers blocks bytes)) (sym found.whole)
    (step found.t (ap (λ (l : List (List ℕ)). get_or l place []) same ∙ found.there) options (take place extras) (drop (suc place) extras) opened history (so_far options extras opened history is fills))

pub filling_done : {L : Type 0} (state : L → LiveState) (before now : Scribe L) (place : ℕ) → length before.extras ≤ place → Filling state before now place
    → (options : FileOptions) (extras : List Top) (opened : LiveState) (history : List Rec) → before.extras ≡ map top_bytes extras → FillsExtras options [] opened.held (state before.store).held history before.plan
    → FillsExtras options extras opened.held (state now.store).held history now.plan
filling_done state before now place all so_far options extras opened history is fills =
    let size = ap (λ (l : List (List ℕ)). length l) is in
    let same = length-map extras top_bytes in
    subst (λ (l : List Top). FillsExtras options l opened.held (state now.store).held history now.plan) (take_all place extras (omega (arith, size, same, all))) (so_far options extras opened history is fills)
