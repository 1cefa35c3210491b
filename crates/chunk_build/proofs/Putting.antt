-- A record is put, and a history is finished.
use Rattle.std.proofs.Common.{◌≡◌, ℕ, ◌+◌, ◌-◌, ◌*◌, ◌<◌, ◌≤◌, min, max, Bool, true, false, eqb, List, [], ◌∷◌, ◌++◌, length, drop, map, inl, inr, refl, sym, ap, subst, ◌∙◌, arith}
use Rattle.std.specs.Prelude.{Vec, Option, Some, None, ◌&&◌, ◌||◌, nat_lt, nat_le, if◌then◌else◌}
use Rattle.std.specs.declared.alloc.Global.{Global}
use Rattle.std.proofs.lemmas.Bool.{le-leb, lt-leb, lt-ltb}
use Rattle.std.proofs.lemmas.List.{append-nil, map-append, length-append, length-map, length-drop, drop-append-le, drop_all}
use Rattle.std.proofs.lemmas.List.Sums.{fold-append}
use Rattle.mcap_wire.proofs.Framing.{length-framed}
use Rattle.rec_data.specs.declared.owned.Rec.{Rec}
use Rattle.rec_data.specs.declared.owned.Rec.TheVariants.{Schema, Channel, Message, Extra}
use Rattle.rec_data.proofs.OwnedReading.{framed_decided}
use Rattle.rec_data.specs.Owned.{rec_bytes, rec_opcode, rec_text}
use Rattle.mcap_model.specs.declared.block.Block.{Block}
use Rattle.mcap_model.specs.History.{is_inner, history_bytes}
use Rattle.mcap_model.specs.Blocks.{least, greatest, Logged, logged_one, logged, log_times, reaches, spans, is_ripe, block, Cuts, no_cuts, alone_behind, cut_behind, put_behind, cuts, last_piece}
use Rattle.mcap_model.proofs.Growth.{bytes_more, logged_all, time_of, least_more, greatest_more}
use Rattle.chunk_build.specs.declared.building.Building.{Building}
use Rattle.chunk_build.specs.declared.building.Mark.{Mark}
use Rattle.chunk_build.specs.declared.building.Ready.{Ready}
use Rattle.chunk_build.specs.declared.building.Closing.{Closing}
use Rattle.chunk_build.specs.Opened.{Opened, chunk_of_records, with_bytes, IsBuilt}
use Rattle.chunk_build.specs.Building.{chunk_in_memory, IsSound, mark_of, record_counted, IsLong, StandsBehind, spans_with, spans_open, StaysOpen, IsOver, ClosingReady, IsReady, Settles}
use Rattle.chunk_build.specs.Chunking.{Chunking}
use Rattle.chunk_build.specs.Chunker.{StandsFor, PutsRecord, AreFramed, Finishes}
use Rattle.chunk_build.proofs.Growing.{opened_more}
use Rattle.chunk_build.proofs.Blocks.{built_is_block}

-- ---- the record's bytes stand at the end

abbrev pub with_vec : Building → Vec ℕ Global → Building
with_vec old v = record old { bytes = v }

pub appended : (old : List ℕ) (v rb : List ℕ) → v ≡ old ++ rb → 49 ≤ length old → drop 49 v ≡ drop 49 old ++ rb
appended old v rb is begun = ap (λ (l : List ℕ). drop 49 l) is ∙ drop-append-le 49 old rb begun

pub sound_more : (old : Building) (v : Vec ℕ Global) (rb : List ℕ) → v.items ≡ old.bytes.items ++ rb → 49 ≤ length old.bytes.items → IsSound old → IsSound (with_vec old v)
sound_more old v rb is begun sound =
    let more = ap (λ (l : List ℕ). length l) (appended old.bytes.items v.items rb is begun) in
    let long = sound.long in
    record {
      rows = sound.rows;
      index = sound.index;
      few = sound.few;
      long = omega (arith, more, long, length-append (drop 49 old.bytes.items) rb);
    }

pub before_fits : (old : Building) (n : ℕ) → n ≡ length old.bytes.items → IsSound old → 31 * old.messages + old.declared ≤ n - 49
before_fits old n is sound = let long = sound.long in omega (arith, is, long, length-drop 49 old.bytes.items)

behind_by : (mark : Option Mark) (offset len size : ℕ) → size ≡ offset + len → IsLong len mark → StandsBehind offset size mark
behind_by None offset len size is long = omega (arith, is, long)
behind_by (Some mark) offset len size is long = omega (arith, is, long)

pub behind_fits : (old v rb : List ℕ) (mark : Option Mark) (n : ℕ) → n ≡ length old → v ≡ old ++ rb → 49 ≤ length old → IsLong (length rb) mark → StandsBehind (n - 49) (length (drop 49 v)) mark
behind_fits old v rb mark n size is begun long =
    let more = ap (λ (l : List ℕ). length l) (appended old v rb is begun) in
    behind_by mark (n - 49) (length rb) (length (drop 49 v)) (omega (arith, size, more, length-append (drop 49 old) rb, length-drop 49 old)) long

-- what is seen depends on the bytes alone
pub same_seen : (own : Building) (v : Vec ℕ Global) → v.items ≡ own.bytes.items → chunk_in_memory (with_vec own v) ≡ chunk_in_memory own
same_seen own v same = ap (λ (l : List ℕ). with_all (drop 49 l)) same
  where
    with_all : List ℕ → Opened
    with_all l = record { bytes = l; rows = (chunk_in_memory own).rows; start = own.start; end = own.end; messages = own.messages; declared = own.declared }

-- ---- the log times

-- there is no message in an empty chunk
pub no_span : (span : Option ℕ) → spans_open span (chunk_of_records []) ≡ false
no_span None = refl
no_span (Some span) = refl

-- what is open stands for these records
open_spans : (span : Option ℕ) (ws : List Rec) → spans_open span (chunk_of_records ws) ≡ spans span ws
open_spans None ws = refl
open_spans (Some span) ws = ap (λ (n : ℕ). nat_lt 0 n && nat_le span (greatest (log_times ws) - least (log_times ws))) (sym (length-map (logged ws) time_of))

abbrev span_of : ℕ → List ℕ → Bool
span_of span ts = nat_lt 0 (length ts) && nat_le span (greatest ts - least ts)

-- a record that is no message leaves the log times
quiet_span : (span : ℕ) (ws : List Rec) (r : Rec) → logged_one (length (history_bytes ws)) r ≡ [] → spans (Some span) ws ≡ false → spans (Some span) (ws ++ r ∷ []) ≡ false
quiet_span span ws r none near =
    ap (λ (l : List Logged). span_of span (map time_of l)) (logged_all ws r ∙ ap (λ (l : List Logged). logged ws ++ l) none ∙ append-nil (logged ws)) ∙ near

spans_more : (span : Option ℕ) (ws : List Rec) (r : Rec) → spans span ws ≡ false → spans span (ws ++ r ∷ []) ≡ spans_with span (chunk_of_records ws) (mark_of r)
spans_more None ws r near = refl
spans_more (Some span) ws (Schema id schema) near = quiet_span span ws (Schema id schema) refl near
spans_more (Some span) ws (Channel id schema topic encoding metadata) near = quiet_span span ws (Channel id schema topic encoding metadata) refl near
spans_more (Some span) ws (Extra op content) near = quiet_span span ws (Extra op content) refl near
spans_more (Some span) ws (Message channel sequence log_time publish_time payload) near =
    let r = Message channel sequence log_time publish_time payload in
    let l : Logged = record { channel = channel; time = log_time; offset = length (history_bytes ws) } in
    let ts = map time_of (logged ws) in
    let times : map time_of (logged (ws ++ r ∷ [])) ≡ ts ++ log_time ∷ [] = ap (map time_of) (logged_all ws r) ∙ map-append time_of (logged ws) (l ∷ []) in
    let long : length ts ≡ length (logged ws) = length-map (logged ws) time_of in
    let some : nat_lt 0 (length (ts ++ log_time ∷ [])) ≡ true = lt-ltb 0 (length (ts ++ log_time ∷ [])) (omega (arith, length-append ts (log_time ∷ []))) in
    ap (span_of span) times
    ∙ ap (λ (b : Bool). b && nat_le span (greatest (ts ++ log_time ∷ []) - least (ts ++ log_time ∷ []))) some
    ∙ ap (λ (n : ℕ). nat_le span (n - least (ts ++ log_time ∷ []))) (greatest_more ts log_time)
    ∙ ap (λ (n : ℕ). nat_le span (max (greatest ts) log_time - n)) (least_more ts log_time ∙ ap (λ (k : ℕ). if eqb k 0 then log_time else min (least ts) log_time) long)

-- an open chunk whose log times stay near
counted_near : (span : Option ℕ) (o : Opened) (bytes : List ℕ) (offset : ℕ) (mark : Option Mark) → spans_open span o ≡ false → spans_with span o mark ≡ false → spans_open span (record_counted (record o { bytes = bytes }) offset mark) ≡ false
counted_near None o bytes offset mark near with_near = with_none mark
  where
    with_none : (mark : Option Mark) → spans_open None (record_counted (record o { bytes = bytes }) offset mark) ≡ false
    with_none None = refl
    with_none (Some m) = refl
counted_near (Some span) o bytes offset None near with_near = near
counted_near (Some span) o bytes offset (Some mark) near with_near =
    let some : nat_lt 0 (o.messages + 1) ≡ true = lt-ltb 0 (o.messages + 1) (omega arith) in
    ap (λ (b : Bool). b && nat_le span (max o.end mark.time - (if eqb o.messages 0 then mark.time else min o.start mark.time))) some ∙ with_near

-- ---- whether the chunk stays open

-- the records with one more are ripe, or not, as the chunk was found
abbrev pub IsFound : ℕ → Option ℕ → ℕ → Option Mark → Opened → Option Closing → Type 0
IsFound size span len mark o None = StaysOpen size span len mark o
IsFound size span len mark o (Some closing) = IsOver size span len mark o

found_by : (size : ℕ) (span : Option ℕ) (len : ℕ) (mark : Option Mark) (old : Building) (closing : Option Closing) → ClosingReady size span len mark old closing → IsFound size span len mark (chunk_in_memory old) closing
found_by size span len mark old None ready = ready.0
found_by size span len mark old (Some closing) ready = ready.0

same_bytes : (o : Opened) (offset : ℕ) (mark : Option Mark) → (record_counted o offset mark).bytes ≡ o.bytes
same_bytes o offset None = refl
same_bytes o offset (Some mark) = refl

short_by : (size : ℕ) (span : Option ℕ) (len : ℕ) (mark : Option Mark) (b o after : Opened) (closing : Option Closing) (result : Option Block) → 0 < size → length o.bytes ≡ length b.bytes + len → IsFound size span len mark b closing → Settles o closing result after → length after.bytes < size
short_by size span len mark b o after None None some sum found settled = let same = ap (λ (x : Opened). length x.bytes) settled in let short = found.short in omega (arith, same, sum, short)
short_by size span len mark b o after None (Some x) some sum found settled = absurd settled
short_by size span len mark b o after (Some closing) None some sum found settled = absurd settled
short_by size span len mark b o after (Some closing) (Some x) some sum found settled = let same = ap (λ (x : Opened). length x.bytes) settled.1 in omega (arith, same, some)

pub stays_short : (size : ℕ) (span : Option ℕ) (len : ℕ) (old after : Building) (v : Vec ℕ Global) (rb : List ℕ) (mark : Option Mark) (offset : ℕ) (ready : Ready) (result : Option Block)
    → v.items ≡ old.bytes.items ++ rb → len ≡ length rb → 0 < size → IsReady size span len mark old ready → Settles (record_counted (chunk_in_memory (with_vec old v)) offset mark) ready.closing result (chunk_in_memory after)
    → length (drop 49 after.bytes.items) < size
stays_short size span len old after v rb mark offset ready result is size_is some is_ready settled =
    let o = record_counted (chunk_in_memory (with_vec old v)) offset mark in
    let bytes = ap (λ (l : List ℕ). length l) (same_bytes (chunk_in_memory (with_vec old v)) offset mark) in
    let more = ap (λ (l : List ℕ). length l) (appended old.bytes.items v.items rb is is_ready.begun) in
    let n : length o.bytes ≡ length (drop 49 old.bytes.items) + len = omega (arith, bytes, more, size_is, length-append (drop 49 old.bytes.items) rb) in
    short_by size span len mark (chunk_in_memory old) o (chunk_in_memory after) ready.closing result some n (found_by size span len mark old ready.closing is_ready.closing) settled

near_by : (size : ℕ) (span : Option ℕ) (len : ℕ) (mark : Option Mark) (b : Opened) (bytes : List ℕ) (offset : ℕ) (after : Opened) (closing : Option Closing) (result : Option Block)
    → spans_open span b ≡ false → IsFound size span len mark b closing → Settles (record_counted (record b { bytes = bytes }) offset mark) closing result after → spans_open span after ≡ false
near_by size span len mark b bytes offset after None None near found settled = ap (spans_open span) settled ∙ counted_near span b bytes offset mark near found.near
near_by size span len mark b bytes offset after None (Some x) near found settled = absurd settled
near_by size span len mark b bytes offset after (Some closing) None near found settled = absurd settled
near_by size span len mark b bytes offset after (Some closing) (Some x) near found settled = ap (spans_open span) settled.1 ∙ no_span span

pub stays_near : (size : ℕ) (span : Option ℕ) (len : ℕ) (own old after : Building) (v : Vec ℕ Global) (mark : Option Mark) (offset : ℕ) (ready : Ready) (result : Option Block)
    → spans_open span (chunk_in_memory own) ≡ false → chunk_in_memory old ≡ chunk_in_memory own → IsReady size span len mark old ready → Settles (record_counted (chunk_in_memory (with_vec old v)) offset mark) ready.closing result (chunk_in_memory after)
    → spans_open span (chunk_in_memory after) ≡ false
stays_near size span len own old after v mark offset ready result near same is_ready settled =
    near_by size span len mark (chunk_in_memory old) (drop 49 v.items) offset (chunk_in_memory after) ready.closing result (ap (spans_open span) same ∙ near) (found_by size span len mark old ready.closing is_ready.closing) settled

-- ---- one step of the definition

step : (size : ℕ) (span : Option ℕ) (history : List Rec) (r : Rec) → is_inner r ≡ true → cuts (Some size) span (history ++ r ∷ []) ≡ cut_behind (is_ripe size span) (cuts (Some size) span history) r
step size span history r inner =
    let c = cuts (Some size) span history in
    fold-append (put_behind (Some size) span) no_cuts history (r ∷ []) ∙ ap (λ (b : Bool). if b then cut_behind (is_ripe size span) c r else alone_behind c r) inner

abbrev chosen : Cuts → Rec → Bool → Cuts
chosen c r b = if b then record { pieces = c.pieces ++ block (c.waiting ++ r ∷ []) ∷ []; waiting = [] } else record { pieces = c.pieces; waiting = c.waiting ++ r ∷ [] }

stepped : (size : ℕ) (span : Option ℕ) (history : List Rec) (r : Rec) (b : Bool) → is_inner r ≡ true → is_ripe size span ((cuts (Some size) span history).waiting ++ r ∷ []) ≡ b → cuts (Some size) span (history ++ r ∷ []) ≡ chosen (cuts (Some size) span history) r b
stepped size span history r b inner is = step size span history r inner ∙ ap (chosen (cuts (Some size) span history) r) is

or_false : (a b : Bool) → a ≡ false → b ≡ false → (a || b) ≡ false
or_false a b one two = ap (λ (x : Bool). x || b) one ∙ two

or_first : (a b : Bool) → a ≡ true → (a || b) ≡ true
or_first a b one = ap (λ (x : Bool). x || b) one

or_second : (a b : Bool) → b ≡ true → (a || b) ≡ true
or_second true b two = refl
or_second false b two = two

ripe_by : (size : ℕ) (span : Option ℕ) (len : ℕ) (ws : List Rec) (r : Rec) → spans span ws ≡ false → length (history_bytes (ws ++ r ∷ [])) ≡ length (history_bytes ws) + len → IsOver size span len (mark_of r) (chunk_of_records ws) → is_ripe size span (ws ++ r ∷ []) ≡ true
ripe_by size span len ws r near sum (inl many) = or_first (reaches size (ws ++ r ∷ [])) (spans span (ws ++ r ∷ [])) (le-leb size (length (history_bytes (ws ++ r ∷ []))) (omega (arith, many, sum)))
ripe_by size span len ws r near sum (inr far) = or_second (reaches size (ws ++ r ∷ [])) (spans span (ws ++ r ∷ [])) (spans_more span ws r near ∙ far)

unripe_by : (size : ℕ) (span : Option ℕ) (len : ℕ) (ws : List Rec) (r : Rec) → spans span ws ≡ false → length (history_bytes (ws ++ r ∷ [])) ≡ length (history_bytes ws) + len → StaysOpen size span len (mark_of r) (chunk_of_records ws) → is_ripe size span (ws ++ r ∷ []) ≡ false
unripe_by size span len ws r near sum stays =
    let short = stays.short in
    or_false (reaches size (ws ++ r ∷ [])) (spans span (ws ++ r ∷ [])) (lt-leb size (length (history_bytes (ws ++ r ∷ []))) (omega (arith, short, sum))) (spans_more span ws r near ∙ stays.near)

put_one : (size : ℕ) (span : Option ℕ) (len : ℕ) (history : List Rec) (r : Rec) (o after : Opened) (closing : Option Closing) (result : Option Block)
    → is_inner r ≡ true → let ws = (cuts (Some size) span history).waiting in spans span ws ≡ false → length (history_bytes (ws ++ r ∷ [])) ≡ length (history_bytes ws) + len
    → o ≡ chunk_of_records (ws ++ r ∷ []) → IsFound size span len (mark_of r) (chunk_of_records ws) closing → Settles o closing result after → PutsRecord size span history r result (record { size = size; span = span; chunk = after })
put_one size span len history r o after None None inner near sum is found settled =
    let c = cuts (Some size) span history in
    let next = stepped size span history r false inner (unripe_by size span len c.waiting r near sum found) in
    record {
      stands = settled ∙ is ∙ ap (λ (d : Cuts). chunk_of_records d.waiting) (sym next);
      same_size = refl;
      same_span = refl;
      closes = ap (λ (d : Cuts). d.pieces) next;
    }
put_one size span len history r o after None (Some b) inner near sum is found settled = absurd settled
put_one size span len history r o after (Some closing) None inner near sum is found settled = absurd settled
put_one size span len history r o after (Some closing) (Some b) inner near sum is found settled =
    let c = cuts (Some size) span history in
    let next = stepped size span history r true inner (ripe_by size span len c.waiting r near sum found) in
    record {
      stands = settled.1 ∙ ap (λ (d : Cuts). chunk_of_records d.waiting) (sym next);
      same_size = refl;
      same_span = refl;
      closes = (ap (λ (d : Cuts). d.pieces) next, built_is_block (c.waiting ++ r ∷ []) b (subst (λ (x : Opened). IsBuilt x b) is settled.0));
    }

found_as : (size : ℕ) (span : Option ℕ) (len : ℕ) (mark other : Option Mark) (o p : Opened) (closing : Option Closing) → o ≡ p → mark ≡ other → IsFound size span len mark o closing → IsFound size span len other p closing
found_as size span len mark other o p closing same marks found = subst (λ (m : Option Mark). IsFound size span len m p closing) marks (subst (λ (x : Opened). IsFound size span len mark x closing) same found)

pub put_all : (size : ℕ) (span : Option ℕ) (len n : ℕ) (own old after : Building) (v : Vec ℕ Global) (r : Rec) (rb : List ℕ) (mark : Option Mark) (ready : Ready) (result : Option Block) (value : Chunking)
    → record { size = size; span = span; chunk = chunk_in_memory own } ≡ value → spans_open span (chunk_in_memory own) ≡ false → is_inner r ≡ true
    → chunk_in_memory old ≡ chunk_in_memory own → v.items ≡ old.bytes.items ++ rb → rb ≡ rec_bytes r → mark ≡ mark_of r → n ≡ length old.bytes.items → len ≡ length rb
    → IsReady size span len mark old ready → Settles (record_counted (chunk_in_memory (with_vec old v)) (n - 49) mark) ready.closing result (chunk_in_memory after)
    → (history : List Rec) → StandsFor value history → PutsRecord value.size value.span history r result (record { size = size; span = span; chunk = chunk_in_memory after })
put_all size span len n own old after v r rb mark ready result value view open_near inner same is spelled marked place size_is is_ready settled history stands =
    let own_stands : StandsFor (record { size = size; span = span; chunk = chunk_in_memory own }) history = subst (λ (x : Chunking). StandsFor x history) (sym view) stands in
    let ws = (cuts (Some size) span history).waiting in
    let before : chunk_in_memory old ≡ chunk_of_records ws = same ∙ own_stands in
    let near : spans span ws ≡ false = sym (open_spans span ws) ∙ ap (spans_open span) (sym own_stands) ∙ open_near in
    let bytes : chunk_in_memory (with_vec old v) ≡ with_bytes (chunk_of_records ws) (rec_bytes r) =
    ap (λ (l : List ℕ). with_own (chunk_in_memory old) l) (appended old.bytes.items v.items rb is is_ready.begun ∙ ap (λ (l : List ℕ). drop 49 old.bytes.items ++ l) spelled)
    ∙ ap (λ (x : Opened). with_bytes x (rec_bytes r)) before in
    let offset : n - 49 ≡ length (history_bytes ws) = omega (arith, place, length-drop 49 old.bytes.items, ap (λ (x : Opened). length x.bytes) before) in
    let whole : record_counted (chunk_in_memory (with_vec old v)) (n - 49) mark ≡ chunk_of_records (ws ++ r ∷ []) =
    ap (λ (x : Opened). record_counted x (n - 49) mark) bytes
    ∙ ap (λ (k : ℕ). record_counted (with_bytes (chunk_of_records ws) (rec_bytes r)) k mark) offset
    ∙ ap (λ (m : Option Mark). record_counted (with_bytes (chunk_of_records ws) (rec_bytes r)) (length (history_bytes ws)) m) marked
    ∙ sym (opened_more ws r) in
    let sum : length (history_bytes (ws ++ r ∷ [])) ≡ length (history_bytes ws) + len =
    (let more = ap (λ (l : List ℕ). length l) (bytes_more ws r) in let own_len = ap (λ (l : List ℕ). length l) spelled in omega (arith, more, own_len, size_is, length-append (history_bytes ws) (rec_bytes r))) in
    let put = put_one size span len history r (record_counted (chunk_in_memory (with_vec old v)) (n - 49) mark) (chunk_in_memory after) ready.closing result inner near sum whole
    (found_as size span len mark (mark_of r) (chunk_in_memory old) (chunk_of_records ws) ready.closing before marked (found_by size span len mark old ready.closing is_ready.closing)) settled in
    subst (λ (k : Option ℕ). PutsRecord value.size k history r result (record { size = size; span = span; chunk = chunk_in_memory after })) (ap (λ (x : Chunking). x.span) view)
    (subst (λ (k : ℕ). PutsRecord k span history r result (record { size = size; span = span; chunk = chunk_in_memory after })) (ap (λ (x : Chunking). x.size) view) put)
  where
    with_own : Opened → List ℕ → Opened
    with_own x l = record { bytes = l; rows = x.rows; start = x.start; end = x.end; messages = x.messages; declared = x.declared }

-- the bytes of one record are of no other
pub inner_by : (bytes : List ℕ) (r other : Rec) → AreFramed bytes r → AreFramed bytes other → is_inner r ≡ true → is_inner other ≡ true
inner_by bytes r other one two inner =
    let same = framed_decided bytes other r (rec_opcode other, rec_text other, two.spelled, two.shown) (rec_opcode r, rec_text r, one.spelled, one.shown) in
    ap is_inner same ∙ inner

-- ---- the end

no_records : (ws : List Rec) → history_bytes ws ≡ [] → ws ≡ []
no_records [] none = refl
no_records (w ∷ ws) none =
    let size = ap (λ (l : List ℕ). length l) none in
    absurd (omega (arith, size, length-append (rec_bytes w) (history_bytes ws), length-framed (rec_opcode w) (rec_text w)))

pub finish_none : (size : ℕ) (span : Option ℕ) (own : Building) (value : Chunking) → record { size = size; span = span; chunk = chunk_in_memory own } ≡ value → length own.bytes.items ≤ 49
    → (history : List Rec) → StandsFor value history → Finishes value.size value.span history None value
finish_none size span own value view short history stands =
    let ws = (cuts (Some value.size) value.span history).waiting in
    let own_bytes : drop 49 own.bytes.items ≡ history_bytes ws = ap (λ (x : Chunking). x.chunk.bytes) view ∙ ap (λ (x : Opened). x.bytes) stands in
    let none : ws ≡ [] = no_records ws (sym own_bytes ∙ drop_all 49 own.bytes.items short) in
    record {
      last_block = ap last_piece none;
      begun = stands ∙ ap chunk_of_records none;
      same_size = refl;
      same_span = refl;
    }

last_one : (ws : List Rec) → (ws ≡ [] → ⊥) → last_piece ws ≡ block ws ∷ []
last_one [] some = absurd (some refl)
last_one (w ∷ ws) some = refl

pub finish_some : (size : ℕ) (span : Option ℕ) (own old after : Building) (b : Block) (value : Chunking) → record { size = size; span = span; chunk = chunk_in_memory own } ≡ value → chunk_in_memory old ≡ chunk_in_memory own → 49 < length own.bytes.items → IsBuilt (chunk_in_memory old) b → chunk_in_memory after ≡ chunk_of_records []
    → (history : List Rec) → StandsFor value history → Finishes value.size value.span history (Some b) (record { size = size; span = span; chunk = chunk_in_memory after })
finish_some size span own old after b value view same long built none history stands =
    let ws = (cuts (Some value.size) value.span history).waiting in
    let own_is : chunk_in_memory own ≡ chunk_of_records ws = ap (λ (x : Chunking). x.chunk) view ∙ stands in
    let bytes = ap (λ (x : Opened). length x.bytes) own_is in
    let some : ws ≡ [] → ⊥ = λ empty.
    let size_of = ap (λ (l : List Rec). length (history_bytes l)) empty in
    omega (arith, bytes, size_of, long, length-drop 49 own.bytes.items) in
    record {
      last_block = (last_one ws some, built_is_block ws b (subst (λ (x : Opened). IsBuilt x b) (same ∙ own_is) built));
      begun = none;
      same_size = ap (λ (x : Chunking). x.size) view;
      same_span = ap (λ (x : Chunking). x.span) view;
    }
