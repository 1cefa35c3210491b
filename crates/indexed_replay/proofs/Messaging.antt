-- A message that is read by its front.
use Rattle.std.proofs.Common.{◌≡◌, ◌⊎◌, ℕ, ◌+◌, ◌-◌, ◌^◌, ◌<◌, ◌≤◌, Bool, List, [], ◌∷◌, ◌++◌, length, take, drop, refl, sym, ap, subst, inl, inr, ◌∙◌, append_assoc, arith}
use Rattle.std.specs.Prelude.{◌≢◌, if◌then◌else◌}
use Rattle.std.proofs.lemmas.Bool.{le-leb}
use Rattle.std.proofs.lemmas.List.{take-append-drop, drop-append-le, drop-drop, take_at, take_all, length-drop}
use Rattle.rec_data.specs.Fields.{MessageFields}
use Rattle.rec_data.specs.Records.{message_text, ShowsMessage}
use Rattle.rec_data.proofs.Contents.{length-message_text}
use Rattle.mcap_model.specs.declared.replay.Shown.{Shown}
use Rattle.mcap_model.specs.Tops.{Top, declared_length, first_top}
use Rattle.mcap_model.specs.Fields.{IsMessage}
use Rattle.mcap_model.specs.Led.{IsThere}
use Rattle.mcap_model.proofs.Readings.{length-top}
use Rattle.mcap_model.proofs.Maps.{message_once, message_long}
use Rattle.indexed_replay.specs.Reaching.{LacksMessage}
use Rattle.std.proofs.Math.Seq.{take-append-add}
use Rattle.indexed_replay.proofs.Headed.{there_begun}
use Rattle.indexed_replay.specs.Steps.{FrontStands, LacksRecord, IsLedByEntry, place_in}
use Rattle.indexed_replay.specs.Costs.{message_cost}

-- ---- a message with another payload

abbrev pub with_payload : MessageFields → List ℕ → MessageFields
with_payload m payload = record { sequence = m.sequence; log_time = m.log_time; publish_time = m.publish_time; payload = payload }

text_joined : (c : ℕ) (m : MessageFields) (p : List ℕ) → message_text c m ++ p ≡ message_text c (with_payload m (m.payload ++ p))
text_joined c m p = simp append_assoc refl

no_payload : (c : ℕ) (m : MessageFields) → length (message_text c m) ≡ 22 → m.payload ≡ []
no_payload c m size = none m.payload (omega (arith, size, length-message_text c m))
  where
    none : (l : List ℕ) → length l ≤ 0 → l ≡ []
    none [] few = refl
    none (x ∷ xs) few = absurd (omega (arith, few))

front_text : (c : ℕ) (m : MessageFields) → take 22 (message_text c m) ≡ message_text c (with_payload m [])
front_text c m =
    ap (take 22) (sym (text_joined c (with_payload m []) m.payload)) ∙ take_at (message_text c (with_payload m [])) m.payload 22 (length-message_text c (with_payload m []))

-- ---- its content

-- a front of 31 bytes, and the content of the record there
front_content : (file out : List ℕ) (at op len : ℕ) → FrontStands file at out op len → length out ≡ 31 → (first_top (drop at file)).content ≡ drop 9 out ++ take (len - 22) (drop (at + 31) file)
front_content file out at op len front size =
    let rest = drop at file in
    let more = drop (length out) rest in
    let all : rest ≡ out ++ more = sym (take-append-drop (length out) rest) ∙ ap (λ (l : List ℕ). l ++ more) (sym front.front) in
    let nine : drop 9 rest ≡ drop 9 out ++ more = ap (drop 9) all ∙ drop-append-le 9 out more (omega (arith, size)) in
    let behind : more ≡ drop (at + 31) file = ap (λ (n : ℕ). drop n rest) size ∙ drop-drop 31 at file in
    let inner : length (drop 9 out) ≡ 22 = omega (arith, length-drop 9 out, size) in
    let long = front.long in
    let parts : len ≡ length (drop 9 out) + (len - 22) = omega (arith, inner, size, long) in
    ap (λ (n : ℕ). take n (drop 9 rest)) (front.len_is ∙ parts) ∙ ap (take (length (drop 9 out) + (len - 22))) nine ∙ take-append-add (drop 9 out) more (len - 22)
    ∙ ap (λ (l : List ℕ). drop 9 out ++ take (len - 22) l) behind

-- the message that stands there
pub front_message : (file out p : List ℕ) (at op len c : ℕ) (m : MessageFields) → FrontStands file at out op len → length out ≡ 31 → op ≡ 5 → ShowsMessage (drop 9 out) c m → p ≡ take (len - 22) (drop (at + 31) file)
    → IsMessage (first_top (drop at file)) c (with_payload m p)
front_message file out p at op len c m front size five shows same =
    let inner : length (drop 9 out) ≡ 22 = omega (arith, length-drop 9 out, size) in
    let none : m.payload ≡ [] = no_payload c m (ap length (sym shows.spelled_there) ∙ inner) in
    let joined : m.payload ++ p ≡ p = ap (λ (l : List ℕ). l ++ p) none in
    record {
      kind = front.op_is ∙ five;
      layout = record {
        spelled_there =
            front_content file out at op len front size ∙ ap (λ (l : List ℕ). drop 9 out ++ l) (sym same) ∙ ap (λ (l : List ℕ). l ++ p) shows.spelled_there
            ∙ text_joined c m p ∙ ap (λ (l : List ℕ). message_text c (with_payload m l)) joined;
        fit = shows.fit;
      };
    }

-- a message there shows its fields in the front
pub front_shows : (file out : List ℕ) (at op len c : ℕ) (m : MessageFields) (t : Top) → FrontStands file at out op len → length out ≡ 31 → IsThere file at t → IsMessage t c m → ShowsMessage (drop 9 out) c (with_payload m [])
front_shows file out at op len c m t front size there is =
    let only = front.only in
    let same : t ≡ first_top (drop at file) = only t there in
    let inner : length (drop 9 out) ≡ 22 = omega (arith, length-drop 9 out, size) in
    let layout = is.layout in
    let content : message_text c m ≡ drop 9 out ++ take (len - 22) (drop (at + 31) file) = sym layout.spelled_there ∙ ap (λ (u : Top). u.content) same ∙ front_content file out at op len front size in
    record {
      spelled_there = sym (take_at (drop 9 out) (take (len - 22) (drop (at + 31) file)) 22 inner) ∙ ap (take 22) (sym content) ∙ front_text c m;
      fit = layout.fit;
    }

-- ---- where there is no such message

pub lacks_record : (file : List ℕ) (at chunk channel : ℕ) (entry : ℕ × ℕ) → at ≡ chunk + 49 + entry.1 → LacksRecord file at 31 → LacksMessage file chunk channel entry
lacks_record file at chunk channel entry place lacks = λ t m there is time.
    let long = message_long t channel m is in
    lacks t (subst (λ (n : ℕ). IsThere file n t) (sym place) there) (omega (arith, length-top t, long)) (λ zero. omega (arith, zero, is.kind))

-- none so far
pub lacks_place : (file : List ℕ) (size chunk channel : ℕ) (entry : ℕ × ℕ) → length file ≡ size → size < 2 ^ 64 → 2 ^ 64 ≤ chunk + 49 + entry.1 → LacksMessage file chunk channel entry
lacks_place file size chunk channel entry is fits far = λ t m there kind time.
    let b = there_begun file (chunk + 49 + entry.1) t there in
    omega (arith, b.3, is, fits, far, length-top t)

-- a record of another opcode
pub lacks_kind : (file out : List ℕ) (at op len chunk channel : ℕ) (entry : ℕ × ℕ) → at ≡ chunk + 49 + entry.1 → FrontStands file at out op len → op ≢ 5 → LacksMessage file chunk channel entry
lacks_kind file out at op len chunk channel entry place front other = λ t m there is time.
    let only = front.only in
    let same = only t (subst (λ (n : ℕ). IsThere file n t) (sym place) there) in
    other (sym front.op_is ∙ sym (ap (λ (u : Top). u.op) same) ∙ is.kind)

-- a content that can't be read
pub lacks_fields : (file out : List ℕ) (at op len chunk channel : ℕ) (entry : ℕ × ℕ) → at ≡ chunk + 49 + entry.1 → FrontStands file at out op len → length out ≡ 31
    → ((c : ℕ) (m : MessageFields) → ShowsMessage (drop 9 out) c m → ⊥) → LacksMessage file chunk channel entry
lacks_fields file out at op len chunk channel entry place front size none = λ t m there is time.
    none channel (with_payload m []) (front_shows file out at op len channel m t front size (subst (λ (n : ℕ). IsThere file n t) (sym place) there) is)

-- a message of another channel, or of another time
pub lacks_same : (file out : List ℕ) (at op len chunk channel c : ℕ) (entry : ℕ × ℕ) (m : MessageFields) → at ≡ chunk + 49 + entry.1 → FrontStands file at out op len → length out ≡ 31 → op ≡ 5
    → ShowsMessage (drop 9 out) c m → (c ≢ channel) ⊎ (m.log_time ≢ entry.0) → LacksMessage file chunk channel entry
lacks_same file out at op len chunk channel c entry m place front size five shows other = λ t n there is time.
    let only = front.only in
    let same = only t (subst (λ (k : ℕ). IsThere file k t) (sym place) there) in
    let here = front_message file out (take (len - 22) (drop (at + 31) file)) at op len c m front size five shows refl in
    let once = message_once (first_top (drop at file)) c channel (with_payload m (take (len - 22) (drop (at + 31) file))) n here (subst (λ (u : Top). IsMessage u channel n) same is) in
    elim other [
      | inl apart ↦ apart once.0
      | inr apart ↦ apart (ap (λ (f : MessageFields). f.log_time) once.1 ∙ time)
    ]

-- ---- what is found, and what it costs

pub found : (file out p : List ℕ) (at op len chunk channel : ℕ) (entry : ℕ × ℕ) (m : MessageFields) (s : Shown) → at ≡ chunk + 49 + entry.1 → FrontStands file at out op len → length out ≡ 31 → op ≡ 5
    → ShowsMessage (drop 9 out) channel m → m.log_time ≡ entry.0 → p ≡ take (len - 22) (drop (at + 31) file)
    → s ≡ record { place = place_in chunk entry.1; log_time = m.log_time; publish_time = m.publish_time; channel = channel; sequence = m.sequence; payload = p } → IsLedByEntry file chunk channel entry s
found file out p at op len chunk channel entry m s place front size five shows time same is =
    subst (λ (r : Shown). IsLedByEntry file chunk channel entry r) (sym is) (record {
      place = refl;
      channel_is = refl;
      time = time;
      stands = record { place = refl; top = first_top (drop at file); there = subst (λ (k : ℕ). IsThere file k (first_top (drop at file))) place front.there; is = front_message file out p at op len channel m front size five shows same };
    })

-- what a whole record costs that stands there
pub whole_cost : (file : List ℕ) (at : ℕ) → at + 9 + declared_length (drop at file) ≤ length file → message_cost file at ≡ 31 + (declared_length (drop at file) - 22)
whole_cost file at whole =
    let len = declared_length (drop at file) in
    ap (λ (b : Bool). 31 + (if b then len - 22 else 0)) (le-leb (9 + len) (length (drop at file)) (omega (arith, whole, length-drop at file)))

pub costs : (file out : List ℕ) (at chunk inner op len before now asked : ℕ) → at ≡ chunk + 49 + inner → FrontStands file at out op len → now ≤ before + 31 → asked ≤ now + (len - 22) → asked ≤ before + message_cost file (chunk + 49 + inner)
costs file out at chunk inner op len before now asked place front first more =
    let cost : message_cost file at ≡ message_cost file (chunk + 49 + inner) = ap (message_cost file) place in
    let size = whole_cost file at (omega (arith, front.whole, front.len_is)) in
    omega (arith, cost, size, front.len_is, first, more)

pub front_shown : (out : List ℕ) (c : ℕ) (m : MessageFields) → length out ≡ 31 → ShowsMessage (take 22 (drop 9 out)) c m → ShowsMessage (drop 9 out) c m
front_shown out c m size shows = subst (λ (l : List ℕ). ShowsMessage l c m) (take_all 22 (drop 9 out) (omega (arith, length-drop 9 out, size))) shows

-- a message on that channel
pub on_channel : (s : Shown) (channel : ℕ) → s.channel ≡ channel → s ≡ record { place = place_in s.place.top s.place.inner; log_time = s.log_time; publish_time = s.publish_time; channel = channel; sequence = s.sequence; payload = s.payload }
on_channel s channel is = ap (λ (n : ℕ). on s n) is
  where
    on : Shown → ℕ → Shown
    on r n = record { place = place_in r.place.top r.place.inner; log_time = r.log_time; publish_time = r.publish_time; channel = n; sequence = r.sequence; payload = r.payload }
