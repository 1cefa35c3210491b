-- The messages of records that are asked for.
use Rattle.std.proofs.Common.{◌≡◌, ℕ, Bool, true, false, List, [], ◌∷◌, ◌++◌, map, refl, sym, ap, subst, ◌∙◌, cond, Option}
use Rattle.std.specs.Prelude.{filter, ◌&&◌}
use Rattle.std.specs.List.{AllZip}
use Rattle.std.proofs.lemmas.Bool.{ne_eqb}
use Rattle.std.proofs.lemmas.List.{append-nil, map-append}
use Rattle.std.proofs.lemmas.List.Elements.{filter-append}
use Rattle.mcap_model.specs.declared.replay.Place.{Place}
use Rattle.mcap_model.specs.declared.replay.Range.{Range}
use Rattle.mcap_model.specs.declared.replay.Shown.{Shown}
use Rattle.mcap_model.specs.declared.tables.Tables.{Tables}
use Rattle.mcap_model.specs.Tops.{Top, Placed}
use Rattle.mcap_model.specs.Scan.{Seen, IsSeen, is_within}
use Rattle.mcap_model.specs.Showing.{shown_as}
use Rattle.mcap_model.specs.Made.{top}
use Rattle.rec_data.specs.Records.{ShowsMessage}
use Rattle.mcap_model.proofs.NamedTopics.{shown_once}
use Rattle.time_player.specs.Asking.{is_asked, is_topic, Knows, KeepsAsked}

-- ---- lists

-- what stands beside the first part and beside the second
pub zip_parts : {X Y : Type 0} (R : X → Y → Type 0) (xs us : List X) (zs : List Y) → AllZip R (xs ++ us) zs → (ys : List Y) × (vs : List Y) × (zs ≡ ys ++ vs) × AllZip R xs ys × AllZip R us vs
zip_parts R [] us zs zip = ([], zs, refl, tt, zip)
zip_parts R (x ∷ xs) us [] zip = absurd zip
zip_parts {X} {Y} R (x ∷ xs) us (z ∷ zs) zip =
    let rest = zip_parts R xs us zs zip.1 in
    (z ∷ rest.0, rest.1, ap (λ (l : List Y). z ∷ l) rest.2, (zip.0, rest.3), rest.4)

abbrev pub kept : Range → Option (List ℕ) → List Seen → List Shown
kept range topic messages = map shown_as (filter (is_asked range topic) messages)

pub kept_joined : (range : Range) (topic : Option (List ℕ)) (ms ns : List Seen) → kept range topic (ms ++ ns) ≡ kept range topic ms ++ kept range topic ns
kept_joined range topic ms ns =
    ap (map shown_as) (filter-append (is_asked range topic) ms ns) ∙ map-append shown_as (filter (is_asked range topic) ms) (filter (is_asked range topic) ns)

pub keeps_none : (range : Range) (topic : Option (List ℕ)) (tables : Tables) (old : List Shown) → KeepsAsked range topic tables [] old old
keeps_none range topic tables old records knows [] zip = sym (append-nil old)
keeps_none range topic tables old records knows (m ∷ ms) zip = absurd zip

-- no message
pub other_kind : (range : Range) (topic : Option (List ℕ)) (tables : Tables) (p : Placed) (old : List Shown) → (p.top.op ≡ 5 → ⊥) → KeepsAsked range topic tables (p ∷ []) old old
other_kind range topic tables p old other = λ records knows messages zip.
    keeps_none range topic tables old records knows messages (subst (λ (b : Bool). AllZip (IsSeen records) (cond b (p ∷ []) []) messages) (ne_eqb p.top.op 5 other) zip)

-- ---- one message

-- the message that was read is the one that is seen
pub read_once : (records : List Top) (content : List ℕ) (s : Shown) (m : Seen) → ShowsMessage content s.channel (record { sequence = s.sequence; log_time = s.log_time; publish_time = s.publish_time; payload = s.payload }) → IsSeen records (record { place = s.place; top = top 5 content }) m → s ≡ shown_as m
read_once records content s m shows seen = shown_once records (record { place = s.place; top = top 5 content }) m s seen (record { place = refl; is = record { kind = refl; layout = shows } })

and_false : (a b : Bool) → b ≡ false → (a && b) ≡ false
and_false true b is = is
and_false false b is = refl

-- what is asked for, by the parts of the message that was read
pub untimely : (range : Range) (topic : Option (List ℕ)) (s : Shown) (m : Seen) → s ≡ shown_as m → is_within range s.log_time ≡ false → is_asked range topic m ≡ false
untimely range topic s m same late =
    ap (λ (b : Bool). b && is_topic topic m.topic) (sym (ap (λ (r : Shown). is_within range r.log_time) same) ∙ late)

pub off_topic : (range : Range) (topic : Option (List ℕ)) (m : Seen) → is_topic topic m.topic ≡ false → is_asked range topic m ≡ false
off_topic range topic m other = and_false (is_within range m.message.log_time) (is_topic topic m.topic) other

pub asked_for : (range : Range) (topic : Option (List ℕ)) (s : Shown) (m : Seen) → s ≡ shown_as m → is_within range s.log_time ≡ true → is_topic topic m.topic ≡ true → is_asked range topic m ≡ true
asked_for range topic s m same within named =
    ap (λ (b : Bool). b && is_topic topic m.topic) (sym (ap (λ (r : Shown). is_within range r.log_time) same) ∙ within) ∙ named

pub message_dropped : (range : Range) (topic : Option (List ℕ)) (tables : Tables) (place : Place) (content : List ℕ) (old : List Shown)
    → ((records : List Top) (m : Seen) → Knows records tables → IsSeen records (record { place = place; top = top 5 content }) m → is_asked range topic m ≡ false) → KeepsAsked range topic tables (record { place = place; top = top 5 content } ∷ []) old old
message_dropped range topic tables place content old drops records knows [] zip = absurd zip
message_dropped range topic tables place content old drops records knows (m ∷ []) zip =
    sym (ap (λ (b : Bool). old ++ map shown_as (cond b (m ∷ []) [])) (drops records m knows zip.0) ∙ append-nil old)
message_dropped range topic tables place content old drops records knows (m ∷ n ∷ ms) zip = absurd zip.1

pub message_kept : (range : Range) (topic : Option (List ℕ)) (tables : Tables) (place : Place) (content : List ℕ) (old : List Shown) (s : Shown)
    → ((records : List Top) (m : Seen) → Knows records tables → IsSeen records (record { place = place; top = top 5 content }) m → (is_asked range topic m ≡ true) × (s ≡ shown_as m)) → KeepsAsked range topic tables (record { place = place; top = top 5 content } ∷ []) old (old ++ s ∷ [])
message_kept range topic tables place content old s keeps records knows [] zip = absurd zip
message_kept range topic tables place content old s keeps records knows (m ∷ []) zip =
    let is = keeps records m knows zip.0 in
    ap (λ (r : Shown). old ++ r ∷ []) is.1 ∙ sym (ap (λ (b : Bool). old ++ map shown_as (cond b (m ∷ []) [])) is.0)
message_kept range topic tables place content old s keeps records knows (m ∷ n ∷ ms) zip = absurd zip.1
