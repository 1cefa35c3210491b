-- The messages of records that are added.
use Rattle.std.proofs.Common.{◌≡◌, ℕ, Bool, List, [], ◌∷◌, ◌++◌, refl, sym, ap, subst, ◌∙◌, cond}
use Rattle.std.specs.Prelude.{filter}
use Rattle.std.specs.List.{AllZip, fold}
use Rattle.std.proofs.lemmas.Bool.{ne_eqb}
use Rattle.std.proofs.lemmas.List.{map-append}
use Rattle.std.proofs.lemmas.List.Elements.{filter-append}
use Rattle.std.proofs.lemmas.List.Sums.{fold-append}
use Rattle.mcap_model.specs.declared.replay.Place.{Place}
use Rattle.mcap_model.specs.declared.replay.Shown.{Shown}
use Rattle.mcap_model.specs.Tops.{Placed}
use Rattle.mcap_model.specs.Fields.{MessageFields}
use Rattle.mcap_model.specs.Scan.{Seen, IsSeen}
use Rattle.mcap_model.specs.Made.{top}
use Rattle.rec_data.specs.Records.{ShowsMessage}
use Rattle.mcap_model.proofs.ShownMessages.{is_message_placed}
use Rattle.mcap_model.proofs.NamedTopics.{shown_once}
use Rattle.command_generate.specs.declared.sums.Sums.{Sums}
use Rattle.command_generate.specs.SumSteps.{with_message, with_messages, AddsToSums}
use Rattle.command_generate.specs.SumReading.{fields_seen}

-- ---- lists

-- what stands beside the first part and beside the second
pub zip_parts : {X Y : Type 0} (R : X → Y → Type 0) (xs us : List X) (zs : List Y) → AllZip R (xs ++ us) zs → (ys : List Y) × (vs : List Y) × (zs ≡ ys ++ vs) × AllZip R xs ys × AllZip R us vs
zip_parts R [] us zs zip = ([], zs, refl, tt, zip)
zip_parts R (x ∷ xs) us [] zip = absurd zip
zip_parts {X} {Y} R (x ∷ xs) us (z ∷ zs) zip =
    let rest = zip_parts R xs us zs zip.1 in
    (z ∷ rest.0, rest.1, ap (λ (l : List Y). z ∷ l) rest.2, (zip.0, rest.3), rest.4)

pub with_joined : (sums : Sums) (ms ns : List Seen) → with_messages sums (ms ++ ns) ≡ with_messages (with_messages sums ms) ns
with_joined sums ms ns =
    ap (fold with_message sums) (map-append (λ (s : Seen). s.message) ms ns) ∙ fold-append with_message sums (fields_seen ms) (fields_seen ns)

pub adds_none : (old : Sums) → AddsToSums [] old old
adds_none old records [] zip = refl
adds_none old records (m ∷ ms) zip = absurd zip

pub adds_more : (ps qs : List Placed) (old mid new : Sums) → AddsToSums ps old mid → AddsToSums qs mid new → AddsToSums (ps ++ qs) old new
adds_more ps qs old mid new one other = λ records messages zip.
    let parts = zip_parts (IsSeen records) (filter is_message_placed ps) (filter is_message_placed qs) messages (subst (λ (l : List Placed). AllZip (IsSeen records) l messages) (filter-append is_message_placed ps qs) zip) in
    other records parts.1 parts.4
    ∙ ap (λ (s : Sums). with_messages s parts.1) (one records parts.0 parts.3)
    ∙ sym (with_joined old parts.0 parts.1)
    ∙ ap (with_messages old) (sym parts.2)

-- no message
pub other_kind : (p : Placed) (old : Sums) → (p.top.op ≡ 5 → ⊥) → AddsToSums (p ∷ []) old old
other_kind p old other = λ records messages zip.
    adds_none old records messages (subst (λ (b : Bool). AllZip (IsSeen records) (cond b (p ∷ []) []) messages) (ne_eqb p.top.op 5 other) zip)

-- ---- one message

abbrev fields_shown : Shown → MessageFields
fields_shown s = record { sequence = s.sequence; log_time = s.log_time; publish_time = s.publish_time; payload = s.payload }

-- the message that was read is the one that is seen
pub message_added : (place : Place) (content : List ℕ) (old : Sums) (s : Shown) → s.place ≡ place → ShowsMessage content s.channel (fields_shown s) → AddsToSums (record { place = place; top = top 5 content } ∷ []) old (with_message old (fields_shown s))
message_added place content old s there shows records [] zip = absurd zip
message_added place content old s there shows records (m ∷ []) zip =
    let same = shown_once records (record { place = place; top = top 5 content }) m s zip.0 (record { place = sym there; is = record { kind = refl; layout = shows } }) in
    ap (λ (r : Shown). with_message old (fields_shown r)) same
message_added place content old s there shows records (m ∷ n ∷ ms) zip = absurd zip.1
