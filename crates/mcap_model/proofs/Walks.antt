-- The records inside a chunk, one after the other.
use Rattle.std.proofs.Common.{◌≡◌, ◌≢◌, ℕ, zero, suc, ◌+◌, ◌-◌, ◌^◌, ◌<◌, ◌≤◌, Bool, false, not, eqb, List, [], ◌∷◌, ◌++◌, length, take, drop, refl, sym, ap, ◌∙◌, append_assoc, append-nil, arith}
use Rattle.std.specs.Prelude.{if◌then◌else◌}
use Rattle.std.proofs.lemmas.Bool.{lt-leb}
use Rattle.std.proofs.lemmas.List.{drop-drop, length-append, length-drop, length-take, drop_at, take_at}
use Rattle.std.proofs.lemmas.Grind.{flat_map-append}
use Rattle.mcap_wire.specs.Layout.{number, part, framed, NumberAt}
use Rattle.mcap_wire.specs.Reading.{RecordStands}
use Rattle.mcap_wire.proofs.Fields.{number_there}
use Rattle.mcap_wire.proofs.Framing.{length-framed}
use Rattle.mcap_model.specs.declared.inner.Inner.{Inner}
use Rattle.mcap_model.specs.Walk.{inner_top, StepsOver}
use Rattle.mcap_model.specs.Tops.{Top, top_bytes, spelled, opcode, declared_length, has_head, is_whole, first_top, behind_first, begins_record, first_records, records_in}
use Rattle.mcap_model.specs.Laws.{IsFound}
use Rattle.mcap_model.proofs.Readings.{begun, length-top}
use Rattle.mcap_model.specs.Made.{top}
use Rattle.mcap_model.proofs.Bits.{last_false}
use Rattle.mcap_model.proofs.Unpacking.{none_begins, begins_found, left_behind}

nothing_begins : (bytes : List ℕ) → length bytes ≤ 0 → begins_record bytes ≡ false
nothing_begins [] few = refl
nothing_begins (b ∷ bs) few = absurd (omega (arith, few))

-- more steps than bytes find nothing more
enough : (n m : ℕ) (bytes : List ℕ) → length bytes ≤ n → length bytes ≤ m → first_records n bytes ≡ first_records m bytes
enough zero m bytes few other = sym (none_begins m bytes (nothing_begins bytes few))
enough (suc n) zero bytes few other = none_begins (suc n) bytes (nothing_begins bytes other)
enough (suc n) (suc m) bytes few other =
    let size = length-drop (9 + declared_length bytes) bytes in
    ap (λ (l : List Top). if begins_record bytes then first_top bytes ∷ l else []) (enough n m (behind_first bytes) (omega (arith, size, few)) (omega (arith, size, other)))

pub found_next : (rest : List ℕ) (t : Top) (behind : List ℕ) → rest ≡ top_bytes t ++ behind → IsFound t → records_in rest ≡ t ∷ records_in behind
unfolding records_in
found_next rest t behind is found =
    let front = begun rest t behind is found.short in
    let there = begins_found rest t front found.valid in
    let size : length rest ≡ suc (8 + length t.content + length behind) = omega (arith, ap length is, length-append (top_bytes t) behind, length-top t) in
    let n = 8 + length t.content + length behind in
    ap (λ (k : ℕ). first_records k rest) size
    ∙ ap (λ (b : Bool). if b then first_top rest ∷ first_records n (behind_first rest) else []) there
    ∙ ap (λ (x : Top). x ∷ first_records n (behind_first rest)) front.first
    ∙ ap (λ (l : List ℕ). t ∷ first_records n l) (left_behind rest t behind is front)
    ∙ ap (λ (l : List Top). t ∷ l) (enough n (length behind) behind (omega arith) (omega arith))

pub none_next : (rest : List ℕ) → begins_record rest ≡ false → records_in rest ≡ []
unfolding records_in
none_next rest none = none_begins (length rest) rest none

-- the declared content passes the end
pub no_record : (bytes : List ℕ) (at len end : ℕ) → NumberAt 8 bytes (at + 1) len end → length bytes < end + len → begins_record (drop at bytes) ≡ false
no_record bytes at len end there short =
    let rest = drop at bytes in
    let declares : declared_length rest ≡ len = ap (λ (l : List ℕ). number (take 8 l)) (drop-drop 1 at bytes) ∙ number_there 8 bytes (at + 1) len end there in
    let size = length-drop at bytes in
    let cut : is_whole rest ≡ false = lt-leb (9 + declared_length rest) (length rest) (omega (arith, declares, size, there.size, short)) in
    last_false (has_head rest) (not (eqb (opcode rest) 0)) (is_whole rest) cut

-- a record that stands there
pub record StandsNext (bytes : List ℕ) (at op from to : ℕ) : Type 0 where
  pub split : drop at bytes ≡ top_bytes (top op (part from to bytes)) ++ drop to bytes
  pub found : IsFound (top op (part from to bytes))
  pub first : records_in (drop at bytes) ≡ top op (part from to bytes) ∷ records_in (drop to bytes)
  pub behind : to ≡ at + length (top_bytes (top op (part from to bytes)))

pub stands_next : (bytes : List ℕ) (at op from to : ℕ) → RecordStands bytes at op from to → op ≢ 0 → to < 2 ^ 64 → StandsNext bytes at op from to
stands_next bytes at op from to stands valid small =
    let t = top op (part from to bytes) in
    let size : length (part from to bytes) ≡ to - from = omega (arith, length-take (to - from) (drop from bytes), length-drop from bytes, stands.ends) in
    let found : IsFound t = record { valid = valid; short = omega (arith, size, small) } in
    record {
      split = stands.framed_there;
      found = found;
      first = found_next (drop at bytes) t (drop to bytes) stands.framed_there found;
      behind = omega (arith, length-top t, size, stands.head, stands.begins);
    }

-- ---- a walk over them

-- it has come to these
pub record WalkedSoFar (records : List ℕ) (at : ℕ) (rest : List ℕ) (done : List Top) : Type 0 where
  pub split : records ≡ spelled done ++ rest
  pub place : at ≡ length (spelled done)
  pub parts : records_in records ≡ done ++ records_in rest

pub walk_begins : (records : List ℕ) (at : ℕ) (rest : List ℕ) → at ≡ 0 → rest ≡ records → WalkedSoFar records at rest []
walk_begins records at rest is all = record { split = sym all; place = is; parts = ap records_in (sym all) }

spelled_more : (done : List Top) (t : Top) → spelled (done ++ t ∷ []) ≡ spelled done ++ top_bytes t
spelled_more done t = flat_map-append top_bytes done (t ∷ []) ∙ ap (λ (l : List ℕ). spelled done ++ l) (append-nil (top_bytes t))

pub walk_goes_on : (records : List ℕ) (at at_new : ℕ) (rest rest_new : List ℕ) (inner : Inner) (done : List Top) → WalkedSoFar records at rest done → StepsOver at rest at_new rest_new inner
    → WalkedSoFar records at_new rest_new (done ++ inner_top inner ∷ [])
walk_goes_on records at at_new rest rest_new inner done was steps =
    let t = inner_top inner in
    record {
      split = was.split ∙ ap (λ (l : List ℕ). spelled done ++ l) steps.split ∙ sym (append_assoc (spelled done) (top_bytes t) rest_new) ∙ ap (λ (l : List ℕ). l ++ rest_new) (sym (spelled_more done t));
      place =
          let size = ap (λ (l : List ℕ). length l) (spelled_more done t) in
          let behind = steps.behind in
          let place = was.place in
          omega (arith, size, behind, place, length-append (spelled done) (top_bytes t));
      parts = was.parts ∙ ap (λ (l : List Top). done ++ l) steps.first ∙ sym (append_assoc done (t ∷ []) (records_in rest_new));
    }

-- where the record in front stands
pub stands_there : (records : List ℕ) (at at_new : ℕ) (rest rest_new : List ℕ) (inner : Inner) (done : List Top) → WalkedSoFar records at rest done → StepsOver at rest at_new rest_new inner
    → take (9 + length inner.content.now) (drop inner.offset records) ≡ framed inner.op inner.content.now
stands_there records at at_new rest rest_new inner done was steps =
    let t = inner_top inner in
    let size : length (top_bytes t) ≡ 9 + length inner.content.now = length-framed inner.op inner.content.now in
    ap (λ (n : ℕ). take (9 + length inner.content.now) (drop n records)) (steps.offset ∙ was.place)
    ∙ ap (λ (l : List ℕ). take (9 + length inner.content.now) (drop (length (spelled done)) l)) was.split
    ∙ ap (take (9 + length inner.content.now)) (drop_at (spelled done) rest (length (spelled done)) refl)
    ∙ ap (take (9 + length inner.content.now)) steps.split
    ∙ take_at (top_bytes t) rest_new (9 + length inner.content.now) size

pub room_there : (records : List ℕ) (at at_new : ℕ) (rest rest_new : List ℕ) (inner : Inner) (done : List Top) → WalkedSoFar records at rest done → StepsOver at rest at_new rest_new inner
    → inner.offset + (9 + length inner.content.now) ≤ length records
room_there records at at_new rest rest_new inner done was steps =
    let t = inner_top inner in
    let size = length-framed inner.op inner.content.now in
    let all = ap (λ (l : List ℕ). length l) was.split in
    let front = ap (λ (l : List ℕ). length l) steps.split in
    let place = was.place in
    let offset = steps.offset in
    omega (arith, size, all, front, place, offset, length-append (spelled done) rest, length-append (top_bytes t) rest_new)

-- it has come to all
pub walked_all : (records : List ℕ) (at : ℕ) (rest : List ℕ) (done : List Top) → WalkedSoFar records at rest done → records_in rest ≡ [] → done ≡ records_in records
walked_all records at rest done was none = sym (was.parts ∙ ap (λ (l : List Top). done ++ l) none ∙ append-nil done)
