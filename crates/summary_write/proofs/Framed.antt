-- What is noted of a record that is given by its framed bytes.
use Rattle.std.proofs.Common.{◌≡◌, ℕ, ◌<◌, ◌^◌, List, ◌++◌, length, drop, get_or, false, Some, None, refl, sym, ap, ◌∙◌, arith}
use Rattle.std.proofs.lemmas.List.{drop_at}
use Rattle.mcap_wire.specs.declared.faults.Why.{Why}
use Rattle.mcap_wire.specs.Layout.{le, NumberAt}
use Rattle.mcap_wire.specs.Reading.{NumberFails}
use Rattle.mcap_wire.proofs.Numbers.{length-le}
use Rattle.mcap_wire.proofs.Framing.{number_decided, number_not_refused}
use Rattle.rec_data.specs.declared.owned.Rec.{Rec}
use Rattle.rec_data.specs.declared.owned.Rec.TheVariants.{Schema, Channel, Message, Extra}
use Rattle.rec_data.specs.Owned.{rec_text}
use Rattle.rec_data.proofs.OwnedReading.{extra_not}
use Rattle.std.proofs.lemmas.Bool.{both_ways}
use Rattle.chunk_build.specs.declared.building.Mark.{Mark}
use Rattle.chunk_build.specs.Building.{mark_of}
use Rattle.chunk_build.specs.Chunker.{AreFramed, AreInner}
use Rattle.chunk_build.proofs.Marks.{first_is}
use Rattle.summary_write.specs.Tally.{Tally, id_in_record, with_id_once, with_bytes_once, with_record}
use Rattle.summary_write.proofs.Tallying.{schema_after, channel_after}

-- the content stands behind the head
behind_head : (bytes : List ℕ) (r : Rec) → AreFramed bytes r → drop 9 bytes ≡ rec_text r
behind_head bytes r is =
    let text = rec_text r in
    ap (λ (l : List ℕ). drop 9 l) is.spelled ∙ drop_at (le 8 (length text)) text 8 (length-le 8 (length text))

-- its first field is the id
record IdFirst (bytes : List ℕ) (r : Rec) : Type 0 where
  pub rest : List ℕ
  pub there : drop 9 bytes ≡ le 2 (id_in_record r) ++ rest
  pub fits : id_in_record r < 256 ^ 2

id_first : (bytes : List ℕ) (r : Rec) → AreInner bytes r → IdFirst bytes r
id_first bytes (Schema own schema) is = record { rest = _; there = behind_head bytes (Schema own schema) is.framed; fits = is.framed.shown.1.1.fit.0 }
id_first bytes (Channel own schema topic encoding metadata) is = record { rest = _; there = behind_head bytes (Channel own schema topic encoding metadata) is.framed; fits = is.framed.shown.1.1.fit.0 }
id_first bytes (Message own sequence log_time publish_time payload) is =
    record { rest = _; there = behind_head bytes (Message own sequence log_time publish_time payload) is.framed; fits = is.framed.shown.1.fit.0 }
id_first bytes (Extra op content) is = absurd (both_ways false refl is.inner)

pub id_there : (bytes : List ℕ) (r : Rec) (id end : ℕ) → AreInner bytes r → NumberAt 2 bytes 9 id end → id ≡ id_in_record r
id_there bytes r id end is there = let first = id_first bytes r is in (number_decided 2 bytes 9 id end (id_in_record r) first.rest there first.fits first.there).0

pub id_not_refused : (bytes : List ℕ) (r : Rec) (why : Why) → AreInner bytes r → NumberFails 2 bytes 9 why → ⊥
id_not_refused bytes r why is fails = let first = id_first bytes r is in number_not_refused 2 bytes 9 (id_in_record r) first.rest why (omega arith) first.there fails

-- ---- a record more

abbrev make : List ℕ → List ℕ → List ℕ → List ℕ → Tally → Tally
make schema_ids schemas channel_ids channels t = record {
  schema_ids = schema_ids;
  schemas = schemas;
  channel_ids = channel_ids;
  channels = channels;
  messages = t.messages;
  start = t.start;
  end = t.end;
  counts = t.counts;
  blocks = t.blocks;
  chunk_indexes = t.chunk_indexes;
  extras = t.extras;
}

some_mark : (m : Mark) → None ≡ Some m → ⊥
some_mark m same = cc

-- a Schema is declared
pub schema_noted : (t : Tally) (bytes : List ℕ) (r : Rec) (id : ℕ) (ids framed : List ℕ) → AreFramed bytes r → get_or bytes 0 0 ≡ 3 → id ≡ id_in_record r → ids ≡ with_id_once t.schema_ids id
    → framed ≡ with_bytes_once t.schema_ids id t.schemas bytes → make ids framed t.channel_ids t.channels t ≡ with_record t r
schema_noted t bytes (Schema own schema) id ids framed is first own_id one other =
    schema_after t own schema (Schema own schema) ids framed refl (one ∙ ap (with_id_once t.schema_ids) own_id)
    (other ∙ ap (λ (k : ℕ). with_bytes_once t.schema_ids k t.schemas bytes) own_id ∙ ap (with_bytes_once t.schema_ids own t.schemas) is.spelled)
schema_noted t bytes (Channel own schema topic encoding metadata) id ids framed is first own_id one other = absurd (omega (arith, first, first_is bytes (Channel own schema topic encoding metadata) is))
schema_noted t bytes (Extra op content) id ids framed is first own_id one other = absurd (let kind = is.shown.2 in extra_not op content 3 kind (omega arith) (sym (first_is bytes (Extra op content) is) ∙ first))
schema_noted t bytes (Message own sequence log_time publish_time payload) id ids framed is first own_id one other =
    absurd (omega (arith, first, first_is bytes (Message own sequence log_time publish_time payload) is))

-- a Channel is declared
pub channel_noted : (t : Tally) (bytes : List ℕ) (r : Rec) (id : ℕ) (ids framed : List ℕ) → AreInner bytes r → None ≡ mark_of r → (get_or bytes 0 0 ≡ 3 → ⊥) → id ≡ id_in_record r → ids ≡ with_id_once t.channel_ids id
    → framed ≡ with_bytes_once t.channel_ids id t.channels bytes → make t.schema_ids t.schemas ids framed t ≡ with_record t r
channel_noted t bytes (Schema own schema) id ids framed is none other_op own_id one other = absurd (other_op (first_is bytes (Schema own schema) is.framed))
channel_noted t bytes (Channel own schema topic encoding metadata) id ids framed is none other_op own_id one other =
    channel_after t own schema topic encoding metadata (Channel own schema topic encoding metadata) ids framed refl (one ∙ ap (with_id_once t.channel_ids) own_id)
    (other ∙ ap (λ (k : ℕ). with_bytes_once t.channel_ids k t.channels bytes) own_id ∙ ap (with_bytes_once t.channel_ids own t.channels) is.framed.spelled)
channel_noted t bytes (Message own sequence log_time publish_time payload) id ids framed is none other_op own_id one other = absurd (some_mark _ none)
channel_noted t bytes (Extra op content) id ids framed is none other_op own_id one other = absurd (both_ways false refl is.inner)
