-- The Schemas, Channels and Messages of one record more, and how few they are.
use Rattle.std.proofs.Common.{◌≡◌, ◌+◌, ◌<◌, ◌≤◌, Bool, true, false, List, [], ◌∷◌, length, cond, refl, sym, ap, subst, arith}
use Rattle.std.specs.Prelude.{nat_lt}
use Rattle.std.proofs.lemmas.Bool.{or_parts, ltb-false, ne_eqb}
use Rattle.std.proofs.lemmas.List.{length-append}
use Rattle.mcap_model.specs.Places.{Each}
use Rattle.mcap_model.specs.Tops.{Top, top_bytes, spelled, offset_behind, records_in, chunk_records, is_chunk, inner_tops, unchunked, is_flat_kind, flattened, flat}
use Rattle.mcap_model.specs.Fields.{ChunkFields, IsChunk}
use Rattle.mcap_model.specs.Rules.{V6}
use Rattle.mcap_model.specs.Kept.{reading_limits, Fits}
use Rattle.mcap_model.proofs.Flat.{named_or}
use Rattle.mcap_model.proofs.Logging.{few_filtered}
use Rattle.mcap_model.proofs.Readings.{length-top}
use Rattle.mcap_model.proofs.Unpacking.{chunks_are_opened}
use Rattle.mcap_model.proofs.FewRecords.{records_short, chunk_short}

-- ---- what a record holds

pub opened_other : (t : Top) → (t.op ≡ 6 → ⊥) → unchunked t ≡ t ∷ []
opened_other t other = ap (λ (b : Bool). cond b (inner_tops t) (t ∷ [])) (ne_eqb t.op 6 other)

-- each record of a chunk keeps the rule on layouts
pub chunk_meets : (tops : List Top) (t : Top) (f : ChunkFields) → IsChunk t f → Fits reading_limits tops t → Each V6 (records_in f.records)
chunk_meets tops t f is fits = (fits.v8 f is (named_or t f f.compression is refl fits.plain)).layouts

-- so do those that a chunk is opened to
pub inner_meets : (tops : List Top) (t : Top) → t.op ≡ 6 → Fits reading_limits tops t → Each V6 (inner_tops t)
inner_meets tops t six fits =
    let (f, is) = fits.v6.chunk six in
    subst (Each V6) (sym (ap records_in (chunks_are_opened t f is))) (chunk_meets tops t f is fits)

-- ---- they are fewer than the bytes

pub opened_short : (t : Top) → length (unchunked t) ≤ length (top_bytes t)
opened_short t = by (is_chunk t)
  where
    by : (b : Bool) → length (cond b (inner_tops t) (t ∷ [])) ≤ length (top_bytes t)
    by true = omega (arith, records_short (chunk_records t.content), chunk_short t.content, length-top t)
    by false = omega (arith, length-top t)

flat_short : (tops : List Top) → length (flat tops) ≤ length (spelled tops)
flat_short [] = omega arith
flat_short (t ∷ ts) =
    let few = few_filtered is_flat_kind (unchunked t) in
    let one = opened_short t in
    let rest = flat_short ts in
    omega (arith, few, one, rest, length-append (flattened t) (flat ts), length-append (top_bytes t) (spelled ts))

-- ---- a record that fits ends within the limit

pub fits_end : (tops : List Top) (t : Top) → Fits reading_limits tops t → offset_behind tops + length (top_bytes t) ≤ 1099511627776
fits_end tops t fits =
    let len = length t.content in
    let at = offset_behind tops in
    let parts = or_parts (nat_lt 268435456 len) (nat_lt 1099511627776 (at + 9 + len)) fits.within in
    let near : at + 9 + len ≤ 1099511627776 = ltb-false 1099511627776 (at + 9 + len) parts.1 in
    omega (arith, near, length-top t)

pub flat_few : (tops : List Top) (t : Top) → Fits reading_limits tops t → length (flat tops) + length (unchunked t) < 1099511627776
flat_few tops t fits = omega (arith, fits_end tops t fits, flat_short tops, opened_short t)
