-- The sizes of a declaration's records.
use Rattle.std.proofs.Common.{◌≡◌, ℕ, ◌+◌, ◌≤◌, List, length, Option, Some, None, refl, sym, ap, subst, ◌∙◌, arith}
use Rattle.std.specs.Prelude.{IsPermutation}
use Rattle.std.proofs.lemmas.List.Sorted.{sum_by-IsPermutation}
use Rattle.std.proofs.lemmas.List.Concat.{length-flat_map}
use Rattle.mcap_wire.specs.Maps.{pair_text, pair_texts}
use Rattle.mcap_wire.proofs.Framing.{length-framed}
use Rattle.rec_data.specs.declared.owned.Rec.{Rec}
use Rattle.rec_data.specs.declared.schema.SchemaDef.{SchemaDef}
use Rattle.rec_data.specs.declared.channel.ChannelDef.{ChannelDef}
use Rattle.rec_data.specs.Owned.{rec_bytes, RecFits}
use Rattle.rec_data.specs.Records.{schema_text, channel_text}
use Rattle.rec_data.proofs.OwnedLengths.{length-schema_text, length-channel_text}
use Rattle.mcap_model.specs.Fields.{SchemaFields}
use Rattle.mcap_model.specs.History.{is_inner, schema_of, channel_of}
use Rattle.record_cache.specs.KeptRecords.{IsKept}
use Rattle.record_cache.proofs.Kept.{inner_kept}
use Rattle.id_table.specs.declared.given.Given.{Given}
use Rattle.id_table.specs.declared.given.Given.TheVariants.{Known, New}
use Rattle.history_ids.specs.DeclarationFields.{fields_of_schema, fields_with, schema_size, declared_size}
use Rattle.history_ids.specs.Tables.{id_of, schema_with}
use Rattle.record_core.specs.Sights.{FirstFits, SchemaKept}

schema_length : (id : ℕ) (f : SchemaFields) → length (rec_bytes (schema_of id f)) ≡ 9 + (14 + length f.name + length f.encoding + length f.payload)
schema_length id f = length-framed 3 (schema_text id f) ∙ ap (λ (n : ℕ). 9 + n) (length-schema_text id f)

channel_length : (id schema : ℕ) (topic encoding : List ℕ) (metadata : List (List ℕ × List ℕ)) → length (rec_bytes (channel_of id (record { schema = schema; topic = topic; encoding = encoding; metadata = metadata })))
    ≡ 9 + (16 + length topic + length encoding + length (pair_texts metadata))
channel_length id schema topic encoding metadata = length-framed 4 (channel_text id (record { schema = schema; topic = topic; encoding = encoding; metadata = metadata })) ∙ ap (λ (n : ℕ). 9 + n) (length-channel_text id (record { schema = schema; topic = topic; encoding = encoding; metadata = metadata }))

-- the size of a Channel doesn't depend on ids
same_length : (c : ChannelDef) (id schema : ℕ) → length (rec_bytes (channel_of id (fields_with c schema))) ≡ length (rec_bytes (channel_of 0 (fields_with c 0)))
same_length c id schema = channel_length id schema c.topic c.message_encoding c.metadata ∙ sym (channel_length 0 0 c.topic c.message_encoding c.metadata)

schema_kept : (schema : Option SchemaDef) (given : Option Given) (channel : Rec) → FirstFits (schema_with schema given) → schema_size schema + length (rec_bytes channel) ≤ 1048576
    → SchemaKept (schema_with schema given) channel
schema_kept None given channel fits small = tt
schema_kept (Some s) None channel fits small = tt
schema_kept (Some s) (Some (Known id)) channel fits small = tt
schema_kept (Some s) (Some (New id)) channel fits small =
    let size = schema_length id (fields_of_schema s) in
    let other = schema_length 0 (fields_of_schema s) in
    (inner_kept (schema_of id (fields_of_schema s)) refl fits (omega (arith, size, other, small)), omega (arith, size, other, small))

pub first_kept : (c : ChannelDef) (given : Option Given) (id : ℕ) (first : List Rec) (second : Rec) → first ≡ schema_with c.schema given → second ≡ channel_of id (fields_with c (id_of given))
    → FirstFits first → declared_size c ≤ 1048576 → SchemaKept first second
first_kept c given id first second one other fits small =
    let size : length (rec_bytes second) ≡ length (rec_bytes (channel_of 0 (fields_with c 0))) = ap (λ (r : Rec). length (rec_bytes r)) other ∙ same_length c id (id_of given) in
    subst (λ (l : List Rec). SchemaKept l second) (sym one) (schema_kept c.schema given second (subst FirstFits one fits) (omega (arith, size, small)))

pub second_kept : (c : ChannelDef) (given : Option Given) (id : ℕ) (second : Rec) → second ≡ channel_of id (fields_with c (id_of given)) → RecFits second → declared_size c ≤ 1048576 → IsKept second
second_kept c given id second other fits small =
    let size : length (rec_bytes second) ≡ length (rec_bytes (channel_of 0 (fields_with c 0))) = ap (λ (r : Rec). length (rec_bytes r)) other ∙ same_length c id (id_of given) in
    inner_kept second (ap is_inner other) fits (omega (arith, size, small))

-- pairs in another order are as long
pub length-sorted : (pairs sorted : List (List ℕ × List ℕ)) → IsPermutation pairs sorted → length (pair_texts sorted) ≡ length (pair_texts pairs)
length-sorted pairs sorted moved =
    length-flat_map pair_text sorted ∙ sum_by-IsPermutation (λ p. length (pair_text p)) pairs sorted moved ∙ sym (length-flat_map pair_text pairs)
