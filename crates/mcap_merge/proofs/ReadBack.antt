-- The records of a merge are read back as themselves.
use Rattle.std.proofs.Common.{◌≡◌, ℕ, ◌<◌, List, [], ◌∷◌, Option, Some, None, subst, arith}
use Rattle.std.specs.Prelude.{filter, ◌^◌}
use Rattle.rec_data.specs.declared.owned.Rec.{Rec}
use Rattle.rec_data.specs.declared.schema.SchemaDef.{SchemaDef}
use Rattle.rec_data.specs.Owned.{RecFits}
use Rattle.rec_data.specs.Records.{ShowsMessage}
use Rattle.rec_data.proofs.OwnedReading.{rec_shown}
use Rattle.mcap_model.specs.Places.{At, Each}
use Rattle.mcap_model.specs.Fields.{MessageFields}
use Rattle.mcap_model.specs.History.{schema_of, channel_of, message_of}
use Rattle.mcap_model.specs.ReadBack.{IsReadBack}
use Rattle.mcap_model.specs.Scan.{Seen, IsSeen, Scan, is_message_top, tops_of}
use Rattle.mcap_model.specs.Tops.{Top, placed}
use Rattle.mcap_model.proofs.Places.{at_none}
use Rattle.mcap_model.proofs.Lists.{each_cons, each_joined}
use Rattle.mcap_model.proofs.NamedTopics.{zip_back}
use Rattle.id_table.specs.declared.given.Given.{Given}
use Rattle.id_table.specs.declared.given.Given.TheVariants.{Known, New}
use Rattle.history_ids.specs.DeclarationFields.{fields_of_schema, fields_with}
use Rattle.history_ids.specs.Tables.{id_given, id_of, schema_with}
use Rattle.mcap_merge.specs.declared.joining.Declared.{Declared}
use Rattle.mcap_merge.specs.Joining.{declaring_records}
use Rattle.mcap_merge.specs.Contents.{SchemaFitsUnder}

pub none_back : Each IsReadBack []
none_back n r at = absurd (at_none n r at)

one_back : (r : Rec) → RecFits r → Each IsReadBack (r ∷ [])
one_back r fits = each_cons IsReadBack r [] (rec_shown r fits) none_back

-- ---- what is declared

schema_back : (s : Option SchemaDef) (given : Option Given) (id : ℕ) → id ≡ id_of given → SchemaFitsUnder s id → Each IsReadBack (schema_with s given)
schema_back None given id is seen = none_back
schema_back (Some s) None id is seen = none_back
schema_back (Some s) (Some (Known other)) id is seen = none_back
schema_back (Some s) (Some (New other)) id is seen = one_back (schema_of other (fields_of_schema s)) (subst (λ (n : ℕ). RecFits (schema_of n (fields_of_schema s))) is seen)

pub records_back : (d : Declared) (id schema : ℕ) → id ≡ id_given d.ids.channel → schema ≡ id_of d.ids.schema → RecFits (channel_of id (fields_with d.content schema)) → SchemaFitsUnder d.content.schema schema → Each IsReadBack (declaring_records d)
records_back d id schema is schema_is channel seen =
    let named : RecFits (channel_of (id_given d.ids.channel) (fields_with d.content schema)) = subst (λ (n : ℕ). RecFits (channel_of n (fields_with d.content schema))) is channel in
    let last = subst (λ (n : ℕ). RecFits (channel_of (id_given d.ids.channel) (fields_with d.content n))) schema_is named in
    each_joined IsReadBack (schema_with d.content.schema d.ids.schema) (channel_of (id_given d.ids.channel) (fields_with d.content (id_of d.ids.schema)) ∷ [])
    (schema_back d.content.schema d.ids.schema schema schema_is seen) (one_back (channel_of (id_given d.ids.channel) (fields_with d.content (id_of d.ids.schema))) last)

-- ---- a message

-- the message that a content shows, on another channel
pub message_back : (content : List ℕ) (source id : ℕ) (m : MessageFields) → ShowsMessage content source m → id < 65536 → Each IsReadBack (message_of id m ∷ [])
message_back content source id m shows small = one_back (message_of id m) (let short : id < 256 ^ 2 = omega (arith, small) in (short, shows.fit.1))

-- a message of a scan
pub scan_back : (tops : List Top) (messages : List Seen) (k id : ℕ) (s : Seen) → Scan tops messages → At messages k s → id < 65536 → Each IsReadBack (message_of id s.message ∷ [])
scan_back tops messages k id s scan at small =
    let (p, there, is) = zip_back (IsSeen (tops_of (placed tops))) (filter (λ q. is_message_top q.top) (placed tops)) messages k s scan at in
    message_back p.top.content s.channel id s.message is.is.layout small
