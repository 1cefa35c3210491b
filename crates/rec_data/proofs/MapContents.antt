-- A Channel and a Metadata that are shown are not refused.
use Rattle.std.proofs.Common.{ℕ, List}
use Rattle.std.specs.Prelude.{Result, IfErr, OnErr}
use Rattle.mcap_wire.proofs.Contents.{not_refused}
use Rattle.mcap_wire.proofs.Contents.{refused}
use Rattle.mcap_wire.specs.declared.faults.Bad.{Bad}
use Rattle.rec_data.specs.Fields.{ChannelFields, MetadataFields}
use Rattle.rec_data.specs.Records.{channel_kinds, channel_values, ShowsChannel, metadata_kinds, metadata_values, ShowsMetadata}
use Rattle.rec_data.specs.RecordReading.{ChannelFails, MetadataFails}

-- ---- Channel

pub channel_none : {T : Type 0} (content : List ℕ) (r : Result T Bad) → IfErr r (λ bad. ChannelFails content bad.field bad.why) → OnErr r ((id : ℕ) (f : ChannelFields) → ShowsChannel content id f → ⊥)
channel_none content r fails =
    refused channel_kinds content r
    (λ field why bad id f shows. not_refused channel_kinds content field why bad (channel_values id f) shows.0 shows.1)
    fails

-- ---- Metadata

pub metadata_none : {T : Type 0} (content : List ℕ) (r : Result T Bad) → IfErr r (λ bad. MetadataFails content bad.field bad.why) → OnErr r ((f : MetadataFields) → ShowsMetadata content f → ⊥)
metadata_none content r fails =
    refused metadata_kinds content r
    (λ field why bad f shows. not_refused metadata_kinds content field why bad (metadata_values f) shows.0 shows.1)
    fails
