use Rattle.std.proofs.Common.{ℕ, List, [], ◌∷◌, codes, refl}
use Rattle.json.specs.Token.{begin_object}
use Rattle.json.specs.Json.{Json, string}
use Rattle.rec_data.specs.Parsed.{header_fields}
use Rattle.rec_index.specs.Parsed.{statistics_fields}
use Rattle.command_read.specs.Json.{Info, number_value, channels_value, schemas_value, names_value}
use Rattle.command_read.proofs.Added.{adds_more, member_more, object_ends, member_tokens}
use Rattle.command_read.proofs.info.put_info.Goals as goal

abbrev Member : Type 0
Member = List ℕ × Json

pub returns : goal.returns
returns c =
    let old = c.args.out.now in
    let statistics = statistics_fields c.args.statistics.now in
    let header = header_fields c.header-header.result in
    let (channels, channels_are, channels_added) = c.in_ok-put_channels.ensures in
    let (names, names_are, names_added) = c.in_ok-put_names.ensures in
    let (schemas, schemas_are, schemas_added) = c.in_ok-put_schemas.ensures in
    let info : Info = record { header = header; statistics = statistics; channels = channels; schemas = schemas; compressions = names } in
    let m1 : Member = (codes "attachments", number_value statistics.attachments) in
    let m2 : Member = (codes "channels", channels_value statistics.counts channels) in
    let m3 : Member = (codes "chunks", number_value statistics.chunks) in
    let m4 : Member = (codes "compression", names_value names) in
    let m5 : Member = (codes "end", number_value statistics.end) in
    let m6 : Member = (codes "library", string header.library) in
    let m7 : Member = (codes "messages", number_value statistics.messages) in
    let m8 : Member = (codes "metadata", number_value statistics.metadata) in
    let m9 : Member = (codes "profile", string header.profile) in
    let m10 : Member = (codes "schemas", schemas_value schemas) in
    let m11 : Member = (codes "start", number_value statistics.start) in
    let s1 = adds_more member_tokens old c.open_object.new.out c.put_number.new.out begin_object [] m1 c.in_ok-open_object.ensures c.in_ok-put_number.ensures in
    let s2 = member_more old c.put_number.new.out c.put_name.new.out c.put_channels.new.out (m1 ∷ []) m2.0 m2.1 s1 c.in_ok-put_name.ensures channels_added in
    let s3 = adds_more member_tokens old c.put_channels.new.out c.put_number-2.new.out begin_object (m1 ∷ m2 ∷ []) m3 s2 c.in_ok-put_number-2.ensures in
    let s4 = member_more old c.put_number-2.new.out c.put_name-2.new.out c.put_names.new.out (m1 ∷ m2 ∷ m3 ∷ []) m4.0 m4.1 s3 c.in_ok-put_name-2.ensures names_added in
    let s5 = adds_more member_tokens old c.put_names.new.out c.put_number-3.new.out begin_object (m1 ∷ m2 ∷ m3 ∷ m4 ∷ []) m5 s4 c.in_ok-put_number-3.ensures in
    let s6 = adds_more member_tokens old c.put_number-3.new.out c.put_text.new.out begin_object (m1 ∷ m2 ∷ m3 ∷ m4 ∷ m5 ∷ []) m6 s5 c.in_ok-put_text.ensures in
    let s7 = adds_more member_tokens old c.put_text.new.out c.put_number-4.new.out begin_object (m1 ∷ m2 ∷ m3 ∷ m4 ∷ m5 ∷ m6 ∷ []) m7 s6 c.in_ok-put_number-4.ensures in
    let s8 = adds_more member_tokens old c.put_number-4.new.out c.put_number-5.new.out begin_object (m1 ∷ m2 ∷ m3 ∷ m4 ∷ m5 ∷ m6 ∷ m7 ∷ []) m8 s7 c.in_ok-put_number-5.ensures in
    let s9 = adds_more member_tokens old c.put_number-5.new.out c.put_text-2.new.out begin_object (m1 ∷ m2 ∷ m3 ∷ m4 ∷ m5 ∷ m6 ∷ m7 ∷ m8 ∷ []) m9 s8 c.in_ok-put_text-2.ensures in
    let s10 = member_more old c.put_text-2.new.out c.put_name-3.new.out c.put_schemas.new.out (m1 ∷ m2 ∷ m3 ∷ m4 ∷ m5 ∷ m6 ∷ m7 ∷ m8 ∷ m9 ∷ []) m10.0 m10.1 s9 c.in_ok-put_name-3.ensures schemas_added in
    let s11 = adds_more member_tokens old c.put_schemas.new.out c.put_number-6.new.out begin_object (m1 ∷ m2 ∷ m3 ∷ m4 ∷ m5 ∷ m6 ∷ m7 ∷ m8 ∷ m9 ∷ m10 ∷ []) m11 s10 c.in_ok-put_number-6.ensures in (
      info,
      record { statistics_are = refl; header = c.header-header.ensures; channels = channels_are; schemas = schemas_are; compressions = names_are },
      object_ends old c.put_number-6.new.out c.close_object.new.out (m1 ∷ m2 ∷ m3 ∷ m4 ∷ m5 ∷ m6 ∷ m7 ∷ m8 ∷ m9 ∷ m10 ∷ m11 ∷ []) s11 c.in_ok-close_object.ensures,
    )
