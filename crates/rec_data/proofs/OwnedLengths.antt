-- How long the records that own what they hold are.
use Rattle.std.proofs.Common.{◌≡◌, ℕ, ◌+◌, List, [], ◌++◌, length, ap, arith}
use Rattle.std.proofs.lemmas.List.{length-append}
use Rattle.mcap_wire.specs.Layout.{le, string, prefixed, framed}
use Rattle.mcap_wire.specs.Maps.{pair_texts, text_map}
use Rattle.mcap_wire.proofs.Numbers.{length-le}
use Rattle.mcap_wire.proofs.Framing.{length-string, length-prefixed, length-framed}
use Rattle.rec_data.specs.Fields.{SchemaFields, ChannelFields, MessageFields}
use Rattle.rec_data.specs.Records.{schema_text, channel_text, message_text}
use Rattle.rec_data.proofs.Contents.{length-message_text}

pub length-schema_text : (id : ℕ) (f : SchemaFields) → length (schema_text id f) ≡ 14 + length f.name + length f.encoding + length f.payload
length-schema_text id f =
    let a = length-append (le 2 id) (string f.name ++ (string f.encoding ++ (prefixed 4 f.payload ++ []))) in
    let b = length-append (string f.name) (string f.encoding ++ (prefixed 4 f.payload ++ [])) in
    let c = length-append (string f.encoding) (prefixed 4 f.payload ++ []) in
    let d = length-append (prefixed 4 f.payload) [] in
    let e = length-le 2 id in
    let g = length-string f.name in
    let h = length-string f.encoding in
    let i = length-prefixed 4 f.payload in
    omega arith

pub length-channel_text : (id : ℕ) (f : ChannelFields) → length (channel_text id f) ≡ 16 + length f.topic + length f.encoding + length (pair_texts f.metadata)
length-channel_text id f =
    let a = length-append (le 2 id) (le 2 f.schema ++ (string f.topic ++ (string f.encoding ++ (text_map f.metadata ++ [])))) in
    let b = length-append (le 2 f.schema) (string f.topic ++ (string f.encoding ++ (text_map f.metadata ++ []))) in
    let c = length-append (string f.topic) (string f.encoding ++ (text_map f.metadata ++ [])) in
    let d = length-append (string f.encoding) (text_map f.metadata ++ []) in
    let e = length-append (text_map f.metadata) [] in
    let g = length-le 2 id in
    let h = length-le 2 f.schema in
    let i = length-string f.topic in
    let j = length-string f.encoding in
    let k = length-append (le 4 (length (pair_texts f.metadata))) (pair_texts f.metadata) in
    let l = length-le 4 (length (pair_texts f.metadata)) in
    omega arith

pub schema_len : (id : ℕ) (f : SchemaFields) (a b d : List ℕ) → a ≡ f.name → b ≡ f.encoding → d ≡ f.payload → 23 + (length a + length b) + length d ≡ length (framed 3 (schema_text id f))
schema_len id f a b d p q r =
    omega (arith, length-framed 3 (schema_text id f), length-schema_text id f, ap length p, ap length q, ap length r)

pub channel_len : (id : ℕ) (f : ChannelFields) (a b : List ℕ) (n : ℕ) → a ≡ f.topic → b ≡ f.encoding → n ≡ length (pair_texts f.metadata) → 25 + (length a + length b) + n ≡ length (framed 4 (channel_text id f))
channel_len id f a b n p q r =
    omega (arith, length-framed 4 (channel_text id f), length-channel_text id f, ap length p, ap length q, r)

pub extra_len : (op : ℕ) (content a : List ℕ) → a ≡ content → 9 + length a ≡ length (framed op content)
extra_len op content a p = omega (arith, length-framed op content, ap length p)

pub message_len : (channel_id : ℕ) (m : MessageFields) (a : List ℕ) → a ≡ m.payload → 31 + length a ≡ length (framed 5 (message_text channel_id m))
message_len channel_id m a p =
    omega (arith, length-framed 5 (message_text channel_id m), length-message_text channel_id m, ap length p)
