-- The records of a summary meet their layouts, and the flat ones are copies.
use Rattle.std.proofs.Common.{◌≡◌, ℕ, suc, ◌+◌, ◌^◌, ◌<◌, ◌≤◌, true, false, eqb, List, [], ◌∷◌, ◌++◌, length, take, map, refl, sym, ap, subst, ◌∙◌, arith}
use Rattle.std.specs.Prelude.{AllPairs, ◌==◌, ◌≢◌}
use Rattle.std.specs.List.{flat_map}
use Rattle.std.proofs.lemmas.Bool.{both_ways, eqb-true}
use Rattle.std.proofs.lemmas.Bool.Decides.{Decides-eqb}
use Rattle.std.proofs.lemmas.List.{append-nil, length-map}
use Rattle.std.proofs.lemmas.List.Kept.{AllPairs-filter}
use Rattle.std.proofs.lemmas.Grind.{flat_map-append}
use Rattle.std.proofs.lemmas.Map.Steps.{length-le_from_distinct_below}
use Rattle.std.proofs.lemmas.Map.Made.{IsDistinct-from_AllPairs}
use Rattle.mcap_wire.specs.Arrays.{EntryFits, entry_texts}
use Rattle.mcap_wire.specs.Maps.{KeysDiffer}
use Rattle.mcap_wire.proofs.Contents.{row_shown, shows_decided}
use Rattle.rec_data.specs.declared.owned.Rec.{Rec}
use Rattle.rec_data.specs.declared.owned.Rec.TheVariants.{Schema, Channel, Message, Extra}
use Rattle.rec_data.specs.Owned.{rec_text}
use Rattle.rec_index.specs.Records.{statistics_kinds, statistics_values, summary_offset_text}
use Rattle.mcap_model.specs.Places.{At, Has, Each}
use Rattle.mcap_model.specs.Tops.{Top, top_bytes, flattened, flat}
use Rattle.mcap_model.specs.Fields.{StatisticsFields, IsStatistics}
use Rattle.mcap_model.specs.History.{rec_top, schema_of, channel_of, is_schema, is_channel, history_bytes, without_repeats}
use Rattle.mcap_model.specs.Blocks.{Logged, logged, logged_channels, log_times, chunk_bytes, indexes_bytes}
use Rattle.mcap_model.specs.Summary.{Noted, Group, group_bytes, groups_of, has_some, schemas_of, channels_of, extras_of_kind, messages_on, statistics_content, chunk_index_content, attachment_index_content, metadata_index_content, offset_contents, written_index, written_statistics, group_fields}
use Rattle.mcap_model.specs.AttachmentIndexes.{indexed_attachment}
use Rattle.mcap_model.specs.Laws.{IsNumberedRec, IsInner}
use Rattle.mcap_model.specs.ReadBack.{IsReadBack, IsExtra}
use Rattle.mcap_model.proofs.Places.{at_none, pairs_more}
use Rattle.mcap_model.proofs.ReadBack.{at_map}
use Rattle.mcap_model.proofs.Readings.{top_of}
use Rattle.mcap_model.proofs.Histories.{rec_meets, recs_flat}
use Rattle.mcap_model.proofs.Asides.{schema_inner, channel_inner}
use Rattle.mcap_model.proofs.WrittenChunks.{time_fits, least_fits, greatest_fits, each_map}
use Rattle.mcap_model.proofs.Lists.{each_cons, each_joined, filter_passed, pairs_at, pairs_from, pairs_cons, all_from}
use Rattle.mcap_model.proofs.Logged.{channels_ascend, channels_fit, few_channels, length-entries}
use Rattle.mcap_model.proofs.ShownBack.{chunk_index_shown, summary_offset_shown}
use Rattle.mcap_model.proofs.ExtraIndexes.{attachment_index_shown, metadata_index_shown}
use Rattle.mcap_model.proofs.Distinct.{any_has, repeats_are, rec_id, schema_ids, schema_ids_apart, schema_id_is, channel_ids, channel_ids_apart, channel_id_is}
use Rattle.mcap_model.proofs.Meets.{chunk_index_meets, attachment_index_meets, metadata_index_meets, statistics_meets, summary_offset_meets}
use Rattle.mcap_model.proofs.Files.{group_tops, groups_tops, offset_tops}
use Rattle.mcap_model.proofs.Groups.{in_front_all, groups_filter, offset_group}
use Rattle.mcap_model.proofs.Flat.{map-append, at_mapped}
use Rattle.mcap_model.proofs.Front.{IsTail}
use Rattle.mcap_model.proofs.Logging.{few_filtered}

-- ---- the groups

abbrev pub schema_group : Noted → Group
schema_group n = record { op = 3; contents = map rec_text (schemas_of n.records) }

abbrev pub channel_group : Noted → Group
channel_group n = record { op = 4; contents = map rec_text (channels_of n.records) }

abbrev pub statistics_group : Noted → Group
statistics_group n = record { op = 11; contents = statistics_content n ∷ [] }

abbrev pub chunk_index_group : Noted → Group
chunk_index_group n = record { op = 8; contents = map chunk_index_content n.blocks }

abbrev pub attachment_index_group : Noted → Group
attachment_index_group n = record { op = 10; contents = map attachment_index_content (extras_of_kind 9 n.extras) }

abbrev pub metadata_index_group : Noted → Group
metadata_index_group n = record { op = 13; contents = map metadata_index_content (extras_of_kind 12 n.extras) }

abbrev pub all_groups : Noted → List Group
all_groups n = schema_group n ∷ channel_group n ∷ statistics_group n ∷ chunk_index_group n ∷ attachment_index_group n ∷ metadata_index_group n ∷ []

abbrev pub offsets_group : ℕ → Noted → Group
offsets_group at n = record { op = 14; contents = offset_contents at (groups_of n) }

-- those that are there, and the Summary Offsets
abbrev pub with_offsets : ℕ → Noted → List Group
with_offsets at n = groups_of n ++ offsets_group at n ∷ []

-- all groups, those without records too
abbrev pub full_groups : ℕ → Noted → List Group
full_groups at n = all_groups n ++ offsets_group at n ∷ []

pub full_tops : (at : ℕ) (n : Noted) → groups_tops (full_groups at n) ≡ groups_tops (groups_of n) ++ offset_tops at (groups_of n)
full_tops at n = flat_map-append group_tops (all_groups n) (offsets_group at n ∷ []) ∙ ap (λ (l : List Top). groups_tops (all_groups n) ++ l) (append-nil (offset_tops at (groups_of n)))
    ∙ ap (λ (l : List Top). l ++ offset_tops at (groups_of n)) (sym (groups_filter (all_groups n)))

pub with_offsets_tops : (at : ℕ) (n : Noted) → groups_tops (with_offsets at n) ≡ groups_tops (groups_of n) ++ offset_tops at (groups_of n)
with_offsets_tops at n = flat_map-append group_tops (groups_of n) (offsets_group at n ∷ []) ∙ ap (λ (l : List Top). groups_tops (groups_of n) ++ l) (append-nil (offset_tops at (groups_of n)))

all_apart : (n : Noted) → AllPairs (λ g h. g.op ≢ h.op) (all_groups n)
all_apart n = pairs_cons (λ g h. g.op ≢ h.op) (schema_group n) (channel_group n ∷ statistics_group n ∷ chunk_index_group n ∷ attachment_index_group n ∷ metadata_index_group n ∷ []) (each_cons (λ h. (schema_group n).op ≢ h.op) (channel_group n) (statistics_group n ∷ chunk_index_group n ∷ attachment_index_group n ∷ metadata_index_group n ∷ []) (λ e. omega (arith, e)) (each_cons (λ h. (schema_group n).op ≢ h.op) (statistics_group n) (chunk_index_group n ∷ attachment_index_group n ∷ metadata_index_group n ∷ []) (λ e. omega (arith, e)) (each_cons (λ h. (schema_group n).op ≢ h.op) (chunk_index_group n) (attachment_index_group n ∷ metadata_index_group n ∷ []) (λ e. omega (arith, e)) (each_cons (λ h. (schema_group n).op ≢ h.op) (attachment_index_group n) (metadata_index_group n ∷ []) (λ e. omega (arith, e)) (each_cons (λ h. (schema_group n).op ≢ h.op) (metadata_index_group n) ([]) (λ e. omega (arith, e)) (λ m x at. absurd (at_none m x at))))))) (
    pairs_cons (λ g h. g.op ≢ h.op) (channel_group n) (statistics_group n ∷ chunk_index_group n ∷ attachment_index_group n ∷ metadata_index_group n ∷ []) (each_cons (λ h. (channel_group n).op ≢ h.op) (statistics_group n) (chunk_index_group n ∷ attachment_index_group n ∷ metadata_index_group n ∷ []) (λ e. omega (arith, e)) (each_cons (λ h. (channel_group n).op ≢ h.op) (chunk_index_group n) (attachment_index_group n ∷ metadata_index_group n ∷ []) (λ e. omega (arith, e)) (each_cons (λ h. (channel_group n).op ≢ h.op) (attachment_index_group n) (metadata_index_group n ∷ []) (λ e. omega (arith, e)) (each_cons (λ h. (channel_group n).op ≢ h.op) (metadata_index_group n) ([]) (λ e. omega (arith, e)) (λ m x at. absurd (at_none m x at)))))) (
    pairs_cons (λ g h. g.op ≢ h.op) (statistics_group n) (chunk_index_group n ∷ attachment_index_group n ∷ metadata_index_group n ∷ []) (each_cons (λ h. (statistics_group n).op ≢ h.op) (chunk_index_group n) (attachment_index_group n ∷ metadata_index_group n ∷ []) (λ e. omega (arith, e)) (each_cons (λ h. (statistics_group n).op ≢ h.op) (attachment_index_group n) (metadata_index_group n ∷ []) (λ e. omega (arith, e)) (each_cons (λ h. (statistics_group n).op ≢ h.op) (metadata_index_group n) ([]) (λ e. omega (arith, e)) (λ m x at. absurd (at_none m x at))))) (
    pairs_cons (λ g h. g.op ≢ h.op) (chunk_index_group n) (attachment_index_group n ∷ metadata_index_group n ∷ []) (each_cons (λ h. (chunk_index_group n).op ≢ h.op) (attachment_index_group n) (metadata_index_group n ∷ []) (λ e. omega (arith, e)) (each_cons (λ h. (chunk_index_group n).op ≢ h.op) (metadata_index_group n) ([]) (λ e. omega (arith, e)) (λ m x at. absurd (at_none m x at)))) (
    pairs_cons (λ g h. g.op ≢ h.op) (attachment_index_group n) (metadata_index_group n ∷ []) (each_cons (λ h. (attachment_index_group n).op ≢ h.op) (metadata_index_group n) ([]) (λ e. omega (arith, e)) (λ m x at. absurd (at_none m x at))) (
    pairs_cons (λ g h. g.op ≢ h.op) (metadata_index_group n) ([]) (λ m x at. absurd (at_none m x at)) (
    pairs_from (λ (g h : Group). g.op ≢ h.op) [] (λ i j x y less at other. absurd (at_none i x at))))))))

-- what holds of the six holds of those that are there
each_there : (P : Group → Type 0) (n : Noted) → Each P (all_groups n) → Each P (groups_of n)
each_there P n each k g at = let passed = filter_passed (λ (h : Group). has_some h.contents) (all_groups n) k g at in let has = passed.0 in each has.0 g has.1

pub six_kinds : (P : ℕ → Type 0) → P 3 → P 4 → P 11 → P 8 → P 10 → P 13 → (n : Noted) → Each (λ g. P g.op) (groups_of n)
six_kinds P a b c d e f n = each_there (λ g. P g.op) n
    (each_cons (λ g. P g.op) (schema_group n) (channel_group n ∷ statistics_group n ∷ chunk_index_group n ∷ attachment_index_group n ∷ metadata_index_group n ∷ []) a (each_cons (λ g. P g.op) (channel_group n) (statistics_group n ∷ chunk_index_group n ∷ attachment_index_group n ∷ metadata_index_group n ∷ []) b (each_cons (λ g. P g.op) (statistics_group n) (chunk_index_group n ∷ attachment_index_group n ∷ metadata_index_group n ∷ []) c (each_cons (λ g. P g.op) (chunk_index_group n) (attachment_index_group n ∷ metadata_index_group n ∷ []) d
    (each_cons (λ g. P g.op) (attachment_index_group n) (metadata_index_group n ∷ []) e (each_cons (λ g. P g.op) (metadata_index_group n) [] f (λ k g at. absurd (at_none k g at))))))))

pub groups_apart : (at : ℕ) (n : Noted) → AllPairs (λ g h. g.op ≢ h.op) (with_offsets at n)
groups_apart at n = pairs_more (λ (g h : Group). g.op ≢ h.op) (groups_of n) (offsets_group at n) (AllPairs-filter (λ (g h : Group). g.op ≢ h.op) (λ g. has_some g.contents) (all_groups n) (all_apart n))
    (six_kinds (λ k. k ≢ 14) (λ e. omega (arith, e)) (λ e. omega (arith, e)) (λ e. omega (arith, e)) (λ e. omega (arith, e)) (λ e. omega (arith, e)) (λ e. omega (arith, e)) n)

each_six : (P : Group → Type 0) (n : Noted) → P (schema_group n) → P (channel_group n) → P (statistics_group n) → P (chunk_index_group n) → P (attachment_index_group n) → P (metadata_index_group n) → Each P (all_groups n)
each_six P n a b c d e f =
    each_cons P (schema_group n) (channel_group n ∷ statistics_group n ∷ chunk_index_group n ∷ attachment_index_group n ∷ metadata_index_group n ∷ []) a
    (each_cons P (channel_group n) (statistics_group n ∷ chunk_index_group n ∷ attachment_index_group n ∷ metadata_index_group n ∷ []) b
    (each_cons P (statistics_group n) (chunk_index_group n ∷ attachment_index_group n ∷ metadata_index_group n ∷ []) c
    (each_cons P (chunk_index_group n) (attachment_index_group n ∷ metadata_index_group n ∷ []) d
    (each_cons P (attachment_index_group n) (metadata_index_group n ∷ []) e
    (each_cons P (metadata_index_group n) [] f (λ k g at. absurd (at_none k g at)))))))

pub each_full : (P : Group → Type 0) (at : ℕ) (n : Noted) → P (schema_group n) → P (channel_group n) → P (statistics_group n) → P (chunk_index_group n) → P (attachment_index_group n) → P (metadata_index_group n) → P (record { op = 14; contents = offset_contents at (groups_of n) }) → Each P (full_groups at n)
each_full P at n a b c d e f g = each_joined P (all_groups n) (offsets_group at n ∷ []) (each_six P n a b c d e f) (each_cons P (offsets_group at n) [] g (λ k h at. absurd (at_none k h at)))

pub full_apart : (at : ℕ) (n : Noted) → AllPairs (λ g h. g.op ≢ h.op) (full_groups at n)
full_apart at n = pairs_more (λ (g h : Group). g.op ≢ h.op) (all_groups n) (offsets_group at n) (all_apart n)
    (each_six (λ g. g.op ≢ 14) n (λ e. omega (arith, e)) (λ e. omega (arith, e)) (λ e. omega (arith, e)) (λ e. omega (arith, e)) (λ e. omega (arith, e)) (λ e. omega (arith, e)))

-- ---- copies

as_schemas : (l : List Rec) → Each (λ r. is_schema r ≡ true) l → map (top_of 3) (map rec_text l) ≡ map rec_top l
as_schemas [] each = refl
as_schemas (Schema id s ∷ rs) each = ap (λ (l : List Top). rec_top (Schema id s) ∷ l) (as_schemas rs (λ n x at. each (suc n) x at))
as_schemas (Channel id schema topic encoding metadata ∷ rs) each = absurd (both_ways false refl (each 0 (Channel id schema topic encoding metadata) refl))
as_schemas (Message channel sequence log_time publish_time payload ∷ rs) each = absurd (both_ways false refl (each 0 (Message channel sequence log_time publish_time payload) refl))
as_schemas (Extra op content ∷ rs) each = absurd (both_ways false refl (each 0 (Extra op content) refl))

as_channels : (l : List Rec) → Each (λ r. is_channel r ≡ true) l → map (top_of 4) (map rec_text l) ≡ map rec_top l
as_channels [] each = refl
as_channels (Channel id schema topic encoding metadata ∷ rs) each = ap (λ (l : List Top). rec_top (Channel id schema topic encoding metadata) ∷ l) (as_channels rs (λ n x at. each (suc n) x at))
as_channels (Schema id s ∷ rs) each = absurd (both_ways false refl (each 0 (Schema id s) refl))
as_channels (Message channel sequence log_time publish_time payload ∷ rs) each = absurd (both_ways false refl (each 0 (Message channel sequence log_time publish_time payload) refl))
as_channels (Extra op content ∷ rs) each = absurd (both_ways false refl (each 0 (Extra op content) refl))

pub schema_tops : (n : Noted) → group_tops (schema_group n) ≡ map rec_top (schemas_of n.records)
schema_tops n = as_schemas (schemas_of n.records) (λ k r at. (filter_passed is_schema (without_repeats n.records) k r at).1)

pub channel_tops : (n : Noted) → group_tops (channel_group n) ≡ map rec_top (channels_of n.records)
channel_tops n = as_channels (channels_of n.records) (λ k r at. (filter_passed is_channel (without_repeats n.records) k r at).1)

none_flat : (op : ℕ) → ((content : List ℕ) → flattened (top_of op content) ≡ []) → (contents : List (List ℕ)) → flat (map (top_of op) contents) ≡ []
none_flat op none [] = refl
none_flat op none (c ∷ cs) = ap (λ (l : List Top). l ++ flat (map (top_of op) cs)) (none c) ∙ none_flat op none cs

pub schemas_has : (history : List Rec) → Each (Has history) (schemas_of history)
schemas_has history k r at = repeats_are history r (filter_passed is_schema (without_repeats history) k r at).0

pub channels_has : (history : List Rec) → Each (Has history) (channels_of history)
channels_has history k r at = repeats_are history r (filter_passed is_channel (without_repeats history) k r at).0

abbrev pub copies : Noted → List Rec
copies n = schemas_of n.records ++ channels_of n.records

pub copies_has : (n : Noted) → Each (Has (map rec_top n.records)) (map rec_top (copies n))
copies_has n = each_map rec_top (Has (map rec_top n.records)) (copies n)
    (λ k r at. let has = each_joined (Has n.records) (schemas_of n.records) (channels_of n.records) (schemas_has n.records) (channels_has n.records) k r at in (has.0, at_mapped rec_top n.records has.0 r has.1))

schemas_inner : (records : List Rec) → Each IsInner (schemas_of records)
schemas_inner records k r at = schema_inner r (filter_passed is_schema (without_repeats records) k r at).1

channels_inner : (records : List Rec) → Each IsInner (channels_of records)
channels_inner records k r at = channel_inner r (filter_passed is_channel (without_repeats records) k r at).1

pub summary_flat : (at : ℕ) (n : Noted) → flat (groups_tops (groups_of n) ++ offset_tops at (groups_of n)) ≡ map rec_top (copies n)
summary_flat at n =
    let s = map rec_top (schemas_of n.records) in
    let c = map rec_top (channels_of n.records) in
    let offsets : flat (offset_tops at (groups_of n)) ≡ [] = none_flat 14 (λ x. refl) (offset_contents at (groups_of n)) in
    let rest = group_tops (statistics_group n) ++ (group_tops (chunk_index_group n) ++ (group_tops (attachment_index_group n) ++ (group_tops (metadata_index_group n) ++ []))) in
    let behind : flat rest ≡ [] =
    flat_map-append flattened (group_tops (chunk_index_group n)) (group_tops (attachment_index_group n) ++ (group_tops (metadata_index_group n) ++ []))
    ∙ ap (λ (l : List Top). l ++ flat (group_tops (attachment_index_group n) ++ (group_tops (metadata_index_group n) ++ []))) (none_flat 8 (λ x. refl) (map chunk_index_content n.blocks))
    ∙ flat_map-append flattened (group_tops (attachment_index_group n)) (group_tops (metadata_index_group n) ++ [])
    ∙ ap (λ (l : List Top). l ++ flat (group_tops (metadata_index_group n) ++ [])) (none_flat 10 (λ x. refl) (map attachment_index_content (extras_of_kind 9 n.extras)))
    ∙ ap flat (append-nil (group_tops (metadata_index_group n)))
    ∙ none_flat 13 (λ x. refl) (map metadata_index_content (extras_of_kind 12 n.extras)) in
    flat_map-append flattened (groups_tops (groups_of n)) (offset_tops at (groups_of n))
    ∙ ap (λ (l : List Top). flat (groups_tops (groups_of n)) ++ l) offsets
    ∙ append-nil (flat (groups_tops (groups_of n)))
    ∙ ap flat (groups_filter (all_groups n))
    ∙ flat_map-append flattened (group_tops (schema_group n)) (group_tops (channel_group n) ++ rest)
    ∙ ap (λ (l : List Top). flat l ++ flat (group_tops (channel_group n) ++ rest)) (schema_tops n)
    ∙ ap (λ (l : List Top). l ++ flat (group_tops (channel_group n) ++ rest)) (recs_flat (schemas_of n.records) (schemas_inner n.records))
    ∙ ap (λ (l : List Top). s ++ l) (flat_map-append flattened (group_tops (channel_group n)) rest ∙ ap (λ (l : List Top). flat (group_tops (channel_group n)) ++ l) behind ∙ append-nil (flat (group_tops (channel_group n))) ∙ ap flat (channel_tops n) ∙ recs_flat (channels_of n.records) (channels_inner n.records))
    ∙ sym (map-append rec_top (schemas_of n.records) (channels_of n.records))

-- ---- few ids

pub few_apart : (xs : List ℕ) (n : ℕ) → AllPairs (λ a b. a ≢ b) xs → Each (λ x. x < n) xs → length xs ≤ n
few_apart xs n apart below = length-le_from_distinct_below xs n (IsDistinct-from_AllPairs Decides-eqb xs apart) (λ q any.
    let (k, x, at, same) = any_has (eqb q) xs any in
    let small = below k x at in
    let own = eqb-true q x same in
    omega (arith, small, own))

-- ---- all that is asked of what is noted

pub record NotedFits (n : Noted) (at : ℕ) : Type 0 where
  pub back : Each IsReadBack n.records
  pub numbered : Each IsNumberedRec n.records
  pub messages : length (logged n.records) < 2 ^ 64
  pub blocks : (k : ℕ) (b : ℕ × List Rec) → At n.blocks k b → Each IsReadBack b.1 × (length (history_bytes b.1) < 2 ^ 64) × (b.0 + length (chunk_bytes b.1) + length (indexes_bytes b.1 (logged_channels b.1)) < 2 ^ 64)
  pub extras : (k : ℕ) (e : ℕ × Top) → At n.extras k e → IsExtra e.1 × (e.0 + length (top_bytes e.1) < 2 ^ 64)
  pub room : at + length (flat_map group_bytes (groups_of n)) < 2 ^ 64

-- ---- Statistics

-- a Schema's id isn't 0, so there are fewer than 2^16
schema_ids_fit : (history : List Rec) → Each IsReadBack history → Each IsNumberedRec history → Each (λ id. (id < 2 ^ 16) × (id ≢ 0)) (schema_ids history)
schema_ids_fit history back numbered k id at =
    let (n, f, there) = schema_id_is history id (k, at) in
    let shown = (back n (schema_of id f) there).1.1 in
    let fit = shown.fit in
    let small : id < 256 ^ 2 = fit.0 in
    (omega (arith, small), numbered n (schema_of id f) there id f refl)

pub few_schemas : (history : List Rec) → Each IsReadBack history → Each IsNumberedRec history → length (schemas_of history) < 2 ^ 16
few_schemas history back numbered =
    let fit = schema_ids_fit history back numbered in
    let below : Each (λ x. x < 2 ^ 16) (0 ∷ schema_ids history) = each_cons (λ x. x < 2 ^ 16) 0 (schema_ids history) (omega arith) (λ k id at. let one = fit k id at in one.0) in
    let apart : AllPairs (λ a b. a ≢ b) (0 ∷ schema_ids history) = pairs_cons (λ (a b : ℕ). a ≢ b) 0 (schema_ids history) (λ k id at same. let one = fit k id at in one.1 (sym same)) (schema_ids_apart history) in
    let few = few_apart (0 ∷ schema_ids history) (2 ^ 16) apart below in
    omega (arith, few, length-map (schemas_of history) rec_id)

channel_ids_fit : (history : List Rec) → Each IsReadBack history → Each (λ id. id < 2 ^ 16) (channel_ids history)
channel_ids_fit history back k id at =
    let (n, f, there) = channel_id_is history id (k, at) in
    let shown = (back n (channel_of id f) there).1.1 in
    let fit = shown.fit in
    let small : id < 256 ^ 2 = fit.0 in
    omega (arith, small)

pub few_channel_ids : (history : List Rec) → Each IsReadBack history → length (channels_of history) ≤ 65536
few_channel_ids history back =
    let few = few_apart (channel_ids history) (2 ^ 16) (channel_ids_apart history) (channel_ids_fit history back) in
    omega (arith, few, length-map (channels_of history) rec_id)

abbrev pub count_entry : List Rec → ℕ → ℕ × ℕ
count_entry records id = (id, messages_on records id)

statistics_fields : ℕ → ℕ → ℕ → ℕ → ℕ → ℕ → ℕ → ℕ → List (ℕ × ℕ) → StatisticsFields
statistics_fields messages schemas channels attachments metadata chunks start end counts = record {
  messages = messages;
  schemas = schemas;
  channels = channels;
  attachments = attachments;
  metadata = metadata;
  chunks = chunks;
  start = start;
  end = end;
  counts = counts;
}

pub statistics_shown : (n : Noted) (at : ℕ) → NotedFits n at → IsStatistics (top_of 11 (statistics_content n)) (written_statistics n)
statistics_shown n at fits =
    let f = written_statistics n in
    let fit = λ (x : ℕ) (has : Has (log_times n.records) x). time_fits n.records x fits.back has in
    let schemas = few_schemas n.records fits.back fits.numbered in
    let messages = fits.messages in
    record {
      kind = refl;
      layout = row_shown statistics_kinds (statistics_values f)
          (omega (arith, messages), (omega (arith, schemas), (omega arith, (omega arith, (omega arith, (omega arith, (least_fits (log_times n.records) fit, (greatest_fits (log_times n.records) fit, ((map_small, all_from (EntryFits 2) (map (count_entry n.records) (logged_channels n.records)) entry, differ), tt)))))))));
    }
  where
    map_small : length (entry_texts 2 (map (count_entry n.records) (logged_channels n.records))) < 2 ^ 32
    map_small =
        let size = length-entries 2 (map (count_entry n.records) (logged_channels n.records)) in
        let count = length-map (logged_channels n.records) (count_entry n.records) in
        let few = few_channels n.records fits.back in
        omega (arith, size, count, few)

    entry : Each (EntryFits 2) (map (count_entry n.records) (logged_channels n.records))
    entry k p there =
        let (id, at_id, same) = at_map (count_entry n.records) (logged_channels n.records) k p there in
        let low = channels_fit n.records fits.back k id at_id in
        let first : p.0 ≡ id = ap (λ (q : ℕ × ℕ). q.0) same in
        let second : p.1 ≡ messages_on n.records id = ap (λ (q : ℕ × ℕ). q.1) same in
        let few : messages_on n.records id ≤ length (logged n.records) = few_filtered (λ (e : Logged). e.channel == id) (logged n.records) in
        let messages = fits.messages in
        record { first_fits = omega (arith, low, first); second_fits = omega (arith, second, few, messages) }

    differ : KeysDiffer (map (count_entry n.records) (logged_channels n.records))
    differ = pairs_from {X = ℕ × ℕ} (λ p q. p.0 ≢ q.0) (map (count_entry n.records) (logged_channels n.records)) (λ i j p q less one other same.
        let first = at_map (count_entry n.records) (logged_channels n.records) i p one in
        let second = at_map (count_entry n.records) (logged_channels n.records) j q other in
        let up = pairs_at (λ (a b : ℕ). a < b) (logged_channels n.records) (channels_ascend n.records) i j first.0 second.0 less first.1 second.1 in
        let p_is : p.0 ≡ first.0 = ap (λ (x : ℕ × ℕ). x.0) first.2 in
        let q_is : q.0 ≡ second.0 = ap (λ (x : ℕ × ℕ). x.0) second.2 in
        omega (arith, up, same, p_is, q_is))

pub statistics_shows : (n : Noted) (at : ℕ) (f : StatisticsFields) → NotedFits n at → IsStatistics (top_of 11 (statistics_content n)) f → written_statistics n ≡ f
unfolding statistics_fields
statistics_shows n at f fits is =
    let w = written_statistics n in
    let same = shows_decided statistics_kinds (statistics_content n) (statistics_values w) (statistics_values f) (statistics_shown n at fits).layout is.layout in
    ap (λ v. statistics_fields v.0 v.1.0 v.1.1.0 v.1.1.1.0 v.1.1.1.1.0 v.1.1.1.1.1.0 v.1.1.1.1.1.1.0 v.1.1.1.1.1.1.1.0 v.1.1.1.1.1.1.1.1.0) same

-- ---- each record of the summary

schema_tail : (r : Rec) → is_schema r ≡ true → IsReadBack r → IsNumberedRec r → IsTail (rec_top r)
schema_tail (Schema id s) is back numbered = record { kind = refl; v6 = rec_meets (Schema id s) back numbered }
schema_tail (Channel id schema topic encoding metadata) is back numbered = absurd (both_ways false refl is)
schema_tail (Message channel sequence log_time publish_time payload) is back numbered = absurd (both_ways false refl is)
schema_tail (Extra op content) is back numbered = absurd (both_ways false refl is)

channel_tail : (r : Rec) → is_channel r ≡ true → IsReadBack r → IsNumberedRec r → IsTail (rec_top r)
channel_tail (Channel id schema topic encoding metadata) is back numbered = record { kind = refl; v6 = rec_meets (Channel id schema topic encoding metadata) back numbered }
channel_tail (Schema id s) is back numbered = absurd (both_ways false refl is)
channel_tail (Message channel sequence log_time publish_time payload) is back numbered = absurd (both_ways false refl is)
channel_tail (Extra op content) is back numbered = absurd (both_ways false refl is)

-- the group's bytes lie within those of all groups
pub group_room : (n : Noted) (at k : ℕ) (g : Group) → NotedFits n at → At (groups_of n) k g → at + length (flat_map group_bytes (take k (groups_of n))) + length (group_bytes g) < 2 ^ 64
group_room n at k g fits there =
    let within = in_front_all group_bytes (groups_of n) k g there in
    let room = fits.room in
    omega (arith, within, room)

pub summary_tail : (n : Noted) (at : ℕ) → NotedFits n at → Each IsTail (groups_tops (groups_of n) ++ offset_tops at (groups_of n))
summary_tail n at fits = each_joined IsTail (groups_tops (groups_of n)) (offset_tops at (groups_of n))
    (subst (Each IsTail) (sym (groups_filter (all_groups n)))
    (each_joined IsTail (group_tops (schema_group n)) (group_tops (channel_group n) ++ (group_tops (statistics_group n) ++ (group_tops (chunk_index_group n) ++ (group_tops (attachment_index_group n) ++ (group_tops (metadata_index_group n) ++ []))))) schemas
    (each_joined IsTail (group_tops (channel_group n)) (group_tops (statistics_group n) ++ (group_tops (chunk_index_group n) ++ (group_tops (attachment_index_group n) ++ (group_tops (metadata_index_group n) ++ [])))) channels behind)))
    offsets
  where
    schemas : Each IsTail (group_tops (schema_group n))
    schemas = subst (Each IsTail) (sym (schema_tops n)) (each_map rec_top IsTail (schemas_of n.records) (λ k r there.
        let passed = filter_passed is_schema (without_repeats n.records) k r there in
        let has = schemas_has n.records k r there in
        schema_tail r passed.1 (fits.back has.0 r has.1) (fits.numbered has.0 r has.1)))

    channels : Each IsTail (group_tops (channel_group n))
    channels = subst (Each IsTail) (sym (channel_tops n)) (each_map rec_top IsTail (channels_of n.records) (λ k r there.
        let passed = filter_passed is_channel (without_repeats n.records) k r there in
        let has = channels_has n.records k r there in
        channel_tail r passed.1 (fits.back has.0 r has.1) (fits.numbered has.0 r has.1)))

    statistics : Each IsTail (group_tops (statistics_group n))
    statistics = each_cons IsTail (top_of 11 (statistics_content n)) [] (record { kind = refl; v6 = statistics_meets (top_of 11 (statistics_content n)) (written_statistics n) (statistics_shown n at fits) }) (λ k t there. absurd (at_none k t there))

    chunks : Each IsTail (group_tops (chunk_index_group n))
    chunks = each_map (top_of 8) IsTail (map chunk_index_content n.blocks) (each_map chunk_index_content (λ c. IsTail (top_of 8 c)) n.blocks (λ k b there.
        let one = fits.blocks k b there in
        record { kind = refl; v6 = chunk_index_meets (top_of 8 (chunk_index_content b)) (written_index b.0 b.1) (chunk_index_shown b.0 b.1 one.0 one.1 one.2) }))

    attachments : Each IsTail (group_tops (attachment_index_group n))
    attachments = each_map (top_of 10) IsTail (map attachment_index_content (extras_of_kind 9 n.extras)) (each_map attachment_index_content (λ c. IsTail (top_of 10 c)) (extras_of_kind 9 n.extras) (λ k e there.
        let (has, kind) = filter_passed (λ (x : ℕ × Top). x.1.op == 9) n.extras k e there in
        let one = fits.extras has.0 e has.1 in
        let meets = one.0.v6 in
        let (f, is) = meets.attachment (eqb-true e.1.op 9 kind) in
        record { kind = refl; v6 = attachment_index_meets (top_of 10 (attachment_index_content e)) (indexed_attachment e.0 e.1 f) (attachment_index_shown e.0 e.1 f is one.1) }))

    metadata : Each IsTail (group_tops (metadata_index_group n))
    metadata = each_map (top_of 13) IsTail (map metadata_index_content (extras_of_kind 12 n.extras)) (each_map metadata_index_content (λ c. IsTail (top_of 13 c)) (extras_of_kind 12 n.extras) (λ k e there.
        let (has, kind) = filter_passed (λ (x : ℕ × Top). x.1.op == 12) n.extras k e there in
        let one = fits.extras has.0 e has.1 in
        let meets = one.0.v6 in
        let (name, pairs, is) = meets.metadata (eqb-true e.1.op 12 kind) in
        record { kind = refl; v6 = metadata_index_meets (top_of 13 (metadata_index_content e)) e.0 (length (top_bytes e.1)) name (metadata_index_shown e.0 e.1 name pairs is one.1) }))

    behind : Each IsTail (group_tops (statistics_group n) ++ (group_tops (chunk_index_group n) ++ (group_tops (attachment_index_group n) ++ (group_tops (metadata_index_group n) ++ []))))
    behind = each_joined IsTail (group_tops (statistics_group n)) (group_tops (chunk_index_group n) ++ (group_tops (attachment_index_group n) ++ (group_tops (metadata_index_group n) ++ []))) statistics
        (each_joined IsTail (group_tops (chunk_index_group n)) (group_tops (attachment_index_group n) ++ (group_tops (metadata_index_group n) ++ [])) chunks
        (each_joined IsTail (group_tops (attachment_index_group n)) (group_tops (metadata_index_group n) ++ []) attachments
        (each_joined IsTail (group_tops (metadata_index_group n)) [] metadata (λ k t there. absurd (at_none k t there)))))

    offsets : Each IsTail (offset_tops at (groups_of n))
    offsets = each_map (top_of 14) IsTail (offset_contents at (groups_of n)) (λ k c there.
        let (g, own, same) = offset_group at (groups_of n) k c there in
        let low = six_kinds (λ k. k < 256) (omega arith) (omega arith) (omega arith) (omega arith) (omega arith) (omega arith) n k g own in
        let start = at + length (flat_map group_bytes (take k (groups_of n))) in
        let shown = summary_offset_shown g.op start (length (group_bytes g)) low (group_room n at k g fits own) in
        subst (λ (x : List ℕ). IsTail (top_of 14 x)) (sym same) (record { kind = refl; v6 = summary_offset_meets (top_of 14 (summary_offset_text (group_fields g start))) g.op start (length (group_bytes g)) shown }))
