-- The Statistics of a written file are right.
use Rattle.std.proofs.Common.{◌≡◌, ℕ, suc, ◌+◌, ◌^◌, ◌<◌, Bool, true, false, List, [], ◌∷◌, ◌++◌, length, map, cond, refl, sym, ap, subst, inl, inr, ◌∙◌, arith}
use Rattle.std.specs.Prelude.{filter, ◌==◌, ◌≢◌}
use Rattle.std.specs.List.{flat_map}
use Rattle.std.proofs.lemmas.Bool.{ne_eqb, both_ways}
use Rattle.std.proofs.lemmas.List.{append-nil, length-append, length-map}
use Rattle.std.proofs.lemmas.List.Elements.{filter-append}
use Rattle.std.proofs.lemmas.Grind.{flat_map-append}
use Rattle.rec_data.specs.declared.owned.Rec.{Rec}
use Rattle.rec_data.specs.declared.owned.Rec.TheVariants.{Schema, Channel, Message, Extra}
use Rattle.rec_data.specs.Owned.{rec_bytes}
use Rattle.mcap_model.specs.Places.{At, Has, Each}
use Rattle.mcap_model.specs.Tops.{Top, top_bytes, flattened, flat}
use Rattle.mcap_model.specs.Fields.{IsSchema, IsChannel, MessageFields}
use Rattle.mcap_model.specs.Rules.{HasSchema, HasChannel, TimesAre}
use Rattle.mcap_model.specs.History.{rec_top, schema_of, channel_of, message_of, extras_in}
use Rattle.mcap_model.specs.Blocks.{Piece, block, alone, piece_bytes, Logged, logged_from, logged, logged_channels, log_times, least, greatest, blocks_in}
use Rattle.mcap_model.specs.Summary.{capped, extras_of_kind, messages_on, schemas_of, channels_of, written_statistics}
use Rattle.mcap_model.specs.File.{blocks_from, alone_from, extras_from}
use Rattle.mcap_model.specs.Whole.{IsSection, count_of, AreChannels, on_channel, AreIds, StatisticsAreRight}
use Rattle.mcap_model.specs.Laws.{IsNumberedRec, IsInner, chunk_top, index_top}
use Rattle.mcap_model.specs.Recovery.{piece_records}
use Rattle.mcap_model.proofs.Asides.{extras_append, no_extras}
use Rattle.mcap_model.specs.ReadBack.{IsReadBack, IsExtra}
use Rattle.mcap_model.proofs.Places.{at_none, at_kept}
use Rattle.mcap_model.proofs.ReadBack.{at_map, schema_back, channel_back}
use Rattle.mcap_model.proofs.Histories.{schema_shown, channel_shown, message_shown, rec_not}
use Rattle.mcap_model.proofs.WrittenChunks.{written_times, each_map}
use Rattle.mcap_model.proofs.Lists.{at_either, each_cons}
use Rattle.mcap_model.proofs.Edges.{end_top}
use Rattle.mcap_model.proofs.Shape.{whole}
use Rattle.mcap_model.proofs.Section.{piece_tops, held, InnerBlock, extra_not_kind}
use Rattle.mcap_model.proofs.Logged.{logs_channel}
use Rattle.mcap_model.proofs.Distinct.{rec_id, schema_ids, schema_ids_apart, schema_id_is, is_schema_id, channel_ids, channel_ids_apart, channel_id_is, is_channel_id}
use Rattle.mcap_model.proofs.Standing.{PiecesBack, count_blocks}
use Rattle.mcap_laws.proofs.Tails.{count_entry, few_channel_ids}
use Rattle.mcap_model.proofs.Flat.{at_mapped}

-- ---- counts by kind

pub count_none : (op : ℕ) (xs : List Top) → Each (λ t. t.op ≢ op) xs → count_of op xs ≡ 0
count_none op [] none = refl
count_none op (t ∷ ts) none =
    ap (λ (b : Bool). length (cond b (t ∷ filter (λ x. x.op == op) ts) (filter (λ x. x.op == op) ts))) (ne_eqb t.op op (none 0 t refl))
    ∙ count_none op ts (λ n x at. none (suc n) x at)

pub count_append : (op : ℕ) (xs ys : List Top) → count_of op (xs ++ ys) ≡ count_of op xs + count_of op ys
count_append op xs ys = ap length (filter-append (λ (t : Top). t.op == op) xs ys) ∙ length-append (filter (λ t. t.op == op) xs) (filter (λ t. t.op == op) ys)

indexes_not : (op : ℕ) (records : List Rec) → op ≢ 7 → Each (λ t. t.op ≢ op) (map (index_top records) (logged_channels records))
indexes_not op records other = each_map (index_top records) (λ t. t.op ≢ op) (logged_channels records) (λ n id at e. other (sym e))

-- the records at top level among pieces are counted
count_alone : (op start : ℕ) (ps : List Piece) → op ≢ 6 → op ≢ 7 → length (extras_of_kind op (alone_from start ps)) ≡ count_of op (flat_map piece_tops ps)
count_alone op start [] six seven = refl
count_alone op start (block records ∷ ps) six seven =
    let rest = count_alone op (start + length (piece_bytes (block records))) ps six seven in
    let own = count_none op (piece_tops (block records)) (each_cons (λ t. t.op ≢ op) (chunk_top records) (map (index_top records) (logged_channels records)) (λ e. six (sym e)) (indexes_not op records seven)) in
    let all = count_append op (piece_tops (block records)) (flat_map piece_tops ps) in
    omega (arith, rest, own, all)
count_alone op start (alone r ∷ ps) six seven = by ((rec_top r).op == op) (count_alone op (start + length (piece_bytes (alone r))) ps six seven)
  where
    by : (b : Bool) → length (extras_of_kind op (alone_from (start + length (piece_bytes (alone r))) ps)) ≡ count_of op (flat_map piece_tops ps)
        → length (cond b ((start, rec_top r) ∷ extras_of_kind op (alone_from (start + length (piece_bytes (alone r))) ps)) (extras_of_kind op (alone_from (start + length (piece_bytes (alone r))) ps))) ≡ length (cond b (rec_top r ∷ filter (λ x. x.op == op) (flat_map piece_tops ps)) (filter (λ x. x.op == op) (flat_map piece_tops ps)))
    by true rest = ap suc rest
    by false rest = rest

-- of an opcode that only extras have, there are as many among the records of pieces as among their extras
pub count_extras : (op : ℕ) (ps : List Piece) → 5 < op → op ≢ 6 → op ≢ 7 → Each InnerBlock ps → count_of op (flat_map piece_tops ps) ≡ count_of op (extras_in (held ps))
count_extras op [] high six seven inner = refl
count_extras op (p ∷ ps) high six seven inner =
    let rest = count_extras op ps high six seven (λ n q at. inner (suc n) q at) in
    let own = one p (inner 0 p refl) in
    let all = count_append op (piece_tops p) (flat_map piece_tops ps) in
    let parts = ap (count_of op) (extras_append (piece_records p) (held ps)) in
    let more = count_append op (extras_in (piece_records p)) (extras_in (held ps)) in
    omega (arith, rest, own, all, parts, more)
  where
    one : (q : Piece) → InnerBlock q → count_of op (piece_tops q) ≡ count_of op (extras_in (piece_records q))
    one (block records) own =
        count_none op (piece_tops (block records)) (each_cons (λ t. t.op ≢ op) (chunk_top records) (map (index_top records) (logged_channels records)) (λ e. six (sym e)) (indexes_not op records seven))
        ∙ ap (count_of op) (sym (no_extras records own))
    one (alone (Schema id s)) own = count_none op (rec_top (Schema id s) ∷ []) (each_cons (λ t. t.op ≢ op) (rec_top (Schema id s)) [] (λ e. omega (arith, e, high)) (λ n t at. absurd (at_none n t at)))
    one (alone (Channel id s t e m)) own = count_none op (rec_top (Channel id s t e m) ∷ []) (each_cons (λ t. t.op ≢ op) (rec_top (Channel id s t e m)) [] (λ e. omega (arith, e, high)) (λ n t at. absurd (at_none n t at)))
    one (alone (Message c n l p d)) own = count_none op (rec_top (Message c n l p d) ∷ []) (each_cons (λ t. t.op ≢ op) (rec_top (Message c n l p d)) [] (λ e. omega (arith, e, high)) (λ n t at. absurd (at_none n t at)))
    one (alone (Extra k content)) own = refl

count_chunks : (ps : List Piece) → PiecesBack ps → count_of 6 (flat_map piece_tops ps) ≡ length (blocks_in ps)
count_chunks [] back = refl
count_chunks (block records ∷ ps) back =
    let rest = count_chunks ps (λ n p at. back (suc n) p at) in
    let own = count_none 6 (map (index_top records) (logged_channels records)) (indexes_not 6 records (λ e. omega (arith, e))) in
    let all = count_append 6 (map (index_top records) (logged_channels records)) (flat_map piece_tops ps) in
    ap suc (all ∙ ap (λ (n : ℕ). n + count_of 6 (flat_map piece_tops ps)) own ∙ omega (arith, rest))
count_chunks (alone r ∷ ps) back =
    let own = count_none 6 (rec_top r ∷ []) (each_cons (λ t. t.op ≢ 6) (rec_top r) [] (rec_not r 6 (back 0 (alone r) refl 0 r refl) (omega arith) (omega arith) (λ a. omega (arith, a)) (λ a. omega (arith, a))) (λ n t at. absurd (at_none n t at))) in
    let all = count_append 6 (rec_top r ∷ []) (flat_map piece_tops ps) in
    let rest = count_chunks ps (λ n p at. back (suc n) p at) in
    all ∙ omega (arith, own, rest)

extras_not : (op : ℕ) (extras : List Top) → Each IsExtra extras → op < 128 → op ≢ 9 → op ≢ 12 → Each (λ t. t.op ≢ op) extras
extras_not op extras are low nine twelve n t at e = extra_not_kind t.op (are n t at).kind op low nine twelve e

count_kind : (op start : ℕ) (extras : List Top) → length (extras_of_kind op (extras_from start extras)) ≡ count_of op extras
count_kind op start [] = refl
count_kind op start (t ∷ ts) = by (t.op == op) (count_kind op (start + length (top_bytes t)) ts)
  where
    by : (b : Bool) → length (extras_of_kind op (extras_from (start + length (top_bytes t)) ts)) ≡ count_of op ts
        → length (cond b ((start, t) ∷ extras_of_kind op (extras_from (start + length (top_bytes t)) ts)) (extras_of_kind op (extras_from (start + length (top_bytes t)) ts))) ≡ length (cond b (t ∷ filter (λ x. x.op == op) ts) (filter (λ x. x.op == op) ts))
    by true rest = ap suc rest
    by false rest = rest

-- ---- messages

pub count_messages : (at : ℕ) (history : List Rec) → Each IsInner history → length (logged_from at history) ≡ count_of 5 (map rec_top history)
count_messages at [] inner = refl
count_messages at (Schema id s ∷ rs) inner = count_messages (at + length (rec_bytes (Schema id s))) rs (λ n x there. inner (suc n) x there)
count_messages at (Channel id schema topic encoding metadata ∷ rs) inner = count_messages (at + length (rec_bytes (Channel id schema topic encoding metadata))) rs (λ n x there. inner (suc n) x there)
count_messages at (Message channel sequence log_time publish_time payload ∷ rs) inner = ap suc (count_messages (at + length (rec_bytes (Message channel sequence log_time publish_time payload))) rs (λ n x there. inner (suc n) x there))
count_messages at (Extra op content ∷ rs) inner = absurd (both_ways false refl (inner 0 (Extra op content) refl))

channels_from : (at : ℕ) (history : List Rec) → Each IsInner history → Each IsReadBack history → AreChannels (map rec_top history) (map (λ e. e.channel) (logged_from at history))
channels_from at [] inner back = tt
channels_from at (Schema id s ∷ rs) inner back = channels_from (at + length (rec_bytes (Schema id s))) rs (λ n x there. inner (suc n) x there) (λ n x there. back (suc n) x there)
channels_from at (Channel id schema topic encoding metadata ∷ rs) inner back = channels_from (at + length (rec_bytes (Channel id schema topic encoding metadata))) rs (λ n x there. inner (suc n) x there) (λ n x there. back (suc n) x there)
channels_from at (Extra op content ∷ rs) inner back = absurd (both_ways false refl (inner 0 (Extra op content) refl))
channels_from at (Message channel sequence log_time publish_time payload ∷ rs) inner back =
    let m : MessageFields = record { sequence = sequence; log_time = log_time; publish_time = publish_time; payload = payload } in
    ((m, message_shown channel m (back 0 (message_of channel m) refl)), channels_from (at + length (rec_bytes (Message channel sequence log_time publish_time payload))) rs (λ n x there. inner (suc n) x there) (λ n x there. back (suc n) x there))

count_on : (l : List Logged) (channel : ℕ) → length (filter (λ e. e.channel == channel) l) ≡ on_channel (map (λ e. e.channel) l) channel
count_on [] channel = refl
count_on (e ∷ es) channel = by (e.channel == channel) (count_on es channel)
  where
    by : (b : Bool) → length (filter (λ x. x.channel == channel) es) ≡ on_channel (map (λ x. x.channel) es) channel
        → length (cond b (e ∷ filter (λ x. x.channel == channel) es) (filter (λ x. x.channel == channel) es)) ≡ length (cond b (e.channel ∷ filter (λ c. c == channel) (map (λ x. x.channel) es)) (filter (λ c. c == channel) (map (λ x. x.channel) es)))
    by true rest = ap suc rest
    by false rest = rest

-- ---- ids

schema_of_id : (history : List Rec) (id : ℕ) → Each IsReadBack history → Each IsNumberedRec history → Has (schema_ids history) id → HasSchema (map rec_top history) id
schema_of_id history id back numbered has =
    let (n, f, there) = schema_id_is history id has in
    record {
      place = n;
      top = rec_top (schema_of id f);
      shown = f;
      at = at_mapped rec_top history n (schema_of id f) there;
      is = schema_shown id f (back n (schema_of id f) there) (numbered n (schema_of id f) there id f refl);
    }

channel_of_id : (history : List Rec) (id : ℕ) → Each IsReadBack history → Has (channel_ids history) id → HasChannel (map rec_top history) id
channel_of_id history id back has =
    let (n, f, there) = channel_id_is history id has in
    record {
      place = n;
      top = rec_top (channel_of id f);
      shown = f;
      at = at_mapped rec_top history n (channel_of id f) there;
      is = channel_shown id f (back n (channel_of id f) there);
    }

id_of_schema : (history : List Rec) (id : ℕ) → Each IsReadBack history → HasSchema (map rec_top history) id → Has (schema_ids history) id
id_of_schema history id back has =
    let (r, there, same) = at_map rec_top history has.place has.top has.at in
    let shown : IsSchema (rec_top r) id has.shown = subst (λ (t : Top). IsSchema t id has.shown) same has.is in
    let own = schema_back r id has.shown (back has.place r there) shown in
    is_schema_id history has.place id has.shown (subst (λ (x : Rec). At history has.place x) own there)

pub id_of_channel : (history : List Rec) (id : ℕ) → Each IsReadBack history → HasChannel (map rec_top history) id → Has (channel_ids history) id
id_of_channel history id back has =
    let (r, there, same) = at_map rec_top history has.place has.top has.at in
    let shown : IsChannel (rec_top r) id has.shown = subst (λ (t : Top). IsChannel t id has.shown) same has.is in
    let own = channel_back r id has.shown (back has.place r there) shown in
    is_channel_id history has.place id has.shown (subst (λ (x : Rec). At history has.place x) own there)

pub schemas_counted : (history : List Rec) → Each IsReadBack history → Each IsNumberedRec history → AreIds (HasSchema (map rec_top history)) (schema_ids history)
schemas_counted history back numbered = record {
  apart = schema_ids_apart history;
  have = λ n id at. schema_of_id history id back numbered (n, at);
  all = λ id has. id_of_schema history id back has;
}

pub channels_counted : (history : List Rec) → Each IsReadBack history → AreIds (HasChannel (map rec_top history)) (channel_ids history)
channels_counted history back = record {
  apart = channel_ids_apart history;
  have = λ n id at. channel_of_id history id back (n, at);
  all = λ id has. id_of_channel history id back has;
}

-- among records and their copies stand the same ids
pub either_has : (records copies : List Top) → Each (Has records) copies → (n : ℕ) (t : Top) → At (records ++ copies) n t → Has records t
either_has records copies has n t at = elim (at_either records copies n t at) [
  | inl first ↦ (n, first)
  | inr (k, there, second) ↦ has k t second
]

schemas_with : (records copies : List Top) (ids : List ℕ) → Each (Has records) copies → AreIds (HasSchema records) ids → AreIds (HasSchema (records ++ copies)) ids
schemas_with records copies ids has counts = record {
  apart = counts.apart;
  have = λ k id at. let own = counts.have k id at in record { place = own.place; top = own.top; shown = own.shown; at = at_kept records copies own.place own.top own.at; is = own.is };
  all = λ id own. let there = either_has records copies has own.place own.top own.at in counts.all id (record { place = there.0; top = own.top; shown = own.shown; at = there.1; is = own.is });
}

channels_with : (records copies : List Top) (ids : List ℕ) → Each (Has records) copies → AreIds (HasChannel records) ids → AreIds (HasChannel (records ++ copies)) ids
channels_with records copies ids has counts = record {
  apart = counts.apart;
  have = λ k id at. let own = counts.have k id at in record { place = own.place; top = own.top; shown = own.shown; at = at_kept records copies own.place own.top own.at; is = own.is };
  all = λ id own. let there = either_has records copies has own.place own.top own.at in counts.all id (record { place = there.0; top = own.top; shown = own.shown; at = there.1; is = own.is });
}

-- ---- all of it

pub flat_whole : (section summary : List Top) (foot : Top) → flattened foot ≡ [] → flat (whole section summary foot) ≡ flat section ++ flat summary
flat_whole section summary foot none =
    flat_map-append flattened section (end_top ∷ (summary ++ foot ∷ []))
    ∙ ap (λ (l : List Top). flat section ++ l) (flat_map-append flattened summary (foot ∷ []) ∙ ap (λ (l : List Top). flat summary ++ (l ++ [])) none ∙ append-nil (flat summary))

module _ (tops : List Top) (header : Top) (ps : List Piece) (extras : List Top) (history : List Rec) (copies : List Top) (start other : ℕ)
    (is : IsSection tops (header ∷ (flat_map piece_tops ps ++ extras))) (kind : header.op ≡ 1)
    (are : Each IsExtra extras) (pieces_back : PiecesBack ps) (inner : Each IsInner history) (back : Each IsReadBack history) (numbered : Each IsNumberedRec history)
    (flat_section : flat (header ∷ (flat_map piece_tops ps ++ extras)) ≡ map rec_top history) (flat_all : flat tops ≡ map rec_top history ++ copies) (has : Each (Has (map rec_top history)) copies)
    (few_blocks : length (blocks_in ps) < 2 ^ 32) (few_attachments : count_of 9 (flat_map piece_tops ps ++ extras) < 2 ^ 32) (few_metadata : count_of 12 (flat_map piece_tops ps ++ extras) < 2 ^ 32) where
  section : List Top
  section = header ∷ (flat_map piece_tops ps ++ extras)

  count_section : (op : ℕ) → op ≢ 1 → count_of op (header ∷ (flat_map piece_tops ps ++ extras)) ≡ count_of op (flat_map piece_tops ps) + count_of op extras
  count_section op one =
      ap (λ (b : Bool). length (cond b (header ∷ filter (λ x. x.op == op) (flat_map piece_tops ps ++ extras)) (filter (λ x. x.op == op) (flat_map piece_tops ps ++ extras)))) (ne_eqb header.op op (λ e. one (sym e ∙ kind)))
      ∙ count_append op (flat_map piece_tops ps) extras

  kinds_counted : (op : ℕ) → op ≢ 1 → op ≢ 6 → op ≢ 7 → count_of op (flat_map piece_tops ps ++ extras) < 2 ^ 32 → capped (length (extras_of_kind op (alone_from start ps ++ extras_from other extras))) ≡ count_of op (header ∷ (flat_map piece_tops ps ++ extras))
  kinds_counted op one six seven few =
      let all = count_section op one in
      let among = count_alone op start ps six seven in
      let own = count_kind op other extras in
      let parts = count_append op (flat_map piece_tops ps) extras in
      let both = ap (λ (l : List (ℕ × Top)). length l) (filter-append (λ (e : ℕ × Top). e.1.op == op) (alone_from start ps) (extras_from other extras)) in
      let size = length-append (extras_of_kind op (alone_from start ps)) (extras_of_kind op (extras_from other extras)) in
      omega (arith, all, among, own, few, parts, both, size)

  chunks_counted : capped (length (blocks_from start ps)) ≡ count_of 6 (header ∷ (flat_map piece_tops ps ++ extras))
  chunks_counted =
      let all = count_section 6 (λ e. omega (arith, e)) in
      let none = count_none 6 extras (extras_not 6 extras are (omega arith) (λ e. omega (arith, e)) (λ e. omega (arith, e))) in
      let own = count_chunks ps pieces_back in
      let size = count_blocks start ps in
      omega (arith, all, none, own, size, few_blocks)

  counts_right : (channel count : ℕ) → Has {X = ℕ × ℕ} (map (count_entry history) (logged_channels history)) (channel, count) → count ≡ on_channel (map (λ e. e.channel) (logged history)) channel
  counts_right channel count there =
      let (id, at, same) = at_map (count_entry history) (logged_channels history) there.0 (channel, count) there.1 in
      let first : channel ≡ id = ap (λ (q : ℕ × ℕ). q.0) same in
      let second : count ≡ messages_on history id = ap (λ (q : ℕ × ℕ). q.1) same in
      second ∙ ap (messages_on history) (sym first) ∙ count_on (logged history) channel

  counts_all : (channel : ℕ) → Has (map (λ e. e.channel) (logged history)) channel → (count : ℕ) × Has {X = ℕ × ℕ} (map (count_entry history) (logged_channels history)) (channel, count)
  counts_all channel there =
      let (e, at, same) = at_map (λ (e : Logged). e.channel) (logged history) there.0 channel there.1 in
      let logs = logs_channel history e (there.0, at) in
      let own : At (logged_channels history) logs.0 channel = subst (λ (c : ℕ). At (logged_channels history) logs.0 c) (sym same) logs.1 in
      (messages_on history channel, (logs.0, at_mapped (count_entry history) (logged_channels history) logs.0 channel own))

  pub statistics_right : StatisticsAreRight tops (written_statistics (record { records = history; blocks = blocks_from start ps; extras = alone_from start ps ++ extras_from other extras }))
  statistics_right = record {
    section = header ∷ (flat_map piece_tops ps ++ extras);
    is = inl is;
    messages = count_messages 0 history inner ∙ ap (count_of 5) (sym flat_section);
    attachments = kinds_counted 9 (λ e. omega (arith, e)) (λ e. omega (arith, e)) (λ e. omega (arith, e)) few_attachments;
    metadata = kinds_counted 12 (λ e. omega (arith, e)) (λ e. omega (arith, e)) (λ e. omega (arith, e)) few_metadata;
    chunks = chunks_counted;
    times = subst (λ (l : List Top). TimesAre l (least (log_times history)) (greatest (log_times history))) (sym flat_section) (written_times history back);
    counts = inr (record {
      channels_of = map (λ e. e.channel) (logged history);
      are_channels = subst (λ (l : List Top). AreChannels l (map (λ e. e.channel) (logged history))) (sym flat_section) (channels_from 0 history inner back);
      right = counts_right;
      all = counts_all;
    });
    schemas = (
      schema_ids history,
      schema_ids history,
      subst (λ (l : List Top). AreIds (HasSchema l) (schema_ids history)) (sym flat_section) (schemas_counted history back numbered),
      subst (λ (l : List Top). AreIds (HasSchema l) (schema_ids history)) (sym flat_all) (schemas_with (map rec_top history) copies (schema_ids history) has (schemas_counted history back numbered)),
      omega (arith, length-map (schemas_of history) rec_id),
      omega (arith, length-map (schemas_of history) rec_id),
    );
    channels = (
      channel_ids history,
      channel_ids history,
      subst (λ (l : List Top). AreIds (HasChannel l) (channel_ids history)) (sym flat_section) (channels_counted history back),
      subst (λ (l : List Top). AreIds (HasChannel l) (channel_ids history)) (sym flat_all) (channels_with (map rec_top history) copies (channel_ids history) has (channels_counted history back)),
      (let few = few_channel_ids history back in omega (arith, few, length-map (channels_of history) rec_id)),
      (let few = few_channel_ids history back in omega (arith, few, length-map (channels_of history) rec_id)),
    );
  }
