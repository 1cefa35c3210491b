-- The messages of what is repaired, and what repairing makes of a written file.
use Rattle.std.proofs.Common.{◌≡◌, ℕ, zero, suc, Bool, true, false, cond, List, [], ◌∷◌, ◌++◌, map, ◌||◌, refl, sym, ap, subst, inl, inr, ◌∙◌, append_assoc, append-nil, arith}
use Rattle.std.specs.Prelude.{filter, fold, if◌then◌else◌, ◌==◌, nat_le}
use Rattle.std.specs.List.{AllZip, list_any, flat_map}
use Rattle.std.proofs.lemmas.List.Elements.{filter-append}
use Rattle.rec_data.specs.declared.owned.Rec.{Rec}
use Rattle.rec_data.specs.declared.owned.Rec.TheVariants.{Schema, Channel, Message, Extra}
use Rattle.rec_data.proofs.OwnedReading.{shown_once, extra_not}
use Rattle.mcap_model.specs.Tops.{Top, flat, offset_behind, placed}
use Rattle.mcap_model.specs.Scan.{Seen, is_message_top, tops_of}
use Rattle.mcap_model.specs.declared.options.FileOptions.{FileOptions}
use Rattle.mcap_model.specs.Places.{At, Each}
use Rattle.mcap_model.specs.Blocks.{Piece, block, alone, pieces_of, logged_channels}
use Rattle.mcap_model.proofs.Section.{piece_tops, held, InnerBlock, blocks_inner, pieces_extras}
use Rattle.mcap_model.proofs.Files.{section_tops}
use Rattle.mcap_model.proofs.Edges.{end_top}
use Rattle.mcap_model.proofs.Body.{CanStand, header_is, extras_behind, pieces_back}
use Rattle.mcap_model.proofs.Histories.{recs_are_flat}
use Rattle.mcap_model.specs.History.{rec_top, is_message, body_of, extras_in, declare_same, kept_with, message_of}
use Rattle.mcap_model.specs.Written.{IsRec}
use Rattle.mcap_model.specs.Repaired.{is_extra, ProfileIs}
use Rattle.mcap_model.specs.Laws.{HoldsSeen, index_top}
use Rattle.mcap_model.specs.ReadBack.{IsExtraKind, IsExtra, IsReadBack}
use Rattle.mcap_model.specs.Recovery.{piece_records}
use Rattle.mcap_model.proofs.Asides.{each_body, no_extras, extras_append}
use Rattle.std.proofs.lemmas.Bool.{ne_eqb, eq-eqb, le-leb}
use Rattle.rec_data.specs.Owned.{IsExtraContent}
use Rattle.mcap_model.specs.Recovery.{FilesAreRepaired, RepairsKeepMessages}
use Rattle.mcap_model.proofs.Flat.{placed_tops}
use Rattle.mcap_laws.proofs.Scanned.{ShowsSeen, zip_tops, stand_of, read_so}

-- ---- repeats, and messages among them

message_new : (channel sequence log_time publish_time : ℕ) (payload : List ℕ) (history : List Rec) → list_any (declare_same (Message channel sequence log_time publish_time payload)) history ≡ false
message_new channel sequence log_time publish_time payload [] = refl
message_new channel sequence log_time publish_time payload (Schema id s ∷ rs) = message_new channel sequence log_time publish_time payload rs
message_new channel sequence log_time publish_time payload (Channel id s topic encoding metadata ∷ rs) = message_new channel sequence log_time publish_time payload rs
message_new channel sequence log_time publish_time payload (Message c n l p d ∷ rs) = message_new channel sequence log_time publish_time payload rs
message_new channel sequence log_time publish_time payload (Extra op content ∷ rs) = message_new channel sequence log_time publish_time payload rs

-- a record that is no message adds none, kept or not
other_kept : (history : List Rec) (r : Rec) → is_message r ≡ false → filter is_message (kept_with history r) ≡ filter is_message history
other_kept history r none = by (list_any (declare_same r) history)
  where
    by : (b : Bool) → filter is_message (if b then history else history ++ r ∷ []) ≡ filter is_message history
    by true = refl
    by false = filter-append is_message history (r ∷ []) ∙ ap (λ (c : Bool). filter is_message history ++ (if c then r ∷ [] else [])) none ∙ append-nil (filter is_message history)

one_kept : (history : List Rec) (r : Rec) → filter is_message (kept_with history r) ≡ filter is_message history ++ filter is_message (r ∷ [])
one_kept history (Schema id s) = other_kept history (Schema id s) refl ∙ sym (append-nil (filter is_message history))
one_kept history (Channel id s topic encoding metadata) = other_kept history (Channel id s topic encoding metadata) refl ∙ sym (append-nil (filter is_message history))
one_kept history (Extra op content) = other_kept history (Extra op content) refl ∙ sym (append-nil (filter is_message history))
one_kept history (Message c n l p d) =
    ap (λ (b : Bool). filter is_message (if b then history else history ++ Message c n l p d ∷ [])) (message_new c n l p d history) ∙ filter-append is_message history (Message c n l p d ∷ [])

messages_kept : (history rs : List Rec) → filter is_message (fold kept_with history rs) ≡ filter is_message history ++ filter is_message rs
messages_kept history [] = sym (append-nil (filter is_message history))
messages_kept history (r ∷ rs) =
    messages_kept (kept_with history r) rs ∙ ap (λ (l : List Rec). l ++ filter is_message rs) (one_kept history r)
    ∙ append_assoc (filter is_message history) (filter is_message (r ∷ [])) (filter is_message rs)
    ∙ ap (λ (l : List Rec). filter is_message history ++ l) (sym (filter-append is_message (r ∷ []) rs))

-- ---- the messages

zip_shown : (us : List Top) (rs : List Rec) (messages : List Seen) → AllZip IsRec us rs → AllZip ShowsSeen (filter is_message_top us) messages → AllZip HoldsSeen (filter is_message rs) messages
zip_shown [] [] messages zip seen = by messages seen
  where
    by : (ms : List Seen) → AllZip ShowsSeen [] ms → AllZip HoldsSeen [] ms
    by [] it = tt
    by (m ∷ ms) it = it
zip_shown [] (r ∷ rs) messages zip seen = absurd zip
zip_shown (u ∷ us) [] messages zip seen = absurd zip
zip_shown (u ∷ us) (Schema id s ∷ rs) messages zip seen =
    zip_shown us rs messages zip.1 (subst (λ (b : Bool). AllZip ShowsSeen (cond b (u ∷ filter is_message_top us) (filter is_message_top us)) messages) (ap (λ (n : ℕ). n == 5) zip.0.0) seen)
zip_shown (u ∷ us) (Channel id s topic encoding metadata ∷ rs) messages zip seen =
    zip_shown us rs messages zip.1 (subst (λ (b : Bool). AllZip ShowsSeen (cond b (u ∷ filter is_message_top us) (filter is_message_top us)) messages) (ap (λ (n : ℕ). n == 5) zip.0.0) seen)
zip_shown (u ∷ us) (Extra op content ∷ rs) messages zip seen =
    zip_shown us rs messages zip.1 (subst (λ (b : Bool). AllZip ShowsSeen (cond b (u ∷ filter is_message_top us) (filter is_message_top us)) messages) (ap (λ (n : ℕ). n == 5) zip.0.0 ∙ ne_eqb op 5 (λ e. extra_not op content 5 zip.0.2 (omega arith) e)) seen)
zip_shown (u ∷ us) (Message c n l p d ∷ rs) messages zip seen =
    by messages (subst (λ (b : Bool). AllZip ShowsSeen (cond b (u ∷ filter is_message_top us) (filter is_message_top us)) messages) (ap (λ (k : ℕ). k == 5) zip.0.0) seen) (λ ms it. zip_shown us rs ms zip.1 it)
  where
    by : (ms : List Seen) → AllZip ShowsSeen (u ∷ filter is_message_top us) ms → ((more : List Seen) → AllZip ShowsSeen (filter is_message_top us) more → AllZip HoldsSeen (filter is_message rs) more)
        → AllZip HoldsSeen (Message c n l p d ∷ filter is_message rs) ms
    by [] it rest = absurd it
    by (m ∷ ms) it rest = let is = it.0 in (shown_once u.op u.content (Message c n l p d) (message_of m.channel m.message) zip.0 (is.kind, is.layout), rest ms it.1)

pub repairs_keep_messages : RepairsKeepMessages
repairs_keep_messages tops extras profile history messages good repairs scan =
    let seen = zip_tops (tops_of (placed tops)) (placed tops) messages scan in
    let flat_seen = subst (λ (l : List Top). AllZip ShowsSeen (filter is_message_top l) messages) (placed_tops 8 tops) seen in
    let all = zip_shown (flat tops) repairs.flattened messages repairs.are_flattened flat_seen in
    let same : filter is_message history ≡ filter is_message repairs.flattened = ap (filter is_message) repairs.history_is ∙ messages_kept [] repairs.flattened in
    subst (λ (l : List Rec). AllZip HoldsSeen l messages) (sym same) all

-- ---- what is written is repaired to itself

pub indexes_no_extra : (records : List Rec) (ids : List ℕ) → filter is_extra (map (index_top records) ids) ≡ []
indexes_no_extra records [] = refl
indexes_no_extra records (id ∷ ids) = indexes_no_extra records ids

or_last : (a b : Bool) → b ≡ true → (a || b) ≡ true
or_last true b is = refl
or_last false b is = is

extra_kind : (n : ℕ) → IsExtraKind n → ((n == 9) || ((n == 12) || nat_le 128 n)) ≡ true
extra_kind n (inl nine) = ap (λ (b : Bool). b || ((n == 12) || nat_le 128 n)) (eq-eqb n 9 nine)
extra_kind n (inr (inl twelve)) = or_last (n == 9) ((n == 12) || nat_le 128 n) (ap (λ (b : Bool). b || nat_le 128 n) (eq-eqb n 12 twelve))
extra_kind n (inr (inr high)) = or_last (n == 9) ((n == 12) || nat_le 128 n) (or_last (n == 12) (nat_le 128 n) (le-leb 128 n high))

content_kind : (op : ℕ) (content : List ℕ) → IsExtraContent op content → IsExtraKind op
content_kind op content (inl nine) = inl nine.0
content_kind op content (inr (inl twelve)) = inr (inl twelve.0)
content_kind op content (inr (inr high)) = inr (inr high)

-- the extras of a piece are those of its records
abbrev pub ExtrasShown : Piece → Type 0
ExtrasShown p = filter is_extra (piece_tops p) ≡ extras_in (piece_records p)

pub piece_extra : (p : Piece) → Each IsReadBack (piece_records p) → InnerBlock p → ExtrasShown p
piece_extra (block records) back inner = indexes_no_extra records (logged_channels records) ∙ sym (no_extras records inner)
piece_extra (alone (Schema id s)) back inner = refl
piece_extra (alone (Channel id s topic encoding metadata)) back inner = refl
piece_extra (alone (Message c n l p d)) back inner = refl
piece_extra (alone (Extra op content)) back inner =
    ap (λ (b : Bool). if b then rec_top (Extra op content) ∷ [] else []) (extra_kind op (content_kind op content (back zero (Extra op content) refl).2))

pub pieces_extra : (ps : List Piece) → ((n : ℕ) (p : Piece) → At ps n p → ExtrasShown p) → filter is_extra (flat_map piece_tops ps) ≡ extras_in (held ps)
pieces_extra [] each = refl
pieces_extra (p ∷ ps) each =
    filter-append is_extra (piece_tops p) (flat_map piece_tops ps) ∙ ap (λ (l : List Top). l ++ filter is_extra (flat_map piece_tops ps)) (each zero p refl)
    ∙ ap (λ (l : List Top). extras_in (piece_records p) ++ l) (pieces_extra ps (λ n q at. each (suc n) q at)) ∙ sym (extras_append (piece_records p) (held ps))

extra_is : (t : Top) → IsExtra t → is_extra t ≡ true
extra_is t it = extra_kind t.op it.kind

pub all_extra : (extras : List Top) → Each IsExtra extras → filter is_extra extras ≡ extras
all_extra [] each = refl
all_extra (t ∷ ts) each =
    ap (λ (b : Bool). if b then t ∷ filter is_extra ts else filter is_extra ts) (extra_is t (each zero t refl)) ∙ ap (λ (l : List Top). t ∷ l) (all_extra ts (λ n x at. each (suc n) x at))

pub shown_extras : (options : FileOptions) (extras : List Top) (history : List Rec) → CanStand options extras history → (n : ℕ) (p : Piece) → At (pieces_of options.chunk options.span history) n p → ExtrasShown p
shown_extras options extras history stand n p at = piece_extra p (pieces_back options extras history stand n p at) (blocks_inner options.chunk options.span history n p at)

extras_there : (options : FileOptions) (extras : List Top) (history : List Rec) → CanStand options extras history → extras_in history ++ extras ≡ filter is_extra (section_tops options extras history ++ end_top ∷ [])
extras_there options extras history stand =
    let ps = flat_map piece_tops (pieces_of options.chunk options.span history) in
    sym (filter-append is_extra (ps ++ extras) (end_top ∷ []) ∙ append-nil (filter is_extra (ps ++ extras)) ∙ filter-append is_extra ps extras
    ∙ ap (λ (l : List Top). l ++ filter is_extra extras) (pieces_extra (pieces_of options.chunk options.span history) (shown_extras options extras history stand) ∙ pieces_extras options.chunk options.span history)
    ∙ ap (λ (l : List Top). extras_in history ++ l) (all_extra extras (extras_behind options extras history stand)))

zip_back : (history : List Rec) → Each IsReadBack history → AllZip IsRec (map rec_top history) history
zip_back [] back = tt
zip_back (r ∷ rs) back = (back zero r refl, zip_back rs (λ n x at. back (suc n) x at))

header_there : (options : FileOptions) (extras : List Top) (history : List Rec) → CanStand options extras history → ProfileIs (section_tops options extras history ++ end_top ∷ []) options.profile
unfolding header_is
header_there options extras history stand = (header_is options extras history stand, refl)

pub files_are_repaired : FilesAreRepaired
files_are_repaired options extras history written readable =
    let it = read_so options extras history written.profile written.records_fit written.numbered written.ids_agree written.extras_meet readable in
    let stand = stand_of options extras history written.profile written.records_fit written.numbered written.extras_meet readable in
    let tops = section_tops options extras history ++ end_top ∷ [] in
    let recs : flat tops ≡ map rec_top (body_of history) = it.flat_all ∙ recs_are_flat history written.records_fit in (
      tops,
      offset_behind tops,
      it.halts,
      record {
        profile_is = header_there options extras history stand;
        extras_are = extras_there options extras history stand;
        flattened = body_of history;
        are_flattened = subst (λ (l : List Top). AllZip IsRec l (body_of history)) (sym recs) (zip_back (body_of history) (each_body IsReadBack history written.records_fit));
        history_is = refl;
      },
    )
