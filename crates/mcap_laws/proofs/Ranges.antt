-- A block that is cut at a small size holds few messages.
use Rattle.std.proofs.Common.{◌≡◌, ℕ, ◌+◌, ◌*◌, ◌≤◌, Bool, true, false, List, [], ◌∷◌, ◌++◌, length, Some, refl, sym, ap, subst, arith}
use Rattle.std.specs.Prelude.{◌==◌, ◌||◌}
use Rattle.std.proofs.lemmas.Bool.{leb-false}
use Rattle.std.proofs.lemmas.List.{length-append}
use Rattle.rec_data.specs.declared.owned.Rec.{Rec}
use Rattle.rec_data.specs.declared.owned.Rec.TheVariants.{Schema, Channel, Message, Extra}
use Rattle.rec_data.specs.Owned.{rec_bytes}
use Rattle.mcap_model.specs.Places.{At}
use Rattle.mcap_model.specs.History.{rec_top, body_of, history_bytes}
use Rattle.mcap_model.proofs.Growth.{logged_all}
use Rattle.mcap_wire.proofs.Numbers.{length-le}
use Rattle.mcap_model.specs.Blocks.{chunk_content, Logged, logged_one, logged_from, logged, reaches, spans, is_ripe, Piece, blocks_in, pieces_of}
use Rattle.mcap_model.specs.Histories.{AreBlocks, pieces_by}
use Rattle.mcap_model.specs.Summary.{messages_on}
use Rattle.mcap_model.specs.Laws.{EntriesFit, SmallBlocksFit}
use Rattle.mcap_model.proofs.Readings.{length-top}
use Rattle.mcap_model.proofs.Cutting.{last_of, blocks_are_one, sizes_ripen}
use Rattle.rec_data.proofs.Contents.{length-message_text}
use Rattle.mcap_model.proofs.Logging.{few_filtered}

-- a message takes at least 31 bytes
messages_take : (at : ℕ) (records : List Rec) → 31 * length (logged_from at records) ≤ length (history_bytes records)
messages_take at [] = omega arith
messages_take at (Schema id s ∷ rs) = let r = Schema id s in let more = messages_take (at + length (rec_bytes r)) rs in omega (arith, more, length-append (rec_bytes r) (history_bytes rs))
messages_take at (Channel id schema topic encoding metadata ∷ rs) = let r = Channel id schema topic encoding metadata in let more = messages_take (at + length (rec_bytes r)) rs in omega (arith, more, length-append (rec_bytes r) (history_bytes rs))
messages_take at (Extra op content ∷ rs) = let r = Extra op content in let more = messages_take (at + length (rec_bytes r)) rs in omega (arith, more, length-append (rec_bytes r) (history_bytes rs))
messages_take at (Message channel sequence log_time publish_time payload ∷ rs) =
    let r = Message channel sequence log_time publish_time payload in
    let more = messages_take (at + length (rec_bytes r)) rs in
    omega (arith, more, length-append (rec_bytes r) (history_bytes rs), length-top (rec_top r), length-message_text channel (record { sequence = sequence; log_time = log_time; publish_time = publish_time; payload = payload }))

pub length-chunk : (records : List Rec) → 40 + length (history_bytes records) ≤ length (chunk_content records)
length-chunk records = simp (length-append, length-le) (omega arith)

-- where the chunk may be read, the entries fit
pub entries_short : (records : List Rec) → length (chunk_content records) ≤ 268435456 → EntriesFit records
entries_short records short n channel at =
    let take = messages_take 0 records in
    let on : messages_on records channel ≤ length (logged records) = few_filtered (λ (e : Logged). e.channel == channel) (logged records) in
    let chunk = length-chunk records in
    omega (arith, take, on, chunk, short)

-- one record more is one message more at most
one_more : (start : List Rec) (r : Rec) → length (logged (start ++ r ∷ [])) ≤ length (logged start) + 1
one_more start r =
    let all = ap (λ (l : List Logged). length l) (logged_all start r) in
    let parts = length-append (logged start) (logged_one (length (history_bytes start)) r) in
    let few = one_few (length (history_bytes start)) r in
    omega (arith, all, parts, few)
  where
    one_few : (at : ℕ) (r : Rec) → length (logged_one at r) ≤ 1
    one_few at (Schema id s) = omega arith
    one_few at (Channel id schema topic encoding metadata) = omega arith
    one_few at (Message channel sequence log_time publish_time payload) = omega arith
    one_few at (Extra op content) = omega arith

cut_fits : (size : ℕ) (start : List Rec) (r : Rec) → size ≤ 67108864 → reaches size start ≡ false → EntriesFit (start ++ r ∷ [])
cut_fits size start r small early n channel at =
    let before = leb-false size (length (history_bytes start)) early in
    let take = messages_take 0 start in
    let more = one_more start r in
    let on : messages_on (start ++ r ∷ []) channel ≤ length (logged (start ++ r ∷ [])) = few_filtered (λ (e : Logged). e.channel == channel) (logged (start ++ r ∷ [])) in
    omega (arith, before, take, more, on, small)

pub small_blocks_fit : SmallBlocksFit
small_blocks_fit size span history some small n block at =
    let ripe = is_ripe size span in
    let ripen = sizes_ripen size span some in
    let one = blocks_are_one ripe history ripen.0 in
    let same : pieces_of (Some size) span history ≡ pieces_by ripe history = ripen.1 history in
    let are = subst (λ (ps : List Piece). AreBlocks ripe (body_of history) (blocks_in ps)) (sym same) one.0 in
    by block at (are.some n block at) (λ start r there. unripe (reaches size start) (spans span start) (are.no_sooner n start r there))
  where
    unripe : (a b : Bool) → (a || b) ≡ false → a ≡ false
    unripe true b late = late
    unripe false b late = refl

    by : (b : List Rec) → At (blocks_in (pieces_of (Some size) span history)) n b → (b ≡ [] → ⊥) → ((start : List Rec) (r : Rec) → At (blocks_in (pieces_of (Some size) span history)) n (start ++ r ∷ []) → reaches size start ≡ false) → EntriesFit b
    by [] there none sooner = absurd (none refl)
    by (m ∷ ms) there none sooner =
        let (start, r, same) = last_of m ms in
        subst EntriesFit (sym same) (cut_fits size start r small (sooner start r (subst (λ (b : List Rec). At (blocks_in (pieces_of (Some size) span history)) n b) same there)))
