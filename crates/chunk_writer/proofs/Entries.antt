-- The entries of the blocks that records make sure.
use Rattle.std.proofs.Common.{◌≡◌, ℕ, ◌+◌, List, [], ◌∷◌, ◌++◌, length, Option, Some, None, sym, ap, subst, ◌∙◌, append_assoc, append-nil, length-append, arith}
use Rattle.std.specs.List.{AllZip}
use Rattle.std.proofs.lemmas.List.{nil_from_length}
use Rattle.rec_data.specs.declared.owned.Rec.{Rec}
use Rattle.mcap_io.specs.Outside.{LiveState}
use Rattle.mcap_model.specs.declared.options.FileOptions.{FileOptions}
use Rattle.mcap_model.specs.Blocks.{Piece, block, Cuts, cuts, pieces_bytes, blocks_in}
use Rattle.mcap_model.specs.File.{front, blocks_from}
use Rattle.mcap_model.specs.Histories.{written_of}
use Rattle.mcap_model.proofs.Standing.{count_blocks}
use Rattle.mcap_model.proofs.OneMore.{zip_push}
use Rattle.live_entry.specs.declared.entry.Entry.{Entry}
use Rattle.live_entry.specs.Entries.{SeenExtents, HasBlockExtent}
use Rattle.chunk_writer.specs.Scribes.{GivesEntry, Lists, KeepsOn, sure_blocks, GivesEntries}
use Rattle.chunk_writer.proofs.Cuts.{cuts_more, one_more}
use Rattle.chunk_writer.proofs.Noting.{blocks_append}

-- ---- a record that closes no block

-- where no block is among more pieces, none has an offset
pub same_from : (at : ℕ) (ps qs more : List Piece) → qs ≡ ps ++ more → blocks_in qs ≡ blocks_in ps → blocks_from at qs ≡ blocks_from at ps
same_from at ps qs more is same =
    let behind = blocks_from (at + length (pieces_bytes ps)) more in
    let all : blocks_from at qs ≡ blocks_from at ps ++ behind = ap (blocks_from at) is ∙ blocks_append at ps more in
    let sizes = ap (λ (l : List (ℕ × List Rec)). length l) all in
    let counts = ap (λ (l : List (List Rec)). length l) same in
    let none : behind ≡ [] = nil_from_length behind (omega (arith, sizes, counts, count_blocks at qs, count_blocks at ps, length-append (blocks_from at ps) behind)) in
    all ∙ ap (λ (l : List (ℕ × List Rec)). blocks_from at ps ++ l) none ∙ append-nil (blocks_from at ps)

same_sure : (options : FileOptions) (history : List Rec) (r : Rec) → blocks_in (cuts options.chunk options.span (history ++ r ∷ [])).pieces ≡ blocks_in (cuts options.chunk options.span history).pieces
    → sure_blocks options (history ++ r ∷ []) ≡ sure_blocks options history
same_sure options history r same =
    let one = one_more options.chunk options.span (cuts options.chunk options.span history) r in
    same_from (length (front options.profile)) (cuts options.chunk options.span history).pieces (cuts options.chunk options.span (history ++ r ∷ [])).pieces one.0
    (ap (λ (c : Cuts). c.pieces) (cuts_more options.chunk options.span history r) ∙ one.1) same

-- ---- a record that closes a block

block_more : (start : List ℕ) (ps qs : List Piece) (records : List Rec) → qs ≡ ps ++ block records ∷ [] → blocks_from (length start) qs ≡ blocks_from (length start) ps ++ (length (start ++ pieces_bytes ps), records) ∷ []
block_more start ps qs records closes =
    ap (blocks_from (length start)) closes
    ∙ blocks_append (length start) ps (block records ∷ [])
    ∙ ap (λ (n : ℕ). blocks_from (length start) ps ++ (n, records) ∷ []) (sym (length-append start (pieces_bytes ps)))

-- ---- entries in a row

-- what is seen later of the same extents
abbrev pub seen_later : {X : Type 0} → SeenExtents X → LiveState → SeenExtents X
seen_later seen store = record { tells = seen.tells; size = seen.size; held = store.held }

entry_before : {X : Type 0} (seen : SeenExtents X) (store : LiveState) (e : Entry X) (offset : ℕ) (records : List Rec) → KeepsOn seen.held store.held → HasBlockExtent (seen_later seen store) e offset records → HasBlockExtent seen e offset records
entry_before seen store e offset records keeps is = record {
  numbers = is.numbers;
  long = is.long;
  told = let all = is.told in record { there = λ before holds. all.there (before ++ (keeps before holds).0) (keeps before holds).1; only = all.only };
}

pub entries_more : {X : Type 0} (seen : SeenExtents X) (store : LiveState) (options : FileOptions) (history records : List Rec) (r : Rec) (entries more : List (Entry X)) (given : Option (Entry X)) → KeepsOn seen.held store.held
    → GivesEntries seen options history records entries → Lists entries more given → GivesEntry (seen_later seen store) options (history ++ records) r given → GivesEntries seen options history (records ++ r ∷ []) more
entries_more seen store options history records r entries more None keeps old listed gives = record {
  closed = old.closed;
  sure = ap (sure_blocks options) (sym (append_assoc history records (r ∷ []))) ∙ same_sure options (history ++ records) r gives ∙ old.sure;
  each = subst (λ (l : List (Entry _)). AllZip (λ (b : ℕ × List Rec) (e : Entry _). HasBlockExtent seen e b.0 b.1) old.closed l) (sym listed) old.each;
}
entries_more seen store options history records r entries more (Some e) keeps old listed gives =
    let done = history ++ records in
    let offset = length (written_of options done) in
    let last = block_more (front options.profile) (cuts options.chunk options.span done).pieces (cuts options.chunk options.span (done ++ r ∷ [])).pieces gives.0 gives.1 in
    record {
      closed = old.closed ++ (offset, gives.0) ∷ [];
      sure = ap (sure_blocks options) (sym (append_assoc history records (r ∷ []))) ∙ last ∙ ap (λ (l : List (ℕ × List Rec)). l ++ (offset, gives.0) ∷ []) old.sure
          ∙ append_assoc (sure_blocks options history) old.closed ((offset, gives.0) ∷ []);
      each = subst (λ (l : List (Entry _)). AllZip (λ (b : ℕ × List Rec) (x : Entry _). HasBlockExtent seen x b.0 b.1) (old.closed ++ (offset, gives.0) ∷ []) l) (sym listed)
          (zip_push (λ (b : ℕ × List Rec) (x : Entry _). HasBlockExtent seen x b.0 b.1) old.closed entries (offset, gives.0) e old.each (entry_before seen store e offset gives.0 keeps gives.2));
    }
