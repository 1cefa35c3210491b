-- Where a file ended behind its last block, the bytes of all its blocks stand.
use Rattle.std.proofs.Common.{◌≡◌, ℕ, zero, suc, ◌+◌, ◌-◌, ◌≤◌, List, [], ◌∷◌, ◌++◌, length, map, take, Option, Result, Ok, Err, sym, ap, subst, ◌∙◌, append_assoc, length-append, arith}
use Rattle.rec_data.specs.declared.owned.Rec.{Rec}
use Rattle.mcap_model.specs.declared.options.FileOptions.{FileOptions}
use Rattle.mcap_model.specs.declared.ends.Stop.{Stop}
use Rattle.mcap_model.specs.Tops.{Top, top_bytes, spelled}
use Rattle.mcap_model.specs.Blocks.{Piece, block, cuts, pieces_of, piece_bytes, pieces_bytes, block_in, blocks_in, last_piece}
use Rattle.mcap_model.specs.File.{front, data_end, section, noted, tail_by, file_of}
use Rattle.mcap_model.specs.Pieces.{joined, back_of}
use Rattle.chunk_writer.specs.Stops.{numbers, Ends}

-- so many first pieces have all blocks only where they are all pieces, and the last of these is a block
past_all : (ps : List Piece) (records : List Rec) (n : ℕ) → length (blocks_in (take n (ps ++ block records ∷ []))) ≡ length (blocks_in ps) + 1 → length (ps ++ block records ∷ []) ≤ n
past_all [] records zero is = absurd (omega (arith, is))
past_all [] records (suc n) is = omega arith
past_all (p ∷ ps) records zero is = absurd (omega (arith, is))
past_all (p ∷ ps) records (suc n) is =
    let more = past_all ps records n (omega (arith, is, length-append (block_in p) (blocks_in (take n (ps ++ block records ∷ []))), length-append (block_in p) (blocks_in ps))) in
    omega (arith, more)

-- so many pieces and more have at least the bytes of all
all_within : (ps : List Piece) (rest : List (List ℕ)) (n : ℕ) → length ps ≤ n → length (pieces_bytes ps) ≤ length (joined (take n (map piece_bytes ps ++ rest)))
all_within [] rest n le = omega arith
all_within (p ∷ ps) rest zero le = absurd (omega (arith, le))
all_within (p ∷ ps) rest (suc n) le =
    let more = all_within ps rest n (omega (arith, le)) in
    omega (arith, more, length-append (piece_bytes p) (pieces_bytes ps), length-append (piece_bytes p) (joined (take n (map piece_bytes ps ++ rest))))

front_within : (start : List ℕ) (ps : List Piece) (rest : List (List ℕ)) (n : ℕ) → length ps + 1 ≤ n → length (start ++ pieces_bytes ps) ≤ length (joined (take n (start ∷ (map piece_bytes ps ++ rest))))
front_within start ps rest zero le = absurd (omega (arith, le))
front_within start ps rest (suc n) le =
    let more = all_within ps rest n (omega (arith, le)) in
    omega (arith, more, length-append start (pieces_bytes ps), length-append start (joined (take n (map piece_bytes ps ++ rest))))

file_whole : (options : FileOptions) (extras : List Top) (history : List Rec) → section options extras history ++ back_of options extras history ≡ file_of options extras history
unfolding file_of
file_whole options extras history = sym (append_assoc (section options extras history) data_end (tail_by options.chunk (noted options extras history) (length (section options extras history ++ data_end))))

-- the bytes of all blocks are among those that stand
pub all_stand : (options : FileOptions) (extras : List Top) (opened now : Option (List ℕ)) (history records : List Rec) (before blocks bytes : ℕ) (end : Result Unit Stop)
    → last_piece (cuts options.chunk options.span history).waiting ≡ block records ∷ [] → before ≡ length (blocks_in (cuts options.chunk options.span history).pieces) → blocks ≡ before + 1 → Ends options extras opened now history (numbers blocks bytes) end
    → length (front options.profile ++ pieces_bytes (pieces_of options.chunk options.span history)) ≤ bytes
all_stand options extras opened now history records before blocks bytes (Ok it) last many more ends =
    let start = front options.profile in
    let pieces = pieces_bytes (pieces_of options.chunk options.span history) in
    let whole = ap (λ (l : List ℕ). length l) (file_whole options extras history) in
    omega (arith, ends.2, whole, length-append (section options extras history) (back_of options extras history), length-append start (pieces ++ spelled extras), length-append pieces (spelled extras), length-append start pieces)
all_stand options extras opened now history records before blocks bytes (Err stop) last many more ends =
    let ps = (cuts options.chunk options.span history).pieces in
    let all = pieces_of options.chunk options.span history in
    let split : all ≡ ps ++ block records ∷ [] = ap (λ (l : List Piece). ps ++ l) last in
    let counted : length (blocks_in (take (ends.place - 1) all)) ≡ length (blocks_in ps) + 1 = sym ends.blocks_are ∙ more ∙ ap (λ (n : ℕ). n + 1) many in
    let past = past_all ps records (ends.place - 1) (subst (λ (l : List Piece). length (blocks_in (take (ends.place - 1) l)) ≡ length (blocks_in ps) + 1) split counted) in
    let long : length all ≡ length ps + 1 = ap (λ (l : List Piece). length l) split ∙ length-append ps (block records ∷ []) in
    let stand = front_within (front options.profile) all (map top_bytes extras ++ back_of options extras history ∷ []) ends.place (omega (arith, long, past, length-append ps (block records ∷ []))) in
    omega (arith, stand, ends.bytes_are)
