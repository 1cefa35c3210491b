-- The pieces of a history that goes on.
use Rattle.std.proofs.Common.{◌≡◌, ℕ, ◌+◌, ◌<◌, ◌≤◌, Bool, true, false, cond, List, [], ◌∷◌, ◌++◌, length, Option, Some, None, refl, sym, ap, subst, ◌∙◌, append_assoc, arith}
use Rattle.std.specs.Prelude.{fold, if◌then◌else◌, ◌||◌}
use Rattle.std.proofs.lemmas.Bool.{leb-false, both_ways}
use Rattle.std.proofs.lemmas.List.{append-nil, length-append}
use Rattle.std.proofs.lemmas.Grind.{flat_map-append}
use Rattle.rec_data.specs.declared.owned.Rec.{Rec}
use Rattle.rec_data.specs.Owned.{rec_bytes}
use Rattle.mcap_model.specs.History.{is_inner, body_of, history_bytes}
use Rattle.mcap_model.specs.Blocks.{Piece, block, alone, Cuts, no_cuts, reaches, spans, is_ripe, alone_behind, cut_behind, put_behind, cuts, last_piece, pieces_of, piece_bytes, pieces_bytes, logged, block_bytes, chunk_bytes, indexes_bytes, logged_channels}
use Rattle.mcap_model.proofs.Growth.{fold_append, bytes_more}
use Rattle.mcap_model.proofs.Section.{block_within}
use Rattle.mcap_model.proofs.FewRecords.{logged_few}
use Rattle.chunk_writer.specs.Bodies.{ClosesPiece}

-- ---- one record more

pub cuts_more : (size span : Option ℕ) (history : List Rec) (r : Rec) → cuts size span (history ++ r ∷ []) ≡ put_behind size span (cuts size span history) r
cuts_more size span history r = fold_append (put_behind size span) no_cuts history (r ∷ [])

abbrev Grown : Option ℕ → Option ℕ → Cuts → List Rec → Type 0
Grown size span c rs = (more : List Piece) × ((fold (put_behind size span) c rs).pieces ≡ c.pieces ++ more)

abbrev chosen : Cuts → Rec → Bool → Cuts
chosen c r b = if b then record { pieces = c.pieces ++ block (c.waiting ++ r ∷ []) ∷ []; waiting = [] } else record { pieces = c.pieces; waiting = c.waiting ++ r ∷ [] }

one_by : (c : Cuts) (r : Rec) (b : Bool) → (more : List Piece) × ((chosen c r b).pieces ≡ c.pieces ++ more)
one_by c r true = (block (c.waiting ++ r ∷ []) ∷ [], refl)
one_by c r false = ([], sym (append-nil c.pieces))

one_put : (ripe : List Rec → Bool) (c : Cuts) (r : Rec) (b : Bool) → (more : List Piece) × ((if b then cut_behind ripe c r else alone_behind c r).pieces ≡ c.pieces ++ more)
one_put ripe c r true = one_by c r (ripe (c.waiting ++ r ∷ []))
one_put ripe c r false = (alone r ∷ [], refl)

pub one_more : (size span : Option ℕ) (c : Cuts) (r : Rec) → (more : List Piece) × ((put_behind size span c r).pieces ≡ c.pieces ++ more)
one_more None span c r = (alone r ∷ [], refl)
one_more (Some size) span c r = one_put (is_ripe size span) c r (is_inner r)

grown : (size span : Option ℕ) (c : Cuts) (rs : List Rec) → Grown size span c rs
grown size span c [] = ([], sym (append-nil c.pieces))
grown size span c (r ∷ rs) =
    let one = one_more size span c r in
    let rest = grown size span (put_behind size span c r) rs in
    (one.0 ++ rest.0, rest.1 ∙ ap (λ (l : List Piece). l ++ rest.0) one.1 ∙ append_assoc c.pieces one.0 rest.0)

-- the pieces that are sure stay so
pub pieces_grow : (size span : Option ℕ) (history behind : List Rec) → (rest : List Piece) × (pieces_of size span (history ++ behind) ≡ (cuts size span history).pieces ++ rest)
pieces_grow size span history behind =
    let all : cuts size span (history ++ behind) ≡ fold (put_behind size span) (cuts size span history) behind = fold_append (put_behind size span) no_cuts history behind in
    let more = grown size span (cuts size span history) behind in
    let last = last_piece (cuts size span (history ++ behind)).waiting in
    (more.0 ++ last, ap (λ (c : Cuts). c.pieces ++ last) all ∙ ap (λ (l : List Piece). l ++ last) more.1 ∙ append_assoc (cuts size span history).pieces more.0 last)

-- a piece that a record made sure stands behind those before it
pub closed_grow : (size span : Option ℕ) (history : List Rec) (r : Rec) (piece : Piece) (behind : List Rec) → ClosesPiece size span history r piece
    → (rest : List Piece) × (pieces_of size span ((history ++ r ∷ []) ++ behind) ≡ (cuts size span history).pieces ++ piece ∷ rest)
closed_grow size span history r piece behind closes =
    let more = pieces_grow size span (history ++ r ∷ []) behind in
    (more.0, more.1 ∙ ap (λ (l : List Piece). l ++ more.0) closes ∙ append_assoc (cuts size span history).pieces (piece ∷ []) more.0)

pub bytes_behind : (ps : List Piece) (p : Piece) → pieces_bytes (ps ++ p ∷ []) ≡ pieces_bytes ps ++ piece_bytes p
bytes_behind ps p = flat_map-append piece_bytes ps (p ∷ []) ∙ ap (λ (l : List ℕ). pieces_bytes ps ++ l) (append-nil (piece_bytes p))

-- without a chunk size no record waits
none_waits_by : (span : Option ℕ) (c : Cuts) (rs : List Rec) → c.waiting ≡ [] → (fold (put_behind None span) c rs).waiting ≡ []
none_waits_by span c [] none = none
none_waits_by span c (r ∷ rs) none = none_waits_by span (put_behind None span c r) rs none

pub none_waits : (span : Option ℕ) (history : List Rec) → (cuts None span history).waiting ≡ []
none_waits span history = none_waits_by span no_cuts history refl

-- an extra stands by itself, and what waits stays so
pub closes_aside : (size : ℕ) (span : Option ℕ) (history : List Rec) (r : Rec) → is_inner r ≡ false → cuts (Some size) span (history ++ r ∷ []) ≡ alone_behind (cuts (Some size) span history) r
closes_aside size span history r extra =
    let c = cuts (Some size) span history in
    cuts_more (Some size) span history r ∙ ap (λ (b : Bool). if b then cut_behind (is_ripe size span) c r else alone_behind c r) extra

-- ---- how many messages there are

-- the bytes of the records stand in the pieces, but for those that wait, which aren't ripe
record Spread (size : ℕ) (done : List Rec) (c : Cuts) : Type 0 where
  pub bytes : length (history_bytes done) ≤ length (pieces_bytes c.pieces) + length (history_bytes c.waiting)
  pub short : length (history_bytes c.waiting) < size

-- what isn't ripe isn't long
either_false : (a b : Bool) → (a || b) ≡ false → a ≡ false
either_false true b is = absurd (both_ways true is refl)
either_false false b is = refl

spread_by : (size : ℕ) (span : Option ℕ) (done : List Rec) (c : Cuts) (r : Rec) (b : Bool) → 0 < size → Spread size done c → is_ripe size span (c.waiting ++ r ∷ []) ≡ b → Spread size (done ++ r ∷ []) (chosen c r b)
spread_by size span done c r true some is ripe =
    let ws = c.waiting ++ r ∷ [] in
    let old = is.bytes in
    let within = block_within ws in
    let pieces = ap (λ (l : List ℕ). length l) (bytes_behind c.pieces (block ws)) in
    let all = ap (λ (l : List ℕ). length l) (bytes_more done r) in
    let more = ap (λ (l : List ℕ). length l) (bytes_more c.waiting r) in
    record {
      bytes = omega (arith, old, within, pieces, all, more, length-append (history_bytes done) (rec_bytes r), length-append (history_bytes c.waiting) (rec_bytes r), length-append (pieces_bytes c.pieces) (block_bytes ws), length-append (chunk_bytes ws) (indexes_bytes ws (logged_channels ws)));
      short = some;
    }
spread_by size span done c r false some is ripe =
    let old = is.bytes in
    let all = ap (λ (l : List ℕ). length l) (bytes_more done r) in
    let more = ap (λ (l : List ℕ). length l) (bytes_more c.waiting r) in
    record {
      bytes = omega (arith, old, all, more, length-append (history_bytes done) (rec_bytes r), length-append (history_bytes c.waiting) (rec_bytes r));
      short = leb-false size (length (history_bytes (c.waiting ++ r ∷ []))) (either_false (reaches size (c.waiting ++ r ∷ [])) (spans span (c.waiting ++ r ∷ [])) ripe);
    }

-- an extra stands among the pieces
spread_aside : (size : ℕ) (done : List Rec) (c : Cuts) (r : Rec) → Spread size done c → Spread size (done ++ r ∷ []) (alone_behind c r)
spread_aside size done c r is =
    let old = is.bytes in
    let pieces = ap (λ (l : List ℕ). length l) (bytes_behind c.pieces (alone r)) in
    let all = ap (λ (l : List ℕ). length l) (bytes_more done r) in
    record {
      bytes = omega (arith, old, pieces, all, length-append (history_bytes done) (rec_bytes r), length-append (pieces_bytes c.pieces) (rec_bytes r));
      short = is.short;
    }

spread_put : (size : ℕ) (span : Option ℕ) (done : List Rec) (c : Cuts) (r : Rec) (b : Bool) → 0 < size → Spread size done c → Spread size (done ++ r ∷ []) (if b then cut_behind (is_ripe size span) c r else alone_behind c r)
spread_put size span done c r true some is = spread_by size span done c r (is_ripe size span (c.waiting ++ r ∷ [])) some is refl
spread_put size span done c r false some is = spread_aside size done c r is

spread : (size : ℕ) (span : Option ℕ) (done rs : List Rec) (c : Cuts) → 0 < size → Spread size done c → Spread size (done ++ rs) (fold (put_behind (Some size) span) c rs)
spread size span done [] c some is = subst (λ (l : List Rec). Spread size l c) (sym (append-nil done)) is
spread size span done (r ∷ rs) c some is =
    subst (λ (l : List Rec). Spread size l (fold (put_behind (Some size) span) (put_behind (Some size) span c r) rs)) (append_assoc done (r ∷ []) rs)
    (spread size span (done ++ r ∷ []) rs (put_behind (Some size) span c r) some (spread_put size span done c r (is_inner r) some is))

-- without the extras there are no more bytes
body_short : (rs : List Rec) → length (history_bytes (body_of rs)) ≤ length (history_bytes rs)
body_short [] = omega arith
body_short (r ∷ rs) = by (is_inner r) (body_short rs)
  where
    by : (b : Bool) → length (history_bytes (body_of rs)) ≤ length (history_bytes rs) → length (history_bytes (cond b (r ∷ body_of rs) (body_of rs))) ≤ length (history_bytes (r ∷ rs))
    by true short = omega (arith, short, length-append (rec_bytes r) (history_bytes (body_of rs)), length-append (rec_bytes r) (history_bytes rs))
    by false short = omega (arith, short, length-append (rec_bytes r) (history_bytes rs))

pub few_logged : (size : ℕ) (span : Option ℕ) (history : List Rec) → 0 < size → length (logged (body_of history)) ≤ length (pieces_bytes (cuts (Some size) span history).pieces) + size
few_logged size span history some =
    let few = logged_few 0 (body_of history) in
    let fewer = body_short history in
    let all = spread size span [] history no_cuts some (record { bytes = omega arith; short = some }) in
    let bytes = all.bytes in
    let short = all.short in
    omega (arith, few, fewer, bytes, short)
