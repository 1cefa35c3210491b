-- Where a writer stopped, and what its store holds then.
use Rattle.std.proofs.Common.{◌≡◌, ℕ, suc, ◌+◌, ◌-◌, ◌≤◌, List, [], ◌∷◌, ◌++◌, length, map, take, Option, Some, Err, refl, sym, ap, subst, ◌∙◌, append_assoc, append-nil, arith}
use Rattle.std.proofs.Math.Seq.{take-append_seam}
use Rattle.std.proofs.lemmas.List.{take_all, length-map, length-append, map-append}
use Rattle.std.proofs.lemmas.Grind.{flat_map-append}
use Rattle.rec_data.specs.declared.owned.Rec.{Rec}
use Rattle.mcap_io.specs.declared.outside.AppendRefused.{AppendRefused}
use Rattle.mcap_io.specs.declared.outside.AppendRefused.TheVariants as append_refusals
use Rattle.mcap_io.specs.Outside.{LiveState, Adds, AddsPart}
use Rattle.mcap_io.specs.OutsideCalls.{AppendLeaves}
use Rattle.mcap_model.specs.declared.options.FileOptions.{FileOptions}
use Rattle.mcap_model.specs.declared.ends.Stop.{Stop}
use Rattle.mcap_model.specs.declared.ends.Stop.TheVariants as stops
use Rattle.mcap_model.specs.Places.{At}
use Rattle.mcap_model.specs.Tops.{Top, top_bytes, spelled}
use Rattle.mcap_model.proofs.Places.{at_last}
use Rattle.mcap_model.proofs.Pieces.{joined_map}
use Rattle.mcap_model.specs.Blocks.{Piece, cuts, last_piece, pieces_of, piece_bytes, pieces_bytes, blocks_in}
use Rattle.mcap_model.specs.File.{front, section}
use Rattle.mcap_model.specs.Histories.{written_of}
use Rattle.mcap_model.specs.Pieces.{joined, back_of, file_pieces, pieces_before}
use Rattle.chunk_writer.specs.Limits.{Holds, HeaderFits, ContentsFit, FileHolds, StopWhy}
use Rattle.chunk_writer.specs.LimitSteps.{HoldsOrStops, IsNoFault}
use Rattle.chunk_writer.specs.Bodies.{ClosesPiece}
use Rattle.chunk_writer.proofs.Contents.{holds_piece, fits_piece, no_chunks}
use Rattle.chunk_writer.specs.Plans.{PieceFits, PutStopped, LastStopped, ExtraStopped, BackStopped}
use Rattle.chunk_writer.specs.Stops.{numbers, first_blocks, blocks_among, StopsAt, Cause}
use Rattle.chunk_writer.specs.StopSteps.{Appends, Added, refusal}
use Rattle.chunk_writer.proofs.Cuts.{pieces_grow, closed_grow}
use Rattle.chunk_writer.proofs.Planned.{whole_some}

-- ---- refused appends

pub refused_appends : {X : Type 0} (tells : X → Option (List ℕ)) (size : X → ℕ) (old new : LiveState) (piece : List ℕ) (n : ℕ) (why : AppendRefused) (stop : Stop) → stop ≡ refusal n why
    → AppendLeaves old.held new.held piece why → Appends tells size old new piece (Err stop)
refused_appends tells size old new piece n (append_refusals.Failed taken) stop is leaves =
    subst (λ (s : Stop). Appends tells size old new piece (Err s)) (sym is) (λ before told. (taken, omega arith, leaves.0, leaves.1 before told))
refused_appends tells size old new piece n append_refusals.Memory stop is leaves = subst (λ (s : Stop). Appends tells size old new piece (Err s)) (sym is) leaves

pub added_err : {X : Type 0} (tells : X → Option (List ℕ)) (size : X → ℕ) (old new : LiveState) (piece : List ℕ) (stop : Stop) → Appends tells size old new piece (Err stop) → Added old.held new.held piece (Err stop)
added_err tells size old new piece (stops.Fault faults) appends = appends
added_err tells size old new piece (stops.Limit b n) appends = appends
added_err tells size old new piece stops.Memory appends = appends

-- without a fault the count stands still
pub still_cause : (X : Type 0) (count : ℕ) (stop : Stop) → IsNoFault stop → Cause {X = X} count count (Err stop)
still_cause X count (stops.Fault faults) none = absurd none
still_cause X count (stops.Limit b n) none = refl
still_cause X count stops.Memory none = refl

-- what is left of a piece at which a writer stopped
abbrev pub Left : Option (List ℕ) → Option (List ℕ) → List ℕ → Stop → Type 0
Left held now next stop = (before : List ℕ) → held ≡ Some before → (some : ℕ) × (now ≡ Some (before ++ take some next)) × (((faults : ℕ) → stop ≡ stops.Fault faults → ⊥) → some ≡ 0)

left_none : (held now : Option (List ℕ)) (next : List ℕ) (stop : Stop) → now ≡ held → Left held now next stop
left_none held now next stop same before told = (0, same ∙ told ∙ ap Some (sym (append-nil before)), λ unfailed. refl)

left_part : (held now : Option (List ℕ)) (next : List ℕ) (faults : ℕ) → AddsPart held now 0 next → Left held now next (stops.Fault faults)
left_part held now next faults part before told = let some = part before told in (some.0, some.3, λ unfailed. absurd (unfailed faults refl))

-- a refused append of a piece for which there was room
abbrev Refused : Option (List ℕ) → Option (List ℕ) → List ℕ → Stop → ℕ → ℕ → Type 0 → Type 0
Refused held now next stop blocks bytes room = Left held now next stop × StopWhy stop blocks bytes room

refused_by : (held now : Option (List ℕ)) (next : List ℕ) (stop : Stop) (blocks bytes : ℕ) (room : Type 0) → Added held now next (Err stop) → room → Refused held now next stop blocks bytes room
refused_by held now next (stops.Fault faults) blocks bytes room added holds = (left_part held now next faults added, holds)
refused_by held now next (stops.Limit b n) blocks bytes room added holds = absurd added
refused_by held now next stops.Memory blocks bytes room added holds = (left_none held now next stops.Memory added, tt)

-- ---- a piece behind others

-- what stands behind the pieces: the extras, and the back
abbrev pub tail_of : FileOptions → List Top → List Rec → List (List ℕ)
tail_of options extras history = map top_bytes extras ++ back_of options extras history ∷ []

-- the bytes of the next piece, which is the first of the tail where no piece is left
abbrev pub next_of : List Piece → List (List ℕ) → List ℕ
next_of [] [] = []
next_of [] (t ∷ ts) = t
next_of (p ∷ ps) tail = piece_bytes p

abbrev first_of : List Piece → List Piece
first_of [] = []
first_of (p ∷ ps) = p ∷ []

at_tail : (es : List (List ℕ)) (back : List ℕ) → At (es ++ back ∷ []) 0 (next_of [] (es ++ back ∷ []))
at_tail [] back = refl
at_tail (e ∷ es) back = refl

at_next : (ps rest : List Piece) (es : List (List ℕ)) (back : List ℕ) → At (map piece_bytes (ps ++ rest) ++ (es ++ back ∷ [])) (length ps) (next_of rest (es ++ back ∷ []))
at_next [] [] es back = at_tail es back
at_next [] (p ∷ rest) es back = refl
at_next (q ∷ ps) rest es back = at_next ps rest es back

before_next : (ps rest : List Piece) (tail : List (List ℕ)) → joined (take (length ps) (map piece_bytes (ps ++ rest) ++ tail)) ≡ pieces_bytes ps
before_next [] rest tail = refl
before_next (q ∷ ps) rest tail = ap (λ (l : List ℕ). piece_bytes q ++ l) (before_next ps rest tail)

take_first : (ps rest : List Piece) → take (suc (length ps)) (ps ++ rest) ≡ ps ++ first_of rest
take_first [] [] = refl
take_first [] (p ∷ rest) = refl
take_first (q ∷ ps) rest = ap (λ (l : List Piece). q ∷ l) (take_first ps rest)

pub stops_at : (options : FileOptions) (extras : List Top) (history : List Rec) (opened held now : Option (List ℕ)) (ps rest : List Piece) (stop : Stop) (blocks bytes : ℕ) → pieces_of options.chunk options.span history ≡ ps ++ rest
    → Adds opened held (front options.profile ++ pieces_bytes ps) → Left held now (next_of rest (tail_of options extras history)) stop → blocks ≡ length (blocks_in ps) → bytes ≡ length (front options.profile ++ pieces_bytes ps)
    → StopWhy stop blocks bytes (FileHolds options.profile (blocks_in (ps ++ first_of rest)) (bytes + length (next_of rest (tail_of options extras history)))) → StopsAt options extras history opened now stop (numbers blocks bytes)
stops_at options extras history opened held now ps rest stop blocks bytes is adds left many long why =
    let back = back_of options extras history in
    let es = map top_bytes extras in
    let tail = tail_of options extras history in
    let start = front options.profile in
    let next = next_of rest tail in
    let place = suc (length ps) in
    let fp : file_pieces options extras history ≡ start ∷ (map piece_bytes (ps ++ rest) ++ tail) = ap (λ (l : List Piece). start ∷ (map piece_bytes l ++ tail)) is in
    let at : At (file_pieces options extras history) place next = subst (λ (l : List (List ℕ)). At l place next) (sym fp) (at_next ps rest es back) in
    let before : pieces_before (file_pieces options extras history) place ≡ start ++ pieces_bytes ps =
    ap (λ (l : List (List ℕ)). pieces_before l place) fp ∙ ap (λ (l : List ℕ). start ++ l) (before_next ps rest tail) in
    let size : bytes ≡ length (pieces_before (file_pieces options extras history) place) = long ∙ ap (λ (l : List ℕ). length l) (sym before) in
    let among : blocks_among options history place ≡ length (blocks_in ps) =
    ap (λ (l : List Piece). length (blocks_in (take (place - 1) l))) is
    ∙ ap (λ (k : ℕ). length (blocks_in (take k (ps ++ rest)))) (let e : place - 1 ≡ length ps = omega arith in e)
    ∙ ap (λ (l : List Piece). length (blocks_in l)) (take-append_seam ps rest) in
    let with_it : first_blocks options history (place + 1) ≡ blocks_in (ps ++ first_of rest) =
    ap (λ (l : List Piece). blocks_in (take (place + 1 - 1) l)) is
    ∙ ap (λ (k : ℕ). blocks_in (take k (ps ++ rest))) (let e : place + 1 - 1 ≡ suc (length ps) = omega arith in e)
    ∙ ap (λ (l : List Piece). blocks_in l) (take_first ps rest) in
    record {
      place = place;
      next = next;
      at = at;
      blocks_are = many ∙ sym among;
      bytes_are = size;
      why = subst (λ (l : List (List Rec)). StopWhy stop blocks bytes (FileHolds options.profile l (bytes + length next))) (sym with_it) why;
      took = λ first told.
          let whole = start ++ pieces_bytes ps in
          let (some, holds, unfailed) = left (first ++ whole) (adds first told) in (
            whole ++ take some next,
            holds ∙ ap Some (append_assoc first whole (take some next)),
            record {
              next = next;
              at = at;
              some = some;
              split = ap (λ (l : List ℕ). l ++ take some next) (sym before);
              unfailed = unfailed;
              size = size;
            },
          );
    }

-- ---- where a record was refused

abbrev pub Holding : FileOptions → Option (List ℕ) → Option (List ℕ) → List Rec → ℕ → ℕ → Type 0
Holding options opened held history blocks bytes = Adds opened held (written_of options history) × (blocks ≡ length (blocks_in (cuts options.chunk options.span history).pieces)) × (bytes ≡ length (written_of options history))
    × ContentsFit options.profile (blocks_in (cuts options.chunk options.span history).pieces)

-- memory lacks behind the pieces that are sure
pub put_lacks : (options : FileOptions) (extras : List Top) (opened held : Option (List ℕ)) (history : List Rec) (blocks bytes : ℕ) (behind : List Rec) → Holding options opened held history blocks bytes
    → StopsAt options extras (history ++ behind) opened held stops.Memory (numbers blocks bytes)
put_lacks options extras opened held history blocks bytes behind (adds, many, long, fit) =
    let (rest, is) = pieces_grow options.chunk options.span history behind in
    stops_at options extras (history ++ behind) opened held held (cuts options.chunk options.span history).pieces rest stops.Memory blocks bytes is adds
    (left_none held held (next_of rest (tail_of options extras (history ++ behind))) stops.Memory refl) many long tt

pub put_refused : (options : FileOptions) (extras : List Top) (opened held : Option (List ℕ)) (history : List Rec) (r : Rec) (stop : Stop) (blocks bytes : ℕ) (behind : List Rec) → Holding options opened held history blocks bytes
    → PutStopped options.chunk options.span history r blocks bytes stop → StopsAt options extras ((history ++ r ∷ []) ++ behind) opened held stop (numbers blocks bytes)
put_refused options extras opened held history r (stops.Fault faults) blocks bytes behind stands stopped = absurd stopped
put_refused options extras opened held history r (stops.Limit b n) blocks bytes behind (adds, many, long, fit) (piece, closes, same_b, same_n, passes) =
    let (rest, is) = closed_grow options.chunk options.span history r piece behind closes in
    let all = (history ++ r ∷ []) ++ behind in
    stops_at options extras all opened held held (cuts options.chunk options.span history).pieces (piece ∷ rest) (stops.Limit b n) blocks bytes is adds (left_none held held (piece_bytes piece) (stops.Limit b n) refl) many long
    (same_b, same_n, λ holds. passes (fits_piece options.profile (cuts options.chunk options.span history).pieces piece blocks bytes many holds))
put_refused options extras opened held history r stops.Memory blocks bytes behind (adds, many, long, fit) stopped =
    let (rest, is) = pieces_grow options.chunk options.span history (r ∷ behind) in
    let same : history ++ r ∷ behind ≡ (history ++ r ∷ []) ++ behind = sym (append_assoc history (r ∷ []) behind) in
    subst (λ (l : List Rec). StopsAt options extras l opened held stops.Memory (numbers blocks bytes)) same
    (stops_at options extras (history ++ r ∷ behind) opened held held (cuts options.chunk options.span history).pieces rest stops.Memory blocks bytes is adds (left_none held held (next_of rest (tail_of options extras (history ++ r ∷ behind))) stops.Memory refl) many long tt)

pub append_refused : (options : FileOptions) (extras : List Top) (opened held now : Option (List ℕ)) (history : List Rec) (r : Rec) (piece : Piece) (stop : Stop) (blocks bytes : ℕ) (behind : List Rec) → Holding options opened held history blocks bytes
    → ClosesPiece options.chunk options.span history r piece → PieceFits blocks bytes piece → Added held now (piece_bytes piece) (Err stop)
    → StopsAt options extras ((history ++ r ∷ []) ++ behind) opened now stop (numbers blocks bytes)
append_refused options extras opened held now history r piece stop blocks bytes behind (adds, many, long, fit) closes holds added =
    let (rest, is) = closed_grow options.chunk options.span history r piece behind closes in
    let (left, why) = refused_by held now (piece_bytes piece) stop blocks bytes _ added (holds_piece options.profile (cuts options.chunk options.span history).pieces piece blocks bytes many fit holds) in
    stops_at options extras ((history ++ r ∷ []) ++ behind) opened held now (cuts options.chunk options.span history).pieces (piece ∷ rest) stop blocks bytes is adds left many long why

-- ---- where the end was refused

pub last_refused : (options : FileOptions) (extras : List Top) (opened held : Option (List ℕ)) (history : List Rec) (stop : Stop) (blocks bytes : ℕ) → Holding options opened held history blocks bytes
    → LastStopped options.chunk options.span history blocks bytes stop → StopsAt options extras history opened held stop (numbers blocks bytes)
last_refused options extras opened held history (stops.Fault faults) blocks bytes stands stopped = absurd stopped
last_refused options extras opened held history (stops.Limit b n) blocks bytes (adds, many, long, fit) (piece, last, same_b, same_n, passes) =
    stops_at options extras history opened held held (cuts options.chunk options.span history).pieces (piece ∷ []) (stops.Limit b n) blocks bytes (whole_some options.chunk options.span history piece last) adds
    (left_none held held (piece_bytes piece) (stops.Limit b n) refl) many long (same_b, same_n, λ holds. passes (fits_piece options.profile (cuts options.chunk options.span history).pieces piece blocks bytes many holds))
last_refused options extras opened held history stops.Memory blocks bytes (adds, many, long, fit) stopped =
    let rest = last_piece (cuts options.chunk options.span history).waiting in
    stops_at options extras history opened held held (cuts options.chunk options.span history).pieces rest stops.Memory blocks bytes refl adds (left_none held held (next_of rest (tail_of options extras history)) stops.Memory refl) many long tt

pub last_append_refused : (options : FileOptions) (extras : List Top) (opened held now : Option (List ℕ)) (history : List Rec) (piece : Piece) (stop : Stop) (blocks bytes : ℕ) → Holding options opened held history blocks bytes
    → last_piece (cuts options.chunk options.span history).waiting ≡ piece ∷ [] → PieceFits blocks bytes piece → Added held now (piece_bytes piece) (Err stop)
    → StopsAt options extras history opened now stop (numbers blocks bytes)
last_append_refused options extras opened held now history piece stop blocks bytes (adds, many, long, fit) last holds added =
    let (left, why) = refused_by held now (piece_bytes piece) stop blocks bytes _ added (holds_piece options.profile (cuts options.chunk options.span history).pieces piece blocks bytes many fit holds) in
    stops_at options extras history opened held now (cuts options.chunk options.span history).pieces (piece ∷ []) stop blocks bytes (whole_some options.chunk options.span history piece last) adds left many long why

-- all pieces and the first extras
abbrev pub Wholly : FileOptions → List Top → Option (List ℕ) → Option (List ℕ) → List Rec → ℕ → ℕ → Type 0
Wholly options extras opened held history blocks bytes = Adds opened held (section options extras history)
    × (blocks ≡ length (blocks_in (pieces_of options.chunk options.span history))) × (bytes ≡ length (section options extras history))
    × ContentsFit options.profile (blocks_in (pieces_of options.chunk options.span history))

take_past : (ps : List Piece) (es : List Top) (k : ℕ) → take (length (map piece_bytes ps ++ map top_bytes es) + k) ps ≡ ps
take_past ps es k = take_all (length (map piece_bytes ps ++ map top_bytes es) + k) ps (let size : length (map piece_bytes ps) ≡ length ps = length-map ps piece_bytes in omega (arith, size, length-append (map piece_bytes ps) (map top_bytes es)))

-- the writer stopped behind the first extras, where that stands next
stops_past : (options : FileOptions) (done extras : List Top) (opened held now : Option (List ℕ)) (history : List Rec) (next : List ℕ) (behind : List (List ℕ)) (stop : Stop) (blocks bytes : ℕ)
    → tail_of options extras history ≡ map top_bytes done ++ next ∷ behind → Wholly options done opened held history blocks bytes → Left held now next stop
    → StopWhy stop blocks bytes (FileHolds options.profile (blocks_in (pieces_of options.chunk options.span history)) (bytes + length next)) → StopsAt options extras history opened now stop (numbers blocks bytes)
stops_past options done extras opened held now history next behind stop blocks bytes is (adds, many, long, fit) left why =
    let ps = pieces_of options.chunk options.span history in
    let start = front options.profile in
    let xs = map piece_bytes ps ++ map top_bytes done in
    let place = suc (length xs) in
    let fp : file_pieces options extras history ≡ start ∷ (xs ++ next ∷ behind) =
    ap (λ (l : List (List ℕ)). start ∷ (map piece_bytes ps ++ l)) is ∙ ap (λ (l : List (List ℕ)). start ∷ l) (sym (append_assoc (map piece_bytes ps) (map top_bytes done) (next ∷ behind))) in
    let at : At (file_pieces options extras history) place next = subst (λ (l : List (List ℕ)). At l place next) (sym fp) (at_last xs next behind) in
    let joins : joined xs ≡ pieces_bytes ps ++ spelled done =
    flat_map-append (λ (piece : List ℕ). piece) (map piece_bytes ps) (map top_bytes done) ∙ ap (λ (l : List ℕ). l ++ joined (map top_bytes done)) (joined_map piece_bytes ps) ∙ ap (λ (l : List ℕ). pieces_bytes ps ++ l) (joined_map top_bytes done) in
    let before : pieces_before (file_pieces options extras history) place ≡ section options done history =
    ap (λ (l : List (List ℕ)). pieces_before l place) fp ∙ ap (λ (l : List (List ℕ)). start ++ joined l) (take-append_seam xs (next ∷ behind)) ∙ ap (λ (l : List ℕ). start ++ l) joins in
    let among : (k : ℕ) → first_blocks options history (place + k) ≡ blocks_in ps =
    λ k. ap (λ (n : ℕ). blocks_in (take n ps)) (let e : place + k - 1 ≡ length xs + k = omega arith in e) ∙ ap (λ (l : List Piece). blocks_in l) (take_past ps done k) in
    let here : blocks_among options history place ≡ length (blocks_in ps) = ap (λ (n : ℕ). blocks_among options history n) (let e : place ≡ place + 0 = omega arith in e) ∙ ap (λ (l : List (List Rec)). length l) (among 0) in
    record {
      place = place;
      next = next;
      at = at;
      blocks_are = many ∙ sym here;
      bytes_are = long ∙ ap (λ (l : List ℕ). length l) (sym before);
      why = subst (λ (l : List (List Rec)). StopWhy stop blocks bytes (FileHolds options.profile l (bytes + length next))) (sym (among 1)) why;
      took = λ first told.
          let whole = section options done history in
          let (some, holds, unfailed) = left (first ++ whole) (adds first told) in (
            whole ++ take some next,
            holds ∙ ap Some (append_assoc first whole (take some next)),
            record {
              next = next;
              at = at;
              some = some;
              split = ap (λ (l : List ℕ). l ++ take some next) (sym before);
              unfailed = unfailed;
              size = long ∙ ap (λ (l : List ℕ). length l) (sym before);
            },
          );
    }

-- a file may hold a piece behind all blocks exactly where its bytes are within the limit
limit_past : (profile : List ℕ) (all : List (List Rec)) (blocks bytes len b n : ℕ) → blocks ≡ length all → (b ≡ blocks) × (n ≡ bytes) × (Holds blocks (bytes + len) → ⊥) → StopWhy (stops.Limit b n) blocks bytes (FileHolds profile all (bytes + len))
limit_past profile all blocks bytes len b n many (same_b, same_n, passes) = (same_b, same_n, λ file. let few = file.holds.few in passes (record { few = omega (arith, few, many); small = file.holds.small }))

past_refused : (options : FileOptions) (done extras : List Top) (opened held now : Option (List ℕ)) (history : List Rec) (next : List ℕ) (behind : List (List ℕ)) (stop : Stop) (blocks bytes : ℕ)
    → tail_of options extras history ≡ map top_bytes done ++ next ∷ behind → Wholly options done opened held history blocks bytes
    → Holds blocks (bytes + length next) → Added held now next (Err stop) → StopsAt options extras history opened now stop (numbers blocks bytes)
past_refused options done extras opened held now history next behind stop blocks bytes is wholly holds added =
    let few = holds.few in
    let (adds, many, long, fit) = wholly in
    let (left, why) = refused_by held now next stop blocks bytes _ added (record { holds = record { few = omega (arith, few, many); small = holds.small }; contents = fit }) in
    stops_past options done extras opened held now history next behind stop blocks bytes is wholly left why

-- ---- the back

pub back_refused : (options : FileOptions) (extras : List Top) (opened held : Option (List ℕ)) (history : List Rec) (stop : Stop) (blocks bytes : ℕ) → Wholly options extras opened held history blocks bytes
    → BackStopped options extras history blocks bytes stop → StopsAt options extras history opened held stop (numbers blocks bytes)
back_refused options extras opened held history (stops.Fault faults) blocks bytes wholly stopped = absurd stopped
back_refused options extras opened held history (stops.Limit b n) blocks bytes wholly stopped =
    let back = back_of options extras history in
    stops_past options extras extras opened held held history back [] (stops.Limit b n) blocks bytes refl wholly (left_none held held back (stops.Limit b n) refl) (limit_past options.profile _ blocks bytes (length back) b n wholly.1 stopped)
back_refused options extras opened held history stops.Memory blocks bytes wholly stopped =
    let back = back_of options extras history in
    stops_past options extras extras opened held held history back [] stops.Memory blocks bytes refl wholly (left_none held held back stops.Memory refl) tt

pub back_append_refused : (options : FileOptions) (extras : List Top) (opened held now : Option (List ℕ)) (history : List Rec) (stop : Stop) (blocks bytes : ℕ) → Wholly options extras opened held history blocks bytes
    → Holds blocks (bytes + length (back_of options extras history)) → Added held now (back_of options extras history) (Err stop) → StopsAt options extras history opened now stop (numbers blocks bytes)
back_append_refused options extras opened held now history stop blocks bytes wholly holds added =
    past_refused options extras extras opened held now history (back_of options extras history) [] stop blocks bytes refl wholly holds added

-- ---- an extra

-- the extras behind the first ones
tail_split : (options : FileOptions) (done : List Top) (t : Top) (behind : List Top) (history : List Rec)
    → tail_of options (done ++ t ∷ behind) history ≡ map top_bytes done ++ top_bytes t ∷ (map top_bytes behind ++ back_of options (done ++ t ∷ behind) history ∷ [])
tail_split options done t behind history =
    let back = back_of options (done ++ t ∷ behind) history in
    ap (λ (l : List (List ℕ)). l ++ back ∷ []) (map-append top_bytes done (t ∷ behind)) ∙ append_assoc (map top_bytes done) (top_bytes t ∷ map top_bytes behind) (back ∷ [])

pub extra_refused : (options : FileOptions) (done : List Top) (t : Top) (behind : List Top) (opened held : Option (List ℕ)) (history : List Rec) (stop : Stop) (blocks bytes : ℕ) → Wholly options done opened held history blocks bytes
    → ExtraStopped blocks bytes (top_bytes t) stop → StopsAt options (done ++ t ∷ behind) history opened held stop (numbers blocks bytes)
extra_refused options done t behind opened held history (stops.Fault faults) blocks bytes wholly stopped = absurd stopped
extra_refused options done t behind opened held history (stops.Limit b n) blocks bytes wholly stopped =
    stops_past options done (done ++ t ∷ behind) opened held held history (top_bytes t) _ (stops.Limit b n) blocks bytes (tail_split options done t behind history) wholly
    (left_none held held (top_bytes t) (stops.Limit b n) refl) (limit_past options.profile _ blocks bytes (length (top_bytes t)) b n wholly.1 stopped)
extra_refused options done t behind opened held history stops.Memory blocks bytes wholly stopped =
    stops_past options done (done ++ t ∷ behind) opened held held history (top_bytes t) _ stops.Memory blocks bytes (tail_split options done t behind history) wholly (left_none held held (top_bytes t) stops.Memory refl) tt

pub extra_append_refused : (options : FileOptions) (done : List Top) (t : Top) (behind : List Top) (opened held now : Option (List ℕ)) (history : List Rec) (stop : Stop) (blocks bytes : ℕ) → Wholly options done opened held history blocks bytes
    → Holds blocks (bytes + length (top_bytes t)) → Added held now (top_bytes t) (Err stop) → StopsAt options (done ++ t ∷ behind) history opened now stop (numbers blocks bytes)
extra_append_refused options done t behind opened held now history stop blocks bytes wholly holds added =
    past_refused options done (done ++ t ∷ behind) opened held now history (top_bytes t) _ stop blocks bytes (tail_split options done t behind history) wholly holds added

-- ---- where the front was refused

at_front : (options : FileOptions) (extras : List Top) (opened now : Option (List ℕ)) (history : List Rec) (stop : Stop) → Left opened now (front options.profile) stop
    → StopWhy stop 0 0 (FileHolds options.profile [] (0 + length (front options.profile))) → StopsAt options extras history opened now stop (numbers 0 0)
at_front options extras opened now history stop left why = record {
  place = 0;
  next = front options.profile;
  at = refl;
  blocks_are = refl;
  bytes_are = refl;
  why = why;
  took = λ first told.
      let (some, holds, unfailed) = left first told in
      (take some (front options.profile), holds, record { next = front options.profile; at = refl; some = some; split = refl; unfailed = unfailed; size = refl });
}

-- it isn't appended: its Header would be too long, or memory lacks
pub front_stopped : (X : Type 0) (options : FileOptions) (extras : List Top) (opened : Option (List ℕ)) (history : List Rec) (stop : Stop) → HoldsOrStops {X = X} 0 0 (HeaderFits options.profile) (Err stop) → StopsAt options extras history opened opened stop (numbers 0 0)
front_stopped X options extras opened history (stops.Fault faults) stopped = absurd stopped
front_stopped X options extras opened history (stops.Limit b n) (same_b, same_n, passes) =
    at_front options extras opened opened history (stops.Limit b n) (left_none opened opened (front options.profile) (stops.Limit b n) refl) (same_b, same_n, λ file. passes file.contents.header)
front_stopped X options extras opened history stops.Memory stopped = at_front options extras opened opened history stops.Memory (left_none opened opened (front options.profile) stops.Memory refl) tt

pub front_still : (X Y : Type 0) (count : ℕ) (room : Type 0) (stop : Stop) → HoldsOrStops {X = X} 0 0 room (Err stop) → Cause {X = Y} count count (Err stop)
front_still X Y count room (stops.Fault faults) stopped = absurd stopped
front_still X Y count room (stops.Limit b n) stopped = refl
front_still X Y count room stops.Memory stopped = refl

pub front_refused : (options : FileOptions) (extras : List Top) (opened now : Option (List ℕ)) (history : List Rec) (stop : Stop) → length (front options.profile) ≤ 1099511627776 → HeaderFits options.profile → Added opened now (front options.profile) (Err stop)
    → StopsAt options extras history opened now stop (numbers 0 0)
front_refused options extras opened now history stop small fits added =
    let (left, why) = refused_by opened now (front options.profile) stop 0 0 _ added (record { holds = record { few = omega arith; small = omega (arith, small) }; contents = record { header = fits; chunks = no_chunks } }) in
    at_front options extras opened now history stop left why
