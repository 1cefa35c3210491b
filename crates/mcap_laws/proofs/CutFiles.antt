-- What repairing makes of a first part of a file.
use Rattle.std.proofs.Common.{◌≡◌, ◌⊎◌, ◌↔◌, ℕ, zero, suc, ◌+◌, ◌-◌, ◌<◌, ◌≤◌, ◌^◌, Bool, List, [], ◌∷◌, ◌++◌, length, map, take, drop, refl, sym, ap, subst, inl, inr, ◌∙◌, append_assoc, append-nil, length-append, arith}
use Rattle.std.specs.Prelude.{filter}
use Rattle.std.specs.List.{AllZip, flat_map}
use Rattle.std.proofs.Math.Seq.{take-append_seam}
use Rattle.std.proofs.lemmas.Bool.{cases_lt}
use Rattle.std.proofs.lemmas.List.{take-append-drop, length-drop, map-append}
use Rattle.std.proofs.lemmas.List.Elements.{filter-append}
use Rattle.std.proofs.lemmas.Grind.{flat_map-append}
use Rattle.mcap_wire.specs.Layout.{magic}
use Rattle.rec_data.specs.declared.owned.Rec.{Rec}
use Rattle.mcap_model.specs.declared.options.FileOptions.{FileOptions}
use Rattle.mcap_model.specs.Places.{At, Each}
use Rattle.mcap_model.specs.Tops.{Top, top_bytes, spelled, offset_behind, flat, flattened}
use Rattle.mcap_model.specs.Rules.{V1}
use Rattle.mcap_model.specs.Kept.{Kept, Halts, reading_limits, at_end, grammar}
use Rattle.mcap_model.specs.History.{rec_top, body_of, extras_in, without_repeats}
use Rattle.mcap_model.proofs.Asides.{body_append, extras_append, each_body}
use Rattle.mcap_model.specs.Blocks.{Piece, block, alone, pieces_of, pieces_bytes, logged_channels}
use Rattle.mcap_model.specs.File.{front, section, file_of, IsPrefix}
use Rattle.mcap_model.specs.Written.{IsRec}
use Rattle.mcap_model.specs.Repaired.{is_extra, ProfileIs, Repairs}
use Rattle.mcap_model.specs.Laws.{chunk_top, index_top}
use Rattle.mcap_model.specs.ReadBack.{IsReadBack, IsExtra}
use Rattle.mcap_model.specs.Recovery.{piece_records, bytes_with_records, offset_behind_piece, FrontsAreRepaired}
use Rattle.mcap_model.proofs.Places.{at_none, at_kept}
use Rattle.mcap_model.proofs.Lists.{cut_at, cut_flat, take_second, length-take_at, each_taken, each_joined}
use Rattle.mcap_model.proofs.Readings.{kept_once}
use Rattle.mcap_model.proofs.Edges.{header_top, end_top}
use Rattle.mcap_model.proofs.Section.{piece_tops, held, each_held, pieces_spelled, indexes_flat, piece_flat, extra_flat}
use Rattle.mcap_model.proofs.Files.{body_tops, section_tops, front_spelled}
use Rattle.mcap_model.proofs.Body.{CanStand, header_is, section_within, extras_behind, pieces_back, pieces_numbered, pieces_sound, section_flat, standing}
use Rattle.mcap_model.proofs.Prefixes.{prefixes_are_kept, ends_there}
use Rattle.mcap_model.proofs.Fronts.{fronts_keep_whole}
use Rattle.mcap_model.specs.declared.rules.Rule.TheVariants as rules
use Rattle.mcap_model.proofs.Shape.{ends_there as data_end_last}
use Rattle.mcap_model.proofs.Histories.{recs_are_flat}
use Rattle.rec_data.specs.Records.{header_text}
use Rattle.rec_data.proofs.Contents.{length-header_text}
use Rattle.mcap_model.specs.Rules.{Agrees}
use Rattle.mcap_model.specs.Places.{EachBehind}
use Rattle.mcap_model.specs.Histories.{flat_history}
use Rattle.mcap_model.specs.File.{library}
use Rattle.mcap_model.specs.Repaired.{Repaired}
use Rattle.mcap_laws.specs.Parts.{CanBeReadInPart, PartsAreRepaired}
use Rattle.mcap_laws.proofs.Ranges.{entries_short}
use Rattle.mcap_laws.proofs.PartsKept.{KeepsPart, parts_keep}
use Rattle.mcap_laws.proofs.Scanned.{read_so, front_stands, section_good}
use Rattle.mcap_laws.proofs.Repairing.{indexes_no_extra, ExtrasShown, shown_extras, all_extra}

-- ---- fronts of lists

take_none : {X : Type 0} (n : ℕ) (xs : List X) → xs ≡ [] → take n xs ≡ []
take_none zero xs none = refl
take_none (suc n) xs none = ap (take (suc n)) none

take_parts : {X : Type 0} (n : ℕ) (xs ys : List X) → take n (xs ++ ys) ≡ take n xs ++ take (n - length xs) ys
take_parts zero xs ys = ap (λ (m : ℕ). take m ys) (let e : zero ≡ zero - length xs = omega arith in e)
take_parts (suc n) [] ys = ap (λ (m : ℕ). take m ys) (let e : suc n ≡ suc n - 0 = omega arith in e)
take_parts {X} (suc n) (x ∷ xs) ys =
    ap (λ (l : List X). x ∷ l) (take_parts n xs ys) ∙ ap (λ (m : ℕ). x ∷ (take n xs ++ take m ys)) (let e : n - length xs ≡ suc n - suc (length xs) = omega arith in e)

map_taken : {X Y : Type 0} (f : X → Y) (n : ℕ) (xs : List X) → take n (map f xs) ≡ map f (take n xs)
map_taken f zero xs = refl
map_taken f (suc n) [] = refl
map_taken {X} {Y} f (suc n) (x ∷ xs) = ap (λ (l : List Y). f x ∷ l) (map_taken f n xs)

nothing_first : {X : Type 0} (xs ys : List X) → xs ++ ys ≡ [] → xs ≡ []
nothing_first [] ys none = refl
nothing_first (x ∷ xs) ys none = absurd (cc)

filtered_none : (test : Top → Bool) (n : ℕ) (tops : List Top) → filter test tops ≡ [] → filter test (take n tops) ≡ []
filtered_none test n tops none = nothing_first (filter test (take n tops)) (filter test (drop n tops))
    (sym (filter-append test (take n tops) (drop n tops)) ∙ ap (filter test) (take-append-drop n tops) ∙ none)

flat_none : (tops : List Top) → Each (λ t. flattened t ≡ []) tops → flat tops ≡ []
flat_none [] each = refl
flat_none (t ∷ ts) each = ap (λ (l : List Top). l ++ flat ts) (each 0 t refl) ∙ flat_none ts (λ n x at. each (suc n) x at)

-- ---- records that are whole in a front

spelled_up : (i j : ℕ) (tops : List Top) → i ≤ j → length (spelled (take i tops)) ≤ length (spelled (take j tops))
spelled_up zero j tops up = omega arith
spelled_up (suc i) zero tops up = absurd (omega (arith, up))
spelled_up (suc i) (suc j) [] up = omega arith
spelled_up (suc i) (suc j) (t ∷ ts) up =
    omega (arith, spelled_up i j ts (omega (arith, up)), length-append (top_bytes t) (spelled (take i ts)), length-append (top_bytes t) (spelled (take j ts)))

-- so many of these records are whole there
record AreWhole (some : List ℕ) (tops : List Top) (k : ℕ) : Type 0 where
  within : offset_behind (take k tops) ≤ length some
  last : (k ≡ length tops) ⊎ (length some < offset_behind (take (suc k) tops))

whole_to : (some : List ℕ) (k : ℕ) (tops a b : List Top) → tops ≡ a ++ b → AreWhole some tops k → (length a ≤ k) ↔ (offset_behind a ≤ length some)
whole_to some k tops a b split are = (
  λ few. let up = spelled_up (length a) k tops few in let within = are.within in omega (arith, up, same, within),
  λ within. elim (cases_lt k (length a)) [
    | inl less ↦ elim are.last [
      | inl all ↦ let size = ap (λ (l : List Top). length l) split in absurd (omega (arith, less, all, size, length-append a b))
      | inr cut ↦ let up = spelled_up (suc k) (length a) tops (omega (arith, less)) in absurd (omega (arith, within, cut, up, same))
    ]
    | inr few ↦ omega (arith, few)
  ],
)
  where
    front_is : take (length a) tops ≡ a
    front_is = ap (take (length a)) split ∙ take-append_seam a b

    same : length (spelled (take (length a) tops)) ≡ length (spelled a)
    same = ap (λ (l : List Top). length (spelled l)) front_is

-- ---- pieces, the first record of which shows all that they show

abbrev head_of : Piece → Top
head_of (block records) = chunk_top records
head_of (alone r) = rec_top r

abbrev indexes_of : Piece → List Top
indexes_of (block records) = map (index_top records) (logged_channels records)
indexes_of (alone r) = []

piece_split : (p : Piece) → piece_tops p ≡ head_of p ∷ indexes_of p
piece_split (block records) = refl
piece_split (alone r) = refl

head_bytes : (p : Piece) → bytes_with_records p ≡ top_bytes (head_of p)
head_bytes (block records) = refl
head_bytes (alone r) = refl

indexes_show_none : (n : ℕ) (p : Piece) → flat (take n (indexes_of p)) ≡ []
indexes_show_none n (block records) = ap flat (map_taken (index_top records) n (logged_channels records)) ∙ indexes_flat records (take n (logged_channels records))
indexes_show_none n (alone r) = ap flat (take_none n [] refl)

head_flat : (p : Piece) → flat (piece_tops p) ≡ map rec_top (body_of (piece_records p)) → flattened (head_of p) ≡ map rec_top (body_of (piece_records p))
head_flat p is =
    let all : take (length (indexes_of p)) (indexes_of p) ≡ indexes_of p = ap (take (length (indexes_of p))) (sym (append-nil (indexes_of p))) ∙ take-append_seam (indexes_of p) [] in
    let none : flat (indexes_of p) ≡ [] = ap flat (sym all) ∙ indexes_show_none (length (indexes_of p)) p in
    sym (append-nil (flattened (head_of p))) ∙ ap (λ (l : List Top). flattened (head_of p) ++ l) (sym none) ∙ ap flat (sym (piece_split p)) ∙ is

-- how many pieces begin among the first so many of their records
abbrev begun_in : ℕ → List Piece → ℕ
begun_in j [] = 0
begun_in zero (p ∷ ps) = 0
begun_in (suc j) (p ∷ ps) = suc (begun_in (j - length (indexes_of p)) ps)

begun_behind : (j : ℕ) (ps : List Piece) (n : ℕ) (p : Piece) → At ps n p → (n < begun_in j ps) ↔ (length (flat_map piece_tops (take n ps)) < j)
begun_behind j [] n p at = absurd (at_none n p at)
begun_behind zero (q ∷ ps) n p at = (λ less. absurd (omega (arith, less)), λ less. absurd (omega (arith, less)))
begun_behind (suc j) (q ∷ ps) zero p at = (λ less. omega arith, λ less. omega arith)
begun_behind (suc j) (q ∷ ps) (suc n) p at =
    let (to, from) = begun_behind (j - length (indexes_of q)) ps n p at in
    let size = length-append (piece_tops q) (flat_map piece_tops (take n ps)) in
    let one = ap (λ (l : List Top). length l) (piece_split q) in
    (λ less. let more = to (omega (arith, less)) in omega (arith, more, size, one), λ less. let more = from (omega (arith, less, size, one)) in omega (arith, more))

next_piece : (p : Piece) (ps : List Piece) (more : List Top) → flat_map piece_tops (p ∷ ps) ++ more ≡ head_of p ∷ (indexes_of p ++ (flat_map piece_tops ps ++ more))
next_piece p ps more = append_assoc (piece_tops p) (flat_map piece_tops ps) more ∙ ap (λ (l : List Top). l ++ (flat_map piece_tops ps ++ more)) (piece_split p)

begun_flat : (j : ℕ) (ps : List Piece) (more : List Top) → ((n : ℕ) (p : Piece) → At ps n p → flat (piece_tops p) ≡ map rec_top (body_of (piece_records p))) → ((n : ℕ) → flat (take n more) ≡ [])
    → flat (take j (flat_map piece_tops ps ++ more)) ≡ map rec_top (body_of (held (take (begun_in j ps) ps)))
begun_flat j [] more shows none = none j ∙ ap (λ (l : List Piece). map rec_top (body_of (held l))) (sym (take_none (begun_in j []) [] refl))
begun_flat zero (p ∷ ps) more shows none = refl
begun_flat (suc j) (p ∷ ps) more shows none =
    let m = j - length (indexes_of p) in
    let rest = flat_map piece_tops ps ++ more in
    let cut : take (suc j) (flat_map piece_tops (p ∷ ps) ++ more) ≡ head_of p ∷ (take j (indexes_of p) ++ take m rest) =
    ap (take (suc j)) (next_piece p ps more) ∙ ap (λ (l : List Top). head_of p ∷ l) (take_parts j (indexes_of p) rest) in
    let later : flat (take j (indexes_of p) ++ take m rest) ≡ map rec_top (body_of (held (take (begun_in m ps) ps))) =
    flat_map-append flattened (take j (indexes_of p)) (take m rest) ∙ ap (λ (l : List Top). l ++ flat (take m rest)) (indexes_show_none j p) ∙ begun_flat m ps more (λ n q at. shows (suc n) q at) none in
    ap flat cut
    ∙ ap (λ (l : List Top). flattened (head_of p) ++ l) later
    ∙ ap (λ (l : List Top). l ++ map rec_top (body_of (held (take (begun_in m ps) ps)))) (head_flat p (shows 0 p refl))
    ∙ sym (ap (map rec_top) (body_append (piece_records p) (held (take (begun_in m ps) ps))) ∙ map-append rec_top (body_of (piece_records p)) (body_of (held (take (begun_in m ps) ps))))

-- of the first so many records the extras are those of the pieces that begin among them, and those behind the pieces
index_no_extra : (n : ℕ) (p : Piece) → filter is_extra (take n (indexes_of p)) ≡ []
index_no_extra n (block records) = ap (filter is_extra) (map_taken (index_top records) n (logged_channels records)) ∙ indexes_no_extra records (take n (logged_channels records))
index_no_extra n (alone r) = ap (filter is_extra) (take_none n [] refl)

head_extra : (p : Piece) → ExtrasShown p → filter is_extra (head_of p ∷ []) ≡ extras_in (piece_records p)
head_extra p shown =
    let all : take (length (indexes_of p)) (indexes_of p) ≡ indexes_of p = ap (take (length (indexes_of p))) (sym (append-nil (indexes_of p))) ∙ take-append_seam (indexes_of p) [] in
    let none : filter is_extra (indexes_of p) ≡ [] = ap (filter is_extra) (sym all) ∙ index_no_extra (length (indexes_of p)) p in
    sym (append-nil (filter is_extra (head_of p ∷ []))) ∙ ap (λ (l : List Top). filter is_extra (head_of p ∷ []) ++ l) (sym none)
    ∙ sym (filter-append is_extra (head_of p ∷ []) (indexes_of p)) ∙ ap (filter is_extra) (sym (piece_split p)) ∙ shown

begun_extras : (j : ℕ) (ps : List Piece) (more : List Top) → ((n : ℕ) (p : Piece) → At ps n p → ExtrasShown p)
    → filter is_extra (take j (flat_map piece_tops ps ++ more)) ≡ extras_in (held (take (begun_in j ps) ps)) ++ filter is_extra (take (j - length (flat_map piece_tops ps)) more)
begun_extras j [] more shows =
    let same : j ≡ j - 0 = omega arith in
    ap (λ (m : ℕ). filter is_extra (take m more)) same ∙ ap (λ (l : List Piece). extras_in (held l) ++ filter is_extra (take (j - 0) more)) (sym (take_none (begun_in j []) [] refl))
begun_extras zero (p ∷ ps) more shows =
    let none : zero ≡ zero - length (flat_map piece_tops (p ∷ ps)) = omega arith in
    ap (λ (m : ℕ). filter is_extra (take m more)) none
begun_extras (suc j) (p ∷ ps) more shows =
    let m = j - length (indexes_of p) in
    let rest = flat_map piece_tops ps ++ more in
    let head = head_of p ∷ [] in
    let cut : take (suc j) (flat_map piece_tops (p ∷ ps) ++ more) ≡ head ++ (take j (indexes_of p) ++ take m rest) =
    ap (take (suc j)) (next_piece p ps more) ∙ ap (λ (l : List Top). head_of p ∷ l) (take_parts j (indexes_of p) rest) in
    let one = ap (λ (l : List Top). length l) (piece_split p) in
    let left : m - length (flat_map piece_tops ps) ≡ suc j - length (flat_map piece_tops (p ∷ ps)) = omega (arith, one, length-append (piece_tops p) (flat_map piece_tops ps)) in
    let later : filter is_extra (take j (indexes_of p) ++ take m rest) ≡ extras_in (held (take (begun_in m ps) ps)) ++ filter is_extra (take (suc j - length (flat_map piece_tops (p ∷ ps))) more) =
    filter-append is_extra (take j (indexes_of p)) (take m rest) ∙ ap (λ (l : List Top). l ++ filter is_extra (take m rest)) (index_no_extra j p)
    ∙ begun_extras m ps more (λ n q at. shows (suc n) q at) ∙ ap (λ (k : ℕ). extras_in (held (take (begun_in m ps) ps)) ++ filter is_extra (take k more)) left in
    ap (filter is_extra) cut ∙ filter-append is_extra head (take j (indexes_of p) ++ take m rest)
    ∙ ap (λ (l : List Top). l ++ filter is_extra (take j (indexes_of p) ++ take m rest)) (head_extra p (shows 0 p refl))
    ∙ ap (λ (l : List Top). extras_in (piece_records p) ++ l) later
    ∙ sym (append_assoc (extras_in (piece_records p)) (extras_in (held (take (begun_in m ps) ps))) (filter is_extra (take (suc j - length (flat_map piece_tops (p ∷ ps))) more)))
    ∙ ap (λ (l : List Top). l ++ filter is_extra (take (suc j - length (flat_map piece_tops (p ∷ ps))) more)) (sym (extras_append (piece_records p) (held (take (begun_in m ps) ps))))

-- ---- offsets in a file

header_behind : (profile : List ℕ) → length (front profile) ≡ offset_behind (header_top profile ∷ [])
unfolding front
header_behind profile = omega (arith, length-append magic (top_bytes (header_top profile)), length-append (top_bytes (header_top profile)) [])

piece_behind : (options : FileOptions) (before : List Piece) (p : Piece) → offset_behind_piece options before p ≡ offset_behind (header_top options.profile ∷ (flat_map piece_tops before ++ head_of p ∷ []))
piece_behind options before p =
    let h = header_top options.profile in
    let x = flat_map piece_tops before in
    let head = ap (λ (l : List ℕ). length l) (head_bytes p) in
    let pieces = ap (λ (l : List ℕ). length l) (pieces_spelled before) in
    let inner = ap (λ (l : List ℕ). length l) (flat_map-append top_bytes x (head_of p ∷ [])) in
    omega (
      arith,
      header_behind options.profile,
      head,
      pieces,
      inner,
      length-append (front options.profile) (pieces_bytes before ++ bytes_with_records p),
      length-append (pieces_bytes before) (bytes_with_records p),
      length-append (top_bytes h) [],
      length-append (top_bytes h) (spelled (x ++ head_of p ∷ [])),
      length-append (spelled x) (top_bytes (head_of p) ++ []),
      length-append (top_bytes (head_of p)) [],
    )

section_behind : (options : FileOptions) (extras : List Top) (history : List Rec) → length (section options extras history) ≡ offset_behind (section_tops options extras history)
section_behind options extras history =
    let h = header_top options.profile in
    let ps = pieces_of options.chunk options.span history in
    let pieces = ap (λ (l : List ℕ). length l) (pieces_spelled ps) in
    let inner = ap (λ (l : List ℕ). length l) (flat_map-append top_bytes (flat_map piece_tops ps) extras) in
    omega (
      arith,
      header_behind options.profile,
      pieces,
      inner,
      length-append (front options.profile) (pieces_bytes ps ++ spelled extras),
      length-append (pieces_bytes ps) (spelled extras),
      length-append (top_bytes h) [],
      length-append (top_bytes h) (spelled (body_tops options extras history)),
      length-append (spelled (flat_map piece_tops ps)) (spelled extras),
    )

-- ---- what the first records of a file show

record FirstOnes (options : FileOptions) (extras : List Top) (history : List Rec) (tops : List Top) (k : ℕ) : Type 0 where
  profile : List ℕ
  profile_is : ProfileIs (take k tops) profile
  header : 0 < k → profile ≡ options.profile
  no_header : k ≡ 0 → profile ≡ []
  piece_count : ℕ
  flat_are : flat (take k tops) ≡ map rec_top (body_of (held (take piece_count (pieces_of options.chunk options.span history))))
  pieces_are : (n : ℕ) (p : Piece) → At (pieces_of options.chunk options.span history) n p → (n < piece_count) ↔ (length (flat_map piece_tops (take n (pieces_of options.chunk options.span history))) + 2 ≤ k)
  extra_count : ℕ
  extras_there : filter is_extra (take k tops) ≡ extras_in (held (take piece_count (pieces_of options.chunk options.span history))) ++ take extra_count extras
  extras_are : (n : ℕ) (t : Top) → At extras n t → (n < extra_count) ↔ (length (flat_map piece_tops (pieces_of options.chunk options.span history)) + n + 2 ≤ k)

module _ (options : FileOptions) (extras : List Top) (history : List Rec) (written : CanStand options extras history) where
  abbrev ps : List Piece
  ps = pieces_of options.chunk options.span history

  abbrev behind_pieces : List Top
  behind_pieces = extras ++ end_top ∷ []

  abbrev tops_of_file : List Top
  tops_of_file = header_top options.profile ∷ (flat_map piece_tops ps ++ behind_pieces)

  tops_are : section_tops options extras history ++ end_top ∷ [] ≡ tops_of_file
  tops_are = ap (λ (l : List Top). header_top options.profile ∷ l) (append_assoc (flat_map piece_tops ps) extras (end_top ∷ []))

  shows_none : (n : ℕ) → flat (take n behind_pieces) ≡ []
  shows_none n = flat_none (take n behind_pieces) (each_taken (λ t. flattened t ≡ []) behind_pieces n (each_joined (λ t. flattened t ≡ []) extras (end_top ∷ []) (λ m t at. extra_flat t (extras_behind options extras history written m t at)) (end_shows)))
    where
      end_shows : Each (λ t. flattened t ≡ []) (end_top ∷ [])
      end_shows zero t at = ap flattened (let same : end_top ≡ t = cc in sym same)
      end_shows (suc m) t at = absurd (at_none m t at)

  extras_taken : (m : ℕ) → filter is_extra (take m behind_pieces) ≡ take m extras
  extras_taken m =
      let past = m - length extras in
      ap (filter is_extra) (take_parts m extras (end_top ∷ [])) ∙ filter-append is_extra (take m extras) (take past (end_top ∷ []))
      ∙ ap (λ (l : List Top). filter is_extra (take m extras) ++ l) (filtered_none is_extra past (end_top ∷ []) refl)
      ∙ append-nil (filter is_extra (take m extras)) ∙ all_extra (take m extras) (each_taken IsExtra extras m (extras_behind options extras history written))

  all_taken : (j : ℕ) → filter is_extra (take j (flat_map piece_tops ps ++ behind_pieces)) ≡ extras_in (held (take (begun_in j ps) ps)) ++ take (j - length (flat_map piece_tops ps)) extras
  all_taken j =
      begun_extras j ps behind_pieces (shown_extras options extras history written)
      ∙ ap (λ (l : List Top). extras_in (held (take (begun_in j ps) ps)) ++ l) (extras_taken (j - length (flat_map piece_tops ps)))

  first_ones : (k : ℕ) → FirstOnes options extras history tops_of_file k
  unfolding header_is
  first_ones zero = record {
    profile = [];
    profile_is = refl;
    header = λ some. absurd (omega (arith, some));
    no_header = λ none. refl;
    piece_count = 0;
    flat_are = refl;
    pieces_are = λ n p at. (λ less. absurd (omega (arith, less)), λ less. absurd (omega (arith, less)));
    extra_count = 0;
    extras_there = refl;
    extras_are = λ n t at. (λ less. absurd (omega (arith, less)), λ less. absurd (omega (arith, less)));
  }
  first_ones (suc j) = record {
    profile = options.profile;
    profile_is = (header_is options extras history written, refl);
    header = λ some. refl;
    no_header = λ none. absurd (omega (arith, none));
    piece_count = begun_in j ps;
    flat_are = begun_flat j ps behind_pieces (λ n p at. piece_flat p (pieces_back options extras history written n p at) (pieces_numbered options extras history written n p at) (pieces_sound options extras history written n p at)) shows_none;
    pieces_are = λ n p at. let (to, from) = begun_behind j ps n p at in (λ less. let more = to less in omega (arith, more), λ less. from (omega (arith, less)));
    extra_count = j - length (flat_map piece_tops ps);
    extras_there = all_taken j;
    extras_are = λ n t at. (λ less. omega (arith, less), λ less. omega (arith, less));
  }

  -- ---- where they end

  piece_cut : (n : ℕ) (p : Piece) → At ps n p → (more : List Top) × (tops_of_file ≡ (header_top options.profile ∷ (flat_map piece_tops (take n ps) ++ head_of p ∷ [])) ++ more)
  piece_cut n p at =
      let x = flat_map piece_tops (take n ps) in
      let (later, is) = cut_flat piece_tops ps n p at in
      let y = flat_map piece_tops later in (
        indexes_of p ++ (y ++ behind_pieces),
        ap (λ (l : List Top). header_top options.profile ∷ (l ++ behind_pieces)) (is ∙ ap (λ (l : List Top). x ++ (l ++ y)) (piece_split p))
            ∙ ap (λ (l : List Top). header_top options.profile ∷ l) (join x (head_of p) (indexes_of p) y behind_pieces),
      )
    where
      join : (a : List Top) (h : Top) (b c d : List Top) → (a ++ ((h ∷ b) ++ c)) ++ d ≡ (a ++ h ∷ []) ++ (b ++ (c ++ d))
      join a h b c d = simp (append_assoc) refl

  extra_cut : (n : ℕ) (t : Top) → At extras n t → (more : List Top) × (tops_of_file ≡ section_tops options (take n extras ++ t ∷ []) history ++ more)
  extra_cut n t at =
      let x = flat_map piece_tops ps in
      let (later, is) = cut_at extras n t at in (
        later ++ end_top ∷ [],
        ap (λ (l : List Top). header_top options.profile ∷ (x ++ (l ++ end_top ∷ []))) is ∙ ap (λ (l : List Top). header_top options.profile ∷ l) (join x (take n extras) t later (end_top ∷ [])),
      )
    where
      join : (a b : List Top) (h : Top) (c d : List Top) → a ++ ((b ++ h ∷ c) ++ d) ≡ (a ++ (b ++ h ∷ [])) ++ (c ++ d)
      join a b h c d = simp (append_assoc) refl

  -- ---- a first part that holds these

  repaired_front : (k : ℕ) (first : FirstOnes options extras history tops_of_file k)
      → Repairs (take k tops_of_file) first.profile (filter is_extra (take k tops_of_file)) (without_repeats (body_of (held (take first.piece_count ps))))
  repaired_front k first = record {
    profile_is = first.profile_is;
    extras_are = refl;
    flattened = body_of (held (take first.piece_count ps));
    are_flattened = subst (λ (l : List Top). AllZip IsRec l (body_of (held (take first.piece_count ps)))) (sym first.flat_are) (zip_back (body_of (held (take first.piece_count ps))) (each_body IsReadBack (held (take first.piece_count ps)) back));
    history_is = refl;
  }
    where
      zip_back : (records : List Rec) → Each IsReadBack records → AllZip IsRec (map rec_top records) records
      zip_back [] each = tt
      zip_back (r ∷ rs) each = (each zero r refl, zip_back rs (λ n x at. each (suc n) x at))

      all_back : Each IsReadBack (held ps)
      all_back = each_held IsReadBack options.chunk options.span history written.records_fit

      back : Each IsReadBack (held (take first.piece_count ps))
      back = each_front (held (take first.piece_count ps)) (held (drop first.piece_count ps))
          (subst (Each IsReadBack) (ap held (sym (take-append-drop first.piece_count ps)) ∙ flat_map-append piece_records (take first.piece_count ps) (drop first.piece_count ps)) all_back)
        where
          each_front : (xs ys : List Rec) → Each IsReadBack (xs ++ ys) → Each IsReadBack xs
          each_front xs ys each n x at = each n x (at_kept xs ys n x at)

-- a reading of a first part, as far as it comes
record HaltsCut (some : List ℕ) (tops : List Top) (k : ℕ) : Type 0 where
  whole_to_there : AreWhole some tops k
  cut : (t : Top) (more : List Top) → drop k tops ≡ t ∷ more → length some < offset_behind (take k tops ++ t ∷ [])
  complete : drop k tops ≡ [] → Halts reading_limits some (take k tops) (at_end (offset_behind (take k tops)))
  short : (drop k tops ≡ [] → ⊥) → Halts reading_limits some (take k tops) (grammar (offset_behind (take k tops)) rules.V4)

halts_cut : (file some : List ℕ) (tops : List Top) → Halts reading_limits file tops (at_end (offset_behind tops)) → IsPrefix some file → V1 some → (k : ℕ) × HaltsCut some tops k
halts_cut file some tops halts (behind, is) magic_there =
    let (k, kept, within, last) = prefixes_are_kept file some tops (offset_behind tops) halts (behind, is) magic_there in
    let (rest, stands, ended) = ends_there file tops (at_end (offset_behind tops)) (offset_behind tops) halts.there refl in
    let good = halts.kept in
    let w = fronts_keep_whole file some behind tops rest stands good.good ended (sym is) (long magic_there) in (
      k,
      record {
        whole_to_there = record { within = within; last = last };
        cut = λ t more next. elim last [
          | inl all ↦ let size = ap (λ (l : List Top). length l) next in absurd (omega (arith, all, size, length-drop k tops))
          | inr less ↦ let same = ap offset_behind (next_taken k t more next) in omega (arith, less, same)
        ];
        complete = λ none. elim w.halts [
          | inl (nothing, halts_there) ↦
              let same : w.whole ≡ take k tops = kept_once some w.whole (take k tops) halts_there.kept kept in
              subst (λ (l : List Top). Halts reading_limits some l (at_end (offset_behind l))) same halts_there
          | inr (less, halts_there) ↦ let all = ap offset_behind (all_taken k none) in absurd (omega (arith, less, all, within))
        ];
        short = λ more. elim w.halts [
          | inl (nothing, halts_there) ↦
              let same : w.whole ≡ take k tops = kept_once some w.whole (take k tops) halts_there.kept kept in
              let all : take k tops ≡ tops = sym same ∙ sym (append-nil w.whole) ∙ ap (λ (l : List Top). w.whole ++ l) (sym nothing) ∙ sym w.joined in
              absurd (more (none_left k all))
          | inr (less, halts_there) ↦
              let same : w.whole ≡ take k tops = kept_once some w.whole (take k tops) halts_there.kept kept in
              subst (λ (l : List Top). Halts reading_limits some l (grammar (offset_behind l) rules.V4)) same halts_there
        ];
      },
    )
  where
    long : V1 some → 8 ≤ length some
    long (left, starts) = let size = ap (λ (l : List ℕ). length l) starts in omega (arith, size, length-append magic left)

    next_taken : (k : ℕ) (t : Top) (more : List Top) → drop k tops ≡ t ∷ more → take (suc k) tops ≡ take k tops ++ t ∷ []
    next_taken k t more next =
        let size = ap (λ (l : List Top). length l) next in
        let split : take k tops ++ t ∷ more ≡ tops = ap (λ (l : List Top). take k tops ++ l) (sym next) ∙ take-append-drop k tops in
        let all = ap (λ (l : List Top). length l) split in
        let place : suc k ≡ length (take k tops) + 1 = omega (arith, size, all, length-drop k tops, length-append (take k tops) (t ∷ more)) in
        ap (take (suc k)) (sym split) ∙ ap (λ (n : ℕ). take n (take k tops ++ t ∷ more)) place ∙ take_second (take k tops) (t ∷ more) 1

    all_taken : (k : ℕ) → drop k tops ≡ [] → take k tops ≡ tops
    all_taken k none = sym (append-nil (take k tops)) ∙ ap (λ (l : List Top). take k tops ++ l) (sym none) ∙ take-append-drop k tops

    none_left : (k : ℕ) → take k tops ≡ tops → drop k tops ≡ []
    none_left k all = no_more (drop k tops) (let size = ap (λ (l : List Top). length l) (take-append-drop k tops) in let same = ap (λ (l : List Top). length l) all in omega (arith, size, same, length-append (take k tops) (drop k tops)))
      where
        no_more : (xs : List Top) → length xs ≤ 0 → xs ≡ []
        no_more [] few = refl
        no_more (x ∷ xs) few = absurd (omega (arith, few))

-- what is said of a first part of a file that holds so many whole records
record PartShows (options : FileOptions) (extras : List Top) (history : List Rec) (some : List ℕ) : Type 0 where
  pub profile : List ℕ
  pub kept : List Top
  pub first : List Rec
  pub repaired : Repaired some profile kept first
  pub header : length (front options.profile) ≤ length some → profile ≡ options.profile
  pub no_header : length some < length (front options.profile) → profile ≡ []
  pub piece_count : ℕ
  pub first_is : first ≡ without_repeats (body_of (held (take piece_count (pieces_of options.chunk options.span history))))
  pub pieces_are : (n : ℕ) (p : Piece) → At (pieces_of options.chunk options.span history) n p → (n < piece_count) ↔ (offset_behind_piece options (take n (pieces_of options.chunk options.span history)) p ≤ length some)
  pub extra_count : ℕ
  pub kept_is : kept ≡ extras_in (held (take piece_count (pieces_of options.chunk options.span history))) ++ take extra_count extras
  pub extras_are : (n : ℕ) (t : Top) → At extras n t → (n < extra_count) ↔ (length (section options (take n extras ++ t ∷ []) history) ≤ length some)

part_shows : (options : FileOptions) (extras : List Top) (history : List Rec) (some : List ℕ) (stand : CanStand options extras history) (k : ℕ) → AreWhole some (tops_of_file options extras history stand) k → Kept reading_limits some (take k (tops_of_file options extras history stand))
    → PartShows options extras history some
part_shows options extras history some stand k are kept =
    let tops = tops_of_file options extras history stand in
    let first = first_ones options extras history stand k in
    let header = whole_to some k tops (header_top options.profile ∷ []) (flat_map piece_tops (pieces_of options.chunk options.span history) ++ (extras ++ end_top ∷ [])) refl are in
    let size = header_behind options.profile in
    record {
      profile = first.profile;
      kept = filter is_extra (take k tops);
      first = without_repeats (body_of (held (take first.piece_count (pieces_of options.chunk options.span history))));
      repaired = record { tops = take k tops; kept = kept; repairs = repaired_front options extras history stand k first };
      header = λ there. first.header (header.1 (omega (arith, there, size)));
      no_header = λ cut. first.no_header (none_by k header.0 cut size);
      piece_count = first.piece_count;
      first_is = refl;
      pieces_are = λ n p at.
          let (more, split) = piece_cut options extras history stand n p at in
          let (to, from) = whole_to some k tops (header_top options.profile ∷ (flat_map piece_tops (take n (pieces_of options.chunk options.span history)) ++ head_of p ∷ [])) more split are in
          let place = piece_behind options (take n (pieces_of options.chunk options.span history)) p in
          let count = length-append (flat_map piece_tops (take n (pieces_of options.chunk options.span history))) (head_of p ∷ []) in
          let (shown, there) = first.pieces_are n p at in (
            λ less. let few = shown less in let within = to (omega (arith, few, count)) in omega (arith, within, place),
            λ within. let few = from (omega (arith, within, place)) in there (omega (arith, few, count)),
          );
      extra_count = first.extra_count;
      kept_is = first.extras_there;
      extras_are = λ n t at.
          let (more, split) = extra_cut options extras history stand n t at in
          let a = section_tops options (take n extras ++ t ∷ []) history in
          let (to, from) = whole_to some k tops a more split are in
          let place = section_behind options (take n extras ++ t ∷ []) history in
          let count = length-append (flat_map piece_tops (pieces_of options.chunk options.span history)) (take n extras ++ t ∷ []) in
          let last = length-append (take n extras) (t ∷ []) in
          let taken = length-take_at extras n t at in
          let (shown, there) = first.extras_are n t at in (
            λ less. let few = shown less in let within = to (omega (arith, few, count, last, taken)) in omega (arith, within, place),
            λ within. let few = from (omega (arith, within, place)) in there (omega (arith, few, count, last, taken)),
          );
    }
  where
    none_by : (k : ℕ) → (1 ≤ k → offset_behind (header_top options.profile ∷ []) ≤ length some) → length some < length (front options.profile) → length (front options.profile) ≡ offset_behind (header_top options.profile ∷ []) → k ≡ 0
    none_by zero within cut size = refl
    none_by (suc k) within cut size = absurd (let there = within (omega arith) in omega (arith, there, cut, size))

pub fronts_are_repaired : FrontsAreRepaired
fronts_are_repaired options some extras history written readable prefix v1 =
    let file = file_of options extras history in
    let stand = standing options extras history written in
    let tops = tops_of_file options extras history stand in
    let it = read_so options extras history written.profile written.records_fit written.numbered written.ids_agree written.extras_meet readable in
    let halts : Halts reading_limits file tops (at_end (offset_behind tops)) = subst (λ (l : List Top). Halts reading_limits file l (at_end (offset_behind l))) (tops_are options extras history stand) it.halts in
    let (k, halted) = halts_cut file some tops halts prefix v1 in
    let are = halted.whole_to_there in
    let shows = part_shows options extras history some stand k are (kept_by k halted) in
    record {
      whole = take k tops;
      others = drop k tops;
      read = subst (λ (l : List Top). Halts reading_limits file l (at_end (offset_behind l))) (sym (take-append-drop k tops)) halts;
      within = are.within;
      cut = halted.cut;
      complete = halted.complete;
      short = halted.short;
      profile = shows.profile;
      kept = shows.kept;
      first = shows.first;
      repaired = shows.repaired;
      header = shows.header;
      no_header = shows.no_header;
      piece_count = shows.piece_count;
      first_is = shows.first_is;
      pieces_are = shows.pieces_are;
      extra_count = shows.extra_count;
      kept_is = shows.kept_is;
      extras_are = shows.extras_are;
    }
  where
    kept_by : (k : ℕ) → HaltsCut some (tops_of_file options extras history (standing options extras history written)) k → Kept reading_limits some (take k (tops_of_file options extras history (standing options extras history written)))
    kept_by k halted = by (drop k tops_all) refl
      where
        tops_all : List Top
        tops_all = tops_of_file options extras history (standing options extras history written)

        by : (behind : List Top) → drop k tops_all ≡ behind → Kept reading_limits some (take k tops_all)
        by [] is = let halts = halted.complete is in halts.kept
        by (t ∷ ts) is = let halts = halted.short (λ none. let same : [] ≡ t ∷ ts = sym none ∙ is in cc) in halts.kept

-- ---- a first part of a file that may be too long

stand_in_part : (options : FileOptions) (extras : List Top) (history : List Rec) → CanBeReadInPart options extras history → CanStand options extras history
stand_in_part options extras history readable = record {
  profile = readable.profile;
  profile_fits = (let size = length-header_text (record { profile = options.profile; library = library }) in let short = readable.header in omega (arith, size, short));
  records_fit = readable.records_fit;
  numbered = readable.numbered;
  extras_meet = readable.extras_meet;
  entries_fit = λ n records at. entries_short records (readable.pieces n (block records) at);
  size_fits = readable.size_fits;
}

pub parts_are_repaired : PartsAreRepaired
parts_are_repaired options some extras history readable (behind, is) v1 few =
    let stand = stand_in_part options extras history readable in
    let tops = section_tops options extras history ++ end_top ∷ [] in
    let same : tops ≡ tops_of_file options extras history stand = tops_are options extras history stand in
    let flat_all : flat tops ≡ flat_history history =
    flat_map-append flattened (section_tops options extras history) (end_top ∷ []) ∙ append-nil (flat (section_tops options extras history)) ∙ section_flat options extras history stand ∙ sym (recs_are_flat history readable.records_fit) in
    let near = section_within options extras history stand in
    let good = section_good (2 ^ 64) options extras history stand (record { header = readable.header; pieces = readable.pieces; extras_short = readable.extras_short }) (subst (EachBehind Agrees) (sym flat_all) readable.ids_agree) (omega (arith, near)) in
    let (rest, stands) = front_stands options extras history in
    let keeps = parts_keep (2 ^ 64) (file_of options extras history) some behind tops rest stands good (data_end_last (section_tops options extras history) []) (sym is) (long v1) few in
    let parted : take (length keeps.whole) tops ≡ keeps.whole = ap (take (length keeps.whole)) keeps.joined ∙ take-append_seam keeps.whole keeps.others in
    let whole_is : take (length keeps.whole) (tops_of_file options extras history stand) ≡ keeps.whole = ap (take (length keeps.whole)) (sym same) ∙ parted in
    let within = keeps.within in
    let are : AreWhole some (tops_of_file options extras history stand) (length keeps.whole) = subst (λ (l : List Top). AreWhole some l (length keeps.whole)) same (record {
      within = omega (arith, within, ap offset_behind parted);
      last = last_by keeps.others keeps refl;
    }) in
    let shows = part_shows options extras history some stand (length keeps.whole) are (subst (Kept reading_limits some) (sym whole_is) keeps.kept) in
    record {
      whole = keeps.whole;
      others = keeps.others;
      are = front_spelled options extras history ∙ ap (λ (l : List Top). magic ++ spelled l) keeps.joined;
      within = keeps.within;
      cut = keeps.cut;
      complete = keeps.complete;
      short = keeps.short;
      profile = shows.profile;
      kept = shows.kept;
      first = shows.first;
      repaired = shows.repaired;
      header = shows.header;
      no_header = shows.no_header;
      piece_count = shows.piece_count;
      first_is = shows.first_is;
      pieces_are = shows.pieces_are;
      extra_count = shows.extra_count;
      kept_is = shows.kept_is;
      extras_are = shows.extras_are;
    }
  where
    long : V1 some → 8 ≤ length some
    long (left, starts) = let size = ap (λ (l : List ℕ). length l) starts in omega (arith, size, length-append magic left)

    last_by : (others : List Top) → (keeps : KeepsPart some (section_tops options extras history ++ end_top ∷ [])) → keeps.others ≡ others
        → (length keeps.whole ≡ length (section_tops options extras history ++ end_top ∷ [])) ⊎ (length some < offset_behind (take (suc (length keeps.whole)) (section_tops options extras history ++ end_top ∷ [])))
    last_by [] keeps none =
        let size = ap (λ (l : List Top). length l) keeps.joined in
        let few = ap (λ (l : List Top). length l) none in
        inl (omega (arith, size, few, length-append keeps.whole keeps.others))
    last_by (t ∷ more) keeps next =
        let one : suc (length keeps.whole) ≡ length keeps.whole + 1 = omega arith in
        let taken : take (suc (length keeps.whole)) (section_tops options extras history ++ end_top ∷ []) ≡ keeps.whole ++ t ∷ [] =
        ap (take (suc (length keeps.whole))) (keeps.joined ∙ ap (λ (l : List Top). keeps.whole ++ l) next) ∙ ap (λ (n : ℕ). take n (keeps.whole ++ t ∷ more)) one ∙ take_second keeps.whole (t ∷ more) 1 in
        inr (subst (λ (l : List Top). length some < offset_behind l) (sym taken) (keeps.cut t more next))
