-- The records of the pieces of a file, and of its extras.
use Rattle.std.proofs.Common.{◌≡◌, ◌⊎◌, ℕ, zero, suc, ◌+◌, ◌^◌, ◌<◌, ◌≤◌, Bool, true, false, cond, List, [], ◌∷◌, ◌++◌, length, map, Option, Some, None, refl, sym, ap, subst, inl, inr, ◌∙◌, append_assoc, arith}
use Rattle.std.specs.Prelude.{filter, fold, not, ◌==◌, ◌||◌, nat_le, if◌then◌else◌}
use Rattle.std.specs.List.{flat_map, list_any}
use Rattle.std.proofs.lemmas.Bool.{ne_eqb, le-leb}
use Rattle.std.proofs.lemmas.List.{append-nil, length-append}
use Rattle.std.proofs.lemmas.List.Elements.{filter-append}
use Rattle.std.proofs.lemmas.Grind.{flat_map-append}
use Rattle.mcap_wire.proofs.Numbers.{length-le}
use Rattle.mcap_wire.proofs.Contents.{shows_decided}
use Rattle.rec_index.specs.Records.{chunk_kinds, chunk_values}
use Rattle.rec_data.specs.declared.owned.Rec.{Rec}
use Rattle.rec_data.specs.declared.owned.Rec.TheVariants.{Schema, Channel, Message, Extra}
use Rattle.rec_data.specs.Owned.{rec_opcode, rec_text, rec_bytes, IsExtraContent}
use Rattle.mcap_model.specs.Places.{At, Has, Each}
use Rattle.mcap_model.specs.Tops.{Top, top_bytes, spelled, is_flat_kind, inner_tops, flattened, flat}
use Rattle.mcap_model.specs.Fields.{IsChunk}
use Rattle.mcap_model.specs.Rules.{V6, V8, V10, stands_in_section}
use Rattle.mcap_model.specs.Kept.{NamesCompression}
use Rattle.mcap_model.specs.History.{rec_top, is_inner, body_of, extras_in, history_bytes}
use Rattle.mcap_model.specs.Blocks.{Piece, block, alone, Cuts, no_cuts, alone_behind, put_behind, cuts, last_piece, pieces_of, is_ripe, chunk_content, chunk_bytes, index_bytes, indexes_bytes, logged_channels, piece_bytes, pieces_bytes, blocks_in, written_fields}
use Rattle.mcap_model.specs.Laws.{IsNumberedRec, IsInner, chunk_top, index_top, EntriesFit}
use Rattle.mcap_model.specs.ReadBack.{IsReadBack, IsExtraKind, IsExtra}
use Rattle.mcap_model.specs.Recovery.{piece_records}
use Rattle.mcap_model.proofs.Places.{at_none, at_kept}
use Rattle.mcap_model.proofs.Readings.{length-top}
use Rattle.mcap_model.proofs.Lists.{at_second, each_cons, each_joined}
use Rattle.mcap_model.proofs.Histories.{rec_meets, rec_not, rec_low, extra_flattened, recs_are_flat}
use Rattle.mcap_model.proofs.Asides.{is_aside, inner_or, body_append, body_without, filter_none}
use Rattle.mcap_model.proofs.Edges.{cuts_alone}
use Rattle.mcap_model.proofs.WrittenChunks.{chunks_are_written, written_shows, each_map}
use Rattle.mcap_model.proofs.Flat.{map-append}
use Rattle.mcap_model.proofs.ShownBack.{index_shown}
use Rattle.mcap_model.proofs.Logging.{index_meets}
use Rattle.std.proofs.lemmas.Option.{same_Some}

-- ---- pieces

each_one : {X : Type 0} (P : X → Type 0) (x : X) → P x → Each P (x ∷ [])
each_one P x one = each_cons P x [] one (λ n y at. absurd (at_none n y at))

abbrev pub piece_tops : Piece → List Top
piece_tops (block records) = chunk_top records ∷ map (index_top records) (logged_channels records)
piece_tops (alone r) = rec_top r ∷ []

abbrev pub held : List Piece → List Rec
held pieces = flat_map piece_records pieces

-- the pieces hold the history, but an extra stands in front of the records that wait for their block
held_more : (pieces : List Piece) (p : Piece) → held (pieces ++ p ∷ []) ≡ held pieces ++ piece_records p
held_more pieces p = flat_map-append piece_records pieces (p ∷ []) ∙ ap (λ (l : List Rec). held pieces ++ l) (append-nil (piece_records p))

abbrev cut_by : Bool → Cuts → Rec → Cuts
cut_by ripe c r = if ripe then record { pieces = c.pieces ++ block (c.waiting ++ r ∷ []) ∷ []; waiting = [] } else record { pieces = c.pieces; waiting = c.waiting ++ r ∷ [] }

abbrev put_so : Bool → Bool → Cuts → Rec → Cuts
put_so inner ripe c r = if inner then cut_by ripe c r else alone_behind c r

cut_holds : (ripe : Bool) (c : Cuts) (r : Rec) → let n = cut_by ripe c r in held n.pieces ++ n.waiting ≡ (held c.pieces ++ c.waiting) ++ r ∷ []
cut_holds true c r = append-nil (held (c.pieces ++ block (c.waiting ++ r ∷ []) ∷ [])) ∙ held_more c.pieces (block (c.waiting ++ r ∷ [])) ∙ sym (append_assoc (held c.pieces) c.waiting (r ∷ []))
cut_holds false c r = sym (append_assoc (held c.pieces) c.waiting (r ∷ []))

alone_holds : (c : Cuts) (r : Rec) → let n = alone_behind c r in held n.pieces ++ n.waiting ≡ held c.pieces ++ r ∷ c.waiting
alone_holds c r = ap (λ (l : List Rec). l ++ c.waiting) (held_more c.pieces (alone r)) ∙ append_assoc (held c.pieces) (r ∷ []) c.waiting

last_holds : (pieces : List Piece) (waiting : List Rec) → held (pieces ++ last_piece waiting) ≡ held pieces ++ waiting
last_holds pieces [] = ap held (append-nil pieces) ∙ sym (append-nil (held pieces))
last_holds pieces (w ∷ ws) = held_more pieces (block (w ∷ ws))

alone_hold : (history : List Rec) → held (map alone history) ≡ history
alone_hold [] = refl
alone_hold (r ∷ rs) = ap (λ (l : List Rec). r ∷ l) (alone_hold rs)

plain_hold : (span : Option ℕ) (history : List Rec) → held (pieces_of None span history) ≡ history
plain_hold span history = ap (λ (c : Cuts). held (c.pieces ++ last_piece c.waiting)) (cuts_alone span no_cuts history) ∙ ap held (append-nil (map alone history)) ∙ alone_hold history

-- P holds of the records of the pieces, and of those that wait
abbrev BothKeep : (Rec → Type 0) → Cuts → Type 0
BothKeep P c = Each P (held c.pieces) × Each P c.waiting

cut_keeps : (P : Rec → Type 0) (inner ripe : Bool) (c : Cuts) (r : Rec) → P r → BothKeep P c → BothKeep P (put_so inner ripe c r)
cut_keeps P true true c r own (done, wait) =
    (subst (Each P) (sym (held_more c.pieces (block (c.waiting ++ r ∷ [])))) (each_joined P (held c.pieces) (c.waiting ++ r ∷ []) done (each_joined P c.waiting (r ∷ []) wait (each_one P r own))), λ n x at. absurd (at_none n x at))
cut_keeps P true false c r own (done, wait) = (done, each_joined P c.waiting (r ∷ []) wait (each_one P r own))
cut_keeps P false ripe c r own (done, wait) =
    (subst (Each P) (sym (held_more c.pieces (alone r))) (each_joined P (held c.pieces) (r ∷ []) done (each_one P r own)), wait)

blocks_keep : (P : Rec → Type 0) (size : ℕ) (span : Option ℕ) (c : Cuts) (rs : List Rec) → Each P rs → BothKeep P c → BothKeep P (fold (put_behind (Some size) span) c rs)
blocks_keep P size span c [] each keep = keep
blocks_keep P size span c (r ∷ rs) each keep =
    blocks_keep P size span (put_behind (Some size) span c r) rs (λ n x at. each (suc n) x at)
    (cut_keeps P (is_inner r) (is_ripe size span (c.waiting ++ r ∷ [])) c r (each 0 r refl) keep)

-- what holds of each record of a history holds of those of its pieces
pub each_held : (P : Rec → Type 0) (size : Option ℕ) (span : Option ℕ) (history : List Rec) → Each P history → Each P (held (pieces_of size span history))
each_held P None span history each = subst (Each P) (sym (plain_hold span history)) each
each_held P (Some size) span history each =
    let c = cuts (Some size) span history in
    let keep = blocks_keep P size span no_cuts history each ((λ n x at. absurd (at_none n x at)), λ n x at. absurd (at_none n x at)) in
    subst (Each P) (sym (last_holds c.pieces c.waiting)) (each_joined P (held c.pieces) c.waiting keep.0 keep.1)

-- the records that wait are no extras
inner_wait : (inner ripe : Bool) (c : Cuts) (r : Rec) → is_inner r ≡ inner → Each IsInner c.waiting → let n = put_so inner ripe c r in Each IsInner n.waiting
inner_wait true true c r is wait = λ n x at. absurd (at_none n x at)
inner_wait true false c r is wait = each_joined IsInner c.waiting (r ∷ []) wait (each_one IsInner r is)
inner_wait false ripe c r is wait = wait

-- a test that either no extra passes or extras alone
pub record TellsApart (test : Rec → Bool) : Type 0 where
  pub commutes : (r : Rec) (ws : List Rec) → is_inner r ≡ false → Each IsInner ws → filter test (r ∷ ws) ≡ filter test (ws ++ r ∷ [])

pub bodies_apart : TellsApart is_inner
bodies_apart = record {
  commutes = λ r ws is inner. ap (λ (b : Bool). cond b (r ∷ body_of ws) (body_of ws)) is ∙ sym (body_without ws r is);
}

pub asides_apart : TellsApart is_aside
asides_apart = record {
  commutes = λ r ws is inner.
      let none : filter is_aside ws ≡ [] = filter_none is_aside ws (λ n x at. ap not (inner n x at)) in
      ap (λ (b : Bool). cond (not b) (r ∷ filter is_aside ws) (filter is_aside ws)) is ∙ ap (λ (l : List Rec). r ∷ l) none
      ∙ sym (filter-append is_aside ws (r ∷ []) ∙ ap (λ (l : List Rec). l ++ filter is_aside (r ∷ [])) none ∙ ap (λ (b : Bool). cond (not b) (r ∷ []) []) is);
}

-- with it what passes of the pieces' records is what passes of the history
put_passes : (test : Rec → Bool) (inner ripe : Bool) (c : Cuts) (r : Rec) → TellsApart test → is_inner r ≡ inner → Each IsInner c.waiting
    → let n = put_so inner ripe c r in filter test (held n.pieces ++ n.waiting) ≡ filter test ((held c.pieces ++ c.waiting) ++ r ∷ [])
put_passes test true ripe c r apart is wait = ap (filter test) (cut_holds ripe c r)
put_passes test false ripe c r apart is wait =
    ap (filter test) (alone_holds c r) ∙ filter-append test (held c.pieces) (r ∷ c.waiting)
    ∙ ap (λ (l : List Rec). filter test (held c.pieces) ++ l) (apart.commutes r c.waiting is wait)
    ∙ sym (filter-append test (held c.pieces) (c.waiting ++ r ∷ [])) ∙ ap (filter test) (sym (append_assoc (held c.pieces) c.waiting (r ∷ [])))

blocks_pass : (test : Rec → Bool) (size : ℕ) (span : Option ℕ) (c : Cuts) (rs : List Rec) → TellsApart test → Each IsInner c.waiting
    → let n = fold (put_behind (Some size) span) c rs in filter test (held n.pieces ++ n.waiting) ≡ filter test ((held c.pieces ++ c.waiting) ++ rs)
blocks_pass test size span c [] apart wait = ap (filter test) (sym (append-nil (held c.pieces ++ c.waiting)))
blocks_pass test size span c (r ∷ rs) apart wait =
    let next = put_behind (Some size) span c r in
    let ripe = is_ripe size span (c.waiting ++ r ∷ []) in
    let done = held c.pieces ++ c.waiting in
    blocks_pass test size span next rs apart (inner_wait (is_inner r) ripe c r refl wait)
    ∙ filter-append test (held next.pieces ++ next.waiting) rs
    ∙ ap (λ (l : List Rec). l ++ filter test rs) (put_passes test (is_inner r) ripe c r apart refl wait)
    ∙ sym (filter-append test (done ++ r ∷ []) rs) ∙ ap (filter test) (append_assoc done (r ∷ []) rs)

pub pieces_pass : (test : Rec → Bool) (size : Option ℕ) (span : Option ℕ) (history : List Rec) → TellsApart test → filter test (held (pieces_of size span history)) ≡ filter test history
pieces_pass test None span history apart = ap (filter test) (plain_hold span history)
pieces_pass test (Some size) span history apart =
    let c = cuts (Some size) span history in
    ap (filter test) (last_holds c.pieces c.waiting) ∙ blocks_pass test size span no_cuts history apart (λ n x at. absurd (at_none n x at))

pub pieces_body : (size : Option ℕ) (span : Option ℕ) (history : List Rec) → body_of (held (pieces_of size span history)) ≡ body_of history
pieces_body size span history = pieces_pass is_inner size span history bodies_apart

pub pieces_extras : (size : Option ℕ) (span : Option ℕ) (history : List Rec) → extras_in (held (pieces_of size span history)) ≡ extras_in history
pieces_extras size span history = ap (map rec_top) (pieces_pass is_aside size span history asides_apart)

-- the records of blocks are no extras
abbrev pub InnerBlock : Piece → Type 0
InnerBlock (block records) = Each IsInner records
InnerBlock (alone r) = Unit {0}

inner_cut : (inner ripe : Bool) (c : Cuts) (r : Rec) → is_inner r ≡ inner → Each InnerBlock c.pieces → Each IsInner c.waiting → let n = put_so inner ripe c r in Each InnerBlock n.pieces
inner_cut true true c r is pieces wait = each_joined InnerBlock c.pieces (block (c.waiting ++ r ∷ []) ∷ []) pieces (each_one InnerBlock (block (c.waiting ++ r ∷ [])) (each_joined IsInner c.waiting (r ∷ []) wait (each_one IsInner r is)))
inner_cut true false c r is pieces wait = pieces
inner_cut false ripe c r is pieces wait = each_joined InnerBlock c.pieces (alone r ∷ []) pieces (each_one InnerBlock (alone r) tt)

inner_cuts : (size : ℕ) (span : Option ℕ) (c : Cuts) (rs : List Rec) → Each InnerBlock c.pieces → Each IsInner c.waiting → let n = fold (put_behind (Some size) span) c rs in Each InnerBlock n.pieces × Each IsInner n.waiting
inner_cuts size span c [] pieces wait = (pieces, wait)
inner_cuts size span c (r ∷ rs) pieces wait =
    let ripe = is_ripe size span (c.waiting ++ r ∷ []) in
    inner_cuts size span (put_behind (Some size) span c r) rs (inner_cut (is_inner r) ripe c r refl pieces wait) (inner_wait (is_inner r) ripe c r refl wait)

inner_last : (waiting : List Rec) → Each IsInner waiting → Each InnerBlock (last_piece waiting)
inner_last [] wait = λ n p at. absurd (at_none n p at)
inner_last (w ∷ ws) wait = each_one InnerBlock (block (w ∷ ws)) wait

inner_plain : (history : List Rec) → Each InnerBlock (map alone history)
inner_plain [] = λ n p at. absurd (at_none n p at)
inner_plain (r ∷ rs) = each_cons InnerBlock (alone r) (map alone rs) tt (inner_plain rs)

pub blocks_inner : (size : Option ℕ) (span : Option ℕ) (history : List Rec) → Each InnerBlock (pieces_of size span history)
blocks_inner None span history = subst (Each InnerBlock) (sym (ap (λ (c : Cuts). c.pieces ++ last_piece c.waiting) (cuts_alone span no_cuts history) ∙ append-nil (map alone history))) (inner_plain history)
blocks_inner (Some size) span history =
    let c = cuts (Some size) span history in
    let both = inner_cuts size span no_cuts history (λ n p at. absurd (at_none n p at)) (λ n x at. absurd (at_none n x at)) in
    each_joined InnerBlock c.pieces (last_piece c.waiting) both.0 (inner_last c.waiting both.1)

-- their bytes
pub indexes_spelled : (records : List Rec) (ids : List ℕ) → indexes_bytes records ids ≡ spelled (map (index_top records) ids)
indexes_spelled records [] = refl
indexes_spelled records (id ∷ ids) = ap (λ (l : List ℕ). index_bytes records id ++ l) (indexes_spelled records ids)

pub piece_spelled : (p : Piece) → piece_bytes p ≡ spelled (piece_tops p)
piece_spelled (block records) = ap (λ (l : List ℕ). chunk_bytes records ++ l) (indexes_spelled records (logged_channels records))
piece_spelled (alone r) = sym (append-nil (rec_bytes r))

pub pieces_spelled : (ps : List Piece) → pieces_bytes ps ≡ spelled (flat_map piece_tops ps)
pieces_spelled [] = refl
pieces_spelled (p ∷ ps) =
    ap (λ (l : List ℕ). l ++ pieces_bytes ps) (piece_spelled p) ∙ ap (λ (l : List ℕ). spelled (piece_tops p) ++ l) (pieces_spelled ps)
    ∙ sym (flat_map-append top_bytes (piece_tops p) (flat_map piece_tops ps))

-- ---- their records

-- a block whose numbers fit, without extras; or a record that keeps V10, where it is an extra
abbrev pub PieceIsSound : Piece → Type 0
PieceIsSound (alone r) = is_inner r ≡ false → V10 (rec_top r)
PieceIsSound (block records) = (length (history_bytes records) < 2 ^ 64) × EntriesFit records × Each IsInner records

-- all that is asked of a record in front of the Data End by itself
pub record IsRight (t : Top) : Type 0 where
  pub valid : t.op ≡ 0 → ⊥
  pub kind : stands_in_section t.op ≡ true
  pub v6 : V6 t
  pub v8 : V8 t
  pub v10 : V10 t
  pub plain : (name : List ℕ) → NamesCompression t name → ⊥
  pub unended : t.op ≡ 15 → ⊥

pub text_within : (records : List Rec) (n : ℕ) (r : Rec) → At records n r → length (rec_text r) ≤ length (history_bytes records)
text_within [] n r at = absurd (at_none n r at)
text_within (x ∷ xs) zero r at = let same = ap (λ (y : Rec). length (rec_text y)) (same_Some x r at) in omega (arith, same, length-append (rec_bytes x) (history_bytes xs), length-top (rec_top x))
text_within (x ∷ xs) (suc n) r at = let more = text_within xs n r at in omega (arith, more, length-append (rec_bytes x) (history_bytes xs))

pub written_chunk : (records : List Rec) → Each IsReadBack records → Each IsNumberedRec records → Each IsInner records → length (history_bytes records) < 2 ^ 64 → (inner_tops (chunk_top records) ≡ map rec_top records) × V6 (chunk_top records) × V8 (chunk_top records)
written_chunk records back some inner small =
    chunks_are_written records back (λ n r at. let less = text_within records n r at in omega (arith, less, small)) some inner small

pub indexes_flat : (records : List Rec) (ids : List ℕ) → flat (map (index_top records) ids) ≡ []
indexes_flat records [] = refl
indexes_flat records (id ∷ ids) = indexes_flat records ids

pub piece_flat : (p : Piece) → Each IsReadBack (piece_records p) → Each IsNumberedRec (piece_records p) → PieceIsSound p → flat (piece_tops p) ≡ map rec_top (body_of (piece_records p))
piece_flat (block records) back some fits =
    let inner = (written_chunk records back some fits.2 fits.0).0 in
    ap (λ (l : List Top). filter is_flat_kind l ++ flat (map (index_top records) (logged_channels records))) inner
    ∙ ap (λ (l : List Top). filter is_flat_kind (map rec_top records) ++ l) (indexes_flat records (logged_channels records))
    ∙ append-nil (filter is_flat_kind (map rec_top records)) ∙ recs_are_flat records back
piece_flat (alone r) back some fits = append-nil (flattened (rec_top r)) ∙ by r (back 0 r refl)
  where
    by : (r : Rec) → IsReadBack r → flattened (rec_top r) ≡ map rec_top (body_of (r ∷ []))
    by (Schema id s) own = refl
    by (Channel id schema topic encoding metadata) own = refl
    by (Message channel sequence log_time publish_time payload) own = refl
    by (Extra op content) own = extra_flattened op content own.2

-- an extra is of no other kind
pub extra_not_kind : (op : ℕ) → IsExtraKind op → (k : ℕ) → k < 128 → (k ≡ 9 → ⊥) → (k ≡ 12 → ⊥) → op ≡ k → ⊥
extra_not_kind op (inl nine) k low a b e = a (sym e ∙ nine)
extra_not_kind op (inr (inl twelve)) k low a b e = b (sym e ∙ twelve)
extra_not_kind op (inr (inr high)) k low a b e = omega (arith, high, low, e)

pub extra_right : (t : Top) → IsExtra t → IsRight t
extra_right t fits = record {
  valid = λ e. extra_not_kind t.op fits.kind 0 (omega arith) (λ a. omega (arith, a)) (λ a. omega (arith, a)) e;
  kind = kind_by fits.kind;
  v6 = fits.v6;
  v8 = λ f is. absurd (extra_not_kind t.op fits.kind 6 (omega arith) (λ a. omega (arith, a)) (λ a. omega (arith, a)) is.kind);
  v10 = fits.v10;
  plain = λ name named. let chunk = named.is in absurd (extra_not_kind t.op fits.kind 6 (omega arith) (λ a. omega (arith, a)) (λ a. omega (arith, a)) chunk.kind);
  unended = λ e. extra_not_kind t.op fits.kind 15 (omega arith) (λ a. omega (arith, a)) (λ a. omega (arith, a)) e;
}
  where
    or_last : (a b : Bool) → b ≡ true → (a || b) ≡ true
    or_last true b is = refl
    or_last false b is = is

    kind_by : IsExtraKind t.op → stands_in_section t.op ≡ true
    kind_by (inl e) = ap stands_in_section e
    kind_by (inr (inl e)) = ap stands_in_section e
    kind_by (inr (inr high)) = or_last (list_any (λ kind. kind == t.op) (3 ∷ 4 ∷ 5 ∷ 6 ∷ 7 ∷ 9 ∷ 12 ∷ 15 ∷ [])) (nat_le 16 t.op) (le-leb 16 t.op (omega (arith, high)))

-- an extra of a history, as one of a file
pub extra_there : (r : Rec) (op : ℕ) (content : List ℕ) → r ≡ Extra op content → IsReadBack r → IsNumberedRec r → (is_inner r ≡ false → V10 (rec_top r)) → IsExtra (rec_top r)
extra_there r op content is back some right = record {
  kind = kind_of (rec_opcode r) content (subst (λ (x : Rec). IsExtraContent (rec_opcode x) content) (sym is) (subst IsReadBack is back).2);
  v6 = rec_meets r back some;
  v10 = right (ap is_inner is);
}
  where
    kind_of : (k : ℕ) (content : List ℕ) → IsExtraContent k content → IsExtraKind k
    kind_of k content (inl nine) = inl nine.0
    kind_of k content (inr (inl twelve)) = inr (inl twelve.0)
    kind_of k content (inr (inr high)) = inr (inr high)

pub rec_right : (r : Rec) → IsReadBack r → IsNumberedRec r → (is_inner r ≡ false → V10 (rec_top r)) → IsRight (rec_top r)
rec_right r back some right = by (inner_or r)
  where
    low_op : (op : ℕ) → (op ≡ 3) ⊎ ((op ≡ 4) ⊎ (op ≡ 5)) → op ≡ 0 → ⊥
    low_op op (inl e) none = omega (arith, e, none)
    low_op op (inr (inl e)) none = omega (arith, e, none)
    low_op op (inr (inr e)) none = omega (arith, e, none)

    low_kind : (op : ℕ) → (op ≡ 3) ⊎ ((op ≡ 4) ⊎ (op ≡ 5)) → stands_in_section op ≡ true
    low_kind op (inl e) = ap stands_in_section e
    low_kind op (inr (inl e)) = ap stands_in_section e
    low_kind op (inr (inr e)) = ap stands_in_section e

    not_nine : (op : ℕ) → (op ≡ 3) ⊎ ((op ≡ 4) ⊎ (op ≡ 5)) → op ≡ 9 → ⊥
    not_nine op (inl e) nine = omega (arith, e, nine)
    not_nine op (inr (inl e)) nine = omega (arith, e, nine)
    not_nine op (inr (inr e)) nine = omega (arith, e, nine)

    inner_right : (r : Rec) → IsReadBack r → IsNumberedRec r → is_inner r ≡ true → IsRight (rec_top r)
    inner_right r back some inner = record {
      valid = low_op (rec_opcode r) (rec_low r inner);
      kind = low_kind (rec_opcode r) (rec_low r inner);
      v6 = rec_meets r back some;
      v8 = λ f is. absurd (rec_not r 6 back (omega arith) (omega arith) (λ a. omega (arith, a)) (λ a. omega (arith, a)) is.kind);
      v10 = λ f place kind. absurd (not_nine (rec_opcode r) (rec_low r inner) kind);
      plain = λ name is. let chunk = is.is in absurd (rec_not r 6 back (omega arith) (omega arith) (λ a. omega (arith, a)) (λ a. omega (arith, a)) chunk.kind);
      unended = λ e. rec_not r 15 back (omega arith) (omega arith) (λ a. omega (arith, a)) (λ a. omega (arith, a)) e;
    }

    by : (is_inner r ≡ true) ⊎ ((op : ℕ) × (content : List ℕ) × (r ≡ Extra op content)) → IsRight (rec_top r)
    by (inl inner) = inner_right r back some inner
    by (inr (op, content, is)) = extra_right (rec_top r) (extra_there r op content is back some right)

pub chunk_right : (records : List Rec) → V6 (chunk_top records) → V8 (chunk_top records) → IsChunk (chunk_top records) (written_fields records) → IsRight (chunk_top records)
chunk_right records v6 v8 is = record {
  valid = λ e. omega (arith, e);
  kind = refl;
  v6 = v6;
  v8 = v8;
  v10 = λ f place kind. absurd (omega (arith, kind));
  plain = λ name named.
      let g = named.shown in
      let f = written_fields records in
      let chunk = named.is in
      let same = shows_decided chunk_kinds (chunk_content records) (chunk_values f) (chunk_values g) is.layout chunk.layout in
      let none : [] ≡ g.compression = ap (λ v. v.1.1.1.1.0) same in
      let some = named.some in
      some (sym named.named ∙ sym none);
  unended = λ e. omega (arith, e);
}

pub index_right : (records : List Rec) (id : ℕ) → V6 (index_top records id) → IsRight (index_top records id)
index_right records id v6 = record {
  valid = λ e. omega (arith, e);
  kind = refl;
  v6 = v6;
  v8 = λ f is. absurd (omega (arith, is.kind));
  v10 = λ f place kind. absurd (omega (arith, kind));
  plain = λ name named. let chunk = named.is in absurd (omega (arith, chunk.kind));
  unended = λ e. omega (arith, e);
}

pub extra_flat : (t : Top) → IsExtra t → flattened t ≡ []
extra_flat t fits =
    ap (λ (b : Bool). filter is_flat_kind (if b then inner_tops t else t ∷ [])) (ne_eqb t.op 6 (λ e. extra_not_kind t.op fits.kind 6 (omega arith) (λ a. omega (arith, a)) (λ a. omega (arith, a)) e))
    ∙ ap (λ (b : Bool). cond b (t ∷ []) []) not_flat
  where
    not_flat : is_flat_kind t ≡ false
    not_flat =
        ap (λ (b : Bool). b || ((4 == t.op) || ((5 == t.op) || false))) (ne_eqb 3 t.op (λ e. extra_not_kind t.op fits.kind 3 (omega arith) (λ a. omega (arith, a)) (λ a. omega (arith, a)) (sym e)))
        ∙ ap (λ (b : Bool). b || ((5 == t.op) || false)) (ne_eqb 4 t.op (λ e. extra_not_kind t.op fits.kind 4 (omega arith) (λ a. omega (arith, a)) (λ a. omega (arith, a)) (sym e)))
        ∙ ap (λ (b : Bool). b || false) (ne_eqb 5 t.op (λ e. extra_not_kind t.op fits.kind 5 (omega arith) (λ a. omega (arith, a)) (λ a. omega (arith, a)) (sym e)))

pub piece_right : (p : Piece) → Each IsReadBack (piece_records p) → Each IsNumberedRec (piece_records p) → PieceIsSound p → Each IsRight (piece_tops p)
piece_right (block records) back some fits =
    let chunk = written_chunk records back some fits.2 fits.0 in
    let is = written_shows records back fits.0 in
    each_cons IsRight (chunk_top records) (map (index_top records) (logged_channels records)) (chunk_right records chunk.1 chunk.2 is)
    (each_map (index_top records) IsRight (logged_channels records) (λ n id at. index_right records id (index_meets (index_top records id) id _ (index_shown records id back (n, at) (fits.1 n id at) fits.0))))
piece_right (alone r) back some fits = each_one IsRight (rec_top r) (rec_right r (back 0 r refl) (some 0 r refl) fits)

-- ---- all pieces

pub each_parts : {X Y : Type 0} (P : Y → Type 0) (f : X → List Y) (xs : List X) → Each P (flat_map f xs) → (n : ℕ) (x : X) → At xs n x → Each P (f x)
each_parts P f [] each n x at = absurd (at_none n x at)
each_parts {X} P f (z ∷ xs) each zero x at = subst (λ (w : X). Each P (f w)) (same_Some z x at) (λ k y there. each k y (at_kept (f z) (flat_map f xs) k y there))
each_parts P f (z ∷ xs) each (suc n) x at = each_parts P f xs (λ k y there. each (length (f z) + k) y (at_second (f z) (flat_map f xs) k y there)) n x at

pub each_flat : {X Y : Type 0} (P : Y → Type 0) (f : X → List Y) (xs : List X) → ((n : ℕ) (x : X) → At xs n x → Each P (f x)) → Each P (flat_map f xs)
each_flat P f [] each = λ k y at. absurd (at_none k y at)
each_flat P f (z ∷ xs) each = each_joined P (f z) (flat_map f xs) (each 0 z refl) (each_flat P f xs (λ n x at. each (suc n) x at))

pub pieces_flat : (ps : List Piece) → ((n : ℕ) (p : Piece) → At ps n p → flat (piece_tops p) ≡ map rec_top (body_of (piece_records p))) → flat (flat_map piece_tops ps) ≡ map rec_top (body_of (held ps))
pieces_flat [] each = refl
pieces_flat (p ∷ ps) each =
    flat_map-append flattened (piece_tops p) (flat_map piece_tops ps)
    ∙ ap (λ (l : List Top). l ++ flat (flat_map piece_tops ps)) (each 0 p refl)
    ∙ ap (λ (l : List Top). map rec_top (body_of (piece_records p)) ++ l) (pieces_flat ps (λ n q at. each (suc n) q at))
    ∙ sym (ap (map rec_top) (body_append (piece_records p) (held ps)) ∙ map-append rec_top (body_of (piece_records p)) (body_of (held ps)))

pub extras_flat : (extras : List Top) → Each IsExtra extras → flat extras ≡ []
extras_flat [] each = refl
extras_flat (t ∷ ts) each = ap (λ (l : List Top). l ++ flat ts) (extra_flat t (each 0 t refl)) ∙ extras_flat ts (λ n x at. each (suc n) x at)

-- a block among pieces is one of their blocks
pub block_has : (ps : List Piece) (n : ℕ) (records : List Rec) → At ps n (block records) → Has (blocks_in ps) records
block_has [] n records at = absurd (at_none n (block records) at)
block_has (p ∷ ps) zero records at = subst (λ (q : Piece). Has (blocks_in (q ∷ ps)) records) (sym (same_Some p (block records) at)) (0, refl)
block_has (block b ∷ ps) (suc n) records at = let more = block_has ps n records at in (suc more.0, more.1)
block_has (alone r ∷ ps) (suc n) records at = block_has ps n records at

-- all of them are no longer than what they are written as
pub block_within : (records : List Rec) → length (history_bytes records) ≤ length (chunk_bytes records)
block_within records = let small = length-chunk records in omega (arith, small)
  where
    length-chunk : (records : List Rec) → length (history_bytes records) ≤ length (chunk_bytes records)
    length-chunk records = simp (length-append, length-le) (omega arith)

-- ---- with a chunk size each piece is a block or an extra

abbrev pub IsBlock : Piece → Type 0
IsBlock (block records) = Unit {0}
IsBlock (alone r) = is_inner r ≡ false

put_blocks : (inner ripe : Bool) (c : Cuts) (r : Rec) → is_inner r ≡ inner → Each IsBlock c.pieces → let n = put_so inner ripe c r in Each IsBlock n.pieces
put_blocks true true c r is each = each_joined IsBlock c.pieces (block (c.waiting ++ r ∷ []) ∷ []) each (each_one IsBlock (block (c.waiting ++ r ∷ [])) tt)
put_blocks true false c r is each = each
put_blocks false ripe c r is each = each_joined IsBlock c.pieces (alone r ∷ []) each (each_one IsBlock (alone r) is)

all_blocks : (size : ℕ) (span : Option ℕ) (c : Cuts) (rs : List Rec) → Each IsBlock c.pieces → let n = fold (put_behind (Some size) span) c rs in Each IsBlock n.pieces
all_blocks size span c [] each = each
all_blocks size span c (r ∷ rs) each = all_blocks size span (put_behind (Some size) span c r) rs (put_blocks (is_inner r) (is_ripe size span (c.waiting ++ r ∷ [])) c r refl each)

last_block : (waiting : List Rec) → Each IsBlock (last_piece waiting)
last_block [] = λ n p at. absurd (at_none n p at)
last_block (r ∷ rs) = each_one IsBlock (block (r ∷ rs)) tt

pub pieces_are_blocks : (size : ℕ) (span : Option ℕ) (history : List Rec) → Each IsBlock (pieces_of (Some size) span history)
pieces_are_blocks size span history =
    let c = cuts (Some size) span history in
    each_joined IsBlock c.pieces (last_piece c.waiting) (all_blocks size span no_cuts history (λ n p at. absurd (at_none n p at))) (last_block c.waiting)

pub block_of : (p : Piece) → IsBlock p → ((records : List Rec) × (p ≡ block records)) ⊎ ((r : Rec) × (p ≡ alone r) × (is_inner r ≡ false))
block_of (block records) is = inl (records, refl)
block_of (alone r) is = inr (r, refl, is)
