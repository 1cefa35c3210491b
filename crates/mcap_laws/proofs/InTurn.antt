-- Pieces that stand in turn at every place of a history are one list.
use Rattle.std.proofs.Common.{◌≡◌, ℕ, suc, ◌+◌, Bool, true, false, List, [], ◌∷◌, ◌++◌, length, take, drop, map, refl, sym, ap, subst, inl, inr, ◌∙◌, append_assoc, cond, arith}
use Rattle.std.specs.Prelude.{fold, filter, not, if◌then◌else◌}
use Rattle.std.specs.List.{flat_map}
use Rattle.std.proofs.Math.Seq.{take-append_seam}
use Rattle.std.proofs.lemmas.Bool.{both_ways}
use Rattle.std.proofs.lemmas.List.{append-nil, append_cancel_left, take-append-drop}
use Rattle.std.proofs.lemmas.List.Elements.{filter-append}
use Rattle.std.proofs.lemmas.Grind.{flat_map-append}
use Rattle.rec_data.specs.declared.owned.Rec.{Rec}
use Rattle.mcap_model.specs.Places.{At, Each}
use Rattle.mcap_model.specs.History.{is_inner, body_of}
use Rattle.mcap_model.specs.Blocks.{Piece, block, alone, Cuts, no_cuts, alone_behind, cut_behind, put_by, last_piece, block_in, blocks_in}
use Rattle.mcap_model.specs.Histories.{Ripens, StandInTurn, alone_in, pieces_by}
use Rattle.mcap_model.specs.Laws.{PiecesAreOne, PlainPiecesAreRecords}
use Rattle.mcap_model.proofs.Places.{heads, tails}
use Rattle.mcap_model.proofs.Lists.{at_second}
use Rattle.mcap_model.proofs.Edges.{cuts_alone}
use Rattle.mcap_model.proofs.Growth.{fold_append}
use Rattle.mcap_model.proofs.Asides.{is_aside}
use Rattle.mcap_model.proofs.Cutting.{one_front}

-- the records at top level among pieces, and those in their blocks
abbrev outside : List Piece → List Rec
outside ps = flat_map alone_in ps

abbrev inside : List Piece → List Rec
inside ps = flat_map (λ b. b) (blocks_in ps)

inside_append : (xs ys : List Piece) → inside (xs ++ ys) ≡ inside xs ++ inside ys
inside_append xs ys = ap (λ (l : List (List Rec)). flat_map (λ (b : List Rec). b) l) (flat_map-append block_in xs ys) ∙ flat_map-append (λ (b : List Rec). b) (blocks_in xs) (blocks_in ys)

no_cons : {X : Type 0} (x : X) (xs : List X) → x ∷ xs ≡ [] → ⊥
no_cons x xs same = let size : length (x ∷ xs) ≡ 0 = ap length same in omega (arith, size)

first_none : {X : Type 0} (xs ys : List X) → xs ++ ys ≡ [] → xs ≡ []
first_none [] ys same = refl
first_none (x ∷ xs) ys same = absurd (no_cons x (xs ++ ys) same)

abbrev cut : List Piece → List Rec → Cuts
cut ps w = record { pieces = ps; waiting = w }

module _ (ripe : List Rec → Bool) (ripens : Ripens ripe) where
  abbrev AreRipe : List Piece → Type 0
  AreRipe ps = Each (λ b. ripe b ≡ true) (blocks_in ps)

  ripe_behind : (ps ds : List Piece) → AreRipe (ps ++ ds) → AreRipe ds
  ripe_behind ps ds each n b at =
      each (length (blocks_in ps) + n) b
      (subst (λ (l : List (List Rec)). At l (length (blocks_in ps) + n) b) (sym (flat_map-append block_in ps ds)) (at_second (blocks_in ps) (blocks_in ds) n b at))

  -- what begins with a ripe block is ripe
  begins_ripe : (b more all : List Rec) → ripe b ≡ true → b ++ more ≡ all → ripe all ≡ false → ⊥
  begins_ripe b more all is same unripe = both_ways (ripe all) unripe (ap ripe (sym same) ∙ ripens.grows b more is)

  -- so there are no blocks among records that aren't ripe
  no_blocks : (ps : List Piece) (w all : List Rec) → outside ps ≡ [] → AreRipe ps → inside ps ++ w ≡ all → ripe all ≡ false → ps ≡ []
  no_blocks [] w all none each same unripe = refl
  no_blocks (block b ∷ ps) w all none each same unripe = absurd (begins_ripe b (inside ps ++ w) all (each 0 b refl) (sym (append_assoc b (inside ps) w) ∙ same) unripe)
  no_blocks (alone r ∷ ps) w all none each same unripe = absurd (no_cons r (outside ps) none)

  -- and a ripe block among records that are ripe with the last one alone has all of them
  whole_block : (b rest w : List Rec) (r : Rec) → ripe b ≡ true → ripe w ≡ false → b ++ rest ≡ w ++ r ∷ [] → (b ≡ w ++ r ∷ []) × (rest ≡ [])
  whole_block b rest w r is unripe same = elim (one_front b w rest (r ∷ []) same) [
    | inl (more, longer) ↦ absurd (begins_ripe b more w is (sym longer) unripe)
    | inr (more, longer) ↦ by more longer
  ]
    where
      by : (more : List Rec) → b ≡ w ++ more → (b ≡ w ++ r ∷ []) × (rest ≡ [])
      by [] longer = absurd (begins_ripe b [] w is (append-nil b ∙ longer ∙ append-nil w) unripe)
      by (m ∷ ms) longer =
          let here : (m ∷ ms) ++ rest ≡ r ∷ [] =
          append_cancel_left w ((m ∷ ms) ++ rest) (r ∷ []) (sym (append_assoc w (m ∷ ms) rest) ∙ ap (λ (l : List Rec). l ++ rest) (sym longer) ∙ same) in
          let none : ms ++ rest ≡ [] = tails m r (ms ++ rest) [] here in
          let last : ms ≡ [] = first_none ms rest none in
          (longer ∙ ap (λ (l : List Rec). w ++ m ∷ l) last ∙ ap (λ (z : Rec). w ++ z ∷ []) (heads m r (ms ++ rest) [] here), ap (λ (l : List Rec). l ++ rest) (sym last) ∙ none)

  -- ---- one record more

  -- Pieces and records that wait behind it, before and after: some extras more, and some others.
  record Grown (ps : List Piece) (w : List Rec) (qs : List Piece) (v extras inner : List Rec) : Type 0 where
    outside_more : outside qs ≡ outside ps ++ extras
    inside_more : inside qs ++ v ≡ inside ps ++ (w ++ inner)
    were_ripe : AreRipe ps
    are_ripe : AreRipe qs
    unripe_before : ripe w ≡ false
    unripe : ripe v ≡ false

  abbrev More : List Piece → List Piece → Type 0
  More ps qs = (ds : List Piece) × (qs ≡ ps ++ ds)

  -- the pieces don't get fewer
  not_fewer : (ps qs ds : List Piece) (w v extras inner : List Rec) → Grown ps w qs v extras inner → ps ≡ qs ++ ds → More ps qs
  not_fewer ps qs ds w v extras inner grown fewer =
      let apart : outside qs ++ [] ≡ outside qs ++ (outside ds ++ extras) =
      append-nil (outside qs) ∙ grown.outside_more ∙ ap (λ (l : List Piece). outside l ++ extras) fewer ∙ ap (λ (l : List Rec). l ++ extras) (flat_map-append alone_in qs ds)
      ∙ append_assoc (outside qs) (outside ds) extras in
      let none : outside ds ≡ [] = first_none (outside ds) extras (sym (append_cancel_left (outside qs) [] (outside ds ++ extras) apart)) in
      let waits : inside qs ++ (inside ds ++ (w ++ inner)) ≡ inside qs ++ v =
      sym (append_assoc (inside qs) (inside ds) (w ++ inner)) ∙ ap (λ (l : List Rec). l ++ (w ++ inner)) (sym (inside_append qs ds))
      ∙ ap (λ (l : List Piece). inside l ++ (w ++ inner)) (sym fewer) ∙ sym grown.inside_more in
      let all : inside ds ++ (w ++ inner) ≡ v = append_cancel_left (inside qs) (inside ds ++ (w ++ inner)) v waits in
      let each : AreRipe ds = ripe_behind qs ds (subst AreRipe fewer grown.were_ripe) in
      let empty : ds ≡ [] = no_blocks ds (w ++ inner) v none each all grown.unripe in
      ([], sym (fewer ∙ ap (λ (l : List Piece). qs ++ l) empty ∙ append-nil qs) ∙ sym (append-nil ps))

  -- what the pieces have more
  abbrev Adds : List Piece → List Rec → List Rec → List Rec → List Rec → Type 0
  Adds ds w v extras inner = (outside ds ≡ extras) × (inside ds ++ v ≡ w ++ inner) × AreRipe ds

  adds : (ps qs ds : List Piece) (w v extras inner : List Rec) → Grown ps w qs v extras inner → qs ≡ ps ++ ds → Adds ds w v extras inner
  adds ps qs ds w v extras inner grown more =
      let apart : outside ps ++ outside ds ≡ outside ps ++ extras = sym (flat_map-append alone_in ps ds) ∙ ap (λ (l : List Piece). outside l) (sym more) ∙ grown.outside_more in
      let waits : inside ps ++ (inside ds ++ v) ≡ inside ps ++ (w ++ inner) =
      sym (append_assoc (inside ps) (inside ds) v) ∙ ap (λ (l : List Rec). l ++ v) (sym (inside_append ps ds)) ∙ ap (λ (l : List Piece). inside l ++ v) (sym more) ∙ grown.inside_more in (
        append_cancel_left (outside ps) (outside ds) extras apart,
        append_cancel_left (inside ps) (inside ds ++ v) (w ++ inner) waits,
        ripe_behind ps ds (subst AreRipe more grown.are_ripe),
      )

  -- an extra is a piece at once, and what waits stays
  extra_is_added : (ps ds : List Piece) (w v : List Rec) (r : Rec) → Adds ds w v (r ∷ []) [] → ripe w ≡ false → cut (ps ++ ds) v ≡ alone_behind (cut ps w) r
  extra_is_added ps [] w v r (apart, waits, each) unripe = absurd (no_cons r [] (sym apart))
  extra_is_added ps (block b ∷ ds) w v r (apart, waits, each) unripe =
      absurd (begins_ripe b (inside ds ++ v) w (each 0 b refl) (sym (append_assoc b (inside ds) v) ∙ waits ∙ append-nil w) unripe)
  extra_is_added ps (alone x ∷ ds) w v r (apart, waits, each) unripe =
      let all : inside ds ++ v ≡ w = waits ∙ append-nil w in
      let none : ds ≡ [] = no_blocks ds v w (tails x r (outside ds) [] apart) each all unripe in
      let same : v ≡ w = ap (λ (l : List Piece). inside l ++ v) (sym none) ∙ all in
      ap (λ (l : List Piece). cut (ps ++ alone x ∷ l) v) none ∙ ap (λ (z : Rec). cut (ps ++ alone z ∷ []) v) (heads x r (outside ds) [] apart)
      ∙ ap (λ (l : List Rec). cut (ps ++ alone r ∷ []) l) same

  -- another record makes a block with all that waits, or waits
  abbrev chosen : List Piece → List Rec → Rec → Bool → Cuts
  chosen ps w r b = if b then cut (ps ++ block (w ++ r ∷ []) ∷ []) [] else cut ps (w ++ r ∷ [])

  inner_is_added : (ps ds : List Piece) (w v : List Rec) (r : Rec) → Adds ds w v [] (r ∷ []) → ripe w ≡ false → ripe v ≡ false → cut (ps ++ ds) v ≡ cut_behind ripe (cut ps w) r
  inner_is_added ps [] w v r (apart, waits, each) unripe_before unripe =
      let late : ripe (w ++ r ∷ []) ≡ false = ap ripe (sym waits) ∙ unripe in
      ap (λ (l : List Piece). cut l v) (append-nil ps) ∙ ap (λ (l : List Rec). cut ps l) waits ∙ ap (chosen ps w r) (sym late)
  inner_is_added ps (block b ∷ ds) w v r (apart, waits, each) unripe_before unripe =
      let (whole, behind) = whole_block b (inside ds ++ v) w r (each 0 b refl) unripe_before (sym (append_assoc b (inside ds) v) ∙ waits) in
      let none : ds ≡ [] = no_blocks ds v [] apart (λ n x at. each (suc n) x at) behind ripens.unripe in
      let empty : v ≡ [] = ap (λ (l : List Piece). inside l ++ v) (sym none) ∙ behind in
      let early : ripe (w ++ r ∷ []) ≡ true = ap ripe (sym whole) ∙ each 0 b refl in
      ap (λ (l : List Piece). cut (ps ++ block b ∷ l) v) none ∙ ap (λ (l : List Rec). cut (ps ++ block l ∷ []) v) whole
      ∙ ap (λ (l : List Rec). cut (ps ++ block (w ++ r ∷ []) ∷ []) l) empty ∙ ap (chosen ps w r) (sym early)
  inner_is_added ps (alone x ∷ ds) w v r (apart, waits, each) unripe_before unripe = absurd (no_cons x (outside ds) apart)

  abbrev GrownBy : List Piece → List Rec → List Piece → List Rec → Rec → Bool → Type 0
  GrownBy ps w qs v r b = Grown ps w qs v (cond (not b) (r ∷ []) []) (cond b (r ∷ []) [])

  -- so the pieces are put as the fold puts them
  is_put : (ps qs ds : List Piece) (w v : List Rec) (r : Rec) (b : Bool) → GrownBy ps w qs v r b → qs ≡ ps ++ ds
      → cut qs v ≡ (if b then cut_behind ripe (cut ps w) r else alone_behind (cut ps w) r)
  is_put ps qs ds w v r true grown more =
      ap (λ (l : List Piece). cut l v) more ∙ inner_is_added ps ds w v r (adds ps qs ds w v [] (r ∷ []) grown more) grown.unripe_before grown.unripe
  is_put ps qs ds w v r false grown more =
      ap (λ (l : List Piece). cut l v) more ∙ extra_is_added ps ds w v r (adds ps qs ds w v (r ∷ []) [] grown more) grown.unripe_before

  -- ---- record by record

  module _ (history : List Rec) (pieces : List Piece) (turn : (place : ℕ) → StandInTurn ripe history pieces place) where
    -- the pieces that end among the records so far, and the records that wait there
    abbrev ended : List Rec → List Piece
    ended done = let t = turn (length done) in take t.count pieces

    abbrev waits : List Rec → List Rec
    waits done = let t = turn (length done) in t.waiting

    front : (done rs : List Rec) → done ++ rs ≡ history → take (length done) history ≡ done
    front done rs is = ap (take (length done)) (sym is) ∙ take-append_seam done rs

    outside_are : (done rs : List Rec) → done ++ rs ≡ history → outside (ended done) ≡ filter is_aside done
    outside_are done rs is = let t = turn (length done) in t.extras ∙ ap (filter is_aside) (front done rs is)

    inside_are : (done rs : List Rec) → done ++ rs ≡ history → inside (ended done) ++ waits done ≡ body_of done
    inside_are done rs is = let t = turn (length done) in t.blocks ∙ ap body_of (front done rs is)

    grows : (done rs : List Rec) (r : Rec) (b : Bool) → is_inner r ≡ b → done ++ r ∷ rs ≡ history → GrownBy (ended done) (waits done) (ended (done ++ r ∷ [])) (waits (done ++ r ∷ [])) r b
    grows done rs r b inner is =
        let before = turn (length done) in
        let after = turn (length (done ++ r ∷ [])) in
        let on : (done ++ r ∷ []) ++ rs ≡ history = append_assoc done (r ∷ []) rs ∙ is in
        let extra = cond (not b) (r ∷ []) [] in
        let other = cond b (r ∷ []) [] in
        record {
          outside_more =
              outside_are (done ++ r ∷ []) rs on ∙ filter-append is_aside done (r ∷ []) ∙ ap (λ (a : Bool). filter is_aside done ++ cond (not a) (r ∷ []) []) inner
              ∙ ap (λ (l : List Rec). l ++ extra) (sym (outside_are done (r ∷ rs) is));
          inside_more =
              inside_are (done ++ r ∷ []) rs on ∙ filter-append is_inner done (r ∷ []) ∙ ap (λ (a : Bool). body_of done ++ cond a (r ∷ []) []) inner
              ∙ ap (λ (l : List Rec). l ++ other) (sym (inside_are done (r ∷ rs) is)) ∙ append_assoc (inside (ended done)) (waits done) other;
          were_ripe = before.are_ripe;
          are_ripe = after.are_ripe;
          unripe_before = before.unripe;
          unripe = after.unripe;
        }

    -- the pieces so far are some first ones of those up to the next place
    more : (done rs : List Rec) (r : Rec) → done ++ r ∷ rs ≡ history → More (ended done) (ended (done ++ r ∷ []))
    more done rs r is =
        let before = turn (length done) in
        let after = turn (length (done ++ r ∷ [])) in
        let ps = ended done in
        let qs = ended (done ++ r ∷ []) in
        elim (one_front ps qs (drop before.count pieces) (drop after.count pieces) (take-append-drop before.count pieces ∙ sym (take-append-drop after.count pieces))) [
          | inl longer ↦ longer
          | inr (ds, fewer) ↦ not_fewer ps qs ds (waits done) (waits (done ++ r ∷ [])) (cond (not (is_inner r)) (r ∷ []) []) (cond (is_inner r) (r ∷ []) []) (grows done rs r (is_inner r) refl is) fewer
        ]

    one_more : (done rs : List Rec) (r : Rec) → done ++ r ∷ rs ≡ history → cut (ended (done ++ r ∷ [])) (waits (done ++ r ∷ [])) ≡ put_by ripe (cut (ended done) (waits done)) r
    one_more done rs r is =
        let (ds, longer) = more done rs r is in
        is_put (ended done) (ended (done ++ r ∷ [])) ds (waits done) (waits (done ++ r ∷ [])) r (is_inner r) (grows done rs r (is_inner r) refl is) longer

    to_the_end : (done rs : List Rec) → done ++ rs ≡ history → cut (ended done) (waits done) ≡ fold (put_by ripe) no_cuts done → pieces ≡ pieces_by ripe history
    to_the_end done [] is same =
        let last = turn (length done) in
        let whole : done ≡ history = sym (append-nil done) ∙ is in
        let size : length done ≡ length history = ap length whole in
        sym (take-append-drop last.count pieces) ∙ ap (λ (l : List Piece). ended done ++ l) (last.rest (omega (arith, size)))
        ∙ ap (λ (c : Cuts). c.pieces ++ last_piece c.waiting) same ∙ ap (pieces_by ripe) whole
    to_the_end done (r ∷ rs) is same =
        to_the_end (done ++ r ∷ []) rs (append_assoc done (r ∷ []) rs ∙ is)
        (one_more done rs r is ∙ ap (λ (c : Cuts). put_by ripe c r) same ∙ sym (fold_append (put_by ripe) no_cuts done (r ∷ [])))

    at_the_start : cut (ended []) (waits []) ≡ no_cuts
    at_the_start =
        let first = turn 0 in
        let all = inside_are [] history refl in
        let none : ended [] ≡ [] = no_blocks (ended []) (waits []) [] (outside_are [] history refl) first.are_ripe all ripens.unripe in
        ap (λ (l : List Piece). cut l (waits [])) none ∙ ap (λ (l : List Rec). cut [] l) (ap (λ (l : List Piece). inside l ++ waits []) (sym none) ∙ all)

pub pieces_are_one : PiecesAreOne
pieces_are_one ripe history pieces ripens turn = to_the_end ripe ripens history pieces turn [] history refl (at_the_start ripe ripens history pieces turn)

pub plain_pieces_are_records : PlainPiecesAreRecords
plain_pieces_are_records span history = ap (λ (c : Cuts). c.pieces ++ last_piece c.waiting) (cuts_alone span no_cuts history) ∙ append-nil (map alone history)
