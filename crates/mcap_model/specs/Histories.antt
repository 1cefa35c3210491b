-- Histories as their writers and the laws of files speak of them.
use Rattle.std.specs.Prelude.{◌≡◌, ℕ, suc, ◌≤◌, List, [], ◌∷◌, ◌++◌, length, fold, Bool, true, false, not, filter, map, take, drop}
use Rattle.std.specs.List.{flat_map}
use Rattle.rec_data.specs.declared.owned.Rec.{Rec}
use Rattle.mcap_model.specs.Places.{At, Each, EachBehind}
use Rattle.mcap_model.specs.Blocks.{Piece, block, alone, no_cuts, put_by, last_piece, cuts, pieces_bytes, blocks_in}
use Rattle.mcap_model.specs.declared.options.FileOptions.{FileOptions}
use Rattle.mcap_model.specs.File.{front}
use Rattle.mcap_model.specs.Tops.{Top, is_flat_kind}
use Rattle.mcap_model.specs.History.{rec_top, is_inner, body_of}
use Rattle.mcap_model.specs.Rules.{Agrees}

-- what is ripe stays ripe with further records, and no records aren't ripe
pub record Ripens (ripe : List Rec → Bool) : Type 0 where
  pub grows : (xs ys : List Rec) → ripe xs ≡ true → ripe (xs ++ ys) ≡ true
  pub unripe : ripe [] ≡ false

-- A history is cut behind the record that makes a block ripe, and at its end: each block but the last is ripe, and none
-- is without its last record.
pub record AreBlocks (ripe : List Rec → Bool) (history : List Rec) (blocks : List (List Rec)) : Type 0 where
  pub joined : flat_map (λ block. block) blocks ≡ history
  pub some : Each (λ block. block ≡ [] → ⊥) blocks
  pub ripe_before : (n : ℕ) (block next : List Rec) → At blocks n block → At blocks (suc n) next → ripe block ≡ true
  pub no_sooner : (n : ℕ) (start : List Rec) (r : Rec) → At blocks n (start ++ r ∷ []) → ripe start ≡ false

-- the records at top level among pieces
abbrev pub alone_in : Piece → List Rec
alone_in (block records) = []
alone_in (alone r) = r ∷ []

-- In front of a place of a history are just those of the pieces that end in front of it: its extras there, and the ripe
-- blocks whose last record stands there. What is left of its other records is no block yet; at the end of the history it
-- is the last piece, if anything is left.
pub record StandInTurn (ripe : List Rec → Bool) (history : List Rec) (pieces : List Piece) (place : ℕ)
    : Type 0 where
  pub count : ℕ
  pub extras : flat_map alone_in (take count pieces) ≡ filter (λ r. not (is_inner r)) (take place history)
  pub waiting : List Rec
  pub blocks : flat_map (λ block. block) (blocks_in (take count pieces)) ++ waiting ≡ body_of (take place history)
  pub are_ripe : Each (λ block. ripe block ≡ true) (blocks_in (take count pieces))
  pub unripe : ripe waiting ≡ false
  pub rest : length history ≤ place → drop count pieces ≡ last_piece waiting

-- the pieces where blocks end as soon as they are ripe
abbrev pub pieces_by : (List Rec → Bool) → List Rec → List Piece
pieces_by ripe history = let c = fold (put_by ripe) no_cuts history in c.pieces ++ last_piece c.waiting

-- what stands in the file of each history that begins with this one
abbrev pub written_of : FileOptions → List Rec → List ℕ
written_of options history = front options.profile ++ pieces_bytes (cuts options.chunk options.span history).pieces

-- its Schemas, Channels and Messages, as they stand in a file
abbrev pub flat_history : List Rec → List Top
flat_history history = filter is_flat_kind (map rec_top history)

-- the ids of a history's records agree as those of a file's do
abbrev pub IdsAgree : List Rec → Type 0
IdsAgree history = EachBehind Agrees (flat_history history)
