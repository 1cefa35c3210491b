-- Pieces joined, and a first part of them.
use Rattle.std.proofs.Common.{◌≡◌, ℕ, List, [], ◌∷◌, ◌++◌, length, map, take, drop, refl, sym, ap, ◌∙◌, append_assoc}
use Rattle.std.specs.List.{flat_map}
use Rattle.std.proofs.lemmas.List.{append-nil, take-append-drop}
use Rattle.std.proofs.lemmas.Grind.{flat_map-append}
use Rattle.mcap_model.specs.Tops.{top_bytes, spelled}
use Rattle.mcap_model.specs.Blocks.{pieces_of, piece_bytes, pieces_bytes}
use Rattle.mcap_model.specs.File.{front, data_end, section, noted, tail_by, file_of}
use Rattle.mcap_model.specs.Pieces.{joined, back_of, pieces_before}
use Rattle.mcap_model.specs.Laws.{PiecesMakeFiles, StopsLeavePrefixes}
use Rattle.mcap_model.proofs.Lists.{cut_at}
use Rattle.mcap_model.proofs.Files.{join_whole}

abbrev whole_piece : List ℕ → List ℕ
whole_piece piece = piece

-- pieces that are made of elements, joined
pub joined_map : {X : Type 0} (f : X → List ℕ) (xs : List X) → joined (map f xs) ≡ flat_map f xs
joined_map f [] = refl
joined_map f (x ∷ xs) = ap (λ (l : List ℕ). f x ++ l) (joined_map f xs)

join_four : (f p e d t : List ℕ) → f ++ (p ++ (e ++ ((d ++ t) ++ []))) ≡ ((f ++ (p ++ e)) ++ d) ++ t
join_four f p e d t = simp (append_assoc, append-nil) refl

pub pieces_make_files : PiecesMakeFiles
unfolding file_of
pieces_make_files options extras history =
    let ps = pieces_of options.chunk options.span history in
    let back = back_of options extras history in
    let head = front options.profile in
    let tail = tail_by options.chunk (noted options extras history) (length (section options extras history ++ data_end)) in
    ap (λ (l : List ℕ). head ++ l) (flat_map-append whole_piece (map piece_bytes ps) (map top_bytes extras ++ back ∷ [])
    ∙ ap (λ (l : List ℕ). l ++ joined (map top_bytes extras ++ back ∷ [])) (joined_map piece_bytes ps)
    ∙ ap (λ (l : List ℕ). pieces_bytes ps ++ l) (flat_map-append whole_piece (map top_bytes extras) (back ∷ [])
    ∙ ap (λ (l : List ℕ). l ++ (back ++ [])) (joined_map top_bytes extras)))
    ∙ join_four head (pieces_bytes ps) (spelled extras) data_end tail

pub stops_leave_prefixes : StopsLeavePrefixes
stops_leave_prefixes pieces place stop text bytes stopped =
    let cut = cut_at pieces place stopped.next stopped.at in
    let done = pieces_before pieces place in
    let some = take stopped.some stopped.next in
    let rest = drop stopped.some stopped.next in
    let all : joined pieces ≡ done ++ (stopped.next ++ joined cut.0) =
    ap joined cut.1 ∙ flat_map-append whole_piece (take place pieces) (stopped.next ∷ cut.0) in (
      rest ++ joined cut.0,
      ap (λ (l : List ℕ). l ++ (rest ++ joined cut.0)) stopped.split
          ∙ join_whole done some rest (joined cut.0)
          ∙ ap (λ (l : List ℕ). done ++ (l ++ joined cut.0)) (take-append-drop stopped.some stopped.next)
          ∙ sym all,
    )
