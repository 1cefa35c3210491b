-- What a caller shows from call to call.
use Rattle.std.proofs.Common.{List, [], ◌∷◌, ◌++◌, sym, ap, subst, Option, Some, Ok}
use Rattle.mcap_io.specs.Stores.{StoreState}
use Rattle.mcap_model.specs.Places.{Has}
use Rattle.merge_walk.specs.declared.turns.Turn.{Turn}
use Rattle.merge_walk.specs.declared.pieces.Piece.{Piece}
use Rattle.merge_walk.specs.declared.walk.Walk.{Walk}
use Rattle.merge_walk.specs.Pieces.{InputBytes}
use Rattle.merge_walk.specs.Stores.{files_of, StoresFit, LeavesStores}
use Rattle.merge_walk.specs.Walks.{Text, turns_in, HoldsText, WalkStands, StandsBehindSome, Advances}
use Rattle.merge_walk.proofs.Stayed.{files_stay, fit_on}

-- a new walk stands
pub stands_at_first : (files : InputBytes) (w : Walk) → ((f : InputBytes) → WalkStands f w [] []) → StandsBehindSome files w
stands_at_first files w all = ([], [], all files)

module _ {X : Type 0} (olds news : List StoreState) (old new : Walk) (it : X) (leaves : LeavesStores olds news old new (Ok it)) where
  -- it stands behind a turn
  pub stands_after : (t : Turn) → Advances (files_of olds) old new (Some t) → StandsBehindSome (files_of olds) old → StandsBehindSome (files_of news) new
  stands_after t advances (texts, given, stands) =
      let (more, gives) = advances.stands texts given stands in
      let now = gives.0 in
      (texts ++ more, given ++ t ∷ [], subst (λ (f : InputBytes). WalkStands f new (texts ++ more) (given ++ t ∷ [])) (sym (files_stay olds news leaves.stay)) now)

  -- the pieces fit the stores still
  pub fits_after : (next : Option Turn) → Advances (files_of olds) old new next → StoresFit olds old.pieces.items → StoresFit news new.pieces.items
  fits_after next advances fits = subst (λ (l : List Piece). StoresFit news l) (sym (ap (λ v. v.items) advances.pieces)) (fit_on olds news old.pieces.items fits leaves.stay)

-- the message of the turn can be read
pub readable_after : (files : InputBytes) (old new : Walk) (t : Turn) → Advances files old new (Some t) → StandsBehindSome files old → (x : Text) × HoldsText new x × Has (turns_in x) t
readable_after files old new t advances (texts, given, stands) =
    let (more, gives) = advances.stands texts given stands in
    let held = gives.1 in
    (held.text, held.held, held.has)
