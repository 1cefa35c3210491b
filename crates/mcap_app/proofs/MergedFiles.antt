-- What stores that tell make of a merge.
use Rattle.std.proofs.Common.{◌≡◌, ℕ, List, [], ◌∷◌, Some, ◌∙◌}
use Rattle.std.specs.List.{AllZip}
use Rattle.mcap_io.specs.Outside.{Told, WorldState}
use Rattle.mcap_io.specs.Stores.{StoreState, TellsStore}
use Rattle.rec_data.specs.declared.owned.Rec.{Rec}
use Rattle.mcap_model.specs.Tops.{Top}
use Rattle.mcap_model.specs.Merged.{Merged as MergesTo, AreRead}
use Rattle.mcap_model.proofs.NamedTopics.{zip_front}
use Rattle.mcap_merge.specs.ReadInputs.{Read, read_tops}
use Rattle.mcap_merge.specs.Reading.{IsReadOf}
use Rattle.mcap_merge.specs.Filed.{AllTell, MergeIs}
use Rattle.command_write.specs.Merge.{HoldsBytes}

-- the store tells these bytes
abbrev pub TellsBytes : StoreState → List ℕ → Type 0
TellsBytes store bytes = store.bytes ≡ Some bytes

pub files_told : (w : WorldState) (told : Told) (inputs : List (List ℕ)) (given : List StoreState) (files : List (List ℕ)) → w.told ≡ Some told → AllZip (TellsStore w) inputs given → AllZip (HoldsBytes told) inputs files → AllZip TellsBytes given files
files_told w told [] [] [] here tells there = tt
files_told w told [] [] (f ∷ fs) here tells there = absurd there
files_told w told [] (s ∷ ss) fs here tells there = absurd tells
files_told w told (i ∷ is) [] fs here tells there = absurd tells
files_told w told (i ∷ is) (s ∷ ss) [] here tells there = absurd there
files_told w told (i ∷ is) (s ∷ ss) (f ∷ fs) here tells there = ((tells.0 told here).0 ∙ there.0, files_told w told is ss fs here tells.1 there.1)

are_read : (given : List StoreState) (files : List (List ℕ)) (reads : List Read) → AllZip TellsBytes given files → AllZip IsReadOf given reads → AreRead files (read_tops reads)
are_read [] [] [] told are = tt
are_read [] [] (r ∷ rs) told are = absurd are
are_read [] (f ∷ fs) rs told are = absurd told
are_read (s ∷ ss) [] rs told are = absurd told
are_read (s ∷ ss) (f ∷ fs) [] told are = absurd are
are_read (s ∷ ss) (f ∷ fs) (r ∷ rs) told are = (are.0 f told.0, are_read ss fs rs told.1 are.1)

all_tell : (given : List StoreState) (files : List (List ℕ)) → AllZip TellsBytes given files → AllTell given
all_tell given files told n s at = let (bytes, there, is) = zip_front TellsBytes given files n s told at in (bytes, is)

-- what is merged of them is the merge of their bytes
pub merges_to : (given : List StoreState) (files : List (List ℕ)) (profile : List ℕ) (extras : List Top) (history : List Rec) → AllZip TellsBytes given files → MergeIs given profile extras history → MergesTo files profile extras history
merges_to given files profile extras history told is =
    let of = is.of in
    record { inputs = read_tops is.reads; read = are_read given files is.reads told is.are; merge = of (all_tell given files told) }
