-- Before there is a block.
use Rattle.std.proofs.Common.{◌≡◌, ℕ, zero, suc, List, [], ◌∷◌, length, Option, None, refl, subst, sym, ◌∙◌, arith}
use Rattle.std.specs.Prelude.{IsUtf8}
use Rattle.std.proofs.lemmas.Option.{same_Some, none-some}
use Rattle.mcap_wire.proofs.Contents.{row_shown}
use Rattle.rec_data.specs.Records.{header_kinds}
use Rattle.rec_data.proofs.Contents.{length-header_text}
use Rattle.mcap_model.specs.Fields.{IsHeader}
use Rattle.mcap_model.specs.Kept.{reading_limits, Fits, Good}
use Rattle.mcap_model.specs.Whole.{V9}
use Rattle.mcap_model.specs.Valid.{Keeps}
use Rattle.mcap_model.specs.File.{library}
use Rattle.mcap_model.proofs.Places.{at_none, each_more}
use Rattle.mcap_model.proofs.Edges.{header_top, header_fits, ascii}
use Rattle.live_entry.specs.declared.entry.Entry.{Entry}
use Rattle.live_entry.specs.Following.{AreGood}
use Rattle.live_entry.specs.Entries.{EntriesFollow}

empty : IsUtf8 []
empty = ([], (refl, refl))

is_header : IsHeader (header_top [])
is_header = record { kind = refl; profile = []; library = library; layout = row_shown header_kinds ([], (library, tt)) ((omega arith, empty), ((omega arith, ascii), tt)) }

header_good : Good reading_limits (header_top [] ∷ [])
header_good =
    let size = length-header_text (record { profile = []; library = library }) in
    let nine : length library ≡ 9 = refl in
    each_more (Fits reading_limits) [] (header_top []) (λ n x at. absurd (at_none n x at)) (header_fits [] is_header (omega (arith, size, nine)))

header_indexed : Keeps V9 (header_top [] ∷ [])
header_indexed zero t at = let same = same_Some (header_top []) t at in
    subst (V9 (header_top [] ∷ []) 0) same ((λ e. absurd (omega (arith, e))), λ e followed. absurd (omega (arith, e)))
header_indexed (suc n) t at = absurd (at_none n t at)

-- a Header alone is a good list
pub nothing_is_good : AreGood []
nothing_is_good = record { header = header_top []; is_header = is_header; good = header_good; indexed = header_indexed }

module _ {X : Type 0} (tells : X → Option (List ℕ)) where
  pub nothing_follows : EntriesFollow tells []
  nothing_follows [] zip = ([], record { rise = λ i j d less within. absurd (omega (arith, within)); each = tt; good = nothing_is_good }, tt)
  nothing_follows (s ∷ stored) zip = absurd zip

  -- of extents that don't tell nothing is said
  pub untold_follow : ((x : X) → tells x ≡ None) → (entries : List (Entry X)) → EntriesFollow tells entries
  untold_follow silent [] stored zip = nothing_follows stored zip
  untold_follow silent (e ∷ entries) [] zip = absurd zip
  untold_follow silent (e ∷ entries) (s ∷ stored) zip = let first = zip.0 in absurd (none-some s.bytes (sym (silent e.extent) ∙ first.told))
