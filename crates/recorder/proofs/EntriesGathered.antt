-- The entries that a Scribe gives, call by call, are those of the blocks of its history.
use Rattle.std.proofs.Common.{◌≡◌, ℕ, ◌+◌, List, [], ◌∷◌, ◌++◌, length, Option, sym, ap, subst, ◌∙◌, length-append}
use Rattle.std.specs.List.{AllZip}
use Rattle.rec_data.specs.declared.owned.Rec.{Rec}
use Rattle.mcap_model.specs.declared.options.FileOptions.{FileOptions}
use Rattle.mcap_model.specs.Blocks.{Piece, block, cuts, pieces_of, pieces_bytes}
use Rattle.mcap_model.specs.File.{front, blocks_from}
use Rattle.mcap_model.specs.Histories.{written_of}
use Rattle.mcap_model.proofs.OneMore.{zip_push}
use Rattle.mcap_model.proofs.ShownMessages.{zip_joined}
use Rattle.live_entry.specs.declared.entry.Entry.{Entry}
use Rattle.live_entry.specs.Entries.{SeenExtents, HasBlockExtent}
use Rattle.chunk_writer.specs.Scribes.{sure_blocks}
use Rattle.chunk_writer.proofs.Noting.{blocks_append}
use Rattle.recorder.specs.Entries.{IsEntryThere, seen_at, EntriesAreGathered}

there : {X : Type 0} (seen : SeenExtents X) (b : ℕ × List Rec) (e : Entry X) → HasBlockExtent seen e b.0 b.1 → IsEntryThere seen.tells b e
there seen b e is = record { numbers = is.numbers; only = (let told = is.told in told.only) }

all_there : {X : Type 0} (seen : SeenExtents X) (blocks : List (ℕ × List Rec)) (entries : List (Entry X)) → AllZip (λ (b : ℕ × List Rec) (e : Entry X). HasBlockExtent seen e b.0 b.1) blocks entries → AllZip (IsEntryThere seen.tells) blocks entries
all_there seen [] [] zip = tt
all_there seen [] (e ∷ es) zip = absurd zip
all_there seen (b ∷ bs) [] zip = absurd zip
all_there seen (b ∷ bs) (e ∷ es) zip = (there seen b e zip.0, all_there seen bs es zip.1)

-- the last block stands behind those that are sure
last_there : (options : FileOptions) (history waiting : List Rec) → pieces_of options.chunk options.span history ≡ (cuts options.chunk options.span history).pieces ++ block waiting ∷ []
    → blocks_from (length (front options.profile)) (pieces_of options.chunk options.span history) ≡ sure_blocks options history ++ (length (written_of options history), waiting) ∷ []
last_there options history waiting is =
    let start = length (front options.profile) in
    let sure = (cuts options.chunk options.span history).pieces in
    ap (blocks_from start) is
    ∙ blocks_append start sure (block waiting ∷ [])
    ∙ ap (λ (n : ℕ). sure_blocks options history ++ (n, waiting) ∷ []) (sym (length-append (front options.profile) (pieces_bytes sure)))

pub entries_gathered : {X : Type 0} (tells : X → Option (List ℕ)) (size : X → ℕ) → EntriesAreGathered tells size
entries_gathered {X} tells size = record {
  none = λ options. tt;
  more = λ options history records held entries given before gives.
      subst (λ (blocks : List (ℕ × List Rec)). AllZip (IsEntryThere tells) blocks (entries ++ given)) (sym gives.sure)
      (zip_joined (IsEntryThere tells) (sure_blocks options history) gives.closed entries given before (all_there (seen_at tells size held) gives.closed given gives.each));
  last = λ options history held entries given before gives.
      let waiting = (cuts options.chunk options.span history).waiting in
      let offset = length (written_of options history) in
      subst (λ (blocks : List (ℕ × List Rec)). AllZip (IsEntryThere tells) blocks (entries ++ given ∷ [])) (sym (last_there options history waiting (ap (λ (l : List Piece). (cuts options.chunk options.span history).pieces ++ l) gives.0)))
      (zip_push (IsEntryThere tells) (sure_blocks options history) entries (offset, waiting) given before (there (seen_at tells size held) (offset, waiting) given gives.1));
}
