-- Noting in a log how an object was taken back.
use Rattle.std.proofs.Common.{◌≡◌, ℕ, List, [], ◌∷◌, ◌++◌, map, get_or, set, length, Option, Some, None, Result, Ok, Err, ap, ap₂, ◌∙◌, refl, subst, inl, rules}
use Rattle.std.specs.Prelude.{is_ok, IsSome}
use Rattle.std.specs.Option.{option_map}
use Rattle.std.proofs.lemmas.Option.{same_Some}
use Rattle.std.proofs.lemmas.List.{map-append, get_or_at, set_at}
use Rattle.mcap_io.specs.declared.outside.Failed.{Failed}
use Rattle.mcap_io.specs.declared.outside.ObjectKind.{ObjectKind}
use Rattle.mcap_io.specs.declared.outside.ObjectKind.TheVariants as kinds
use Rattle.io_memory.specs.declared.openings.Kept.{Kept}
use Rattle.io_memory.specs.declared.openings.Opened.{Opened}
use Rattle.mcap_io.specs.Outside.{Names, Told, Opening, SourceState, WorldState}
use Rattle.mcap_io.specs.OutsideCalls.{IsOut, NoneIsOut, Notes, KeepsName, KeepsSource, KeepsWritten, went_well, with_opening}
use Rattle.io_memory.specs.Standing.{shown, shown_keeping}
use Rattle.mcap_io.specs.Stores.{StoreState}
use Rattle.mcap_io.specs.StoreAnswers.{KeepsStore}

-- the entry, with the keeping
abbrev kept_entry : Opened → Kept → Opened
kept_entry entry kept = record { kind = entry.kind; name = entry.name; given = entry.given; kept = Some kept }

pub noted_there : (log before behind : List Opened) (entry there : Opened) (kind : ObjectKind) (name : List ℕ) (at : ℕ) (kept : Kept) → there ≡ get_or log at there → log ≡ before ++ entry ∷ behind → length before ≡ at → IsOut kind name (shown entry) → NoneIsOut kind name (map shown behind)
    → Notes (map shown log) (map shown (set log at (kept_entry there kept))) kind name (shown_keeping kept)
noted_there log before behind entry there kind name at kept stands is place out none =
    let same : there ≡ entry = stands ∙ ap (λ l. get_or l at there) is ∙ get_or_at before entry behind there at place in
    let changed : set log at (kept_entry there kept) ≡ before ++ kept_entry entry kept ∷ behind =
    ap (λ e. set log at (kept_entry e kept)) same ∙ ap (λ l. set l at (kept_entry entry kept)) is ∙ set_at before entry behind (kept_entry entry kept) at place in
    inl (
      map shown before,
      map shown behind,
      shown entry,
      record { there = ap (map shown) is ∙ map-append shown before (entry ∷ behind); out = out; newest = none },
      ap (map shown) changed ∙ map-append shown before (kept_entry entry kept ∷ behind),
    )

-- a world with these names and this log; what a keeping says doesn't look at the counts
abbrev telling : Names → List Opening → WorldState
telling names log = record { told = Some (record { names = names; log = log }); faults = 0; input_faults = 0; output_faults = 0; watch_faults = 0 }

-- whether a keeping went well
well_is : (result : Result Unit Failed) → is_ok result ≡ went_well result
well_is (Ok it) = refl
well_is (Err why) = refl

pub keeps-source : (names names' : Names) (log log' : List Opening) (name : List ℕ) (it : SourceState) (result : Result Unit Failed) → names' ≡ names
    → Notes log log' kinds.Source name (record { well = is_ok result; faults = it.faults; left = it.left; asked = 0 }) → KeepsSource (telling names log) (telling names' log') name it result
keeps-source names names' log log' name it result same notes told told_is =
    let was : Told = record { names = names; log = log } in
    let is : was ≡ told = cc in
    let noted = subst (λ b. Notes log log' kinds.Source name (record { well = b; faults = it.faults; left = it.left; asked = 0 })) (well_is result) notes in (
      record { names = names'; log = log' },
      refl,
      same ∙ ap (λ t. t.names) is,
      subst (λ t. Notes t.log log' kinds.Source name (record { well = went_well result; faults = it.faults; left = it.left; asked = 0 })) is noted,
    )

pub keeps-store : (names names' : Names) (log log' : List Opening) (name : List ℕ) (it : StoreState) (result : Result Unit Failed) → names' ≡ names
    → Notes log log' kinds.Store name (record { well = is_ok result; faults = it.faults; left = None; asked = it.asked }) → KeepsStore (telling names log) (telling names' log') name it result
keeps-store names names' log log' name it result same notes told told_is =
    let was : Told = record { names = names; log = log } in
    let is : was ≡ told = cc in
    let noted = subst (λ b. Notes log log' kinds.Store name (record { well = b; faults = it.faults; left = None; asked = it.asked })) (well_is result) notes in (
      record { names = names'; log = log' },
      refl,
      same ∙ ap (λ t. t.names) is,
      subst (λ t. Notes t.log log' kinds.Store name (record { well = went_well result; faults = it.faults; left = None; asked = it.asked })) is noted,
    )

pub keeps-written : (kind : ObjectKind) (names names' : Names) (log log' : List Opening) (name : List ℕ) (bytes : Option (List ℕ)) (faults : ℕ) (result : Result Unit Failed) → KeepsName names names' name bytes result
    → Notes log log' kind name (record { well = is_ok result; faults = faults; left = None; asked = 0 }) → KeepsWritten kind (telling names log) (telling names' log') name bytes faults result
keeps-written kind names names' log log' name bytes faults result keeps notes told told_is =
    let was : Told = record { names = names; log = log } in
    let is : was ≡ told = cc in
    let noted = subst (λ b. Notes log log' kind name (record { well = b; faults = faults; left = None; asked = 0 })) (well_is result) notes in (
      record { names = names'; log = log' },
      refl,
      subst (λ t. KeepsName t.names names' name bytes result) is keeps,
      subst (λ t. Notes t.log log' kind name (record { well = went_well result; faults = faults; left = None; asked = 0 })) is noted,
    )

-- ---- openings

abbrev told_of : Names → List Opening → Told
told_of names log = record { names = names; log = log }

-- one opening more is listed, and the names stand
pub lists_one : (names names' : Names) (log before after : List Opened) (entry : Opened) (line : Opening) → names' ≡ names → before ≡ log → after ≡ before ++ entry ∷ [] → shown entry ≡ line
    → Some (told_of names' (map shown after)) ≡ Some (with_opening (told_of names (map shown log)) line)
lists_one names names' log before after entry line same still more is =
    ap₂ (λ (n : Names) (l : List Opening). Some (told_of n l)) same
    (ap (map shown) more ∙ map-append shown before (entry ∷ []) ∙ ap₂ (λ (l : List Opened) (e : Opening). map shown l ++ e ∷ []) still is)

tells_there : (bytes : List ℕ) (stands : Option (List ℕ)) → Some (Some bytes) ≡ option_map Some stands → (Some bytes ≡ stands) × IsSome stands
tells_there bytes None is = absurd (cc is)
tells_there bytes (Some there) is = (let same : bytes ≡ there = cc is in ap Some same, search rules)

-- a copy of what stands under a name tells just that
pub tells_name : (names : Names) (log : List Opening) (name bytes : List ℕ) (told : Told) → Some (told_of names log) ≡ Some told → Some (Some bytes) ≡ option_map Some (names name) → (Some bytes ≡ told.names name) × IsSome (told.names name)
tells_name names log name bytes told is there = subst (λ (t : Told). (Some bytes ≡ t.names name) × IsSome (t.names name)) (same_Some (told_of names log) told is) (tells_there bytes (names name) there)
