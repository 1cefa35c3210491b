-- What openings and keepings do to what a world tells.
use Rattle.std.proofs.Common.{◌≡◌, ℕ, zero, suc, List, [], ◌∷◌, ◌++◌, Option, Some, None, Result, refl, sym, ap, ◌∙◌, arith}
use Rattle.std.specs.Prelude.{IsSome, true, false}
use Rattle.std.specs.Option.{option_map}
use Rattle.std.proofs.lemmas.Bool.{both_ways}
use Rattle.mcap_io.specs.Outside.{Opening, Keeping, Told, opened, Names, SourceState, LiveState, WorldState}
use Rattle.mcap_io.specs.OutsideCalls.{with_opening, went_well, OthersSame, NoneIsOut, Notes}
use Rattle.mcap_io.specs.declared.outside.Failed.{Failed}
use Rattle.mcap_io.specs.declared.outside.ObjectKind.TheVariants as kinds
use Rattle.mcap_io.proofs.Notes.{noted_in}
use Rattle.command_base.specs.Ran.{kept, refused, IsGivenLive, Leaves}

-- where a world told before an opening, it tells of it
pub tells_more : (old new : Option Told) (entry : Opening) (told : Told) → new ≡ option_map (λ (t : Told). with_opening t entry) old → old ≡ Some told → new ≡ Some (with_opening told entry)
tells_more old new entry told is here = is ∙ ap (option_map (λ (t : Told). with_opening t entry)) here

pub same_told : (a b : Told) → Some a ≡ Some b → a ≡ b
same_told a b e = cc

abbrev pub source_keeping : SourceState → Result Unit Failed → Keeping
source_keeping source result = record { well = went_well result; faults = source.faults; left = source.left; asked = 0 }

abbrev pub live_keeping : LiveState → Result Unit Failed → Keeping
live_keeping live result = record { well = went_well result; faults = live.faults; left = None; asked = 0 }

abbrev pub given : List ℕ → Opening
given feed = opened kinds.Source feed true

-- the feed's entry, with entries of no source behind it, is the one in which its keeping is noted
pub source_noted : (feed : List ℕ) (log new behind : List Opening) (keeping : Keeping) → NoneIsOut kinds.Source feed behind → Notes (log ++ given feed ∷ behind) new kinds.Source feed keeping → new ≡ log ++ kept kinds.Source feed keeping ∷ behind
source_noted feed log new behind keeping none notes =
    noted_in (log ++ given feed ∷ behind) new log behind (given feed) kinds.Source feed keeping
    (record { there = refl; out = record { kind_is = refl; name_is = refl; given = refl; out = refl }; newest = none }) notes

pub none_last : (feed : List ℕ) → NoneIsOut kinds.Source feed []
none_last feed k d within = absurd (omega (arith, within))

pub refused_last : (feed out : List ℕ) → NoneIsOut kinds.Source feed (refused kinds.Live out ∷ [])
refused_last feed out zero d within = λ is. let given = is.given in absurd cc
refused_last feed out (suc k) d within = absurd (omega (arith, within))

-- a name that is there isn't missing
pub not_missing : (found : Option (List ℕ)) (A : Type 0) → IsSome found → found ≡ None → A
not_missing None A some none = absurd (both_ways false refl some)
not_missing (Some bytes) A there none = absurd (apart none)
  where
    apart : Some bytes ≡ None → ⊥
    apart e = cc

-- the world goes on telling, and all names hold what they held
abbrev pub SameNames : WorldState → WorldState → List Opening → Type 0
SameNames old new entries = (told : Told) → old.told ≡ Some told → (now : Told) × (new.told ≡ Some now) × (now.log ≡ told.log ++ entries) × (now.names ≡ told.names)

pub leaves_same : (old new : WorldState) (entries : List Opening) → SameNames old new entries → Leaves old new entries
leaves_same old new entries same told here = let s = same told here in (s.0, s.1, s.2, λ name unwritten. ap (λ (n : Names). n name) s.3)

-- so does any one name
pub holds_same : (name : List ℕ) (old new : WorldState) (entries : List Opening) → SameNames old new entries → (told now : Told) → old.told ≡ Some told → new.told ≡ Some now → now.names name ≡ told.names name
holds_same name old new entries same told now here here_now =
    let s = same told here in
    ap (λ (t : Told). t.names name) (same_told now s.0 (sym here_now ∙ s.1)) ∙ ap (λ (n : Names). n name) s.3

-- a name that isn't written is not the output's, which stands behind the feed's
pub others_unwritten : (source : Opening) (out : List ℕ) (keeping : Keeping) (all now : Names) → OthersSame all now out → (name : List ℕ) → (IsGivenLive (source ∷ kept kinds.Live out keeping ∷ []) name → ⊥) → now name ≡ all name
others_unwritten source out keeping all now same name unwritten =
    same name (λ is. unwritten (record { entry = kept kinds.Live out keeping; there = (1, refl); live = refl; given = refl; named = sym is }))
