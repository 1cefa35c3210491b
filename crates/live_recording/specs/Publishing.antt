-- What a tape that publishes its blocks did.
use Rattle.std.specs.Prelude.{◌≡◌, ◌⊎◌, ℕ, ◌+◌, ◌≤◌, List, [], ◌∷◌, ◌++◌, length, Bool, true, false, Option, Some, None, Result}
use Rattle.std.proofs.Common.{refl, sym, ap, ◌∙◌, inl, inr, append-nil, append_assoc, length-append}
use Rattle.std.proofs.Math.Nat.{add-zero, add_assoc}
use Rattle.std.proofs.lemmas.Bool.{false≢true}
use Rattle.mcap_wire.specs.Limits.{chunk_size_limit}
use Rattle.rec_data.specs.declared.owned.Rec.{Rec}
use Rattle.mcap_io.specs.Outside.{LiveState}
use Rattle.mcap_model.specs.declared.options.FileOptions.{FileOptions}
use Rattle.mcap_model.specs.declared.ends.End.{End}
use Rattle.mcap_model.specs.declared.ends.Stop.{Stop}
use Rattle.live_entry.specs.declared.entry.Entry.{Entry}
use Rattle.live_directory.specs.declared.front.Added.{Added}
use Rattle.live_directory.specs.Published.{entries_of, end_of, at_most_one}
use Rattle.live_directory.specs.Writing.{DirectoryState, Seals, StaysUnsealed, empty_directory}
use Rattle.chunk_writer.specs.declared.phase.Phase.TheVariants as phases
use Rattle.chunk_writer.specs.declared.scribe.Scribe.{Scribe}
use Rattle.chunk_writer.specs.declared.tape.Written.{Written}
use Rattle.chunk_writer.specs.Limits.{Holds}
use Rattle.chunk_writer.specs.Scribes.{WritesHistory, phase_of, blocks_of, planned_bytes}
use Rattle.chunk_writer.specs.Tapes.{SeenStore, TakesOn, EndsOn, takes_none, takes_on}

-- ---- what was published

-- A directory as the tape that publishes into it has it: whether memory lacked in publishing, and whether entries were given
-- behind that, which the directory doesn't have.
pub record Board (X : Type 0) : Type 0 where
  pub directory : DirectoryState X
  pub short : Bool
  pub lost : Bool

abbrev pub empty_board : {X : Type 0} → Board X
empty_board = record { directory = empty_directory; short = false; lost = false }

-- all entries of a directory, behind those that readers find those that are pending
abbrev pub entries_held : {X : Type 0} → DirectoryState X → List (Entry X)
entries_held d = entries_of d.shown ++ d.pending

-- the tape knows whether memory lacked: where it did entries are pending for that, and else readers find all that were given
pub record KnowsLack {X : Type 0} (b : Board X) : Type 0 where
  pub short : b.short ≡ b.directory.short
  pub all : b.short ≡ false → (b.lost ≡ false) × (b.directory.pending ≡ [])
  pub some : b.short ≡ true → b.directory.pending ≡ [] → ⊥

-- These entries were given, and stand behind the earlier ones, each once and in their order: all of them, unless some were
-- lost, and those are the last. Entries are lost only behind others that are pending, since memory lacked for these.
pub record GivesTo {X : Type 0} (before now : Board X) (given : List (Entry X)) : Type 0 where
  pub missing : List (Entry X)
  pub held : entries_held now.directory ++ missing ≡ entries_held before.directory ++ given
  pub whole : now.lost ≡ false → missing ≡ []
  pub lost_so : now.lost ≡ true → (before.lost ≡ true) ⊎ ((missing ≡ [] → ⊥) × (now.directory.pending ≡ [] → ⊥))
  pub stays : before.lost ≡ true → (now.directory ≡ before.directory) × (now.lost ≡ true)
  pub unsealed : end_of before.directory.shown ≡ None → end_of now.directory.shown ≡ None
  pub known : KnowsLack before → KnowsLack now

pub gives_none : {X : Type 0} (b : Board X) → GivesTo b b []
gives_none b = record {
  missing = [];
  held = refl;
  whole = λ is. refl;
  lost_so = λ is. inl is;
  stays = λ is. (refl, is);
  unsealed = λ is. is;
  known = λ is. is;
}

none_joined : {A : Type 0} (xs ys : List A) → xs ++ ys ≡ [] → xs ≡ []
none_joined [] ys is = refl
none_joined (x ∷ xs) ys is = absurd (cc is)

module _ {X : Type 0} (one two three : Board X) (a b : List (Entry X)) (first : GivesTo one two a)
    (second : GivesTo two three b) where
  -- where none were lost in the first call, they were in the second
  lost_behind : (two.lost ≡ false) → (two.lost ≡ true)
      ⊎ ((second.missing ≡ [] → ⊥) × (three.directory.pending ≡ [] → ⊥))
      → (one.lost ≡ true) ⊎ ((second.missing ≡ [] → ⊥) × (three.directory.pending ≡ [] → ⊥))
  lost_behind is (inl lost) = absurd (false≢true (sym is ∙ lost))
  lost_behind is (inr so) = inr so

  -- those that were lost in the first are missing, whatever else is
  lost_before : three.directory ≡ two.directory → (one.lost ≡ true)
      ⊎ ((first.missing ≡ [] → ⊥) × (two.directory.pending ≡ [] → ⊥))
      → (one.lost ≡ true) ⊎ ((first.missing ++ b ≡ [] → ⊥) × (three.directory.pending ≡ [] → ⊥))
  lost_before same (inl lost) = inl lost
  lost_before same (inr so) = inr (
    λ none. so.0 (none_joined first.missing b none),
    λ none. so.1 (ap (λ (d : DirectoryState X). d.pending) (sym same) ∙ none),
  )

  gives_both : (lost : Bool) → two.lost ≡ lost
      → (missing : List (Entry X)) × (entries_held three.directory ++ missing ≡ entries_held one.directory ++ (a ++ b))
      × (three.lost ≡ false → missing ≡ [])
      × (three.lost ≡ true → (one.lost ≡ true) ⊎ ((missing ≡ [] → ⊥) × (three.directory.pending ≡ [] → ⊥)))
  gives_both false is =
      let all : entries_held two.directory
      ≡ entries_held one.directory ++ a = sym (append-nil (entries_held two.directory))
      ∙ ap (λ (l : List (Entry X)). entries_held two.directory ++ l) (sym (first.whole is)) ∙ first.held in (
        second.missing,
        second.held ∙ ap (λ (l : List (Entry X)). l ++ b) all ∙ append_assoc (entries_held one.directory) a b,
        second.whole,
        λ lost. lost_behind is (second.lost_so lost),
      )
  gives_both true is =
      let (same, lost) = second.stays is in (
        first.missing ++ b,
        ap (λ (d : DirectoryState X). entries_held d ++ (first.missing ++ b)) same
            ∙ sym (append_assoc (entries_held two.directory) first.missing b)
            ∙ ap (λ (l : List (Entry X)). l ++ b) first.held ∙ append_assoc (entries_held one.directory) a b,
        λ whole. absurd (false≢true (sym whole ∙ lost)),
        λ still. lost_before same (first.lost_so is),
      )

  pub gives_on : GivesTo one three (a ++ b)
  gives_on =
      let (missing, held, whole, lost_so) = gives_both two.lost refl in
      record {
        missing = missing;
        held = held;
        whole = whole;
        lost_so = lost_so;
        stays = λ is.
            let (same, lost) = first.stays is in
            let (later, still) = second.stays lost in
            (later ∙ same, still);
        unsealed = λ is. second.unsealed (first.unsealed is);
        known = λ is. second.known (first.known is);
      }

-- What a try to seal a directory with that end did, and the note of it: it was sealed; or memory lacked, and the note is all that
-- readers find.
abbrev pub TriesSeal : {X : Type 0} → DirectoryState X → DirectoryState X → End → List (Added X) → Type 0
TriesSeal before now end note = Seals before now end note ⊎ ((note ≡ before.shown) × StaysUnsealed before now)

-- The same of a tape: only where entries were lost it wasn't tried.
abbrev pub SealsBoard : {X : Type 0} → Board X → DirectoryState X → End → List (Added X) → Type 0
SealsBoard before now end note = ((before.lost ≡ false) × TriesSeal before.directory now end note)
    ⊎ ((before.lost ≡ true) × (note ≡ before.directory.shown) × (now ≡ before.directory))

-- ---- a tape that publishes

-- there are chunks, and each is closed at 64 MiB or sooner
abbrev pub IsChunked : Option ℕ → Type 0
IsChunked chunk = (size : ℕ) × (chunk ≡ Some size) × (1 ≤ size) × (size ≤ chunk_size_limit)

-- A scribe and the directory into which its entries are published.
pub record Publishing (L X : Type 0) : Type 0 where
  pub scribe : Scribe L
  pub board : Board X

abbrev pub publishing : {L X : Type 0} → Scribe L → DirectoryState X → Bool → Bool → Publishing L X
publishing scribe directory short lost =
    record { scribe = scribe; board = record { directory = directory; short = short; lost = lost } }

-- A scribe that has taken nothing yet, of a file in chunks without extras, and a directory without blocks. What is seen of a
-- store is handed in.
pub record IsNewPublishing {L X : Type 0} (state : L → LiveState) (p : Publishing L X) : Type 0 where
  pub options : FileOptions
  pub size : ℕ
  pub opened : LiveState
  pub writes : WritesHistory state options [] opened [] p.scribe
  pub chunked : options.chunk ≡ Some size
  pub size_is : (1 ≤ size) × (size ≤ chunk_size_limit)
  pub going : phase_of p.scribe ≡ phases.Going
  pub empty : p.board ≡ empty_board

-- The scribe took these records, and its entries were published, so that none are handed to the caller. They are as many as
-- the blocks that it appended, and it stays within what a file may hold.
pub record PublishesOn {L X : Type 0} (seen : SeenStore L X) (before now : Publishing L X) (records : List Rec)
    (entries : List (Entry X)) : Type 0 where
  pub given : List (Entry X)
  pub took : TakesOn seen before.scribe now.scribe records given
  pub published : GivesTo before.board now.board given
  pub counted : blocks_of now.scribe ≡ blocks_of before.scribe + length given
  pub within : Holds (blocks_of before.scribe) (planned_bytes before.scribe)
      → Holds (blocks_of now.scribe) (planned_bytes now.scribe)
  pub none : entries ≡ []

-- The scribe ended its file, and its last entry was published.
pub record PublishesEnd {L X : Type 0} (seen : SeenStore L X) (before now : Publishing L X) (last : Option (Entry X))
    (written : Written) (end : Result Unit Stop) : Type 0 where
  pub given : Option (Entry X)
  pub ended : EndsOn seen before.scribe now.scribe given written end
  pub published : GivesTo before.board now.board (at_most_one given)
  pub none : last ≡ None

pub publishes_none : {L X : Type 0} (seen : SeenStore L X) (p : Publishing L X) → PublishesOn seen p p [] []
publishes_none seen p = record {
  given = [];
  took = takes_none seen p.scribe;
  published = gives_none p.board;
  counted = sym (add-zero (blocks_of p.scribe));
  within = λ holds. holds;
  none = refl;
}

pub publishes_on : {L X : Type 0} (seen : SeenStore L X) (one two three : Publishing L X) (a b : List Rec)
    (es fs : List (Entry X)) → PublishesOn seen one two a es → PublishesOn seen two three b fs
    → PublishesOn seen one three (a ++ b) (es ++ fs)
publishes_on seen one two three a b es fs first second = record {
  given = first.given ++ second.given;
  took = takes_on seen one.scribe two.scribe three.scribe a b first.given second.given first.took second.took;
  published = gives_on one.board two.board three.board first.given second.given first.published second.published;
  counted = second.counted ∙ ap (λ (n : ℕ). n + length second.given) first.counted
      ∙ add_assoc (blocks_of one.scribe) (length first.given) (length second.given)
      ∙ ap (λ (n : ℕ). blocks_of one.scribe + n) (sym (length-append first.given second.given));
  within = λ holds. second.within (first.within holds);
  none = ap (λ (l : List (Entry _)). l ++ fs) first.none ∙ second.none;
}
