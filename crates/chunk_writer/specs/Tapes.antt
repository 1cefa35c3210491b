-- What a tape took and may take, why it stops, and a scribe as a tape.
use Rattle.std.specs.Prelude.{◌≡◌, ℕ, ◌≤◌, List, [], ◌∷◌, ◌++◌, length, All, Option, Some, None, Result, Ok, Err}
use Rattle.std.specs.List.{AllZip}
use Rattle.std.proofs.Common.{refl, sym, ap, subst, ◌∙◌, append-nil, append_assoc}
use Rattle.rec_data.specs.declared.owned.Rec.{Rec}
use Rattle.mcap_io.specs.Outside.{LiveState, Rose}
use Rattle.mcap_model.specs.declared.options.FileOptions.{FileOptions}
use Rattle.mcap_model.specs.declared.ends.Stop.{Stop}
use Rattle.mcap_model.specs.declared.ends.Stop.TheVariants as stops
use Rattle.mcap_model.specs.Tops.{Top}
use Rattle.mcap_model.specs.History.{Numbered}
use Rattle.mcap_model.specs.Histories.{written_of}
use Rattle.mcap_model.proofs.ShownMessages.{zip_joined}
use Rattle.record_cache.specs.KeptRecords.{IsKept}
use Rattle.live_entry.specs.declared.entry.Entry.{Entry}
use Rattle.live_entry.specs.Entries.{SeenExtents, HasBlockExtent, seen_before}
use Rattle.chunk_writer.specs.declared.phase.Phase.{Phase}
use Rattle.chunk_writer.specs.declared.phase.Phase.TheVariants as phases
use Rattle.chunk_writer.specs.declared.scribe.Scribe.{Scribe}
use Rattle.chunk_writer.specs.declared.tape.Written.{Written}
use Rattle.chunk_writer.specs.Limits.{Holds}
use Rattle.chunk_writer.specs.Stops.{numbers, StopsAt, StopCause, Cause}
use Rattle.chunk_writer.specs.Scribes.{WritesHistory, ScribeGrows, EndsFile, OfEach, KeepsOn, GivesEntries, GivesLast, CountsLast, store_of, phase_of, blocks_of, planned_bytes, sure_blocks, grows_none, grows_on}

-- ---- what a tape took

-- Since it was new a tape took these records, which are numbered, and of which a buffer may keep each. What is seen of a tape is
-- handed in.
pub record HasTaken {T X : Type 0} (is_new : T → Type 0) (grows : T → T → List Rec → List (Entry X) → Type 0) (now : T)
    (taken : List Rec) : Type 0 where
  pub first : T
  pub entries : List (Entry X)
  pub begun : is_new first
  pub grown : grows first now taken entries
  pub numbered : Numbered taken
  pub kept : All IsKept taken

-- it may take these records behind those: with them all are numbered
pub record MayTake {T X : Type 0} (is_new : T → Type 0) (grows : T → T → List Rec → List (Entry X) → Type 0) (now : T)
    (records : List Rec) : Type 0 where
  pub taken : List Rec
  pub has : HasTaken is_new grows now taken
  pub numbered : Numbered (taken ++ records)
  pub kept : All IsKept records

-- ---- why a tape stops

-- At a fault its count of failures rose in the call, and the fault carries a count of one at least and of that at most; else the
-- count stands still, and at a limit its own limit is met.
abbrev pub StopsFor : ℕ → ℕ → (ℕ → ℕ → Type 0) → Stop → Type 0
StopsFor before now limit_met (stops.Fault faults) = Rose before now × (1 ≤ faults) × (faults ≤ now)
StopsFor before now limit_met (stops.Limit blocks bytes) = limit_met blocks bytes × (now ≡ before)
StopsFor before now limit_met stops.Memory = now ≡ before

abbrev pub EndsFor : {X : Type 0} → ℕ → ℕ → (ℕ → ℕ → Type 0) → Result X Stop → Type 0
EndsFor before now limit_met (Ok it) = now ≡ before
EndsFor before now limit_met (Err stop) = StopsFor before now limit_met stop

-- ---- a scribe as a tape

-- While a scribe goes on its store's count stands still; where it stopped, the count has the cause.
abbrev pub KeepsCause : Phase → ℕ → ℕ → Type 0
KeepsCause phases.Going before now = now ≡ before
KeepsCause (phases.Stopped stop) before now = StopCause before now stop
KeepsCause phases.Ended before now = ⊥

-- what is left of some records: nothing while a scribe goes on; where it stopped, the record at which it did so, and those behind
abbrev pub IsLeft : Phase → List Rec → Type 0
IsLeft phases.Going behind = behind ≡ []
IsLeft (phases.Stopped stop) behind = (next : Rec) × (rest : List Rec) × (behind ≡ next ∷ rest)
IsLeft phases.Ended behind = ⊥

-- Some first records were put behind a history. The entries are those of the blocks that these made sure, and so many bytes
-- are those of the pieces that are sure with them.
pub record PutsFirst {X : Type 0} (seen : SeenExtents X) (options : FileOptions) (history records : List Rec)
    (entries : List (Entry X)) (bytes : ℕ) (phase : Phase) : Type 0 where
  pub first : List Rec
  pub behind : List Rec
  pub cut : records ≡ first ++ behind
  pub entries_are : GivesEntries seen options history first entries
  pub bytes_are : bytes ≡ length (written_of options (history ++ first))
  pub left : IsLeft phase behind

-- What is seen of a store, and of its extents: their bytes where they tell them, and their size.
pub record SeenStore (L X : Type 0) : Type 0 where
  pub state : L → LiveState
  pub tells : X → Option (List ℕ)
  pub size : X → ℕ

abbrev pub seen_store : {L X : Type 0} → (L → LiveState) → (X → Option (List ℕ)) → (X → ℕ) → SeenStore L X
seen_store state tells size = record { state = state; tells = tells; size = size }

-- of its extents, and of what it held before they were
abbrev pub seen_behind : {L X : Type 0} → SeenStore L X → L → SeenExtents X
seen_behind seen store = seen_before seen.tells seen.size (seen.state store)

-- The second scribe is the first, later: it took these records and gave these entries, over one call or several.
pub record TakesOn {L X : Type 0} (seen : SeenStore L X) (before after : Scribe L) (records : List Rec)
    (entries : List (Entry X)) : Type 0 where
  pub grown : ScribeGrows seen.state before after records
  pub front : phase_of before ≡ phases.Going
      → OfEach seen.state before (λ options history. PutsFirst (seen_behind seen (store_of before)) options history
      records entries (planned_bytes after) (phase_of after))
  pub keeps : KeepsOn (seen.state (store_of before)).held (seen.state (store_of after)).held
  -- where nothing waited in its store nothing waits, while it goes on
  pub through : OfEach seen.state before (λ options history. phase_of after ≡ phases.Going
      → (seen.state (store_of before)).waiting ≡ 0 → (seen.state (store_of after)).waiting ≡ 0)
  pub cause : phase_of before ≡ phases.Going
      → KeepsCause (phase_of after) (seen.state (store_of before)).faults (seen.state (store_of after)).faults
  pub kept : (stop : Stop) → phase_of before ≡ phases.Stopped stop → (after ≡ before) × (entries ≡ [])

-- The second scribe is the first with its end, which came to this with so many blocks and bytes, and with that last entry.
pub record EndsOn {L X : Type 0} (seen : SeenStore L X) (before after : Scribe L) (last : Option (Entry X))
    (written : Written) (end : Result Unit Stop) : Type 0 where
  pub file : EndsFile seen.state before after written end
  pub last_is : OfEach seen.state before (λ options history. GivesLast (seen_behind seen (store_of before)) options
      history last)
  pub counted : CountsLast (blocks_of before) written.blocks last
  pub within : Holds written.blocks written.bytes
  pub cause : phase_of before ≡ phases.Going
      → Cause (seen.state (store_of before)).faults (seen.state (store_of after)).faults end
  pub kept : (stop : Stop) → phase_of before ≡ phases.Stopped stop → (end ≡ Err stop) × (last ≡ None) × (after ≡ before)

-- A scribe stopped at the limit of a file: at so many blocks and bytes, behind which the next piece of each file for which it
-- stands would pass what a file may hold. Of a limit that was met at the end of a file `EndsFile` says so.
pub record MeetsLimit {L : Type 0} (state : L → LiveState) (scribe : Scribe L) (blocks bytes : ℕ) : Type 0 where
  pub stopped : phase_of scribe ≡ phases.Stopped (stops.Limit blocks bytes)
  pub at : (options : FileOptions) (extras : List Top) (opened : LiveState) (history : List Rec)
      → WritesHistory state options extras opened history scribe
      → StopsAt options extras history opened.held (state (store_of scribe)).held (stops.Limit blocks bytes)
      (numbers (blocks_of scribe) (planned_bytes scribe))

-- ---- entries in a row

pub no_entries : {X : Type 0} (seen : SeenExtents X) (options : FileOptions) (history : List Rec)
    → GivesEntries seen options history [] []
no_entries seen options history = record {
  closed = [];
  sure = ap (sure_blocks options) (append-nil history) ∙ sym (append-nil (sure_blocks options history));
  each = tt;
}

module _ {X : Type 0} (tells : X → Option (List ℕ)) (size : X → ℕ) (old mid : LiveState)
    (keeps : KeepsOn old.held mid.held) where
  entries_before : (blocks : List (ℕ × List Rec)) (entries : List (Entry X))
      → AllZip (λ (b : ℕ × List Rec) (e : Entry X). HasBlockExtent (seen_before tells size mid) e b.0 b.1) blocks
      entries
      → AllZip (λ (b : ℕ × List Rec) (e : Entry X). HasBlockExtent (seen_before tells size old) e b.0 b.1) blocks
      entries
  entries_before [] [] zip = tt
  entries_before [] (e ∷ es) zip = absurd zip
  entries_before (b ∷ bs) [] zip = absurd zip
  entries_before (b ∷ bs) (e ∷ es) zip = (
    record {
      numbers = zip.0.numbers;
      long = zip.0.long;
      told = let all = zip.0.told in record {
        there = λ before holds. all.there (before ++ (keeps before holds).0) (keeps before holds).1;
        only = all.only;
      };
    },
    entries_before bs es zip.1,
  )

  entries_joined : (options : FileOptions) (history records first : List Rec) (one other : List (Entry X))
      → GivesEntries (seen_before tells size old) options history records one
      → GivesEntries (seen_before tells size mid) options (history ++ records) first other
      → GivesEntries (seen_before tells size old) options history (records ++ first) (one ++ other)
  entries_joined options history records first one other before behind = record {
    closed = before.closed ++ behind.closed;
    sure = ap (sure_blocks options) (sym (append_assoc history records first)) ∙ behind.sure
        ∙ ap (λ (l : List (ℕ × List Rec)). l ++ behind.closed) before.sure
        ∙ append_assoc (sure_blocks options history) before.closed behind.closed;
    each =
        zip_joined (λ (b : ℕ × List Rec) (e : Entry X). HasBlockExtent (seen_before tells size old) e b.0 b.1)
        before.closed behind.closed one other before.each
        (entries_before behind.closed other behind.each);
  }

-- ---- one call behind another

pub takes_none : {L X : Type 0} (seen : SeenStore L X) (scribe : Scribe L) → TakesOn seen scribe scribe [] []
takes_none seen scribe = record {
  grown = grows_none seen.state scribe;
  front = λ going options extras opened history writes. record {
    first = [];
    behind = [];
    cut = refl;
    entries_are = no_entries (seen_behind seen (store_of scribe)) options history;
    bytes_are = (writes.0.going going).0.bytes
        ∙ ap (λ (l : List Rec). length (written_of options l)) (sym (append-nil history));
    left = subst (λ (p : Phase). IsLeft p []) (sym going) refl;
  };
  keeps = λ held is. ([], is ∙ ap (λ (l : List ℕ). Some l) (sym (append-nil held)));
  through = λ options extras opened history writes going zero. zero;
  cause = λ going. subst
      (λ (p : Phase). KeepsCause p (seen.state (store_of scribe)).faults (seen.state (store_of scribe)).faults)
      (sym going) refl;
  kept = λ stop is. (refl, refl);
}

module _ {L X : Type 0} (seen : SeenStore L X) (one two three : Scribe L) (a b : List Rec) (es fs : List (Entry X))
    (first : TakesOn seen one two a es) (second : TakesOn seen two three b fs) where
  cause_on : (p : Phase) → phase_of two ≡ p
      → KeepsCause p (seen.state (store_of one)).faults (seen.state (store_of two)).faults
      → KeepsCause (phase_of three) (seen.state (store_of one)).faults (seen.state (store_of three)).faults
  cause_on phases.Going is before =
      subst (λ (n : ℕ). KeepsCause (phase_of three) n (seen.state (store_of three)).faults) before (second.cause is)
  cause_on (phases.Stopped stop) is before =
      subst
      (λ (s : Scribe L). KeepsCause (phase_of s) (seen.state (store_of one)).faults (seen.state (store_of s)).faults)
      (sym (second.kept stop is).0)
      (subst (λ (q : Phase). KeepsCause q (seen.state (store_of one)).faults (seen.state (store_of two)).faults) (sym is) before)
  cause_on phases.Ended is before = absurd before

  front_on : (options : FileOptions) (extras : List Top) (opened : LiveState) (history : List Rec) (p : Phase)
      → phase_of two ≡ p → WritesHistory seen.state options extras opened (history ++ a) two
      → (it : PutsFirst (seen_behind seen (store_of one)) options history a es (planned_bytes two) (phase_of two))
      → IsLeft p it.behind
      → PutsFirst (seen_behind seen (store_of one)) options history (a ++ b) (es ++ fs) (planned_bytes three)
      (phase_of three)
  front_on options extras opened history phases.Going is writes it left =
      let whole : a ≡ it.first = it.cut ∙ ap (λ (l : List Rec). it.first ++ l) left ∙ append-nil it.first in
      let more = second.front is options extras opened (history ++ a) writes in
      record {
        first = a ++ more.first;
        behind = more.behind;
        cut = ap (λ (l : List Rec). a ++ l) more.cut ∙ sym (append_assoc a more.first more.behind);
        entries_are =
            entries_joined seen.tells seen.size (seen.state (store_of one)) (seen.state (store_of two)) first.keeps
            options history a more.first es fs
            (subst (λ (l : List Rec). GivesEntries (seen_behind seen (store_of one)) options history l es) (sym whole) it.entries_are)
            more.entries_are;
        bytes_are =
            more.bytes_are ∙ ap (λ (l : List Rec). length (written_of options l)) (append_assoc history a more.first);
        left = more.left;
      }
  front_on options extras opened history (phases.Stopped stop) is writes it left =
      let (same, none) = second.kept stop is in
      record {
        first = it.first;
        behind = it.behind ++ b;
        cut = ap (λ (l : List Rec). l ++ b) it.cut ∙ append_assoc it.first it.behind b;
        entries_are =
            subst (λ (l : List (Entry X)). GivesEntries (seen_behind seen (store_of one)) options history it.first l)
            (sym (ap (λ (l : List (Entry X)). es ++ l) none ∙ append-nil es)) it.entries_are;
        bytes_are = ap (λ (s : Scribe L). planned_bytes s) same ∙ it.bytes_are;
        left =
            subst (λ (q : Phase). IsLeft q (it.behind ++ b)) (sym (ap (λ (s : Scribe L). phase_of s) same ∙ is))
            (left.0, left.1 ++ b, ap (λ (l : List Rec). l ++ b) left.2);
      }
  front_on options extras opened history phases.Ended is writes it left = absurd left

  through_on : (options : FileOptions) (extras : List Top) (opened : LiveState) (history : List Rec) (p : Phase)
      → phase_of two ≡ p → WritesHistory seen.state options extras opened (history ++ a) two
      → (phase_of two ≡ phases.Going → (seen.state (store_of two)).waiting ≡ 0) → phase_of three ≡ phases.Going
      → (seen.state (store_of three)).waiting ≡ 0
  through_on options extras opened history phases.Going is writes zero going =
      second.through options extras opened (history ++ a) writes going (zero is)
  through_on options extras opened history (phases.Stopped stop) is writes zero going =
      let same = (second.kept stop is).0 in
      ap (λ (s : Scribe L). (seen.state (store_of s)).waiting) same
      ∙ zero (ap (λ (s : Scribe L). phase_of s) (sym same) ∙ going)
  through_on options extras opened history phases.Ended is writes zero going = absurd (writes.0.unended is)

  pub takes_on : TakesOn seen one three (a ++ b) (es ++ fs)
  takes_on = record {
    grown = grows_on seen.state one two three a b first.grown second.grown;
    front = λ going options extras opened history writes.
        let it = first.front going options extras opened history writes in
        front_on options extras opened history (phase_of two) refl (first.grown options extras opened history writes) it
        it.left;
    keeps = λ held is.
        let (more, now) = first.keeps held is in
        let (other, last) = second.keeps (held ++ more) now in
        (more ++ other, last ∙ ap (λ (l : List ℕ). Some l) (append_assoc held more other));
    through = λ options extras opened history writes going zero.
        through_on options extras opened history (phase_of two) refl (first.grown options extras opened history writes)
        (λ middle. first.through options extras opened history writes middle zero) going;
    cause = λ going. cause_on (phase_of two) refl (first.cause going);
    kept = λ stop is.
        let (same, none) = first.kept stop is in
        let (later, nothing) = second.kept stop (ap (λ (s : Scribe L). phase_of s) same ∙ is) in
        (later ∙ same, ap (λ (l : List (Entry X)). l ++ fs) none ∙ nothing);
  }
