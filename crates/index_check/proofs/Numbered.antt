-- Chunk Indexes, over what was noted of the chunks.
use Rattle.std.proofs.Common.{◌≡◌, ℕ, suc, false, List, [], ◌∷◌, length, sym, ap, subst, ◌∙◌, refl, inl, inr, arith}
use Rattle.std.specs.Prelude.{◌↔◌, ◌≢◌, IsTrue, Bool}
use Rattle.std.proofs.lemmas.Bool.{both_ways}
use Rattle.mcap_wire.proofs.Contents.{shows_decided}
use Rattle.rec_index.specs.Records.{chunk_kinds, chunk_values, chunk_index_kinds, chunk_index_values}
use Rattle.mcap_model.specs.Places.{At, Has}
use Rattle.mcap_model.specs.Tops.{Top}
use Rattle.mcap_model.specs.Fields.{ChunkFields, IsChunk, IsMessageIndex, ChunkIndexFields, IsChunkIndex}
use Rattle.mcap_model.specs.Whole.{indexes_behind, NamesIndexes, ChunkIndexIsRight}
use Rattle.mcap_model.proofs.Places.{at_within, at_one}
use Rattle.mcap_model.proofs.Logged.{pair_same}
use Rattle.index_check.specs.declared.chunk_indexes.IndexNote.{IndexNote}
use Rattle.index_check.specs.declared.chunk_indexes.ChunkNote.{ChunkNote}
use Rattle.index_check.specs.declared.chunk_indexes.Chunks.{Chunks}
use Rattle.index_check.specs.declared.spots.Spot.{Spot}
use Rattle.index_check.specs.declared.spots.Naming.{Naming}
use Rattle.index_check.specs.declared.spots.Naming.TheVariants as namings
use Rattle.index_check.specs.Spots.{NamesSpot, FitsNamed, NotesOf, NamedBy}
use Rattle.index_check.specs.Chunks.{NamesNoted, IsOfChunk, NotesIndex, NotesIndexes, NotesChunk, ChunksOf, ChunksNamed, IndexesChunk}
use Rattle.index_check.proofs.Spotted.{fits_first, first_fits, name_next, spots_named, note_there}
use Rattle.index_check.proofs.Indexed.{notes_named}
use Rattle.mcap_model.proofs.Once.{message_index_once}

abbrev IsSix : Top → Type 0
IsSix t = t.op ≡ 6

-- the note of a record that was named first
pub first_named : {N : Type 0} (Fits : N → Type 0) (notes : List N) (naming : Naming) (place : ℕ) (note : N) (b : Bool) → naming ≡ namings.First place → At notes place note → IsTrue b ↔ Fits note → IsTrue b ↔ FitsNamed Fits notes naming
first_named {N} Fits notes naming place note b is at fits = subst (λ (n : Naming). IsTrue b ↔ FitsNamed Fits notes n) (sym is) (
  λ e. (note, at, fits.0 e),
  λ first. fits.1 (subst Fits (at_one notes place first.0 note first.1 at) first.2),
)

pub none_named : {N : Type 0} (Fits : N → Type 0) (notes : List N) (naming : Naming) (place : ℕ) → naming ≡ namings.First place → ((note : N) → At notes place note → ⊥) → IsTrue false ↔ FitsNamed Fits notes naming
none_named {N} Fits notes naming place is none = subst (λ (n : Naming). IsTrue false ↔ FitsNamed Fits notes n) (sym is) (λ e. absurd (both_ways false refl e), λ first. absurd (none first.0 first.1))

-- ---- fields

record SameChunk (f g : ChunkFields) : Type 0 where
  start : f.start ≡ g.start
  end : f.end ≡ g.end
  size : f.size ≡ g.size
  compression : f.compression ≡ g.compression
  records : f.records ≡ g.records

chunk_once : (t : Top) (f g : ChunkFields) → IsChunk t f → IsChunk t g → SameChunk f g
chunk_once t f g one other =
    let same = shows_decided chunk_kinds t.content (chunk_values f) (chunk_values g) one.layout other.layout in
    record { start = cc same; end = cc same; size = cc same; compression = cc same; records = cc same }

pub index_of_chunk_once : (t : Top) (f : ChunkIndexFields) (offset : ℕ) → IsChunkIndex t f → IndexesChunk t offset → offset ≡ f.offset
index_of_chunk_once t f offset one (g, other, there) =
    let same = shows_decided chunk_index_kinds t.content (chunk_index_values f) (chunk_index_values g) one.layout other.layout in
    let offsets : f.offset ≡ g.offset = cc same in
    sym there ∙ sym offsets

-- ---- the Message Indexes

-- the note of the Message Index that stands so far behind the chunk
note_of : (tops : List Top) (k : ℕ) (notes : List IndexNote) (p : ℕ) (u : Top) → NotesIndexes tops k notes → At (indexes_behind tops k) p u → (note : IndexNote) × At notes p note × NotesIndex tops k p u note
note_of tops k notes p u are at =
    let within = at_within (indexes_behind tops k) p u at in
    let there = note_there notes p (omega (arith, within, are.paired)) in
    (there.0, there.1, are.noted p there.0 u there.1 at)

top_of : (tops : List Top) (k : ℕ) (notes : List IndexNote) (p : ℕ) (note : IndexNote) → NotesIndexes tops k notes → At notes p note → (u : Top) × At (indexes_behind tops k) p u × NotesIndex tops k p u note
top_of tops k notes p note are at =
    let within = at_within notes p note at in
    let there = note_there (indexes_behind tops k) p (omega (arith, within, are.paired)) in
    (there.0, there.1, are.noted p note there.0 at there.1)

empty_or : (entries : List (ℕ × ℕ)) → (entries ≢ []) → length entries ≢ 0
empty_or [] some = absurd (some refl)
empty_or (e ∷ es) some = λ none. omega (arith, none)

not_empty : (entries : List (ℕ × ℕ)) → length entries ≢ 0 → entries ≢ []
not_empty entries some none = some (ap length none)

names_right : (tops : List Top) (k : ℕ) (t : Top) (note : ChunkNote) (f : ChunkIndexFields) → NotesChunk tops k t note → NamesNoted note f → NamesIndexes tops k f
names_right tops k t note f noted names = elim names [
  | inl none ↦ inl none
  | inr (size, all, each) ↦ inr (
    λ channel offset has.
        let (p, i, at, own) = all has.0 (channel, offset) has.1 in
        let (u, there, notes) = top_of tops k note.indexes.items p i noted.indexes at in
        (notes.shown, record { place = p; top = u; at = there; is = subst (λ (c : ℕ). IsMessageIndex u c notes.shown) own.0 notes.is; there = sym own.1 ∙ notes.there }),
    λ channel offset entries named some.
        let (i, at, notes) = note_of tops k note.indexes.items named.place named.top noted.indexes named.at in
        let once = message_index_once named.top i.channel channel notes.shown entries notes.is named.is in
        let has = each named.place i at (λ e. empty_or entries some (ap length (sym once.1) ∙ sym notes.counted ∙ e)) in
        let same : ◌≡◌ {A = ℕ × ℕ} (i.channel, i.offset) (channel, offset) = pair_same (i.channel, i.offset) channel offset once.0 (notes.there ∙ sym named.there) in
        subst {A = ℕ × ℕ} (λ e. Has f.indexes e) same has,
    size ∙ noted.indexes_size,
  )
]

right_names : (tops : List Top) (k : ℕ) (t : Top) (note : ChunkNote) (f : ChunkIndexFields) → NotesChunk tops k t note → NamesIndexes tops k f → NamesNoted note f
right_names tops k t note f noted right = elim right [
  | inl none ↦ inl none
  | inr (none_else, all, size) ↦ inr (
    size ∙ sym noted.indexes_size,
    λ n name at.
        let (entries, named) = none_else name.0 name.1 (n, at) in
        let (i, there, notes) = note_of tops k note.indexes.items named.place named.top noted.indexes named.at in
        let once = message_index_once named.top i.channel name.0 notes.shown entries notes.is named.is in
        (named.place, i, there, (once.0, notes.there ∙ sym named.there)),
    λ p i at some.
        let (u, there, notes) = top_of tops k note.indexes.items p i noted.indexes at in
        all i.channel i.offset notes.shown (record { place = p; top = u; at = there; is = notes.is; there = notes.there }) (not_empty notes.shown (λ e. some (notes.counted ∙ e))),
  )
]

-- ---- the index

pub chunk_right : (tops : List Top) (n : ℕ) (kept : Chunks) (new : List Spot) (f : ChunkIndexFields) (naming : Naming) → ChunksOf tops kept → ChunksNamed tops n kept → NamesSpot kept.spots new f.offset naming
    → FitsNamed (λ note. IsOfChunk note f) kept.notes.items naming → ChunkIndexIsRight tops n f
chunk_right tops n kept new f naming are named is fits =
    let first = fits_first IsSix IndexesChunk (NotesChunk tops) (λ note. IsOfChunk note f) tops n f.offset kept.spots new kept.notes.items naming are.spots are.notes named is fits in
    let notes = first.notes in
    let own = first.fits.0 in
    record {
      k = first.place;
      chunk = first.top;
      shown = notes.shown;
      is = record {
        at = first.at;
        is = notes.is;
        offset = first.there;
        size = own.0 ∙ notes.size;
        start = own.1 ∙ notes.start;
        end = own.2 ∙ notes.end;
        compression = own.3 ∙ sym notes.plain;
        compressed = own.4 ∙ notes.records;
        uncompressed = own.5 ∙ notes.uncompressed;
      };
      names = names_right tops first.place first.top first.note f notes first.fits.1;
      only = λ i u other less at shows same. first.fresh (i, u, less, at, (other, shows, same));
    }

pub right_chunk : (tops : List Top) (n : ℕ) (kept : Chunks) (new : List Spot) (f : ChunkIndexFields) (naming : Naming) → ChunksOf tops kept → ChunksNamed tops n kept → NamesSpot kept.spots new f.offset naming
    → ChunkIndexIsRight tops n f → FitsNamed (λ note. IsOfChunk note f) kept.notes.items naming
right_chunk tops n kept new f naming are named is right =
    let of = right.is in
    let six = of.is in
    first_fits IsSix IndexesChunk (NotesChunk tops) (λ note. IsOfChunk note f) tops n f.offset kept.spots new kept.notes.items naming are.spots are.notes named is right.k right.chunk of.at six.kind of.offset
    (λ b. let (i, u, less, at_u, names) = b in right.only i u names.0 less at_u names.1 names.2)
    (λ note notes.
    let one = chunk_once right.chunk right.shown notes.shown of.is notes.is in (
      (
        of.size ∙ sym notes.size,
        of.start ∙ one.start ∙ sym notes.start,
        of.end ∙ one.end ∙ sym notes.end,
        of.compression ∙ one.compression ∙ notes.plain,
        of.compressed ∙ ap length one.records ∙ sym notes.records,
        of.uncompressed ∙ one.size ∙ sym notes.uncompressed,
      ),
      right_names tops right.k right.chunk note f notes right.names,
    ))

pub chunks_kept : (tops : List Top) (kept new : Chunks) (offset : ℕ) (naming : Naming) → ChunksOf tops kept → NamesSpot kept.spots new.spots offset naming → new.notes.items ≡ kept.notes.items → ChunksOf tops new
chunks_kept tops kept new offset naming are is same = record {
  spots = spots_named IsSix IndexesChunk tops offset kept.spots new.spots naming are.spots is;
  notes = subst (NotesOf (NotesChunk tops) tops new.spots) (sym same) (notes_named (NotesChunk tops) tops offset kept.spots new.spots kept.notes.items naming are.notes is);
}

pub chunks_named : (tops : List Top) (n : ℕ) (t : Top) (old new : List Spot) (f : ChunkIndexFields) (naming : Naming) → NamedBy IndexesChunk tops n old → At tops n t → IsChunkIndex t f → NamesSpot old new f.offset naming → NamedBy IndexesChunk tops (suc n) new
chunks_named tops n t old new f naming named at is names = name_next IsSix IndexesChunk tops n f.offset t old new naming named at (f, is, refl) (λ o other. index_of_chunk_once t f o is other) names
