-- Indexes of Attachments and of Metadata, over what was noted of these.
use Rattle.std.proofs.Common.{◌≡◌, ℕ, suc, true, false, List, [], ◌∷◌, ◌++◌, length, sym, ap, subst, ◌∙◌, refl, inl, inr}
use Rattle.std.proofs.lemmas.List.{length-set}
use Rattle.mcap_model.proofs.Places.{at_set}
use Rattle.mcap_wire.proofs.Contents.{shows_decided}
use Rattle.rec_data.specs.Records.{attachment_kinds, attachment_values, metadata_kinds, metadata_values}
use Rattle.rec_index.specs.Records.{attachment_index_kinds, attachment_index_values, metadata_index_kinds, metadata_index_values}
use Rattle.mcap_model.specs.Places.{At}
use Rattle.mcap_model.specs.Tops.{Top, offset_behind}
use Rattle.mcap_model.specs.Fields.{AttachmentFields, IsAttachment, IsMetadata, AttachmentIndexFields, IsAttachmentIndex, IsMetadataIndex}
use Rattle.mcap_model.specs.Whole.{AttachmentIndexIsRight, MetadataIndexIsRight}
use Rattle.rec_index.specs.Fields.{MetadataIndexFields}
use Rattle.index_check.specs.declared.extras.AttachmentNote.{AttachmentNote}
use Rattle.index_check.specs.declared.extras.MetadataNote.{MetadataNote}
use Rattle.index_check.specs.declared.extras.Attachments.{Attachments}
use Rattle.index_check.specs.declared.extras.MetadataList.{MetadataList}
use Rattle.index_check.specs.declared.spots.Spot.{Spot}
use Rattle.index_check.specs.declared.spots.Naming.{Naming}
use Rattle.index_check.specs.declared.spots.Naming.TheVariants as namings
use Rattle.index_check.specs.Spots.{spot, NamesSpot, FitsNamed, SpotsOf, NotesOf, NamedBy}
use Rattle.index_check.specs.Extras.{IsOfAttachment, IsOfMetadata, NotesAttachment, NotesMetadata, AttachmentsOf, MetadataOf, AttachmentsNamed, MetadataNamed, IndexesAttachment, IndexesMetadata}
use Rattle.index_check.proofs.Spotted.{fits_first, first_fits, name_next, spots_named, spots_more, notes_more}

abbrev IsNine : Top → Type 0
IsNine t = t.op ≡ 9

abbrev IsTwelve : Top → Type 0
IsTwelve t = t.op ≡ 12

-- a name changes no note
pub notes_named : {N : Type 0} (Notes : ℕ → Top → N → Type 0) (tops : List Top) (offset : ℕ) (old new : List Spot) (notes : List N) (result : Naming) → NotesOf Notes tops old notes → NamesSpot old new offset result → NotesOf Notes tops new notes
notes_named Notes tops offset old new notes namings.Absent was is = subst (λ (l : List Spot). NotesOf Notes tops l notes) (sym is.1) was
notes_named Notes tops offset old new notes namings.Again was is = subst (λ (l : List Spot). NotesOf Notes tops l notes) (sym is.1) was
notes_named Notes tops offset old new notes (namings.First place) was is = subst (λ (l : List Spot). NotesOf Notes tops l notes) (sym is.2) (record {
  paired = was.paired ∙ sym (length-set old place (spot offset true));
  noted = λ k n s note t there noted at own. elim (at_set old place k s (spot offset true) there) [
    | inl (here, same) ↦ was.noted k n (spot offset false) note t (subst (λ (m : ℕ). At old m (spot offset false)) (sym here) is.0) noted at (sym (ap (λ (r : Spot). r.offset) same) ∙ own)
    | inr (apart, before) ↦ was.noted k n s note t before noted at own
  ];
})

-- ---- Attachments

record SameAttachment (f g : AttachmentFields) : Type 0 where
  log_time : f.log_time ≡ g.log_time
  create_time : f.create_time ≡ g.create_time
  name : f.name ≡ g.name
  media_type : f.media_type ≡ g.media_type
  payload : f.payload ≡ g.payload

attachment_once : (t : Top) (f g : AttachmentFields) → IsAttachment t f → IsAttachment t g → SameAttachment f g
attachment_once t f g one other =
    let same = shows_decided attachment_kinds t.content (attachment_values f) (attachment_values g) one.layout other.layout in
    record { log_time = cc same; create_time = cc same; name = cc same; media_type = cc same; payload = cc same }

pub index_of_attachment_once : (t : Top) (f : AttachmentIndexFields) (offset : ℕ) → IsAttachmentIndex t f → IndexesAttachment t offset → offset ≡ f.offset
index_of_attachment_once t f offset one (g, other, there) =
    let same = shows_decided attachment_index_kinds t.content (attachment_index_values f) (attachment_index_values g) one.layout other.layout in
    let offsets : f.offset ≡ g.offset = cc same in
    sym there ∙ sym offsets

pub attachment_right : (tops : List Top) (n : ℕ) (kept : Attachments) (new : List Spot) (f : AttachmentIndexFields) (naming : Naming) → AttachmentsOf tops kept → AttachmentsNamed tops n kept → NamesSpot kept.spots new f.offset naming
    → FitsNamed (λ note. IsOfAttachment note f) kept.notes.items naming → AttachmentIndexIsRight tops n f
attachment_right tops n kept new f naming are named is fits =
    let first = fits_first IsNine IndexesAttachment (λ k. NotesAttachment) (λ note. IsOfAttachment note f) tops n f.offset kept.spots new kept.notes.items naming are.spots are.notes named is fits in
    let notes = first.notes in
    let own = first.fits in
    record {
      top = first.top;
      shown = notes.shown;
      at = (first.place, first.at, first.there);
      is = notes.is;
      size = own.0 ∙ notes.size;
      log_time = own.1 ∙ notes.log_time;
      create_time = own.2 ∙ notes.create_time;
      payload_size = own.3 ∙ notes.payload_size;
      name = sym own.4 ∙ notes.name;
      media_type = sym own.5 ∙ notes.media_type;
      only = λ i u other less at shows same. first.fresh (i, u, less, at, (other, shows, same));
    }

pub right_attachment : (tops : List Top) (n : ℕ) (kept : Attachments) (new : List Spot) (f : AttachmentIndexFields) (naming : Naming) → AttachmentsOf tops kept → AttachmentsNamed tops n kept → NamesSpot kept.spots new f.offset naming
    → AttachmentIndexIsRight tops n f → FitsNamed (λ note. IsOfAttachment note f) kept.notes.items naming
right_attachment tops n kept new f naming are named is right =
    let (m, at, there) = right.at in
    let nine = right.is in
    first_fits IsNine IndexesAttachment (λ k. NotesAttachment) (λ note. IsOfAttachment note f) tops n f.offset kept.spots new kept.notes.items naming are.spots are.notes named is m right.top at nine.kind there
    (λ b. let (i, u, less, at_u, names) = b in right.only i u names.0 less at_u names.1 names.2)
    (λ note notes.
    let one = attachment_once right.top right.shown notes.shown right.is notes.is in (
      right.size ∙ sym notes.size,
      right.log_time ∙ one.log_time ∙ sym notes.log_time,
      right.create_time ∙ one.create_time ∙ sym notes.create_time,
      right.payload_size ∙ ap length one.payload ∙ sym notes.payload_size,
      notes.name ∙ sym one.name ∙ sym right.name,
      notes.media_type ∙ sym one.media_type ∙ sym right.media_type,
    ))

pub attachments_kept : (tops : List Top) (kept new : Attachments) (offset : ℕ) (naming : Naming) → AttachmentsOf tops kept → NamesSpot kept.spots new.spots offset naming → new.notes.items ≡ kept.notes.items → AttachmentsOf tops new
attachments_kept tops kept new offset naming are is same = record {
  spots = spots_named IsNine IndexesAttachment tops offset kept.spots new.spots naming are.spots is;
  notes = subst (NotesOf (λ k. NotesAttachment) tops new.spots) (sym same) (notes_named (λ k. NotesAttachment) tops offset kept.spots new.spots kept.notes.items naming are.notes is);
}

pub attachments_named : (tops : List Top) (n : ℕ) (t : Top) (old new : List Spot) (f : AttachmentIndexFields) (naming : Naming) → NamedBy IndexesAttachment tops n old → At tops n t → IsAttachmentIndex t f → NamesSpot old new f.offset naming → NamedBy IndexesAttachment tops (suc n) new
attachments_named tops n t old new f naming named at is names = name_next IsNine IndexesAttachment tops n f.offset t old new naming named at (f, is, refl) (λ o other. index_of_attachment_once t f o is other) names

pub attachments_more : (tops : List Top) (t : Top) (offset : ℕ) (note : AttachmentNote) (kept new : Attachments) → AttachmentsOf tops kept → offset ≡ offset_behind tops → NotesAttachment t note
    → new.spots ≡ kept.spots ++ spot offset false ∷ [] → new.notes.items ≡ kept.notes.items ++ note ∷ [] → AttachmentsOf (tops ++ t ∷ []) new
attachments_more tops t offset note kept new are there notes spots_are notes_are = record {
  spots = subst (SpotsOf IsNine (tops ++ t ∷ [])) (sym spots_are) (spots_more IsNine tops t offset kept.spots are.spots (let is = notes.is in is.kind) there);
  notes = subst (λ (l : List Spot). NotesOf (λ k. NotesAttachment) (tops ++ t ∷ []) l new.notes.items) (sym spots_are)
      (subst (NotesOf (λ k. NotesAttachment) (tops ++ t ∷ []) (kept.spots ++ spot offset false ∷ [])) (sym notes_are)
      (notes_more (λ k. NotesAttachment) (λ k. NotesAttachment) IsNine tops t offset note kept.spots kept.notes.items are.spots are.notes there (λ n u x at old. old) notes));
}

-- ---- Metadata

metadata_once : (t : Top) (a b : List ℕ) (p q : List (List ℕ × List ℕ)) → IsMetadata t a p → IsMetadata t b q → a ≡ b
metadata_once t a b p q one other =
    let same = shows_decided metadata_kinds t.content (metadata_values (record { name = a; metadata = p })) (metadata_values (record { name = b; metadata = q })) one.layout other.layout in
    cc same

abbrev fields_of : ℕ → ℕ → List ℕ → MetadataIndexFields
fields_of offset size name = record { offset = offset; size = size; name = name }

pub index_of_metadata_once : (t : Top) (own size : ℕ) (name : List ℕ) (offset : ℕ) → IsMetadataIndex t own size name → IndexesMetadata t offset → offset ≡ own
index_of_metadata_once t own size name offset one (other_size, other_name, other) =
    let same = shows_decided metadata_index_kinds t.content (metadata_index_values (fields_of offset other_size other_name)) (metadata_index_values (fields_of own size name)) other.layout one.layout in
    cc same

pub metadata_right : (tops : List Top) (n : ℕ) (kept : MetadataList) (new : List Spot) (offset size : ℕ) (name : List ℕ) (naming : Naming) → MetadataOf tops kept → MetadataNamed tops n kept → NamesSpot kept.spots new offset naming
    → FitsNamed (λ note. IsOfMetadata note (fields_of offset size name)) kept.notes.items naming → MetadataIndexIsRight tops n offset size name
metadata_right tops n kept new offset size name naming are named is fits =
    let first = fits_first IsTwelve IndexesMetadata (λ k. NotesMetadata) (λ note. IsOfMetadata note (fields_of offset size name)) tops n offset kept.spots new kept.notes.items naming are.spots are.notes named is fits in
    let notes = first.notes in
    let own = first.fits in
    let same : name ≡ notes.name = sym own.1 ∙ notes.name_is in
    record {
      top = first.top;
      pairs = notes.pairs;
      at = (first.place, first.at, first.there);
      is = subst (λ (l : List ℕ). IsMetadata first.top l notes.pairs) (sym same) notes.is;
      size_is = own.0 ∙ notes.size;
      only = λ i other other_size u other_name less at shows e. first.fresh (i, u, less, at, (other_size, other_name, subst (λ (o : ℕ). IsMetadataIndex u o other_size other_name) e shows));
    }

pub right_metadata : (tops : List Top) (n : ℕ) (kept : MetadataList) (new : List Spot) (offset size : ℕ) (name : List ℕ) (naming : Naming) → MetadataOf tops kept → MetadataNamed tops n kept → NamesSpot kept.spots new offset naming
    → MetadataIndexIsRight tops n offset size name → FitsNamed (λ note. IsOfMetadata note (fields_of offset size name)) kept.notes.items naming
right_metadata tops n kept new offset size name naming are named is right =
    let (m, at, there) = right.at in
    let twelve = right.is in
    first_fits IsTwelve IndexesMetadata (λ k. NotesMetadata) (λ note. IsOfMetadata note (fields_of offset size name)) tops n offset kept.spots new kept.notes.items naming are.spots are.notes named is m right.top at twelve.kind there
    (λ b. let (i, u, less, at_u, names) = b in right.only i offset names.0 u names.1 less at_u names.2 refl)
    (λ note notes. (right.size_is ∙ sym notes.size, notes.name_is ∙ metadata_once right.top notes.name name notes.pairs right.pairs notes.is right.is))

pub metadata_kept : (tops : List Top) (kept new : MetadataList) (offset : ℕ) (naming : Naming) → MetadataOf tops kept → NamesSpot kept.spots new.spots offset naming → new.notes.items ≡ kept.notes.items → MetadataOf tops new
metadata_kept tops kept new offset naming are is same = record {
  spots = spots_named IsTwelve IndexesMetadata tops offset kept.spots new.spots naming are.spots is;
  notes = subst (NotesOf (λ k. NotesMetadata) tops new.spots) (sym same) (notes_named (λ k. NotesMetadata) tops offset kept.spots new.spots kept.notes.items naming are.notes is);
}

pub metadata_named : (tops : List Top) (n : ℕ) (t : Top) (old new : List Spot) (offset size : ℕ) (name : List ℕ) (naming : Naming) → NamedBy IndexesMetadata tops n old → At tops n t → IsMetadataIndex t offset size name → NamesSpot old new offset naming → NamedBy IndexesMetadata tops (suc n) new
metadata_named tops n t old new offset size name naming named at is names = name_next IsTwelve IndexesMetadata tops n offset t old new naming named at (size, name, is) (λ o other. index_of_metadata_once t offset size name o is other) names

pub metadata_more : (tops : List Top) (t : Top) (offset : ℕ) (note : MetadataNote) (kept new : MetadataList) → MetadataOf tops kept → offset ≡ offset_behind tops → NotesMetadata t note
    → new.spots ≡ kept.spots ++ spot offset false ∷ [] → new.notes.items ≡ kept.notes.items ++ note ∷ [] → MetadataOf (tops ++ t ∷ []) new
metadata_more tops t offset note kept new are there notes spots_are notes_are = record {
  spots = subst (SpotsOf IsTwelve (tops ++ t ∷ [])) (sym spots_are) (spots_more IsTwelve tops t offset kept.spots are.spots (let is = notes.is in is.kind) there);
  notes = subst (λ (l : List Spot). NotesOf (λ k. NotesMetadata) (tops ++ t ∷ []) l new.notes.items) (sym spots_are)
      (subst (NotesOf (λ k. NotesMetadata) (tops ++ t ∷ []) (kept.spots ++ spot offset false ∷ [])) (sym notes_are)
      (notes_more (λ k. NotesMetadata) (λ k. NotesMetadata) IsTwelve tops t offset note kept.spots kept.notes.items are.spots are.notes there (λ n u x at old. old) notes));
}
