-- The ends of a file.
use Rattle.std.proofs.Common.{◌≡◌, ◌≢◌, ◌⊎◌, ℕ, ◌+◌, ◌-◌, ◌<◌, ◌≤◌, List, ◌++◌, length, take, drop, Some, None, sym, ap, subst, ◌∙◌, append_assoc, arith}
use Rattle.std.proofs.lemmas.List.{length-append, length-drop, drop_at, take-append-drop, drop-append-le}
use Rattle.mcap_wire.specs.Layout.{magic}
use Rattle.mcap_wire.proofs.Framing.{records_apart}
use Rattle.rec_data.specs.declared.footer.Footer.{Footer}
use Rattle.rec_data.specs.Parsed.{footer_fields}
use Rattle.rec_data.specs.Records.{ShowsFooter as ShowsContent}
use Rattle.rec_data.proofs.Contents.{length-footer_text, footer_decided}
use Rattle.mcap_model.specs.Tops.{Top, top_bytes}
use Rattle.mcap_model.specs.Rules.{V1}
use Rattle.mcap_model.specs.Whole.{EndsWithMagic, V2}
use Rattle.mcap_model.specs.Valid.{EndsWithFooter}
use Rattle.mcap_model.proofs.Readings.{length-top}
use Rattle.mcap_model.specs.declared.rules.Rule.TheVariants as rules
use Rattle.summary_read.specs.Reached.{RecordShowsFooter, EndsIn, HasNoSummary, FailsLoading, at_ends, last_magic, no_footer, by_start}
use Rattle.summary_read.specs.Steps.{BeginsWithFooter}

-- ---- the Footer

pub footer_size : (t : Top) (f : Footer) → RecordShowsFooter t f → length t.content ≡ 20
footer_size t f is = ap length is.layout.spelled_there ∙ length-footer_text (footer_fields f)

pub footer_length : (t : Top) (f : Footer) → RecordShowsFooter t f → length (top_bytes t) ≡ 29
footer_length t f is = omega (arith, length-top t, footer_size t f is)

-- the last 37 bytes, where a Footer stands in front of the last eight
pub end_is : (file : List ℕ) (f : Footer) (ends : EndsIn file f) → drop (length file - 37) file ≡ top_bytes ends.top ++ ends.last
end_is file f ends =
    let size : length file ≡ length ends.before + 37 =
    omega (
      arith,
      ap length ends.split,
      length-append ends.before (top_bytes ends.top ++ ends.last),
      length-append (top_bytes ends.top) ends.last,
      footer_length ends.top f ends.is,
      ends.size,
    ) in
    let there : length ends.before ≡ length file - 37 = omega (arith, size) in
    ap (drop (length file - 37)) ends.split ∙ drop_at ends.before (top_bytes ends.top ++ ends.last) (length file - 37) there

pub ends_in : (file end : List ℕ) (len : ℕ) (f : Footer) → length file ≡ len → 37 ≤ len → drop (len - 37) file ≡ end → BeginsWithFooter end (Some f) → EndsIn file f
ends_in file end len f size whole is here =
    let t = here.0 in
    let rest = here.1 in
    let there : length end ≡ 37 = omega (arith, size, whole, ap length is, length-drop (len - 37) file) in
    record {
      before = take (len - 37) file;
      top = t;
      last = rest;
      split = sym (take-append-drop (len - 37) file) ∙ ap (λ (l : List ℕ). take (len - 37) file ++ l) (is ∙ here.2);
      size = omega (arith, there, ap length here.2, length-append (top_bytes t) rest, footer_length t f here.3);
      is = here.3;
    }

pub ends_out : (file end : List ℕ) (len : ℕ) (f : Footer) → length file ≡ len → drop (len - 37) file ≡ end → BeginsWithFooter end None → EndsIn file f → ⊥
ends_out file end len f size is none ends =
    none f ends.top ends.last (sym is ∙ ap (λ (n : ℕ). drop (n - 37) file) (sym size) ∙ end_is file f ends) ends.is

-- a file ends with one Footer
pub one_start : (file : List ℕ) (f g : Footer) → EndsIn file f → EndsIn file g → f.summary_start ≡ g.summary_start
one_start file f g one other =
    let same : top_bytes one.top ++ one.last ≡ top_bytes other.top ++ other.last = sym (end_is file f one) ∙ end_is file g other in
    let first = footer_size one.top f one.is in
    let second = footer_size other.top g other.is in
    let contents = records_apart one.top.op other.top.op one.top.content other.top.content one.last other.last (omega (arith, first)) (omega (arith, second)) same in
    let shows : ShowsContent other.top.content (footer_fields f) = subst (λ (l : List ℕ). ShowsContent l (footer_fields f)) contents.1 one.is.layout in
    ap (λ h. h.summary_start) (footer_decided other.top.content (footer_fields f) (footer_fields g) shows other.is.layout)

pub no_other : (file : List ℕ) (f : Footer) → EndsIn file f → HasNoSummary file → f.summary_start ≡ 0
no_other file f ends none = one_start file f none.0 ends none.1 ∙ none.2

-- ---- the rules of the end

pub footer_lacks : (file : List ℕ) (offset : ℕ) → offset ≡ length file - 37 → ((f : Footer) → EndsIn file f → ⊥) → V1 file → FailsLoading file rules.V17 offset
footer_lacks file offset is none v1 =
    subst (FailsLoading file rules.V17) (sym is) (at_ends rules.V17 (length file - 37) (no_footer v1 (λ ends. none (footer_of ends) (record {
      before = ends.0;
      top = ends.2;
      last = ends.1;
      split = ends.3;
      size = ends.4;
      is = ends.5.3;
    }))))
  where
    footer_of : EndsWithFooter file → Footer
    footer_of ends = record { summary_start = ends.5.0; summary_offset_start = ends.5.1; summary_crc = ends.5.2 }

pub end_has_magic : (file end : List ℕ) (len : ℕ) → length file ≡ len → 37 ≤ len → drop (len - 37) file ≡ end → V2 file → EndsWithMagic end
end_has_magic file end len size whole is v2 =
    let start = v2.1.0 in
    let split = v2.1.1 in
    let long : len - 37 ≤ length start = omega (arith, size, whole, ap length split, length-append start magic) in
    (drop (len - 37) start, sym is ∙ ap (drop (len - 37)) split ∙ drop-append-le (len - 37) start magic long)

pub magic_ends : (file end : List ℕ) (len : ℕ) → length file ≡ len → 37 ≤ len → drop (len - 37) file ≡ end → EndsWithMagic end → V2 file
magic_ends file end len size whole is ends = (
  omega (arith, size, whole),
  (
    take (len - 37) file ++ ends.0,
    sym (take-append-drop (len - 37) file)
        ∙ ap (λ (l : List ℕ). take (len - 37) file ++ l) (is ∙ ends.1)
        ∙ sym (append_assoc (take (len - 37) file) ends.0 magic),
  ),
)

pub magic_lacks : (file end : List ℕ) (len offset : ℕ) → length file ≡ len → 37 ≤ len → drop (len - 37) file ≡ end → offset ≡ len - 8 → (EndsWithMagic end → ⊥) → V1 file → FailsLoading file rules.V2 offset
magic_lacks file end len offset size whole is there none v1 =
    subst (FailsLoading file rules.V2) (sym (there ∙ ap (λ (n : ℕ). n - 8) (sym size))) (at_ends rules.V2 (length file - 8) (last_magic v1 (λ v2. none (end_has_magic file end len size whole is v2))))

pub start_lies : (file : List ℕ) (len offset : ℕ) (f : Footer) → length file ≡ len → offset ≡ len - 37 → EndsIn file f → f.summary_start ≢ 0 → (f.summary_start < 8) ⊎ (len < f.summary_start + 37) → V1 file → FailsLoading file rules.V11 offset
start_lies file len offset f size there ends some lies v1 =
    subst (FailsLoading file rules.V11) (sym (there ∙ ap (λ (n : ℕ). n - 37) (sym size))) (by_start v1 f ends some (subst (λ (n : ℕ). (f.summary_start < 8) ⊎ (n < f.summary_start + 37)) (sym size) lies))

pub ends_long : (file : List ℕ) (f : Footer) → EndsIn file f → 37 ≤ length file
ends_long file f ends =
    omega (
      arith,
      ap length ends.split,
      length-append ends.before (top_bytes ends.top ++ ends.last),
      length-append (top_bytes ends.top) ends.last,
      footer_length ends.top f ends.is,
      ends.size,
    )

-- a file that is too short for a Footer
pub too_short : (file : List ℕ) → length file < 37 → (V1 file → FailsLoading file rules.V17 0) × (HasNoSummary file → ⊥)
too_short file short =
    (footer_lacks file 0 (omega (arith, short)) none, λ no. none no.0 no.1)
  where
    none : (f : Footer) → EndsIn file f → ⊥
    none f ends = absurd (omega (arith, short, ends_long file f ends))
