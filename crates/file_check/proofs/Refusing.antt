-- What is told of a data section that was refused.
use Rattle.std.proofs.Common.{◌≡◌, ℕ, zero, suc, ◌-◌, ◌^◌, ◌<◌, ◌≤◌, List, [], ◌∷◌, ◌++◌, Option, length, take, Some, Ok, refl, sym, ap, subst, ◌∙◌, arith}
use Rattle.std.proofs.lemmas.List.{take_at, take_all, length-append, length-take-le}
use Rattle.mcap_wire.specs.Layout.{magic}
use Rattle.mcap_io.specs.Outside.{SourceState}
use Rattle.mcap_io.specs.Stores.{StoreState}
use Rattle.mcap_io.specs.StoreSources.{front_left}
use Rattle.mcap_model.specs.Places.{At, Each}
use Rattle.mcap_model.specs.Tops.{Top, Tops}
use Rattle.mcap_model.specs.Kept.{reading_limits, Good, Halt, grammar, Halts}
use Rattle.mcap_model.specs.Whole.{EndsWithMagic, V9}
use Rattle.mcap_model.specs.Valid.{IsPlain, WherePlain, FailsAmong, Flaw, flaw_2, flaw_9}
use Rattle.mcap_scan.specs.RefusedReadings.{HaltsSo}
use Rattle.file_check.specs.CutFiles.{IndexFails}
use Rattle.index_check.specs.declared.section.Section.{Section}
use Rattle.file_check.specs.Reading.{IndexIsWrong, ReadsSection}
use Rattle.file_check.specs.declared.flaws.FailedRule.{FailedRule}
use Rattle.file_check.specs.Halting.{told_cut}
use Rattle.file_check.specs.HaltFlaws.{told_flaw, HasLengthAt}
use Rattle.mcap_model.specs.declared.refusals.ReadingRefused.{ReadingRefused}
use Rattle.mcap_model.specs.declared.refusals.ReadingRefused.TheVariants as refusals
use Rattle.file_check.specs.Checking.{HaltsBefore, IsUnchecked, IsFault}
use Rattle.file_check.specs.CheckSteps.{checked_front, TellsFlaw, TellsCut, IsUnended, EndsAtMagic, IsSectionRead}
use Rattle.mcap_model.proofs.Places.{at_none}
use Rattle.mcap_model.specs.declared.rules.Rule.TheVariants as rules
use Rattle.mcap_model.specs.declared.rules.Rule.{Rule}
use Rattle.file_check.proofs.CutFlaws.{cuts_are_flaws}
use Rattle.file_check.proofs.Halted.{good_short, stand_whole, halts_are_flaws}

-- ---- the bytes in front of the last magic

pub inner_size : (file : List ℕ) (end : ℕ) → EndsAtMagic file end → length (take end file) ≡ end
inner_size file end ended = length-take-le end file (omega (arith, ended.size))

pub inner_whole : (file : List ℕ) (end : ℕ) → EndsAtMagic file end → file ≡ take end file ++ magic
inner_whole file end ended =
    let (start, is) = ended.magic_last in
    let size : length start ≡ end = omega (arith, ap length is, length-append start magic, ended.size) in
    let same : take end file ≡ start = ap (take end) is ∙ take_at start magic end size in
    is ∙ ap (λ (l : List ℕ). l ++ magic) (sym same)

-- ---- halts

pub halted_at : (old : StoreState) (now : SourceState) (told : Option (List ℕ)) (file : List ℕ) (end : ℕ) (tops : List Top) (halt : Halt) → old.bytes ≡ told → told ≡ Some file
    → HaltsSo (checked_front old end) now tops halt → Halts reading_limits (take end file) tops halt
halted_at old now told file end tops halt same is so = so.halts (take end file) (ap (λ (t : Option (List ℕ)). front_left t 0 end) (same ∙ is))

pub fault_unchecked : (file : List ℕ) (why : ReadingRefused) → IsFault why → IsUnchecked file why
fault_unchecked file (refusals.Fault faults) is = tt
fault_unchecked file (refusals.Grammar offset rule) is = absurd is
fault_unchecked file (refusals.Compressed offset name) is = absurd is
fault_unchecked file (refusals.Limit offset) is = absurd is
fault_unchecked file refusals.Memory is = absurd is

pub halts_before : (file : List ℕ) (end : ℕ) (halt : Halt) (tops : List Top) → EndsAtMagic file end → Halts reading_limits (take end file) tops halt → HaltsBefore file halt
halts_before file end halt tops ended halts = (take end file, tops, inner_whole file end ended, halts)

pub grammar_told : (file : List ℕ) (end offset : ℕ) (rule : Rule) (tops : List Top) (f : FailedRule) → 8 ≤ end → EndsAtMagic file end → Halts reading_limits (take end file) tops (grammar offset rule)
    → TellsFlaw (Some file) end offset rule f → Flaw file f.rule f.offset
grammar_told file end offset rule tops f long ended halts (is, there) =
    let inner = take end file in
    let size = inner_size file end ended in
    let whole = inner_whole file end ended in
    let total = ended.size in
    let fits = ended.fits in
    let flaw = halts_are_flaws inner tops offset rule (omega (arith, size, long)) (omega (arith, size, total, fits))
    (λ room. there file refl (omega (arith, room, size)) (omega (arith, total))) halts in
    let same : f ≡ told_flaw (length inner) offset rule = is ∙ ap (λ (n : ℕ). told_flaw n offset rule) (sym size) in
    subst (λ (l : List ℕ). Flaw l f.rule f.offset) (sym whole) (subst (λ (g : FailedRule). Flaw (inner ++ magic) g.rule g.offset) (sym same) flaw)

-- ---- V9

taken_at : (ts : List Top) (n k : ℕ) (u : Top) → At (take n ts) k u → At ts k u
taken_at ts zero k u at = absurd (at_none k u at)
taken_at [] (suc n) k u at = absurd (at_none k u at)
taken_at (t ∷ ts) (suc n) zero u at = at
taken_at (t ∷ ts) (suc n) (suc k) u at = taken_at ts n k u at

plain_front : (tops : List Top) (n : ℕ) → Good reading_limits tops → Each IsPlain (take n tops)
plain_front tops n good k u at = let fits = good k u (taken_at tops n k u at) in fits.plain

pub index_told : (file : List ℕ) (end offset : ℕ) (tops : List Top) (rest : List ℕ) → EndsAtMagic file end → Good reading_limits tops → Tops (take end file) tops rest → IndexFails tops offset → Flaw file rules.V9 offset
index_told file end offset tops rest ended good stand fails =
    let bad = fails.breaks in
    let among : FailsAmong (WherePlain V9) (take end file ++ magic) offset = record {
      tops = tops;
      rest = rest ++ magic;
      stand = stand_whole (take end file) tops rest stand;
      short = good_short tops good;
      inside = λ v2. omega (arith, length-append rest magic);
      place = fails.place;
      top = fails.top;
      at = fails.at;
      there = fails.there;
      breaks = λ keeps. bad (keeps (plain_front tops (suc fails.place) good));
    } in
    subst (λ (l : List ℕ). Flaw l rules.V9 offset) (sym (inner_whole file end ended)) (flaw_9 offset among)

-- the same of a file without the last magic
index_cut : (file : List ℕ) (offset : ℕ) (tops : List Top) (rest : List ℕ) → (EndsWithMagic file → ⊥) → Good reading_limits tops → Tops file tops rest → IndexFails tops offset → Flaw file rules.V9 offset
index_cut file offset tops rest none good stand fails =
    let bad = fails.breaks in
    flaw_9 offset (record {
      tops = tops;
      rest = rest;
      stand = stand;
      short = good_short tops good;
      inside = λ v2. absurd (none v2.1);
      place = fails.place;
      top = fails.top;
      at = fails.at;
      there = fails.there;
      breaks = λ keeps. bad (keeps (plain_front tops (suc fails.place) good));
    })

pub index_read : (old : StoreState) (now : SourceState) (file : List ℕ) (end : ℕ) (failed : FailedRule) (tops : List Top) → old.bytes ≡ Some file → EndsAtMagic file end
    → IndexIsWrong (checked_front old end) now tops failed → Flaw file failed.rule failed.offset
index_read old now file end failed tops told ended wrong =
    let are = wrong.are_read in
    let left = are.read (take end file) (ap (λ (t : Option (List ℕ)). front_left t 0 end) told) in
    subst (λ (rule : Rule). Flaw file rule failed.offset) (sym wrong.rule_is) (index_told file end failed.offset tops left.0 ended are.good left.2 wrong.fails)

-- ---- a file without the last magic

pub unended : (file : List ℕ) (len : ℕ) → len ≡ length file → (EndsWithMagic file → ⊥) → Flaw file rules.V2 (len - 8)
unended file len size none = subst (λ (n : ℕ). Flaw file rules.V2 (n - 8)) (sym size) (flaw_2 (λ v2. none v2.1))

all_of_it : (file : List ℕ) (len : ℕ) → IsUnended file len → take len file ≡ file
all_of_it file len ended = take_all len file (omega (arith, ended.size))

pub index_read_cut : (old : StoreState) (now : SourceState) (file : List ℕ) (len : ℕ) (failed : FailedRule) (tops : List Top) → old.bytes ≡ Some file → IsUnended file len
    → IndexIsWrong (checked_front old len) now tops failed → Flaw file failed.rule failed.offset
index_read_cut old now file len failed tops told ended wrong =
    let are = wrong.are_read in
    let left = are.read (take len file) (ap (λ (t : Option (List ℕ)). front_left t 0 len) told) in
    subst (λ (rule : Rule). Flaw file rule failed.offset) (sym wrong.rule_is)
    (index_cut file failed.offset tops left.0 ended.none are.good (subst (λ (l : List ℕ). Tops l tops left.0) (all_of_it file len ended) left.2) wrong.fails)

pub cut_told : (file : List ℕ) (len offset : ℕ) (rule : Rule) (tops : List Top) (f : FailedRule) → len < 2 ^ 64 → IsUnended file len → Halts reading_limits (take len file) tops (grammar offset rule)
    → TellsCut (Some file) len offset rule f → Flaw file f.rule f.offset
cut_told file len offset rule tops f fits ended halts (is, there) =
    let all = all_of_it file len ended in
    let flaw = cuts_are_flaws file tops offset rule (omega (arith, fits, ended.size)) ended.none
    (λ room. subst (λ (l : List ℕ). HasLengthAt l offset) all (there file refl (omega (arith, room, ended.size)) (omega (arith, ended.size))))
    (subst (λ (l : List ℕ). Halts reading_limits l tops (grammar offset rule)) all halts) in
    let same : f ≡ told_cut (length file) offset rule = is ∙ ap (λ (n : ℕ). told_cut n offset rule) (sym ended.size) in
    subst (λ (g : FailedRule). Flaw file g.rule g.offset) (sym same) flaw

pub lacks_last : (file : List ℕ) (len : ℕ) → IsUnended file len → Flaw file rules.V2 (len - 8)
lacks_last file len ended = unended file len (sym ended.size) ended.none

-- ---- what was read

pub front_is : (old : StoreState) (now : SourceState) (file : List ℕ) (end : ℕ) (section : Section) → old.bytes ≡ Some file → ReadsSection (checked_front old end) now (Ok (Ok section)) → IsSectionRead file end section
front_is old now file end section told (tops, is) =
    let are = is.are_read in
    let left = are.read (take end file) (ap (λ (t : Option (List ℕ)). front_left t 0 end) told) in
    record { tops = tops; rest = left.0; stand = left.2; good = are.good; ended = is.ended; v9 = is.v9; kept = is.kept }

-- ---- files that are too short, or have no magic at their end

pub too_short : (file : List ℕ) (len : ℕ) → len ≡ length file → len < 16 → Flaw file rules.V2 (len - 8)
too_short file len size short = subst (λ (n : ℕ). Flaw file rules.V2 (n - 8)) (sym size) (flaw_2 (λ v2. let long = v2.0 in omega (arith, long, size, short)))

pub ended_at : (file : List ℕ) (len : ℕ) → len ≡ length file → 8 ≤ len → len < 2 ^ 64 → EndsWithMagic file → EndsAtMagic file (len - 8)
ended_at file len size long fits ends = record { size = omega (arith, size, long); magic_last = ends; fits = omega (arith, size, fits) }
