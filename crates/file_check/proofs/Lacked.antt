-- How far a check had come where it ran out of memory.
use Rattle.std.proofs.Common.{◌≡◌, ℕ, ◌≤◌, List, length, take, drop, Option, Some, Result, Ok, Err, ap, subst, inl, inr, ◌∙◌, arith}
use Rattle.std.proofs.lemmas.List.{length-take-le}
use Rattle.mcap_io.specs.Outside.{SourceState}
use Rattle.mcap_io.specs.Stores.{StoreState}
use Rattle.mcap_io.specs.StoreSources.{front_left}
use Rattle.mcap_io.specs.StoreFronts.{WasRead}
use Rattle.mcap_model.specs.declared.refusals.ReadingRefused.{ReadingRefused}
use Rattle.mcap_model.specs.declared.refusals.ReadingRefused.TheVariants as scans
use Rattle.mcap_scan.specs.Sources.{MemoryLeaves}
use Rattle.index_check.specs.declared.section.Section.{Section}
use Rattle.file_check.specs.declared.flaws.FailedRule.{FailedRule}
use Rattle.file_check.specs.Reading.{ReadsSection}
use Rattle.file_check.specs.CheckSteps.{checked_front, IsSectionRead}
use Rattle.file_check.specs.Lacking.{IsSectionRight, SectionLacks, LacksUpTo}

pub front_lacks : (old new : StoreState) (now : SourceState) (next end : ℕ) (result : Result (Result Section FailedRule) ReadingRefused) → WasRead old new next end now.faults → now.left ≡ front_left new.bytes next end
    → ReadsSection (checked_front old end) now result → SectionLacks old end new.asked result
front_lacks old new now next end (Ok it) was left reads = tt
front_lacks old new now next end (Err (scans.Fault faults)) was left reads = tt
front_lacks old new now next end (Err (scans.Grammar offset rule)) was left reads = tt
front_lacks old new now next end (Err (scans.Compressed offset name)) was left reads = tt
front_lacks old new now next end (Err (scans.Limit offset)) was left reads = tt
front_lacks old new now next end (Err scans.Memory) was left (tops, stands) = λ file told long.
    let given : now.left ≡ Some (drop next (take end file)) = left ∙ ap (λ (t : Option (List ℕ)). front_left t next end) (was.bytes ∙ told) in
    let leaves = stands.leaves (take end file) (ap (λ (t : Option (List ℕ)). front_left t 0 end) told) in
    let whole = was.whole stands.still in (
      next,
      record {
        within = omega (arith, was.within, length-take-le end file long);
        tops = tops;
        good = stands.good;
        leaves = subst (MemoryLeaves (take end file) tops) given leaves;
      },
      whole.1,
    )

pub section_right : (file : List ℕ) (end : ℕ) (section : Section) → IsSectionRead file end section → IsSectionRight (take end file)
section_right file end section is = record { tops = is.tops; rest = is.rest; stand = is.stand; good = is.good; ended = is.ended; v9 = is.v9 }

-- where the reading of the section was refused
pub refused_lack : (old : StoreState) (end mid now : ℕ) (file : List ℕ) (why : ReadingRefused) → why ≡ scans.Memory → now ≤ mid → SectionLacks old end mid (Err why) → old.bytes ≡ Some file → end ≤ length file → LacksUpTo end file old.asked now
refused_lack old end mid now file why is few lacks told long =
    let (read, shows, asked) = subst (λ (w : ReadingRefused). SectionLacks old end mid (Err w)) is lacks file told long in
    inr (read, shows, omega (arith, few, asked))

-- what was asked for before
pub lack_later : (end : ℕ) (file : List ℕ) (before mid now : ℕ) → mid ≤ before → LacksUpTo end file mid now → LacksUpTo end file before now
lack_later end file before mid now less (inl right) = inl right
lack_later end file before mid now less (inr (read, shows, asked)) = inr (read, shows, omega (arith, less, asked))
