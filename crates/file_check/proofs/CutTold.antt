-- What is told of a file that lacks one of its magics.
use Rattle.std.proofs.Common.{◌≡◌, ℕ, ◌+◌, ◌-◌, ◌<◌, Bool, List, [], Option, length, take, Some, Ok, Err, false, refl, sym, ap, subst, inl, inr, ◌∙◌, arith}
use Rattle.std.specs.Prelude.{if◌then◌else◌}
use Rattle.std.proofs.lemmas.Bool.{false_from_ne_true, leb-true, le-leb}
use Rattle.std.proofs.lemmas.List.{take_all, length-append}
use Rattle.mcap_wire.specs.Layout.{magic}
use Rattle.mcap_io.specs.Outside.{SourceState}
use Rattle.mcap_io.specs.Stores.{StoreState}
use Rattle.mcap_io.specs.StoreSources.{front_left}
use Rattle.mcap_model.specs.declared.checked.Verdict.TheVariants as verdicts
use Rattle.mcap_model.specs.Tops.{Top, Tops, has_head}
use Rattle.mcap_model.specs.Rules.{V1}
use Rattle.mcap_model.specs.Kept.{reading_limits, Halt, at_end, grammar, Halts, short_head}
use Rattle.mcap_model.proofs.TakenRecords.{none_good, halted, ended}
use Rattle.mcap_scan.specs.RefusedReadings.{HaltsSo}
use Rattle.index_check.specs.declared.section.Section.{Section}
use Rattle.file_check.specs.declared.flaws.FailedRule.{FailedRule}
use Rattle.mcap_model.specs.declared.refusals.ReadingRefused.{ReadingRefused}
use Rattle.mcap_model.specs.declared.refusals.ReadingRefused.TheVariants as refusals
use Rattle.mcap_model.specs.declared.rules.Rule.TheVariants as rules
use Rattle.file_check.specs.Reading.{IndexIsWrong, ReadsSection}
use Rattle.file_check.specs.Halting.{failed_at, lacks_magic}
use Rattle.file_check.specs.Checking.{IsFault}
use Rattle.file_check.specs.CheckSteps.{checked_front}
use Rattle.file_check.specs.CutFiles.{rule_told, NamesCut}
use Rattle.file_check.proofs.Refusing.{halted_at}

all_taken : (file : List ℕ) (len : ℕ) → length file ≡ len → take len file ≡ file
all_taken file len size = take_all len file (omega (arith, size))

-- the reading of all bytes halted so
pub halted_all : (old : StoreState) (now : SourceState) (told : Option (List ℕ)) (file : List ℕ) (len : ℕ) (tops : List Top) (halt : Halt) → old.bytes ≡ told → told ≡ Some file → length file ≡ len
    → HaltsSo (checked_front old len) now tops halt → Halts reading_limits file tops halt
halted_all old now told file len tops halt same is size so =
    subst (λ (l : List ℕ). Halts reading_limits l tops halt) (all_taken file len size) (halted_at old now told file len tops halt same is so)

pub halt_told : (file : List ℕ) (len : ℕ) (tops : List Top) (halt : Halt) (f : FailedRule) → length file ≡ len → Halts reading_limits file tops halt → f ≡ rule_told len halt → NamesCut file (Ok (verdicts.Flawed f.rule f.offset))
halt_told file len tops halt f size halts is =
    let same : f ≡ rule_told (length file) halt = is ∙ ap (λ (n : ℕ). rule_told n halt) (sym size) in
    inl (record { tops = tops; halt = halt; halts = halts; rule_is = ap (λ (g : FailedRule). g.rule) same; offset_is = ap (λ (g : FailedRule). g.offset) same })

-- where the reading halts for no rule the last magic is missing
pub magic_told : (file : List ℕ) (len : ℕ) (tops : List Top) (halt : Halt) → length file ≡ len → Halts reading_limits file tops halt → rule_told len halt ≡ lacks_magic len → NamesCut file (Ok (verdicts.Flawed rules.V2 (len - 8)))
magic_told file len tops halt size halts is = halt_told file len tops halt (lacks_magic len) size halts (sym is)

pub index_is_told : (old : StoreState) (now : SourceState) (file : List ℕ) (len : ℕ) (failed : FailedRule) (tops : List Top) → old.bytes ≡ Some file → length file ≡ len
    → IndexIsWrong (checked_front old len) now tops failed → NamesCut file (Ok (verdicts.Flawed failed.rule failed.offset))
index_is_told old now file len failed tops told size wrong =
    let are = wrong.are_read in
    let left = are.read (take len file) (ap (λ (t : Option (List ℕ)). front_left t 0 len) told) in
    inr (record { rule_is = wrong.rule_is; tops = tops; rest = left.0; stand = subst (λ (l : List ℕ). Tops l tops left.0) (all_taken file len size) left.2; good = are.good; fails = wrong.fails })

-- a whole data section
pub end_told : (old : StoreState) (now : SourceState) (file : List ℕ) (len : ℕ) (section : Section) → old.bytes ≡ Some file → length file ≡ len → ReadsSection (checked_front old len) now (Ok (Ok section)) → NamesCut file (Ok (verdicts.Flawed rules.V2 (len - 8)))
end_told old now file len section told size (tops, is) =
    let are = is.are_read in
    let left = are.read (take len file) (ap (λ (t : Option (List ℕ)). front_left t 0 len) told) in
    magic_told file len tops (at_end _) size (ended file tops left.0 (subst (λ (l : List ℕ). Tops l tops left.0) (all_taken file len size) left.2) are.good is.ended) refl

-- behind the first magic there are fewer bytes than a head has
pub short_told : (file : List ℕ) (len : ℕ) → V1 file → length file ≡ len → len < 16 → NamesCut file (Ok (verdicts.Flawed rules.V2 (len - 8)))
short_told file len (rest, split) size short =
    let total : len ≡ 8 + length rest = sym size ∙ ap length split ∙ length-append magic rest in
    let headless : has_head rest ≡ false = false_from_ne_true (has_head rest) (λ yes. omega (arith, leb-true 9 (length rest) yes, total, short)) in
    magic_told file len [] (grammar 8 rules.V4) size (halted file [] rest (grammar 8 rules.V4) (record { split = split }) none_good (λ none. none) (short_head headless))
    (ap (λ (b : Bool). if b then lacks_magic len else failed_at 8 rules.V4) (le-leb (len - 8) 8 (omega (arith, short))))

pub fault_cut : (file : List ℕ) (why : ReadingRefused) → IsFault why → NamesCut file (Err why)
fault_cut file (refusals.Fault faults) is = tt
fault_cut file (refusals.Grammar offset rule) is = absurd is
fault_cut file (refusals.Compressed offset name) is = absurd is
fault_cut file (refusals.Limit offset) is = absurd is
fault_cut file refusals.Memory is = absurd is
