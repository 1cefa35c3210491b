-- A file of short contents meets no limit.
use Rattle.std.proofs.Common.{ℕ, ◌+◌, ◌≤◌, List, ◌∷◌, ◌++◌, length, take, ap, arith}
use Rattle.std.proofs.lemmas.Bool.{both_ways}
use Rattle.std.proofs.lemmas.List.{length-append}
use Rattle.mcap_wire.specs.Layout.{magic}
use Rattle.mcap_model.specs.Places.{At}
use Rattle.mcap_model.specs.Tops.{Top, top_bytes, spelled, offset_behind}
use Rattle.mcap_model.specs.Kept.{reading_limits, is_beyond}
use Rattle.mcap_model.specs.File.{file_of}
use Rattle.mcap_model.specs.Whole.{IsWhole}
use Rattle.mcap_model.proofs.Lists.{cut_at}
use Rattle.mcap_model.proofs.Readings.{length-top}
use Rattle.mcap_model.proofs.Files.{length-spelled_append}
use Rattle.mcap_model.proofs.Histories.{within_there}
use Rattle.mcap_laws.proofs.Validity.{files_are_valid}
use Rattle.file_check.specs.Laws.{ShortFilesMeetNoLimit, WrittenFilesMeetNoLimit}
use Rattle.file_check.proofs.RealLimits.{limits_are_real}

-- a record ends in front of the last magic
ends_within : (file : List ℕ) (tops : List Top) (n : ℕ) (t : Top) → IsWhole file tops → At tops n t → offset_behind (take n tops) + 9 + length t.content ≤ length file
ends_within file tops n t whole at =
    let cut = cut_at tops n t at in
    let size = ap (λ (l : List Top). length (spelled l)) cut.1 in
    omega (arith, size, length-spelled_append (take n tops) (t ∷ cut.0), length-append (top_bytes t) (spelled cut.0), length-top t, ap length whole.split, length-append magic (spelled tops ++ magic), length-append (spelled tops) magic)

pub short_files_meet_no_limit : ShortFilesMeetNoLimit
short_files_meet_no_limit file tops offset whole short meets =
    let past = limits_are_real file tops offset whole meets in
    let (n, at, there) = past.at in
    let contents = short.contents in
    let end = ends_within file tops n past.top whole at in
    both_ways (is_beyond reading_limits offset (length past.top.content)) (within_there offset (length past.top.content) (contents tops whole n past.top at) (omega (arith, end, there, short.whole))) past.past

pub written_files_meet_no_limit : WrittenFilesMeetNoLimit
written_files_meet_no_limit options extras history offset written short meets =
    let (tops, valid) = files_are_valid options extras history written in
    short_files_meet_no_limit (file_of options extras history) tops offset valid.v4 short meets
