-- A file that is read to its Data End is played by a script, or memory lacked.
use Rattle.std.proofs.Common.{ℕ, List, inl, inr, arith}
use Rattle.mcap_io.specs.Outside.{SinkState}
use Rattle.mcap_model.specs.Kept.{at_end}
use Rattle.mcap_model.specs.Scan.{Seen}
use Rattle.play_clock.specs.Laws.{ScriptsHaveNoBadLine}
use Rattle.command_base.specs.declared.statuses.Status.{Status}
use Rattle.command_read.specs.Play.{ScriptDecides, too_long, too_many, bad, played}
use Rattle.mcap_app.specs.Completeness.{IsAllDone, CanBePlayed, PlaysSucceed}

played_well : ScriptsHaveNoBadLine → (shown : List Seen) (given : List ℕ) (before now : SinkState) (status : Status) → CanBePlayed given → ScriptDecides shown given before now status → IsAllDone status
played_well no_bad shown given before now status can (too_long long same is) = let few = can.few in absurd (omega (arith, few, long))
played_well no_bad shown given before now status can (too_many within many same is) = let script = can.are in let few = script.few in absurd (omega (arith, few, many))
played_well no_bad shown given before now status can (bad n within line same is) = absurd (no_bad given can.lines n can.are line)
played_well no_bad shown given before now status can (played lines text within script shows tells is) = inl is

pub plays_succeed : ScriptsHaveNoBadLine → PlaysSucceed
plays_succeed no_bad asked file script bytes given told old new status plays calm there here (tops, end, halts) can =
    elim (plays.decided told bytes given tops (at_end end) calm.tells there here halts calm.quiet) [
      | inl (messages, shown, scan, replay, decides) ↦ played_well no_bad shown given old.out new.out status can decides
      | inr lacked ↦ inr lacked
    ]
