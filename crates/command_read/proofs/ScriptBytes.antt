-- What the reading of a script comes to.
use Rattle.std.proofs.Common.{◌≡◌, ℕ, ◌+◌, ◌<◌, ◌≤◌, List, ◌++◌, length, take, drop, Some, Result, Ok, Err, sym, ap, subst, inl, inr, ◌∙◌, length-take, length-append, drop-drop, arith}
use Rattle.std.specs.Prelude.{Vec, IfOk, IfErr}
use Rattle.std.specs.Global.{Global}
use Rattle.std.proofs.lemmas.List.{take_all, drop_all}
use Rattle.std.proofs.Math.Seq.{take-add}
use Rattle.mcap_io.specs.Outside.{RisesOnce, SourceState}
use Rattle.time_player.specs.declared.timed_lines.Stretch.{Stretch}
use Rattle.time_player.specs.Stretches.{TimedLine}
use Rattle.command_read.specs.declared.scripting.ScriptUnread.{ScriptUnread}
use Rattle.command_read.specs.declared.scripting.ScriptUnread.TheVariants as unread
use Rattle.command_read.specs.Play.{IsScriptRead, IsTooLong, IsReadWithin, IsScriptUnread}
use Rattle.command_read.specs.PlaySteps.{Fronts, LosesFront, Unfronts, Shows, Refuses, ScriptShows}

-- ---- the bytes

-- a reading that ended early read all
pub read_whole : (before now : SourceState) (len : ℕ) (bytes : List ℕ) → Fronts before now len bytes → length bytes < len → length bytes ≤ 67108864 → IsScriptRead before now bytes
read_whole before now len bytes fronts early few = record {
  still = fronts.still;
  few = few;
  told = λ rest here. sym ((fronts.taken rest here).given ∙ take_all len rest (short rest here));
  ended = λ rest here. (fronts.taken rest here).after ∙ ap (λ (l : List ℕ). Some l) (drop_all len rest (short rest here));
}
  where
    short : (rest : List ℕ) → before.left ≡ Some rest → length rest ≤ len
    short rest here =
        let size : length bytes ≡ length (take len rest) = ap (λ (l : List ℕ). length l) (fronts.taken rest here).given in
        omega (arith, size, early, length-take len rest)

pub read_long : (before now : SourceState) (bytes : List ℕ) → Fronts before now 67108865 bytes → 67108864 < length bytes → IsTooLong before now
read_long before now bytes fronts many = record {
  still = fronts.still;
  long = λ rest here.
      let size : length bytes ≡ length (take 67108865 rest) = ap (λ (l : List ℕ). length l) (fronts.taken rest here).given in
      omega (arith, size, many, length-take 67108865 rest);
  left = λ rest here. (fronts.taken rest here).after;
}

-- ---- a first part, and the rest of them

module _ (before mid : SourceState) (first : List ℕ) (fronts : Fronts before mid 65536 first) (full : length first ≡ 65536) where
  not_short : (rest : List ℕ) → before.left ≡ Some rest → 65536 ≤ length rest
  not_short rest here =
      let size : length first ≡ length (take 65536 rest) = ap (λ (l : List ℕ). length l) (fronts.taken rest here).given in
      omega (arith, size, full, length-take 65536 rest)

  pub joined : (now : SourceState) (more : List ℕ) → Fronts mid now 67043329 more → Fronts before now 67108865 (first ++ more)
  joined now more next = record {
    still = next.still ∙ fronts.still;
    few = let few = next.few in omega (arith, length-append first more, full, few);
    taken = λ rest here.
        let one = fronts.taken rest here in
        let two = next.taken (drop 65536 rest) one.after in
        record {
          given = ap (λ (l : List ℕ). l ++ more) one.given ∙ ap (λ (l : List ℕ). take 65536 rest ++ l) two.given ∙ sym (take-add 65536 67043329 rest);
          after = two.after ∙ ap (λ (l : List ℕ). Some l) (drop-drop 67043329 65536 rest);
        };
  }

  lost_on : (now : SourceState) → LosesFront mid now 67043329 → IsReadWithin before now
  lost_on now loses rest here =
      let (n, less, left) = loses (drop 65536 rest) (fronts.taken rest here).after in
      (65536 + n, omega (arith, less), left ∙ ap (λ (l : List ℕ). Some l) (drop-drop n 65536 rest))

  pub rest_unread : (now : SourceState) (why : ScriptUnread) → Unfronts mid now 67043329 why → IsScriptUnread before now why
  rest_unread now (unread.Fault faults) is = record { rises = subst (λ (n : ℕ). RisesOnce n now.faults) fronts.still is.0; carried = is.1; left = lost_on now is.2 }
  rest_unread now unread.TooLong is = absurd is
  rest_unread now (unread.BadLine n) is = absurd is
  rest_unread now unread.TooMany is = absurd is
  rest_unread now unread.Memory is = inr (inl (record { still = is.0 ∙ fronts.still; long = not_short; left = lost_on now is.1 }))

  -- memory lacked for both together
  pub lacks_both : (now : SourceState) (bytes : List ℕ) → IsScriptRead before now bytes → IsScriptUnread before now unread.Memory
  lacks_both now bytes read = inr (inl (record { still = read.still; long = not_short; left = within }))
    where
      within : IsReadWithin before now
      within rest here =
          let size : length rest ≡ length bytes = ap (λ (l : List ℕ). length l) (read.told rest here) in
          let few = read.few in
          (length rest, omega (arith, size, few), read.ended rest here ∙ ap (λ (l : List ℕ). Some l) (sym (drop_all (length rest) rest (omega arith))))

pub front_unread : (before now : SourceState) (why : ScriptUnread) → Unfronts before now 65536 why → IsScriptUnread before now why
front_unread before now (unread.Fault faults) is = record {
  rises = is.0;
  carried = is.1;
  left = λ rest here. let (n, less, left) = is.2 rest here in (n, omega (arith, less), left);
}
front_unread before now unread.TooLong is = absurd is
front_unread before now (unread.BadLine n) is = absurd is
front_unread before now unread.TooMany is = absurd is
front_unread before now unread.Memory is = inl (is.2 (omega arith))

-- ---- what they show

-- what bytes that were read show
pub shows_read : (lines : List TimedLine) (before now : SourceState) (bytes : List ℕ) (result : Result (Vec Stretch Global) ScriptUnread) → IsScriptRead before now bytes
    → IfOk result (λ (s : Vec Stretch Global). Shows lines bytes s.items) → IfErr result (λ (why : ScriptUnread). Refuses bytes why) → ScriptShows lines before now result
shows_read lines before now bytes (Ok stretches) read shows none = (bytes, read, shows)
shows_read lines before now bytes (Err why) read none refuses = by why refuses
  where
    by : (w : ScriptUnread) → Refuses bytes w → IsScriptUnread before now w
    by (unread.Fault faults) is = absurd is
    by unread.TooLong is = absurd is
    by (unread.BadLine n) is = (bytes, read, is)
    by unread.TooMany is = (bytes, read, is)
    by unread.Memory is = inr (inr (bytes, is.0, read, is.1))
