-- The messages of inputs that are held.
use Rattle.std.proofs.Common.{◌≡◌, ◌⊎◌, ℕ, ◌+◌, ◌*◌, ◌<◌, ◌≤◌, Bool, true, false, List, length, get_or, refl, sym, subst, inl, inr, ◌∙◌, arith}
use Rattle.std.proofs.Math.Nat.{eq-or-lt_of_le}
use Rattle.mcap_model.specs.Places.{At, Has, Each}
use Rattle.mcap_model.specs.Tops.{Top}
use Rattle.mcap_model.specs.Kept.{reading_limits, Good}
use Rattle.mcap_model.specs.Scan.{Seen, Scan}
use Rattle.mcap_model.specs.Merged.{Sent, IsFrom}
use Rattle.mcap_model.proofs.Places.{at_one, at_within, at_read}
use Rattle.mcap_model.proofs.NamedTopics.{zip_front, zip_back, unmapped}
use Rattle.mcap_model.proofs.Flat.{at_mapped, good_lists_are_scanned}
use Rattle.mcap_merge.specs.declared.input.Input.{Input}
use Rattle.mcap_merge.specs.Inputs.{HoldsInput, HoldInputs}
use Rattle.mcap_merge.specs.ReadInputs.{Read, read_tops}
use Rattle.mcap_merge.specs.Contents.{id_place}
use Rattle.mcap_merge.specs.Joining.{IsAskedFor}

abbrev pub sent : ℕ → Seen → Sent
sent input seen = record { input = input; seen = seen }

-- the records are good, and these are their messages
abbrev pub AreScanned : List Read → Type 0
AreScanned reads = Each (λ r. Good reading_limits r.tops × Scan r.tops r.messages) reads

-- ---- a message of the inputs

pub record FromRead (reads : List Read) (m : Sent) : Type 0 where
  pub read : Read
  pub at : At reads m.input read
  pub has : Has read.messages m.seen

pub from_read : (reads : List Read) (m : Sent) → AreScanned reads → IsFrom (read_tops reads) m → FromRead reads m
from_read reads m scanned from =
    let (r, at, same) = unmapped (λ (x : Read). x.tops) reads m.input from.tops from.at in
    let (good, there) = scanned m.input r at in
    let only = (good_lists_are_scanned reading_limits r.tops good).2 in
    let scan : Scan r.tops from.messages = subst (λ (l : List Top). Scan l from.messages) (sym same) from.scan in
    let equal : from.messages ≡ r.messages = only from.messages scan ∙ sym (only r.messages there) in
    record { read = r; at = at; has = (from.has.0, subst (λ (l : List Seen). At l from.has.0 m.seen) equal from.has.1) }

pub are_scanned : (reads : List Read) (inputs : List Input) → HoldInputs reads inputs → AreScanned reads
are_scanned reads inputs hold n r at =
    let (input, here, holds) = zip_front HoldsInput reads inputs n r hold at in
    (holds.good, holds.scan)

pub record HeldMessage (reads : List Read) (inputs : List Input) (m : Sent) : Type 0 where
  pub read : Read
  pub at : At reads m.input read
  pub has : Has read.messages m.seen
  pub input : Input
  pub here : At inputs m.input input
  pub holds : HoldsInput read input

pub held_message : (reads : List Read) (inputs : List Input) (m : Sent) → HoldInputs reads inputs → IsFrom (read_tops reads) m → HeldMessage reads inputs m
held_message reads inputs m hold from =
    let found = from_read reads m (are_scanned reads inputs hold) from in
    let (input, here, holds) = zip_front HoldsInput reads inputs m.input found.read hold found.at in
    record { read = found.read; at = found.at; has = found.has; input = input; here = here; holds = holds }

pub message_from : (reads : List Read) (number : ℕ) (r : Read) (s : Seen) → At reads number r → Scan r.tops r.messages → Has r.messages s → IsFrom (read_tops reads) (sent number s)
message_from reads number r s at scan has = record {
  tops = r.tops;
  at = at_mapped (λ (x : Read). x.tops) reads number r at;
  messages = r.messages;
  scan = scan;
  has = has;
}

-- ---- places of channels

pub channel_short : (reads : List Read) (inputs : List Input) (m : Sent) → HeldMessage reads inputs m → m.seen.channel < 65536
channel_short reads inputs m held =
    let used = held.holds.used_are in
    let within = at_within held.input.used.items m.seen.channel true (used.all m.seen held.has) in
    omega (arith, within, used.size)

-- all places are gone through
pub place_within : (reads : List Read) (inputs : List Input) (m : Sent) (place : ℕ) → HoldInputs reads inputs → IsFrom (read_tops reads) m → length inputs * 65536 ≤ place → id_place m < place
place_within reads inputs m place hold from all =
    let held = held_message reads inputs m hold from in
    let short = channel_short reads inputs m held in
    let within = at_within inputs m.input held.input held.here in
    omega (arith, all, short, within)

pub either_place : (m : Sent) (place : ℕ) → id_place m < place + 1 → (id_place m < place) ⊎ (id_place m ≡ place)
either_place m place less = elim (eq-or-lt_of_le {n = id_place m} {m = place} (omega (arith, less))) [
  | inl same ↦ inr same
  | inr below ↦ inl below
]

-- the message is on the channel of that place
pub record IsThere (m : Sent) (number source : ℕ) : Type 0 where
  pub input : m.input ≡ number
  pub channel : m.seen.channel ≡ source

pub is_there : (reads : List Read) (inputs : List Input) (m : Sent) (place number source : ℕ) → HoldInputs reads inputs → IsFrom (read_tops reads) m → place ≡ number * 65536 + source → source < 65536 → id_place m ≡ place → IsThere m number source
is_there reads inputs m place number source hold from is small same =
    let short = channel_short reads inputs m (held_message reads inputs m hold from) in
    record { input = omega (arith, is, small, same, short); channel = omega (arith, is, small, same, short) }

-- a channel that is marked has a message, for which its content is asked
pub asked_at : (reads : List Read) (inputs : List Input) (number source : ℕ) (input : Input) → HoldInputs reads inputs → At inputs number input → At input.used.items source true
    → (m : Sent) × (m.input ≡ number) × IsAskedFor (read_tops reads) m source input.tables
asked_at reads inputs number source input hold here marked =
    let (r, at, holds) = zip_back HoldsInput reads inputs number input hold here in
    let are = holds.used_are.are in
    let (s, has, on) = are source marked in (
      sent number s,
      refl,
      record {
        from = message_from reads number r s at holds.scan has;
        tops = r.tops;
        at = at_mapped (λ (x : Read). x.tops) reads number r at;
        on = on;
        tables_are = holds.tables_are;
      },
    )

-- one that isn't has none
pub not_there : (reads : List Read) (inputs : List Input) (m : Sent) (number source : ℕ) (input : Input) → HoldInputs reads inputs → IsFrom (read_tops reads) m → At inputs number input → At input.used.items source false → IsThere m number source → ⊥
not_there reads inputs m number source input hold from here unmarked there =
    let held = held_message reads inputs m hold from in
    let all = held.holds.used_are.all in
    let same : held.input ≡ input = at_one inputs number held.input input (subst (λ (n : ℕ). At inputs n held.input) there.input held.here) here in
    let marked : At input.used.items source true = subst (λ (n : ℕ). At input.used.items n true) there.channel (subst (λ (i : Input). At i.used.items m.seen.channel true) same (all m.seen held.has)) in
    true_false (at_one input.used.items source true false marked unmarked)
  where
    true_false : true ≡ false → ⊥
    true_false e = cc

-- ---- what is read of the marks

pub used_sized : (inputs : List Input) (number : ℕ) (input : Input) → ((reads : List Read) × HoldInputs reads inputs) → At inputs number input → length input.used.items ≡ 65536
used_sized inputs number input (reads, hold) here =
    let (r, at, holds) = zip_back HoldsInput reads inputs number input hold here in
    holds.used_are.size

pub mark_read : (marks : List Bool) (n : ℕ) (x mark : Bool) → length marks ≡ 65536 → n < 65536 → x ≡ get_or marks n x → x ≡ mark → At marks n mark
mark_read marks n x mark size small is same =
    let within : n < length marks = omega (arith, size, small) in
    subst (At marks n) (sym is ∙ same) (at_read marks n x within)
