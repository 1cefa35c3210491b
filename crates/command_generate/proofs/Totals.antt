-- Totals over the messages of a history, of which a list gives each once.
use Rattle.std.proofs.Common.{◌≡◌, ℕ, zero, suc, ◌+◌, List, [], ◌∷◌, ◌++◌, length, set, get_or, filter, refl, sym, ap, inl, inr, ◌∙◌, arith}
use Rattle.std.specs.List.{AllZip, sum_by}
use Rattle.std.proofs.lemmas.List.Sums.{sum_by-cons, sum_by-set}
use Rattle.rec_data.specs.declared.owned.Rec.{Rec}
use Rattle.rec_data.specs.declared.owned.Rec.TheVariants.{Schema, Channel, Message, Extra}
use Rattle.mcap_model.specs.Places.{At, Has, Each}
use Rattle.mcap_model.specs.Fields.{MessageFields}
use Rattle.mcap_model.specs.Scan.{Seen}
use Rattle.mcap_model.specs.History.{message_of, is_message}
use Rattle.mcap_model.specs.Laws.{HoldsSeen}
use Rattle.mcap_model.proofs.Places.{at_none, at_one, at_within, at_read, at_set, at_set_other}
use Rattle.mcap_model.proofs.Lists.{at_either}
use Rattle.std.proofs.lemmas.Option.{same_Some}
use Rattle.command_generate.specs.SumReading.{fields_seen}

-- ---- what a record weighs

abbrev pub weight : (MessageFields → ℕ) → Rec → ℕ
weight f (Schema id schema) = 0
weight f (Channel id schema topic encoding metadata) = 0
weight f (Message channel sequence log_time publish_time payload) = f (record { sequence = sequence; log_time = log_time; publish_time = publish_time; payload = payload })
weight f (Extra op content) = 0

-- a place of a history, and the message there
pub record Spot : Type 0 where
  pub place : ℕ
  pub message : MessageFields

abbrev pub of_spot : (MessageFields → ℕ) → Spot → ℕ
of_spot f p = f p.message

-- it stands there, on some channel
abbrev pub IsThere : List Rec → Spot → Type 0
IsThere history p = (channel : ℕ) × At history p.place (message_of channel p.message)

-- no two of the places are one
abbrev pub AreApart : List Spot → Type 0
AreApart [] = Unit {0}
AreApart (p ∷ ps) = Each (λ (q : Spot). p.place ≡ q.place → ⊥) ps × AreApart ps

-- each message of the history stands at one of them
abbrev pub AreAll : List Rec → List Spot → Type 0
AreAll history ps = (place channel : ℕ) (m : MessageFields) → At history place (message_of channel m) → (p : Spot) × Has ps p × (p.place ≡ place)

-- ---- the total

no_weight : (f : MessageFields → ℕ) (history : List Rec) → ((place channel : ℕ) (m : MessageFields) → At history place (message_of channel m) → ⊥) → sum_by (weight f) history ≡ 0
no_weight f [] none = refl
no_weight f (Schema id schema ∷ rs) none =
    let all : sum_by (weight f) (Schema id schema ∷ rs) ≡ 0 + sum_by (weight f) rs = sum_by-cons (weight f) (Schema id schema) rs in
    let more = no_weight f rs (λ place channel m at. none (suc place) channel m at) in
    omega (arith, all, more)
no_weight f (Channel id schema topic encoding metadata ∷ rs) none =
    let all : sum_by (weight f) (Channel id schema topic encoding metadata ∷ rs) ≡ 0 + sum_by (weight f) rs = sum_by-cons (weight f) (Channel id schema topic encoding metadata) rs in
    let more = no_weight f rs (λ place channel m at. none (suc place) channel m at) in
    omega (arith, all, more)
no_weight f (Message channel sequence log_time publish_time payload ∷ rs) none =
    absurd (none 0 channel (record { sequence = sequence; log_time = log_time; publish_time = publish_time; payload = payload }) refl)
no_weight f (Extra op content ∷ rs) none =
    let all : sum_by (weight f) (Extra op content ∷ rs) ≡ 0 + sum_by (weight f) rs = sum_by-cons (weight f) (Extra op content) rs in
    let more = no_weight f rs (λ place channel m at. none (suc place) channel m at) in
    omega (arith, all, more)

abbrev blank : Rec
blank = Schema 0 (record { name = []; encoding = []; payload = [] })

no_message : (channel : ℕ) (m : MessageFields) → blank ≡ message_of channel m → ⊥
no_message channel m same = absurd cc

-- a record that is blotted out
without : (f : MessageFields → ℕ) (history : List Rec) (place : ℕ) (r : Rec) → At history place r → sum_by (weight f) (set history place blank) + weight f r ≡ sum_by (weight f) history
without f history place r at =
    let within = at_within history place r at in
    let same : get_or history place blank ≡ r = at_one history place (get_or history place blank) r (at_read history place blank within) at in
    let all : sum_by (weight f) (set history place blank) + weight f (get_or history place blank) ≡ sum_by (weight f) history + 0 = sum_by-set (weight f) history place blank blank within in
    let was = ap (weight f) same in
    omega (arith, all, was)

pub total_of : (f : MessageFields → ℕ) (history : List Rec) (ps : List Spot) → Each (IsThere history) ps → AreApart ps → AreAll history ps → sum_by (weight f) history ≡ sum_by (of_spot f) ps
total_of f history [] there apart all = no_weight f history (λ place channel m at. let one = all place channel m at in let has = one.1 in at_none has.0 one.0 has.1)
total_of f history (p ∷ ps) there apart all =
    let here = there 0 p refl in
    let r = message_of here.0 p.message in
    let rest = set history p.place blank in
    let first : sum_by (weight f) rest + f p.message ≡ sum_by (weight f) history = without f history p.place r here.1 in
    let more : sum_by (weight f) rest ≡ sum_by (of_spot f) ps = total_of f rest ps others apart.1 all_others in
    let joined : sum_by (of_spot f) (p ∷ ps) ≡ f p.message + sum_by (of_spot f) ps = sum_by-cons (of_spot f) p ps in
    omega (arith, first, more, joined)
  where
    others : Each (IsThere (set history p.place blank)) ps
    others k q at =
        let one = there (suc k) q at in
        (one.0, at_set_other history p.place q.place (message_of one.0 q.message) blank (λ e. apart.0 k q at (sym e)) one.1)

    behind : (place n : ℕ) (q : Spot) → At (p ∷ ps) n q → q.place ≡ place → (place ≡ p.place → ⊥) → (s : Spot) × Has ps s × (s.place ≡ place)
    behind place zero q at same other = absurd (other (sym same ∙ ap (λ (s : Spot). s.place) (sym (same_Some p q at))))
    behind place (suc n) q at same other = (q, (n, at), same)

    all_others : AreAll (set history p.place blank) ps
    all_others place channel m at = elim (at_set history p.place place (message_of channel m) blank at) [
      | inl new ↦ absurd (no_message channel m (sym new.1))
      | inr old ↦
          let found = all place channel m old.1 in
          let has = found.1 in
          behind place has.0 found.0 has.1 found.2 old.0
    ]

-- ---- joined lists

pub apart_joined : (ps qs : List Spot) → AreApart ps → AreApart qs → ((p q : Spot) → Has ps p → Has qs q → p.place ≡ q.place → ⊥) → AreApart (ps ++ qs)
apart_joined [] qs first second cross = second
apart_joined (p ∷ ps) qs first second cross = (each, apart_joined ps qs first.1 second (λ s q has other same. cross s q (suc has.0, has.1) other same))
  where
    each : Each (λ (q : Spot). p.place ≡ q.place → ⊥) (ps ++ qs)
    each n q at = elim (at_either ps qs n q at) [
      | inl front ↦ first.0 n q front
      | inr (k, there, back) ↦ cross p q (0, refl) (k, back)
    ]

-- ---- the messages that are seen

seen_weight : (f : MessageFields → ℕ) (r : Rec) (s : Seen) → HoldsSeen r s → weight f r ≡ f s.message
seen_weight f r s is = ap (weight f) is

pub seen_total : (f : MessageFields → ℕ) (history : List Rec) (messages : List Seen) → AllZip HoldsSeen (filter is_message history) messages → sum_by f (fields_seen messages) ≡ sum_by (weight f) history
seen_total f [] [] zip = refl
seen_total f [] (s ∷ ss) zip = absurd zip
seen_total f (Schema id schema ∷ rs) messages zip =
    let all : sum_by (weight f) (Schema id schema ∷ rs) ≡ 0 + sum_by (weight f) rs = sum_by-cons (weight f) (Schema id schema) rs in
    let more = seen_total f rs messages zip in
    omega (arith, all, more)
seen_total f (Channel id schema topic encoding metadata ∷ rs) messages zip =
    let all : sum_by (weight f) (Channel id schema topic encoding metadata ∷ rs) ≡ 0 + sum_by (weight f) rs = sum_by-cons (weight f) (Channel id schema topic encoding metadata) rs in
    let more = seen_total f rs messages zip in
    omega (arith, all, more)
seen_total f (Message channel sequence log_time publish_time payload ∷ rs) [] zip = absurd zip
seen_total f (Message channel sequence log_time publish_time payload ∷ rs) (s ∷ ss) zip =
    let r = Message channel sequence log_time publish_time payload in
    let first = seen_weight f r s zip.0 in
    let more = seen_total f rs ss zip.1 in
    let one = sum_by-cons f s.message (fields_seen ss) in
    let other = sum_by-cons (weight f) r rs in
    omega (arith, first, more, one, other)
seen_total f (Extra op content ∷ rs) messages zip =
    let all : sum_by (weight f) (Extra op content ∷ rs) ≡ 0 + sum_by (weight f) rs = sum_by-cons (weight f) (Extra op content) rs in
    let more = seen_total f rs messages zip in
    omega (arith, all, more)

-- ---- counting

abbrev pub one_each : MessageFields → ℕ
one_each m = 1

pub counted : (ms : List MessageFields) → length ms ≡ sum_by one_each ms
counted [] = refl
counted (m ∷ ms) = let more = counted ms in let all = sum_by-cons one_each m ms in omega (arith, more, all)
