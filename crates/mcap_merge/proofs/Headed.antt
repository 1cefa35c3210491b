-- Messages whose contents meet their layout.
use Rattle.std.proofs.Common.{◌≡◌, ℕ, ◌≤◌, Bool, true, false, List, [], ◌∷◌, ◌++◌, length, cond, refl, ap, ◌∙◌, arith}
use Rattle.std.specs.Prelude.{filter, ◌&&◌, nat_le}
use Rattle.std.specs.List.{AllZip}
use Rattle.std.proofs.lemmas.Bool.{and_from, and_parts, eq-eqb, le-leb}
use Rattle.std.proofs.lemmas.List.{length-append}
use Rattle.mcap_wire.specs.Layout.{le}
use Rattle.mcap_wire.proofs.Numbers.{length-le}
use Rattle.rec_data.specs.Records.{ShowsMessage}
use Rattle.mcap_model.specs.Tops.{Top, Placed}
use Rattle.mcap_model.specs.Fields.{MessageFields, IsMessage}
use Rattle.mcap_model.specs.Scan.{Seen, IsSeen, is_message_top}
use Rattle.mcap_scan.specs.HeadTimes.{is_headed}

-- a content that shows a message has its fields
shown_long : (content : List ℕ) (channel : ℕ) (m : MessageFields) → ShowsMessage content channel m → 22 ≤ length content
shown_long content channel m shows =
    let size = ap length shows.spelled_there in
    let two = length-append (le 2 channel) (le 4 m.sequence ++ (le 8 m.log_time ++ (le 8 m.publish_time ++ m.payload))) in
    let four = length-append (le 4 m.sequence) (le 8 m.log_time ++ (le 8 m.publish_time ++ m.payload)) in
    let eight = length-append (le 8 m.log_time) (le 8 m.publish_time ++ m.payload) in
    let last = length-append (le 8 m.publish_time) m.payload in
    omega (arith, size, two, four, eight, last, length-le 2 channel, length-le 4 m.sequence, length-le 8 m.log_time, length-le 8 m.publish_time)

pub message_headed : (t : Top) (channel : ℕ) (m : MessageFields) → IsMessage t channel m → is_headed t ≡ true
message_headed t channel m is = and_from (is_message_top t) (nat_le 22 (length t.content)) (eq-eqb t.op 5 is.kind) (le-leb 22 (length t.content) (shown_long t.content channel m is.layout))

pub headed_message : (t : Top) → is_headed t ≡ true → is_message_top t ≡ true
headed_message t is = (and_parts (is_message_top t) (nat_le 22 (length t.content)) is).0

abbrev has_message : Placed → Bool
has_message p = is_message_top p.top

abbrev has_head : Placed → Bool
has_head p = is_headed p.top

-- all Messages of a scan are such
pub scan_headed : (records : List Top) (ps : List Placed) (messages : List Seen) → AllZip (IsSeen records) (filter has_message ps) messages → filter has_head ps ≡ filter has_message ps
scan_headed records [] messages zip = refl
scan_headed records (p ∷ ps) messages zip = by (λ ms zips. scan_headed records ps ms zips) (is_message_top p.top) refl messages zip
  where
    other : is_message_top p.top ≡ false → is_headed p.top ≡ false
    other is = ap (λ (b : Bool). b && nat_le 22 (length p.top.content)) is

    by : ((ms : List Seen) → AllZip (IsSeen records) (filter has_message ps) ms → filter has_head ps ≡ filter has_message ps) → (b : Bool) → is_message_top p.top ≡ b → (ms : List Seen) → AllZip (IsSeen records) (cond b (p ∷ filter has_message ps) (filter has_message ps)) ms
        → cond (is_headed p.top) (p ∷ filter has_head ps) (filter has_head ps) ≡ cond b (p ∷ filter has_message ps) (filter has_message ps)
    by rest true is [] zips = absurd zips
    by rest true is (m ∷ ms) zips =
        ap (λ (c : Bool). cond c (p ∷ filter has_head ps) (filter has_head ps)) (message_headed p.top m.channel m.message zips.0.is)
        ∙ ap (λ (l : List Placed). p ∷ l) (rest ms zips.1)
    by rest false is ms zips =
        ap (λ (c : Bool). cond c (p ∷ filter has_head ps) (filter has_head ps)) (other is)
        ∙ rest ms zips
