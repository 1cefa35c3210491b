-- There are no more records in a text than bytes.
use Rattle.std.proofs.Common.{ℕ, zero, suc, ◌+◌, ◌≤◌, Bool, true, false, List, [], ◌∷◌, length, take, drop, cond, arith}
use Rattle.std.proofs.lemmas.List.{length-append, length-take, length-drop}
use Rattle.mcap_wire.proofs.Framing.{length-framed}
use Rattle.rec_data.specs.declared.owned.Rec.{Rec}
use Rattle.rec_data.specs.declared.owned.Rec.TheVariants.{Schema, Channel, Message, Extra}
use Rattle.rec_data.specs.Owned.{rec_bytes, rec_opcode, rec_text}
use Rattle.mcap_model.specs.Tops.{first_top, behind_first, begins_record, first_records, records_in, chunk_records}
use Rattle.mcap_model.specs.History.{history_bytes}
use Rattle.mcap_model.specs.Blocks.{logged_one, logged_from}

first_short : (n : ℕ) (bytes : List ℕ) → length (first_records n bytes) ≤ n
first_short zero bytes = omega arith
first_short (suc n) bytes = by (begins_record bytes) (first_short n (behind_first bytes))
  where
    by : (b : Bool) → length (first_records n (behind_first bytes)) ≤ n → length (cond b (first_top bytes ∷ first_records n (behind_first bytes)) []) ≤ suc n
    by true short = omega (arith, short)
    by false short = omega arith

pub records_short : (bytes : List ℕ) → length (records_in bytes) ≤ length bytes
unfolding records_in
records_short bytes = first_short (length bytes) bytes

pub chunk_short : (content : List ℕ) → length (chunk_records content) ≤ length content
unfolding chunk_records
chunk_short content = cut_short content _ _
  where
    cut_short : (bytes : List ℕ) (n at : ℕ) → length (take n (drop at bytes)) ≤ length bytes
    cut_short bytes n at = omega (arith, length-take n (drop at bytes), length-drop at bytes)

pub logged_few : (at : ℕ) (rs : List Rec) → length (logged_from at rs) ≤ length (history_bytes rs)
logged_few at [] = omega arith
logged_few at (r ∷ rs) =
    let rest = logged_few (at + length (rec_bytes r)) rs in
    let one = one_few at r in
    omega (arith, rest, one, length-framed (rec_opcode r) (rec_text r), length-append (logged_one at r) (logged_from (at + length (rec_bytes r)) rs), length-append (rec_bytes r) (history_bytes rs))
  where
    one_few : (at : ℕ) (r : Rec) → length (logged_one at r) ≤ 1
    one_few at (Schema id schema) = omega arith
    one_few at (Channel id schema topic encoding metadata) = omega arith
    one_few at (Message channel sequence log_time publish_time payload) = omega arith
    one_few at (Extra op content) = omega arith
