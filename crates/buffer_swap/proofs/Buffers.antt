-- What a buffer held before its last call, and where it begins.
use Rattle.std.proofs.Common.{◌≡◌, ℕ, zero, suc, ◌+◌, ◌-◌, ◌<◌, ◌≤◌, List, [], ◌∷◌, ◌++◌, length, take, drop, Option, Some, None, refl, sym, ap, subst, inl, inr, ◌∙◌, append-nil, length-append, arith}
use Rattle.std.proofs.lemmas.Option.{same_Some}
use Rattle.rec_data.specs.declared.owned.Rec.{Rec}
use Rattle.rec_data.specs.declared.channel.ChannelDef.{ChannelDef}
use Rattle.mcap_model.specs.declared.ends.End.{End}
use Rattle.mcap_model.specs.Places.{At, Each}
use Rattle.mcap_model.specs.History.{history_bytes}
use Rattle.mcap_model.proofs.Places.{at_more, has_last, pairs_more}
use Rattle.history_ids.specs.Ids.{channel_place, channel_id, new_at, new_records}
use Rattle.record_core.specs.Desk.{DeskView, accepted, swapped, ended}
use Rattle.buffer_swap.specs.Shown.{AreOfCall, HadRoom}
use Rattle.buffer_swap.specs.Turns.{BufferFits}
use Rattle.buffer_swap.proofs.Numbers.{are_added}
use Rattle.buffer_swap.proofs.Reasons.{MayHave}

-- ---- before the last call

-- a call adds its records to a buffer that is below the limit
pub room_added : (records more : List Rec) (limit : ℕ) → AreOfCall more → length (history_bytes records) < limit → HadRoom limit (records ++ more)
room_added records more limit added room = record { front = records; call = more; added = added; whole = refl; room = room }

-- a declaration adds its records below the limit, or none
pub declared_room : (d : DeskView) (c : ChannelDef) (place : Option ℕ) → channel_place d.ids c ≡ place → MayHave d c place → HadRoom d.limit d.primary → HadRoom d.limit (d.primary ++ new_records d.ids c)
declared_room d c (Some place) is may was =
    let none : new_records d.ids c ≡ [] = ap (λ (o : Option ℕ). new_at o d.ids c) is in
    subst (HadRoom d.limit) (sym (append-nil d.primary) ∙ ap (λ (l : List Rec). d.primary ++ l) (sym none)) was
declared_room d c None is may was = room_added d.primary (new_records d.ids c) d.limit (inr (inr (c, channel_id d.ids c, are_added d.ids c))) may.place.room

-- ---- where a buffer begins

some_there : (records : List Rec) → (records ≡ [] → ⊥) → 0 < length records
some_there [] some = absurd (some refl)
some_there (r ∷ rs) some = omega arith

below_all : (swaps : List ℕ) (taken next : ℕ) → Each (λ s. s ≤ taken) swaps → taken < next → (n x : ℕ) → At (0 ∷ swaps) n x → x < next
below_all swaps taken next before less zero x at = let same : 0 ≡ x = same_Some 0 x at in omega (arith, same, less)
below_all swaps taken next before less (suc n) x at = let le = before n x at in omega (arith, le, less)

-- behind a buffer that is handed over
pub handed_buffer : (swaps : List ℕ) (d : DeskView) → (d.primary ≡ [] → ⊥) → BufferFits swaps d → BufferFits (swaps ++ accepted d ∷ []) (swapped d)
handed_buffer swaps d some was =
    let more = some_there d.primary some in
    record {
      rise = pairs_more (λ (a b : ℕ). a < b) (0 ∷ swaps) (accepted d) was.rise (below_all swaps d.taken (accepted d) was.before (omega (arith, more)));
      begun = has_last (0 ∷ swaps) (accepted d) [];
      before = λ n x at. elim (at_more swaps (accepted d) n x at) [
        | inl old ↦ let le : x ≤ d.taken = was.before n x old in let there : x ≤ accepted d = omega (arith, le) in there
        | inr last ↦ let same : x ≡ accepted d = last.1 in let there : x ≤ accepted d = omega (arith, same) in there
      ];
      room = record { front = []; call = []; added = inl refl; whole = refl; room = let below = was.room.room in omega (arith, below) };
    }

pub ended_buffer : (swaps : List ℕ) (d : DeskView) (end : End) → BufferFits swaps d → BufferFits swaps (ended d end)
ended_buffer swaps d end was = record { rise = was.rise; begun = was.begun; before = was.before; room = was.room }
