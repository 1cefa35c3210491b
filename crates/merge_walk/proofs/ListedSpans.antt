-- The times of the messages that are listed.
use Rattle.std.proofs.Common.{◌≡◌, ℕ, ◌+◌, Bool, true, false, List, [], ◌∷◌, ◌++◌, length, cond, refl, sym, ap, ◌∙◌}
use Rattle.std.proofs.lemmas.List.{map-append}
use Rattle.mcap_model.specs.Tops.{Top, top_bytes}
use Rattle.mcap_model.specs.Fields.{ChunkFields, IsChunk}
use Rattle.mcap_model.specs.Made.{top}
use Rattle.mcap_model.proofs.Unpacking.{chunks_are_opened}
use Rattle.mcap_scan.specs.declared.message_heads.MessageHead.{MessageHead}
use Rattle.mcap_scan.specs.Heads.{head_of, heads_in}
use Rattle.mcap_scan.specs.HeadTimes.{time_in, is_headed}
use Rattle.merge_walk.specs.SpanHeads.{set_at, heads_one, heads_from, heads_under, times_in}
use Rattle.merge_walk.specs.Times.{times_of}
use Rattle.merge_walk.proofs.Extents.{times_one, times_joined}

one_time : (at : ℕ) (t : Top) (b : Bool) → is_headed t ≡ b → times_in (heads_one at t) ≡ times_of (t ∷ [])
one_time at t b is = ap (λ (c : Bool). times_in (cond c (head_of (set_at at t) ∷ []) [])) is ∙ by b ∙ sym (times_one t b is)
  where
    by : (c : Bool) → times_in (cond c (head_of (set_at at t) ∷ []) []) ≡ cond c (time_in t.content ∷ []) []
    by true = refl
    by false = refl

pub times_listed : (at : ℕ) (tops : List Top) → times_in (heads_from at tops) ≡ times_of tops
times_listed at [] = refl
times_listed at (t ∷ ts) =
    map-append (λ (h : MessageHead). h.time) (heads_one at t) (heads_from (at + length (top_bytes t)) ts)
    ∙ ap (λ (l : List ℕ). l ++ times_in (heads_from (at + length (top_bytes t)) ts)) (one_time at t (is_headed t) refl)
    ∙ ap (λ (l : List ℕ). times_of (t ∷ []) ++ l) (times_listed (at + length (top_bytes t)) ts)
    ∙ sym (times_joined (t ∷ []) ts)

-- those of a chunk, whose fields are read
pub chunk_listed : (content : List ℕ) (f : ChunkFields) → IsChunk (top 6 content) f → heads_in f.records ≡ heads_under (top 6 content)
chunk_listed content f is = sym (ap (λ (l : List ℕ). heads_in l) (chunks_are_opened (top 6 content) f is))
