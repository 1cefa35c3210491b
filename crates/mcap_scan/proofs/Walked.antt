-- The records of a file where they stand.
use Rattle.std.proofs.Common.{◌≡◌, ℕ, suc, ◌+◌, Bool, true, false, List, [], ◌∷◌, ◌++◌, length, map, refl, sym, ap, subst, ◌∙◌, append_assoc, append-nil, cond, arith, length-append}
use Rattle.std.specs.Prelude.{filter, if◌then◌else◌, ◌==◌}
use Rattle.std.specs.List.{list_any}
use Rattle.std.proofs.lemmas.Bool.{eqb-true, false≢true}
use Rattle.std.proofs.lemmas.List.Elements.{filter-append}
use Rattle.mcap_model.specs.Places.{Each}
use Rattle.mcap_model.specs.Tops.{Top, top_bytes, spelled, offset_behind, records_in, inner_tops, is_chunk, is_flat_kind, flat, Placed, placed_inside, placed_one, placed_from, placed}
use Rattle.mcap_model.specs.WalkedRecords.{walked_one, walked_from, walked}
use Rattle.mcap_model.specs.Rules.{V6, V8, V10, stands_in_chunk}
use Rattle.mcap_model.specs.Kept.{NamesCompression, reading_limits, Good}
use Rattle.mcap_model.proofs.Places.{at_none}
use Rattle.mcap_model.proofs.Lists.{each_cons, each_joined}
use Rattle.mcap_model.proofs.Flat.{placed_tops, named_or}
use Rattle.mcap_model.proofs.Unpacking.{chunks_are_opened}
use Rattle.mcap_model.proofs.OpenedChunks.{inside_back}
use Rattle.mcap_model.proofs.ShownMessages.{is_message_placed, flat_first}

abbrev pub is_flat_placed : Placed → Bool
is_flat_placed p = is_flat_kind p.top

-- ---- the Schemas, Channels and Messages among them

abbrev alone : ℕ → Top → Placed
alone at t = record { place = record { top = at; inner = 0 }; top = t }

-- a chunk is none of them
one_flat : (at : ℕ) (t : Top) → filter is_flat_placed (walked_one at t) ≡ placed_one at t
one_flat at t = by (is_chunk t) refl
  where
    by : (b : Bool) → is_chunk t ≡ b → filter is_flat_placed (alone at t ∷ (if b then placed_inside at 0 (inner_tops t) else [])) ≡ filter is_flat_placed (if b then placed_inside at 0 (inner_tops t) else alone at t ∷ [])
    by true is =
        ap (λ (b : Bool). cond b (alone at t ∷ filter is_flat_placed (placed_inside at 0 (inner_tops t))) (filter is_flat_placed (placed_inside at 0 (inner_tops t))))
        (ap (λ (n : ℕ). list_any (λ kind. kind == n) (3 ∷ 4 ∷ 5 ∷ [])) (eqb-true t.op 6 is))
    by false is = refl

from_flat : (at : ℕ) (tops : List Top) → filter is_flat_placed (walked_from at tops) ≡ placed_from at tops
from_flat at [] = refl
from_flat at (t ∷ ts) =
    let next = at + length (top_bytes t) in
    filter-append is_flat_placed (walked_one at t) (walked_from next ts)
    ∙ ap (λ (l : List Placed). l ++ filter is_flat_placed (walked_from next ts)) (one_flat at t)
    ∙ ap (λ (l : List Placed). placed_one at t ++ l) (from_flat next ts)

pub walked_flat : (tops : List Top) → filter (λ p. is_flat_kind p.top) (walked tops) ≡ placed tops
walked_flat tops = from_flat 8 tops

pub walked_flat_tops : (tops : List Top) → map (λ p. p.top) (filter (λ p. is_flat_kind p.top) (walked tops)) ≡ flat tops
walked_flat_tops tops = ap (map (λ (p : Placed). p.top)) (walked_flat tops) ∙ placed_tops 8 tops

pub walked_messages : (tops : List Top) → filter is_message_placed (walked tops) ≡ filter is_message_placed (placed tops)
walked_messages tops = sym (flat_first (walked tops)) ∙ ap (filter is_message_placed) (walked_flat tops)

-- ---- a record more

from_more : (at : ℕ) (tops : List Top) (t : Top) → walked_from at (tops ++ t ∷ []) ≡ walked_from at tops ++ walked_one (at + length (spelled tops)) t
from_more at [] t = append-nil (walked_one at t) ∙ ap (λ (n : ℕ). walked_one n t) (omega arith)
from_more at (u ∷ us) t =
    let next = at + length (top_bytes u) in
    ap (λ (l : List Placed). walked_one at u ++ l)
    (from_more next us t ∙ ap (λ (n : ℕ). walked_from next us ++ walked_one n t) (omega (arith, length-append (top_bytes u) (spelled us))))
    ∙ sym (append_assoc (walked_one at u) (walked_from next us) (walked_one (at + length (spelled (u ∷ us))) t))

pub walked_more : (tops : List Top) (t : Top) → walked (tops ++ t ∷ []) ≡ walked tops ++ walked_one (offset_behind tops) t
walked_more tops t = from_more 8 tops t

-- ---- the rules on contents

abbrev Meets : Top → Type 0
Meets t = V6 t × V10 t

-- what stands in a chunk is no Attachment
no_attachment : (t : Top) → stands_in_chunk t.op ≡ true → V10 t
no_attachment t kind f place is there = absurd (false≢true (ap stands_in_chunk (sym is) ∙ kind))

inside_meet : (chunk at : ℕ) (ts : List Top) → Each V6 ts → Each (λ u. stands_in_chunk u.op ≡ true) ts → Each (λ p. Meets p.top) (placed_inside chunk at ts)
inside_meet chunk at ts layouts kinds j p here =
    let back = inside_back chunk at ts j p here in
    (layouts j p.top back.0, no_attachment p.top (kinds j p.top back.0))

-- a record that keeps the rules, and names no compression
record Keeps (t : Top) : Type 0 where
  v6 : V6 t
  v8 : V8 t
  v10 : V10 t
  plain : (name : List ℕ) → NamesCompression t name → ⊥

one_meets : (at : ℕ) (t : Top) → Keeps t → Each (λ p. Meets p.top) (walked_one at t)
one_meets at t keeps = each_cons (λ (p : Placed). Meets p.top) (alone at t) (if is_chunk t then placed_inside at 0 (inner_tops t) else []) (keeps.v6, keeps.v10) (by (is_chunk t) refl)
  where
    by : (b : Bool) → is_chunk t ≡ b → Each (λ p. Meets p.top) (if b then placed_inside at 0 (inner_tops t) else [])
    by true is =
        let shown = let v6 = keeps.v6 in v6.chunk (eqb-true t.op 6 is) in
        let f = shown.0 in
        let right = let v8 = keeps.v8 in v8 f shown.1 (named_or t f f.compression shown.1 refl keeps.plain) in
        let same : records_in f.records ≡ inner_tops t = ap records_in (sym (chunks_are_opened t f shown.1)) in
        inside_meet at 0 (inner_tops t) (subst (Each V6) same right.layouts) (subst (Each (λ (u : Top). stands_in_chunk u.op ≡ true)) same right.kinds)
    by false is = λ n p here. absurd (at_none n p here)

from_meet : (at : ℕ) (tops : List Top) → Each Keeps tops → Each (λ p. Meets p.top) (walked_from at tops)
from_meet at [] each = λ n p here. absurd (at_none n p here)
from_meet at (t ∷ ts) each =
    each_joined (λ (p : Placed). Meets p.top) (walked_one at t) (walked_from (at + length (top_bytes t)) ts) (one_meets at t (each 0 t refl))
    (from_meet (at + length (top_bytes t)) ts (λ n u here. each (suc n) u here))

-- of a good list each record, those inside chunks too, meets its layout, and keeps the rule on Attachments
pub walked_meet : (tops : List Top) → Good reading_limits tops → Each (λ p. V6 p.top × V10 p.top) (walked tops)
walked_meet tops good = from_meet 8 tops (λ n t here. let fits = good n t here in record { v6 = fits.v6; v8 = fits.v8; v10 = fits.v10; plain = fits.plain })

pub walked_v6 : (tops : List Top) → Good reading_limits tops → Each (λ p. V6 p.top) (walked tops)
walked_v6 tops good = λ n p here. (walked_meet tops good n p here).0
