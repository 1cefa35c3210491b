-- The messages of records, as they are shown.
use Rattle.std.proofs.Common.{◌≡◌, ℕ, ◌+◌, Bool, true, false, List, [], ◌∷◌, ◌++◌, length, refl, sym, ap, subst, ◌∙◌, append_assoc, cond, arith}
use Rattle.std.specs.Prelude.{filter, if◌then◌else◌, Result, Ok, Err, OnOk}
use Rattle.std.specs.List.{AllZip}
use Rattle.std.proofs.lemmas.Bool.{eqb-true, ne_eqb}
use Rattle.std.proofs.lemmas.List.{append-nil, length-append}
use Rattle.std.proofs.lemmas.List.Elements.{filter-append}
use Rattle.std.proofs.lemmas.Grind.{flat_map-append}
use Rattle.mcap_model.specs.declared.replay.Shown.{Shown}
use Rattle.mcap_model.specs.declared.inner.Inner.{Inner}
use Rattle.mcap_model.specs.Places.{At, Each}
use Rattle.mcap_model.specs.Tops.{Top, top_bytes, spelled, offset_behind, records_in, inner_tops, is_chunk, is_flat_kind, Placed, placed, placed_from, placed_inside, placed_one}
use Rattle.mcap_model.specs.Fields.{ChunkFields, IsChunk}
use Rattle.mcap_model.specs.Rules.{V6, V8}
use Rattle.mcap_model.specs.Kept.{NamesCompression}
use Rattle.mcap_model.specs.Scan.{is_message_top}
use Rattle.mcap_model.specs.Walk.{inner_top, StepsOver}
use Rattle.mcap_model.specs.Made.{top}
use Rattle.mcap_model.specs.Plain.{IsShown, AddsThose}
use Rattle.mcap_model.proofs.Unpacking.{chunks_are_opened}
use Rattle.mcap_model.proofs.Flat.{named_or}

abbrev pub is_message_placed : Placed → Bool
is_message_placed p = is_message_top p.top

-- ---- lists

pub zip_joined : {X Y : Type 0} (R : X → Y → Type 0) (xs us : List X) (ys vs : List Y) → AllZip R xs ys → AllZip R us vs → AllZip R (xs ++ us) (ys ++ vs)
zip_joined R [] us [] vs one other = other
zip_joined R [] us (y ∷ ys) vs one other = absurd one
zip_joined R (x ∷ xs) us [] vs one other = absurd one
zip_joined R (x ∷ xs) us (y ∷ ys) vs one other = (one.0, zip_joined R xs us ys vs one.1 other)

pub adds_none : (old : List Shown) → AddsThose [] old old
adds_none old = record { more = []; added = sym (append-nil old); shows = tt }

pub adds_more : (ps qs : List Placed) (old mid new : List Shown) → AddsThose ps old mid → AddsThose qs mid new → AddsThose (ps ++ qs) old new
adds_more ps qs old mid new one other = record {
  more = one.more ++ other.more;
  added = other.added ∙ ap (λ (l : List Shown). l ++ other.more) one.added ∙ append_assoc old one.more other.more;
  shows = subst (λ (l : List Placed). AllZip IsShown l (one.more ++ other.more)) (sym (filter-append is_message_placed ps qs))
      (zip_joined IsShown (filter is_message_placed ps) (filter is_message_placed qs) one.more other.more one.shows other.shows);
}

-- no message
other_kind : (p : Placed) (old : List Shown) → (p.top.op ≡ 5 → ⊥) → AddsThose (p ∷ []) old old
other_kind p old other = record {
  more = [];
  added = sym (append-nil old);
  shows = subst (λ (b : Bool). AllZip IsShown (cond b (p ∷ []) []) []) (sym (ne_eqb p.top.op 5 other)) tt;
}

-- ---- the kinds that are flat

pub flat_first : (ps : List Placed) → filter is_message_placed (filter (λ p. is_flat_kind p.top) ps) ≡ filter is_message_placed ps
flat_first [] = refl
flat_first (p ∷ ps) = by (is_message_top p.top) refl (flat_first ps)
  where
    kept : (op : ℕ) (content : List ℕ) → op ≡ 5 → is_flat_kind (top op content) ≡ true
    kept op content is = subst (λ (n : ℕ). is_flat_kind (top n content) ≡ true) (sym is) refl

    left : (b : Bool) → is_message_top p.top ≡ false → filter is_message_placed (filter (λ q. is_flat_kind q.top) ps) ≡ filter is_message_placed ps
        → filter is_message_placed (cond b (p ∷ filter (λ q. is_flat_kind q.top) ps) (filter (λ q. is_flat_kind q.top) ps)) ≡ filter is_message_placed ps
    left true other rest = ap (λ (c : Bool). cond c (p ∷ filter is_message_placed (filter (λ q. is_flat_kind q.top) ps)) (filter is_message_placed (filter (λ q. is_flat_kind q.top) ps))) other ∙ rest
    left false other rest = rest

    by : (b : Bool) → is_message_top p.top ≡ b → filter is_message_placed (filter (λ q. is_flat_kind q.top) ps) ≡ filter is_message_placed ps
        → filter is_message_placed (filter (λ q. is_flat_kind q.top) (p ∷ ps)) ≡ filter is_message_placed (p ∷ ps)
    by true is rest =
        ap (λ (c : Bool). filter is_message_placed (cond c (p ∷ filter (λ q. is_flat_kind q.top) ps) (filter (λ q. is_flat_kind q.top) ps))) (kept p.top.op p.top.content (eqb-true p.top.op 5 is))
        ∙ ap (λ (c : Bool). cond c (p ∷ filter is_message_placed (filter (λ q. is_flat_kind q.top) ps)) (filter is_message_placed (filter (λ q. is_flat_kind q.top) ps))) is
        ∙ ap (λ (l : List Placed). p ∷ l) rest
        ∙ sym (ap (λ (c : Bool). cond c (p ∷ filter is_message_placed ps) (filter is_message_placed ps)) is)
    by false other rest =
        left (is_flat_kind p.top) other rest
        ∙ sym (ap (λ (c : Bool). cond c (p ∷ filter is_message_placed ps) (filter is_message_placed ps)) other)

adds_flat : (ps : List Placed) (old new : List Shown) → AddsThose ps old new → AddsThose (filter (λ p. is_flat_kind p.top) ps) old new
adds_flat ps old new adds = record {
  more = adds.more;
  added = adds.added;
  shows = subst (λ (l : List Placed). AllZip IsShown l adds.more) (sym (flat_first ps)) adds.shows;
}

-- ---- inside a chunk

-- the records of a chunk whose messages were added so far
pub record AddsSoFar (records : List ℕ) (offset at : ℕ) (rest : List ℕ) (old now : List Shown) : Type 0 where
  pub done : List Top
  pub place : at ≡ length (spelled done)
  pub split : records_in records ≡ done ++ records_in rest
  pub adds : AddsThose (placed_inside offset 0 done) old now

pub inside_none : (records : List ℕ) (offset at : ℕ) (rest : List ℕ) (old : List Shown) → at ≡ 0 → rest ≡ records → AddsSoFar records offset at rest old old
inside_none records offset at rest old is all = record { done = []; place = is; split = ap records_in (sym all); adds = adds_none old }

pub inside_joined : (offset at : ℕ) (done : List Top) (t : Top) → placed_inside offset at (done ++ t ∷ []) ≡ placed_inside offset at done ++ record { place = record { top = offset; inner = at + length (spelled done) }; top = t } ∷ []
inside_joined offset at [] t = ap (λ (n : ℕ). placed_at offset n t ∷ []) (omega arith)
  where
    placed_at : ℕ → ℕ → Top → Placed
    placed_at offset n t = record { place = record { top = offset; inner = n }; top = t }
inside_joined offset at (u ∷ us) t =
    ap (λ (l : List Placed). record { place = record { top = offset; inner = at }; top = u } ∷ l)
    (inside_joined offset (at + length (top_bytes u)) us t
    ∙ ap (λ (n : ℕ). placed_inside offset (at + length (top_bytes u)) us ++ placed_at offset n t ∷ []) (omega (arith, length-append (top_bytes u) (spelled us))))
  where
    placed_at : ℕ → ℕ → Top → Placed
    placed_at offset n t = record { place = record { top = offset; inner = n }; top = t }

-- the record that the walk stands at is among those of the chunk
met_there : (records : List ℕ) (done : List Top) (t : Top) (more : List Top) → records_in records ≡ done ++ t ∷ more → Each V6 (records_in records) → V6 t
met_there records done t more split meet = meet (length done) t (subst (λ (l : List Top). At l (length done) t) (sym split) (stands done))
  where
    stands : (ts : List Top) → At (ts ++ t ∷ more) (length ts) t
    stands [] = refl
    stands (u ∷ us) = stands us

-- a Message to which a walk comes over the records of a chunk, all of which meet their layouts
pub met_message : (records rest rest_new : List ℕ) (done : List Top) (inner : Inner) → Each V6 (records_in records) → records_in records ≡ done ++ records_in rest → records_in rest ≡ inner_top inner ∷ records_in rest_new → inner.op ≡ 5 → V6 (top 5 inner.content.now)
met_message records rest rest_new done inner meet split first is =
    let five : top 5 inner.content.now ≡ inner_top inner = ap (λ (n : ℕ). top n inner.content.now) (sym is) in
    subst V6 (sym five) (met_there records done (inner_top inner) (records_in rest_new) (split ∙ ap (λ (l : List Top). done ++ l) first) meet)

inside_step : (records : List ℕ) (offset at at_new : ℕ) (rest rest_new : List ℕ) (old now new : List Shown) (inner : Inner) → AddsSoFar records offset at rest old now → StepsOver at rest at_new rest_new inner
    → AddsThose (record { place = record { top = offset; inner = at }; top = inner_top inner } ∷ []) now new → AddsSoFar records offset at_new rest_new old new
inside_step records offset at at_new rest rest_new old now new inner was steps one =
    let t = inner_top inner in
    let split : records_in records ≡ was.done ++ t ∷ records_in rest_new = was.split ∙ ap (λ (l : List Top). was.done ++ l) steps.first in
    record {
      done = was.done ++ t ∷ [];
      place =
          let size = ap length (flat_map-append top_bytes was.done (t ∷ [])) in
          let behind = steps.behind in
          let place = was.place in
          omega (arith, size, behind, place, length-append (spelled was.done) (top_bytes t ++ []), length-append (top_bytes t) []);
      split = split ∙ sym (append_assoc was.done (t ∷ []) (records_in rest_new));
      adds =
          let there : AddsThose (record { place = record { top = offset; inner = 0 + length (spelled was.done) }; top = t } ∷ []) now new = subst (λ (n : ℕ). AddsThose (record { place = record { top = offset; inner = n }; top = t } ∷ []) now new) (let place = was.place in omega (arith, place)) one in
          subst (λ (l : List Placed). AddsThose l old new) (sym (inside_joined offset 0 was.done t))
          (adds_more (placed_inside offset 0 was.done) (record { place = record { top = offset; inner = 0 + length (spelled was.done) }; top = t } ∷ []) old now new was.adds there);
    }

pub inside_message : (records : List ℕ) (offset at at_new : ℕ) (rest rest_new : List ℕ) (old now new : List Shown) (inner : Inner) → AddsSoFar records offset at rest old now → StepsOver at rest at_new rest_new inner → inner.op ≡ 5
    → AddsThose (record { place = record { top = offset; inner = inner.offset }; top = top 5 inner.content.now } ∷ []) now new → AddsSoFar records offset at_new rest_new old new
inside_message records offset at at_new rest rest_new old now new inner was steps is adds =
    let five : top 5 inner.content.now ≡ inner_top inner = ap (λ (n : ℕ). top n inner.content.now) (sym is) in
    inside_step records offset at at_new rest rest_new old now new inner was steps
    (subst (λ (n : ℕ). AddsThose (record { place = record { top = offset; inner = n }; top = inner_top inner } ∷ []) now new) steps.offset
    (subst (λ (t : Top). AddsThose (record { place = record { top = offset; inner = inner.offset }; top = t } ∷ []) now new) five adds))

pub inside_other : (records : List ℕ) (offset at at_new : ℕ) (rest rest_new : List ℕ) (old now : List Shown) (inner : Inner) → AddsSoFar records offset at rest old now → StepsOver at rest at_new rest_new inner → (inner.op ≡ 5 → ⊥) → AddsSoFar records offset at_new rest_new old now
inside_other records offset at at_new rest rest_new old now inner was steps other =
    inside_step records offset at at_new rest rest_new old now now inner was steps (other_kind (record { place = record { top = offset; inner = at }; top = inner_top inner }) now other)

pub inside_all : (records : List ℕ) (offset at : ℕ) (rest : List ℕ) (old now : List Shown) → AddsSoFar records offset at rest old now → records_in rest ≡ [] → AddsThose (placed_inside offset 0 (records_in records)) old now
inside_all records offset at rest old now was none =
    let all : was.done ≡ records_in records = sym (was.split ∙ ap (λ (l : List Top). was.done ++ l) none ∙ append-nil was.done) in
    subst (λ (l : List Top). AddsThose (placed_inside offset 0 l) old now) all was.adds

-- ---- a record of the top level

pub message_alone : (offset op : ℕ) (content : List ℕ) (old new : List Shown) → op ≡ 5 → AddsThose (record { place = record { top = offset; inner = 0 }; top = top 5 content } ∷ []) old new → AddsThose (placed_one offset (top op content)) old new
message_alone offset op content old new is adds =
    subst (λ (n : ℕ). AddsThose (placed_one offset (top n content)) old new) (sym is) adds

-- the records of a chunk that keeps the rules meet their layouts
pub chunk_layouts : (op : ℕ) (content : List ℕ) (f : ChunkFields) → op ≡ 6 → IsChunk (top 6 content) f → V8 (top op content) → ((name : List ℕ) → NamesCompression (top op content) name → ⊥) → Each V6 (records_in f.records)
chunk_layouts op content f is shown =
    subst (λ (n : ℕ). V8 (top n content) → ((name : List ℕ) → NamesCompression (top n content) name → ⊥) → Each V6 (records_in f.records)) (sym is) (λ v8 plain.
    let t = top 6 content in
    let right = v8 f shown (named_or t f f.compression shown refl plain) in
    right.layouts)

pub chunk_opened : (offset op : ℕ) (content : List ℕ) (f : ChunkFields) (old new : List Shown) → op ≡ 6 → IsChunk (top 6 content) f → AddsThose (placed_inside offset 0 (records_in f.records)) old new → AddsThose (placed_one offset (top op content)) old new
chunk_opened offset op content f old new is shown adds =
    subst (λ (n : ℕ). AddsThose (placed_one offset (top n content)) old new) (sym is)
    (let t = top 6 content in
    let same : records_in f.records ≡ inner_tops t = ap records_in (sym (chunks_are_opened t f shown)) in
    adds_flat (placed_inside offset 0 (inner_tops t)) old new (subst (λ (l : List Top). AddsThose (placed_inside offset 0 l) old new) same adds))

pub other_silent : (offset op : ℕ) (content : List ℕ) (old : List Shown) → (op ≡ 5 → ⊥) → (op ≡ 6 → ⊥) → AddsThose (placed_one offset (top op content)) old old
other_silent offset op content old none closed =
    let p : Placed = record { place = record { top = offset; inner = 0 }; top = top op content } in
    let alone : (p ∷ []) ≡ (if is_chunk (top op content) then placed_inside offset 0 (inner_tops (top op content)) else p ∷ []) = ap (λ (b : Bool). if b then placed_inside offset 0 (inner_tops (top op content)) else p ∷ []) (sym (ne_eqb op 6 closed)) in
    subst (λ (l : List Placed). AddsThose (filter (λ q. is_flat_kind q.top) l) old old) alone (adds_flat (p ∷ []) old old (other_kind p old none))

-- ---- records of the top level, one behind the other

pub placed_joined : (at : ℕ) (tops : List Top) (t : Top) → placed_from at (tops ++ t ∷ []) ≡ placed_from at tops ++ placed_one (at + length (spelled tops)) t
placed_joined at [] t = append-nil (placed_one at t) ∙ ap (λ (n : ℕ). placed_one n t) (omega arith)
placed_joined at (u ∷ us) t =
    ap (λ (l : List Placed). placed_one at u ++ l)
    (placed_joined (at + length (top_bytes u)) us t ∙ ap (λ (n : ℕ). placed_from (at + length (top_bytes u)) us ++ placed_one n t) (omega (arith, length-append (top_bytes u) (spelled us))))
    ∙ sym (append_assoc (placed_one at u) (placed_from (at + length (top_bytes u)) us) (placed_one (at + length (spelled (u ∷ us))) t))

pub tops_more : (tops : List Top) (t : Top) (at : ℕ) (now new : List Shown) → at ≡ offset_behind tops → AddsThose (placed tops) [] now → AddsThose (placed_one at t) now new → AddsThose (placed (tops ++ t ∷ [])) [] new
tops_more tops t at now new place was adds =
    subst (λ (l : List Placed). AddsThose l [] new) (sym (placed_joined 8 tops t))
    (adds_more (placed tops) (placed_one (offset_behind tops) t) [] now new was (subst (λ (n : ℕ). AddsThose (placed_one n t) now new) place adds))

-- what holds where a call was answered makes another fact hold there
pub ok_then : {T E : Type 0} {P Q : Type 0} (r : Result T E) → OnOk r P → (P → Q) → OnOk r Q
ok_then (Ok v) p f = f p
ok_then (Err e) p f = p
