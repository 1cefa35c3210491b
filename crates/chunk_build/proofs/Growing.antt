-- What is open, with one record more.
use Rattle.std.proofs.Common.{◌≡◌, ℕ, ◌+◌, ◌<◌, min, Bool, cond, eqb, List, [], ◌∷◌, ◌++◌, length, map, refl, sym, ap, subst, inl, inr, ◌∙◌, arith}
use Rattle.std.specs.Prelude.{filter, fold, if◌then◌else◌}
use Rattle.std.proofs.lemmas.Bool.{cases_order, lt-ltb, eq-eqb, ne_eqb}
use Rattle.std.proofs.lemmas.List.{append-nil, map-append, length-append, length-map}
use Rattle.std.proofs.lemmas.List.Elements.{filter-append}
use Rattle.std.proofs.lemmas.Grind.{flat_map-append}
use Rattle.mcap_wire.specs.Layout.{le}
use Rattle.mcap_wire.specs.Arrays.{entry_text, entry_texts}
use Rattle.rec_data.specs.declared.owned.Rec.{Rec}
use Rattle.rec_data.specs.declared.owned.Rec.TheVariants.{Schema, Channel, Message, Extra}
use Rattle.rec_data.specs.Owned.{rec_bytes}
use Rattle.mcap_model.specs.History.{history_bytes}
use Rattle.mcap_model.specs.Blocks.{least, greatest, Logged, logged_one, logged, with_id}
use Rattle.mcap_model.specs.Built.{declarations}
use Rattle.mcap_model.proofs.Growth.{Above, Rises, IsIn, id_first, id_same, id_later, above_more, rises_fold, in_fold, fold_append, bytes_more, logged_all, time_of, least_more, greatest_more, declared_more}
use Rattle.chunk_build.specs.Rows.{with_entry}
use Rattle.chunk_build.specs.Opened.{Opened, chunk_of_records, with_declaration, with_bytes}
use Rattle.chunk_build.specs.Building.{mark_of, record_counted}
use Rattle.chunk_build.proofs.RowLemmas.{with_same, with_later}

-- ---- rows by ids

abbrev row_at : (ℕ → List ℕ) → ℕ → ℕ × List ℕ
row_at f id = (id, f id)

same_rows : (f g : ℕ → List ℕ) (c : ℕ) (ids : List ℕ) → ((id : ℕ) → (id ≡ c → ⊥) → g id ≡ f id) → Above c ids → map (row_at g) ids ≡ map (row_at f) ids
same_rows f g c [] others above = refl
same_rows f g c (x ∷ xs) others above =
    let other = others x (λ same. omega (arith, same, above.0)) in
    ap (λ (l : List ℕ). (x, l) ∷ map (row_at g) xs) other ∙ ap (λ (ls : List (ℕ × List ℕ)). (x, f x) ∷ ls) (same_rows f g c xs others above.1)

pub above_out : (c : ℕ) (ids : List ℕ) → Above c ids → IsIn c ids → ⊥
above_out c [] above there = there
above_out c (x ∷ xs) above there = elim there [
  | inl here ↦ omega (arith, here, above.0)
  | inr behind ↦ above_out c xs above.1 behind
]

rows_step : (f g : ℕ → List ℕ) (c : ℕ) (e : List ℕ) (ids : List ℕ) → Rises ids → ((id : ℕ) → (id ≡ c → ⊥) → g id ≡ f id) → g c ≡ f c ++ e → ((IsIn c ids → ⊥) → f c ≡ [])
    → map (row_at g) (with_id ids c) ≡ with_entry (map (row_at f) ids) c e
rows_step f g c e [] rises others more absent =
    ap (λ (l : List ℕ). (c, l) ∷ []) (more ∙ ap (λ (l : List ℕ). l ++ e) (absent (λ there. there)))
rows_step f g c e (x ∷ xs) rises others more absent = elim (cases_order c x) [
  | inl same ↦
      ap (map (row_at g)) (id_same c x xs same)
      ∙ ap (λ (ls : List (ℕ × List ℕ)). (x, g x) ∷ ls) (same_rows f g c xs others (subst (λ (n : ℕ). Above n xs) (sym same) rises.0))
      ∙ ap (λ (l : List ℕ). (x, l) ∷ map (row_at f) xs) (subst (λ (n : ℕ). g n ≡ f n ++ e) same more)
      ∙ sym (with_same (x, f x) (map (row_at f) xs) e)
      ∙ ap (λ (n : ℕ). with_entry ((x, f x) ∷ map (row_at f) xs) n e) (sym same)
  | inr (inl first) ↦
      let above : Above c (x ∷ xs) = (first, above_more c x xs first rises.0) in
      ap (map (row_at g)) (id_first c x xs first)
      ∙ ap (λ (ls : List (ℕ × List ℕ)). (c, g c) ∷ ls) (same_rows f g c (x ∷ xs) others above)
      ∙ ap (λ (l : List ℕ). (c, l) ∷ map (row_at f) (x ∷ xs)) (more ∙ ap (λ (l : List ℕ). l ++ e) (absent (above_out c (x ∷ xs) above)))
      ∙ sym (first_row (x, f x) (map (row_at f) xs) c e first)
  | inr (inr later) ↦
      ap (map (row_at g)) (id_later c x xs later)
      ∙ ap (λ (l : List ℕ). (x, l) ∷ map (row_at g) (with_id xs c)) (others x (λ same. omega (arith, same, later)))
      ∙ ap (λ (ls : List (ℕ × List ℕ)). (x, f x) ∷ ls)
      (rows_step f g c e xs rises.1 others more (λ out. absent (λ there. elim there [ inl here ↦ omega (arith, here, later) | inr behind ↦ out behind ])))
      ∙ sym (with_later (x, f x) (map (row_at f) xs) c e later)
]
  where
    first_row : (l : ℕ × List ℕ) (ls : List (ℕ × List ℕ)) (id : ℕ) (entry : List ℕ) → id < l.0 → with_entry (l ∷ ls) id entry ≡ (id, entry) ∷ l ∷ ls
    first_row l ls id entry less =
        let step = λ (b : Bool). if b then (id, entry) ∷ l ∷ ls else if eqb id l.0 then (l.0, l.1 ++ entry) ∷ ls else l ∷ with_entry ls id entry in
        ap step (lt-ltb id l.0 less)

-- ---- the entries of a channel

abbrev entry_pair : Logged → ℕ × ℕ
entry_pair e = (e.time, e.offset)

abbrev on : ℕ → Logged → Bool
on id e = eqb e.channel id

abbrev texts : List Logged → ℕ → List ℕ
texts all id = entry_texts 8 (map entry_pair (filter (on id) all))

texts_append : (all : List Logged) (l : Logged) (id : ℕ) → texts (all ++ l ∷ []) id ≡ texts all id ++ texts (l ∷ []) id
texts_append all l id =
    ap (λ (es : List Logged). entry_texts 8 (map entry_pair es)) (filter-append (on id) all (l ∷ []))
    ∙ ap (entry_texts 8) (map-append entry_pair (filter (on id) all) (filter (on id) (l ∷ [])))
    ∙ flat_map-append (entry_text 8) (map entry_pair (filter (on id) all)) (map entry_pair (filter (on id) (l ∷ [])))

text_own : (l : Logged) → texts (l ∷ []) l.channel ≡ le 8 l.time ++ le 8 l.offset
text_own l =
    ap (λ (b : Bool). entry_texts 8 (map entry_pair (cond b (l ∷ []) []))) (eq-eqb l.channel l.channel refl)
    ∙ append-nil (entry_text 8 (entry_pair l))

text_other : (l : Logged) (id : ℕ) → (id ≡ l.channel → ⊥) → texts (l ∷ []) id ≡ []
text_other l id other = ap (λ (b : Bool). entry_texts 8 (map entry_pair (cond b (l ∷ []) []))) (ne_eqb l.channel id (λ same. other (sym same)))

no_texts : (all : List Logged) (id : ℕ) → (IsIn id (map (λ e. e.channel) all) → ⊥) → texts all id ≡ []
no_texts [] id out = refl
no_texts (l ∷ all) id out =
    ap (λ (b : Bool). entry_texts 8 (map entry_pair (cond b (l ∷ filter (on id) all) (filter (on id) all)))) (ne_eqb l.channel id (λ same. out (inl (sym same))))
    ∙ no_texts all id (λ there. out (inr there))

abbrev ids_of : List Logged → List ℕ
ids_of all = fold with_id [] (map (λ e. e.channel) all)

pub rows_more : (all : List Logged) (l : Logged) → map (row_at (texts (all ++ l ∷ []))) (ids_of (all ++ l ∷ [])) ≡ with_entry (map (row_at (texts all)) (ids_of all)) l.channel (le 8 l.time ++ le 8 l.offset)
rows_more all l =
    let ids : ids_of (all ++ l ∷ []) ≡ with_id (ids_of all) l.channel =
    ap (fold with_id []) (map-append (λ e. e.channel) all (l ∷ [])) ∙ fold_append with_id [] (map (λ e. e.channel) all) (l.channel ∷ []) in
    ap (map (row_at (texts (all ++ l ∷ [])))) ids
    ∙ rows_step (texts all) (texts (all ++ l ∷ [])) l.channel (le 8 l.time ++ le 8 l.offset) (ids_of all) (rises_fold [] (map (λ e. e.channel) all) tt)
    (λ id other. texts_append all l id ∙ ap (λ (t : List ℕ). texts all id ++ t) (text_other l id other) ∙ append-nil (texts all id))
    (texts_append all l l.channel ∙ ap (λ (t : List ℕ). texts all l.channel ++ t) (text_own l))
    (λ out. no_texts all l.channel (λ there. out (in_fold l.channel [] (map (λ e. e.channel) all) there)))

-- ---- together

abbrev make : List ℕ → List (ℕ × List ℕ) → ℕ → ℕ → ℕ → ℕ → Opened
make bytes rows start end messages declared = record { bytes = bytes; rows = rows; start = start; end = end; messages = messages; declared = declared }

same_opened : (b b' : List ℕ) (l l' : List (ℕ × List ℕ)) (s s' e e' m m' d d' : ℕ) → b ≡ b' → l ≡ l' → s ≡ s' → e ≡ e' → m ≡ m' → d ≡ d' → make b l s e m d ≡ make b' l' s' e' m' d'
same_opened b b' l l' s s' e e' m m' d d' p q r t u v =
    ap (λ (x : List ℕ). make x l s e m d) p ∙ ap (λ (x : List (ℕ × List ℕ)). make b' x s e m d) q ∙ ap (λ (x : ℕ). make b' l' x e m d) r
    ∙ ap (λ (x : ℕ). make b' l' s' x m d) t ∙ ap (λ (x : ℕ). make b' l' s' e' x d) u ∙ ap (λ (x : ℕ). make b' l' s' e' m' x) v

-- the same, where what is logged stays
quiet : (ws : List Rec) (r : Rec) → logged_one (length (history_bytes ws)) r ≡ [] → length (declarations (r ∷ [])) ≡ 1 → chunk_of_records (ws ++ r ∷ []) ≡ with_declaration (with_bytes (chunk_of_records ws) (rec_bytes r))
quiet ws r none one =
    let same : logged (ws ++ r ∷ []) ≡ logged ws = logged_all ws r ∙ ap (λ (l : List Logged). logged ws ++ l) none ∙ append-nil (logged ws) in
    let more = ap (λ (l : List Rec). length l) (declared_more ws r) in
    let count : length (declarations (ws ++ r ∷ [])) ≡ length (declarations ws) + 1 = omega (arith, more, one, length-append (declarations ws) (declarations (r ∷ []))) in
    same_opened _ _ _ _ _ _ _ _ _ _ _ _
    (bytes_more ws r)
    (ap (λ (l : List Logged). map (row_at (texts l)) (ids_of l)) same)
    (ap (λ (l : List Logged). least (map time_of l)) same)
    (ap (λ (l : List Logged). greatest (map time_of l)) same)
    (ap (λ (l : List Logged). length l) same)
    count

pub opened_more : (ws : List Rec) (r : Rec) → chunk_of_records (ws ++ r ∷ []) ≡ record_counted (with_bytes (chunk_of_records ws) (rec_bytes r)) (length (history_bytes ws)) (mark_of r)
opened_more ws (Schema id schema) = quiet ws (Schema id schema) refl refl
opened_more ws (Channel id schema topic encoding metadata) = quiet ws (Channel id schema topic encoding metadata) refl refl
opened_more ws (Extra op content) = quiet ws (Extra op content) refl refl
opened_more ws (Message channel sequence log_time publish_time payload) =
    let r = Message channel sequence log_time publish_time payload in
    let l : Logged = record { channel = channel; time = log_time; offset = length (history_bytes ws) } in
    let same : logged (ws ++ r ∷ []) ≡ logged ws ++ l ∷ [] = logged_all ws r in
    let times : map time_of (logged (ws ++ r ∷ [])) ≡ map time_of (logged ws) ++ log_time ∷ [] = ap (map time_of) same ∙ map-append time_of (logged ws) (l ∷ []) in
    let long : length (map time_of (logged ws)) ≡ length (logged ws) = length-map (logged ws) time_of in
    let size = ap (λ (x : List Logged). length x) same in
    let count : length (logged (ws ++ r ∷ [])) ≡ length (logged ws) + 1 = omega (arith, size, length-append (logged ws) (l ∷ [])) in
    let declared : length (declarations (ws ++ r ∷ [])) ≡ length (declarations ws) = ap (λ (x : List Rec). length x) (declared_more ws r ∙ append-nil (declarations ws)) in
    same_opened _ _ _ _ _ _ _ _ _ _ _ _
    (bytes_more ws r)
    (ap (λ (x : List Logged). map (row_at (texts x)) (ids_of x)) same ∙ rows_more (logged ws) l)
    (ap least times ∙ least_more (map time_of (logged ws)) log_time ∙ ap (λ (n : ℕ). if eqb n 0 then log_time else min (least (map time_of (logged ws))) log_time) long)
    (ap greatest times ∙ greatest_more (map time_of (logged ws)) log_time)
    count
    declared
