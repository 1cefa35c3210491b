-- Which channels are marked.
use Rattle.std.proofs.Common.{◌≡◌, ◌⊎◌, ℕ, zero, suc, ◌+◌, ◌<◌, Bool, true, false, List, [], ◌∷◌, ◌++◌, length, take, map, set, cond, Some, refl, sym, ap, subst, inl, inr, ◌∙◌, append-nil, arith}
use Rattle.std.specs.Prelude.{filter, ◌^◌}
use Rattle.std.specs.List.{AllZip}
use Rattle.std.proofs.lemmas.Bool.{eqb-true}
use Rattle.std.proofs.lemmas.List.{length-set, take_at}
use Rattle.std.proofs.lemmas.List.Elements.{filter-append}
use Rattle.std.proofs.lemmas.List.Sums.{fold-append}
use Rattle.std.proofs.lemmas.Grind.{flat_map-append}
use Rattle.mcap_wire.specs.Layout.{number, le}
use Rattle.mcap_wire.proofs.Numbers.{length-le, number-le}
use Rattle.rec_data.specs.Records.{ShowsMessage}
use Rattle.mcap_model.specs.Places.{At, Has}
use Rattle.mcap_model.specs.Fields.{MessageFields}
use Rattle.mcap_model.specs.Made.{top}
use Rattle.mcap_model.specs.Tops.{Top, Placed, top_bytes, unchunked, is_flat_kind, flattened, flat, placed}
use Rattle.mcap_model.specs.Scan.{Seen, IsSeen, Scan, is_message_top, tops_of}
use Rattle.mcap_model.proofs.Places.{at_none, at_one, at_set, at_set_same}
use Rattle.mcap_model.proofs.NamedTopics.{unmapped, zip_back}
use Rattle.mcap_model.proofs.Flat.{placed_tops, at_mapped, map-append}
use Rattle.mcap_scan.specs.declared.message_heads.MessageHead.{MessageHead}
use Rattle.mcap_scan.specs.Heads.{channel_id_in, head_of}
use Rattle.mcap_scan.specs.HeadTimes.{is_headed}
use Rattle.merge_walk.specs.SpanHeads.{set_at, heads_one, heads_from}
use Rattle.mcap_merge.proofs.Headed.{headed_message, scan_headed}
use Rattle.mcap_merge.specs.Marks.{listed_channels, message_channels, channels_under, with_mark, with_marks, AreUnmarked, MarksChannels}

-- ---- marks

pub length_marks : (marks : List Bool) (ids : List ℕ) → length (with_marks marks ids) ≡ length marks
length_marks marks [] = refl
length_marks marks (i ∷ is) = length_marks (set marks i true) is ∙ length-set marks i true

mark_stays : (marks : List Bool) (i n : ℕ) → At marks n true → At (set marks i true) n true
mark_stays [] i n at = absurd (at_none n true at)
mark_stays (m ∷ ms) zero zero at = refl
mark_stays (m ∷ ms) zero (suc n) at = at
mark_stays (m ∷ ms) (suc i) zero at = at
mark_stays (m ∷ ms) (suc i) (suc n) at = mark_stays ms i n at

marks_stay : (marks : List Bool) (ids : List ℕ) (n : ℕ) → At marks n true → At (with_marks marks ids) n true
marks_stay marks [] n at = at
marks_stay marks (i ∷ is) n at = marks_stay (set marks i true) is n (mark_stays marks i n at)

marks_there : (marks : List Bool) (ids : List ℕ) (k id : ℕ) → At ids k id → id < length marks → At (with_marks marks ids) id true
marks_there marks [] k id at within = absurd (at_none k id at)
marks_there marks (i ∷ is) zero id at within =
    let same : i ≡ id = at_one (i ∷ is) zero i id refl at in
    marks_stay (set marks i true) is id (subst (λ (n : ℕ). At (set marks i true) n true) same (at_set_same marks i true (let less : i < length marks = omega (arith, same, within) in less)))
marks_there marks (i ∷ is) (suc k) id at within = marks_there (set marks i true) is k id at (let long = length-set marks i true in omega (arith, within, long))

marks_back : (marks : List Bool) (ids : List ℕ) (n : ℕ) → At (with_marks marks ids) n true → At marks n true ⊎ Has ids n
marks_back marks [] n at = inl at
marks_back marks (i ∷ is) n at = elim (marks_back (set marks i true) is n at) [
  | inl early ↦ elim (at_set marks i n true true early) [
    | inl here ↦ inr (0, ap (λ (x : ℕ). Some x) (sym here.0))
    | inr there ↦ inl there.1
  ]
  | inr (k, later) ↦ inr (suc k, later)
]

-- ---- the channels of records

-- the channel that a Message's content shows stands at its front
pub channel_shown : (content : List ℕ) (channel : ℕ) (m : MessageFields) → ShowsMessage content channel m → channel_id_in content ≡ channel
channel_shown content channel m shows =
    let front : take 2 content ≡ le 2 channel = ap (take 2) shows.spelled_there ∙ take_at (le 2 channel) _ 2 (length-le 2 channel) in
    ap number front ∙ number-le 2 channel shows.fit.0

zip_channels : (records : List Top) (ps : List Placed) (messages : List Seen) → AllZip (IsSeen records) ps messages → map (λ s. s.channel) messages ≡ map (λ p. channel_id_in p.top.content) ps
zip_channels records [] [] zip = refl
zip_channels records [] (m ∷ ms) zip = absurd zip
zip_channels records (p ∷ ps) [] zip = absurd zip
zip_channels records (p ∷ ps) (m ∷ ms) zip =
    ap (λ (l : List ℕ). m.channel ∷ l) (zip_channels records ps ms zip.1)
    ∙ ap (λ (n : ℕ). n ∷ map (λ (q : Placed). channel_id_in q.top.content) ps) (sym (channel_shown p.top.content m.channel m.message zip.0.is.layout))

of_placed : (ps : List Placed) → map (λ p. channel_id_in p.top.content) (filter (λ p. is_headed p.top) ps) ≡ message_channels (tops_of ps)
of_placed [] = refl
of_placed (p ∷ ps) = by (is_headed p.top) (of_placed ps)
  where
    by : (b : Bool) → map (λ (q : Placed). channel_id_in q.top.content) (filter (λ q. is_headed q.top) ps) ≡ message_channels (tops_of ps)
        → map (λ (q : Placed). channel_id_in q.top.content) (cond b (p ∷ filter (λ q. is_headed q.top) ps) (filter (λ q. is_headed q.top) ps)) ≡ map (λ (t : Top). channel_id_in t.content) (cond b (p.top ∷ filter is_headed (tops_of ps)) (filter is_headed (tops_of ps)))
    by true rest = ap (λ (l : List ℕ). channel_id_in p.top.content ∷ l) rest
    by false rest = rest

channels_joined : (xs ys : List Top) → message_channels (xs ++ ys) ≡ message_channels xs ++ message_channels ys
channels_joined xs ys = ap (map (λ (t : Top). channel_id_in t.content)) (filter-append is_headed xs ys) ∙ map-append (λ (t : Top). channel_id_in t.content) (filter is_headed xs) (filter is_headed ys)

-- a Message is of a flat kind
pub messages_flat : (ts : List Top) → filter is_headed (filter is_flat_kind ts) ≡ filter is_headed ts
messages_flat [] = refl
messages_flat (t ∷ ts) = by (is_headed t) refl (messages_flat ts)
  where
    kept : (op : ℕ) (content : List ℕ) → op ≡ 5 → is_flat_kind (top op content) ≡ true
    kept op content is = subst (λ (n : ℕ). is_flat_kind (top n content) ≡ true) (sym is) refl

    left : (b : Bool) → is_headed t ≡ false → filter is_headed (filter is_flat_kind ts) ≡ filter is_headed ts
        → filter is_headed (cond b (t ∷ filter is_flat_kind ts) (filter is_flat_kind ts)) ≡ filter is_headed ts
    left true other rest = ap (λ (c : Bool). cond c (t ∷ filter is_headed (filter is_flat_kind ts)) (filter is_headed (filter is_flat_kind ts))) other ∙ rest
    left false other rest = rest

    by : (b : Bool) → is_headed t ≡ b → filter is_headed (filter is_flat_kind ts) ≡ filter is_headed ts
        → filter is_headed (filter is_flat_kind (t ∷ ts)) ≡ filter is_headed (t ∷ ts)
    by true is rest =
        ap (λ (c : Bool). filter is_headed (cond c (t ∷ filter is_flat_kind ts) (filter is_flat_kind ts))) (kept t.op t.content (eqb-true t.op 5 (headed_message t is)))
        ∙ ap (λ (c : Bool). cond c (t ∷ filter is_headed (filter is_flat_kind ts)) (filter is_headed (filter is_flat_kind ts))) is
        ∙ ap (λ (l : List Top). t ∷ l) rest
        ∙ sym (ap (λ (c : Bool). cond c (t ∷ filter is_headed ts) (filter is_headed ts)) is)
    by false other rest =
        left (is_flat_kind t) other rest
        ∙ sym (ap (λ (c : Bool). cond c (t ∷ filter is_headed ts) (filter is_headed ts)) other)

channels_flat : (tops : List Top) → message_channels (flat tops) ≡ channels_under tops
channels_flat [] = refl
channels_flat (t ∷ ts) =
    channels_joined (flattened t) (flat ts)
    ∙ ap (λ (l : List ℕ). l ++ message_channels (flat ts)) (ap (map (λ (u : Top). channel_id_in u.content)) (messages_flat (unchunked t)))
    ∙ ap (λ (l : List ℕ). message_channels (unchunked t) ++ l) (channels_flat ts)

-- those of a scan
scan_channels : (tops : List Top) (messages : List Seen) → Scan tops messages → map (λ s. s.channel) messages ≡ channels_under tops
scan_channels tops messages scan =
    zip_channels (tops_of (placed tops)) (filter (λ p. is_message_top p.top) (placed tops)) messages scan
    ∙ ap (map (λ (p : Placed). channel_id_in p.top.content)) (sym (scan_headed (tops_of (placed tops)) (placed tops) messages scan))
    ∙ of_placed (placed tops)
    ∙ ap message_channels (placed_tops 8 tops)
    ∙ channels_flat tops

pub are_marked : (tops : List Top) (messages : List Seen) (blank marks : List Bool) → AreUnmarked blank → marks ≡ with_marks blank (channels_under tops) → Scan tops messages → MarksChannels marks messages
are_marked tops messages blank marks none is scan =
    let same = scan_channels tops messages scan in
    record {
      size = ap length is ∙ length_marks blank (channels_under tops) ∙ none.size;
      are = λ id at. elim (marks_back blank (channels_under tops) id (subst (λ (l : List Bool). At l id true) is at)) [
        | inl blank_there ↦ let unmarked = none.none in absurd (true_false (unmarked id true blank_there))
        | inr (k, there) ↦
            let (m, at_m, on) = unmapped (λ (s : Seen). s.channel) messages k id (subst (λ (l : List ℕ). At l k id) (sym same) there) in
            (m, (k, at_m), on)
      ];
      all = λ m has.
          let there : At (channels_under tops) has.0 m.channel = subst (λ (l : List ℕ). At l has.0 m.channel) same (at_mapped (λ (s : Seen). s.channel) messages has.0 m has.1) in
          let (p, at_p, seen) = zip_back (IsSeen (tops_of (placed tops))) (filter (λ q. is_message_top q.top) (placed tops)) messages has.0 m scan has.1 in
          let small : m.channel < 256 ^ 2 = seen.is.layout.fit.0 in
          let within : m.channel < length blank = omega (arith, small, none.size) in
          subst (λ (l : List Bool). At l m.channel true) (sym is) (marks_there blank (channels_under tops) has.0 m.channel there within);
    }
  where
    true_false : true ≡ false → ⊥
    true_false e = cc

-- ---- one record more

pub marks_more : (blank old new : List Bool) (tops : List Top) (t : Top) → old ≡ with_marks blank (channels_under tops) → new ≡ with_marks old (message_channels (unchunked t)) → new ≡ with_marks blank (channels_under (tops ++ t ∷ []))
marks_more blank old new tops t was grown =
    grown
    ∙ ap (λ (l : List Bool). with_marks l (message_channels (unchunked t))) was
    ∙ sym (fold-append with_mark blank (channels_under tops) (message_channels (unchunked t)))
    ∙ sym (ap (with_marks blank) (flat_map-append (λ (u : Top). message_channels (unchunked u)) tops (t ∷ []) ∙ ap (λ (l : List ℕ). channels_under tops ++ l) (append-nil (message_channels (unchunked t)))))

-- ---- what is listed

channels_one : (at : ℕ) (t : Top) (b : Bool) → is_headed t ≡ b → listed_channels (heads_one at t) ≡ message_channels (t ∷ [])
channels_one at t b is =
    ap (λ (c : Bool). listed_channels (cond c (head_of (set_at at t) ∷ []) [])) is
    ∙ by b
    ∙ sym (ap (λ (c : Bool). map (λ (u : Top). channel_id_in u.content) (cond c (t ∷ []) [])) is)
  where
    by : (c : Bool) → listed_channels (cond c (head_of (set_at at t) ∷ []) []) ≡ map (λ (u : Top). channel_id_in u.content) (cond c (t ∷ []) [])
    by true = refl
    by false = refl

pub channels_listed : (at : ℕ) (tops : List Top) → listed_channels (heads_from at tops) ≡ message_channels tops
channels_listed at [] = refl
channels_listed at (t ∷ ts) =
    map-append (λ (h : MessageHead). h.channel) (heads_one at t) (heads_from (at + length (top_bytes t)) ts)
    ∙ ap (λ (l : List ℕ). l ++ listed_channels (heads_from (at + length (top_bytes t)) ts)) (channels_one at t (is_headed t) refl)
    ∙ ap (λ (l : List ℕ). message_channels (t ∷ []) ++ l) (channels_listed (at + length (top_bytes t)) ts)
    ∙ sym (channels_joined (t ∷ []) ts)
