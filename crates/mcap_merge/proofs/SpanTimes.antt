-- The least time of a span is that of a message.
use Rattle.std.proofs.Common.{◌≡◌, ℕ, zero, suc, ◌+◌, Bool, true, false, List, [], ◌∷◌, ◌++◌, length, map, cond, refl, sym, ap, subst, inl, inr, ◌∙◌}
use Rattle.std.specs.Prelude.{filter}
use Rattle.std.specs.List.{AllZip, flat_map}
use Rattle.std.proofs.lemmas.List.Elements.{filter-append}
use Rattle.mcap_model.specs.Places.{At, Has}
use Rattle.mcap_model.specs.Tops.{Top, Placed, top_bytes, unchunked, flattened, flat, placed}
use Rattle.mcap_model.specs.Scan.{Seen, IsSeen, Scan, is_message_top}
use Rattle.mcap_model.specs.Scan.{tops_of as tops_in}
use Rattle.mcap_model.specs.Merged.{Sent, IsFrom}
use Rattle.mcap_model.proofs.Places.{at_none, at_one, at_kept}
use Rattle.mcap_model.proofs.Lists.{at_either, at_second}
use Rattle.mcap_model.proofs.NamedTopics.{unmapped}
use Rattle.mcap_model.proofs.Flat.{placed_tops, map-append}
use Rattle.merge_walk.specs.declared.spans.Span.{Span}
use Rattle.mcap_scan.specs.HeadTimes.{time_in, is_headed}
use Rattle.merge_walk.specs.Times.{times_of}
use Rattle.merge_walk.specs.Spans.{spans_one, spans_from, spans_of}
use Rattle.merge_walk.proofs.Telling.{spans_tell_times}
use Rattle.mcap_merge.specs.ReadInputs.{Read, read_tops}
use Rattle.mcap_merge.proofs.Headed.{scan_headed}
use Rattle.mcap_merge.proofs.Marking.{messages_flat}
use Rattle.mcap_merge.proofs.Sound.{time_shown}
use Rattle.mcap_merge.proofs.Sources.{sent, message_from}

-- ---- the times of a scan

zip_times : (records : List Top) (ps : List Placed) (messages : List Seen) → AllZip (IsSeen records) ps messages → map (λ s. s.message.log_time) messages ≡ map (λ p. time_in p.top.content) ps
zip_times records [] [] zip = refl
zip_times records [] (m ∷ ms) zip = absurd zip
zip_times records (p ∷ ps) [] zip = absurd zip
zip_times records (p ∷ ps) (m ∷ ms) zip =
    ap (λ (l : List ℕ). m.message.log_time ∷ l) (zip_times records ps ms zip.1)
    ∙ ap (λ (n : ℕ). n ∷ map (λ (q : Placed). time_in q.top.content) ps) (sym (time_shown p.top.content m.channel m.message zip.0.is.layout))

of_placed : (ps : List Placed) → map (λ p. time_in p.top.content) (filter (λ p. is_headed p.top) ps) ≡ times_of (tops_in ps)
of_placed [] = refl
of_placed (p ∷ ps) = by (is_headed p.top) (of_placed ps)
  where
    by : (b : Bool) → map (λ (q : Placed). time_in q.top.content) (filter (λ q. is_headed q.top) ps) ≡ times_of (tops_in ps)
        → map (λ (q : Placed). time_in q.top.content) (cond b (p ∷ filter (λ q. is_headed q.top) ps) (filter (λ q. is_headed q.top) ps)) ≡ map (λ (t : Top). time_in t.content) (cond b (p.top ∷ filter is_headed (tops_in ps)) (filter is_headed (tops_in ps)))
    by true rest = ap (λ (l : List ℕ). time_in p.top.content ∷ l) rest
    by false rest = rest

times_joined : (xs ys : List Top) → times_of (xs ++ ys) ≡ times_of xs ++ times_of ys
times_joined xs ys = ap (map (λ (t : Top). time_in t.content)) (filter-append is_headed xs ys) ∙ map-append (λ (t : Top). time_in t.content) (filter is_headed xs) (filter is_headed ys)

abbrev times_under : List Top → List ℕ
times_under tops = flat_map (λ t. times_of (unchunked t)) tops

times_flat : (tops : List Top) → times_of (flat tops) ≡ times_under tops
times_flat [] = refl
times_flat (t ∷ ts) =
    times_joined (flattened t) (flat ts)
    ∙ ap (λ (l : List ℕ). l ++ times_of (flat ts)) (ap (map (λ (u : Top). time_in u.content)) (messages_flat (unchunked t)))
    ∙ ap (λ (l : List ℕ). times_of (unchunked t) ++ l) (times_flat ts)

scan_times : (tops : List Top) (messages : List Seen) → Scan tops messages → map (λ s. s.message.log_time) messages ≡ times_under tops
scan_times tops messages scan =
    zip_times (tops_in (placed tops)) (filter (λ p. is_message_top p.top) (placed tops)) messages scan
    ∙ ap (map (λ (p : Placed). time_in p.top.content)) (sym (scan_headed (tops_in (placed tops)) (placed tops) messages scan))
    ∙ of_placed (placed tops)
    ∙ ap times_of (placed_tops 8 tops)
    ∙ times_flat tops

-- ---- the times of a span

has_flat : {X Y : Type 0} (f : X → List Y) (xs : List X) (k : ℕ) (x : X) (y : Y) → At xs k x → Has (f x) y → Has (flat_map f xs) y
has_flat f [] k x y at has = absurd (at_none k x at)
has_flat {X} f (z ∷ xs) zero x y at has =
    let same : x ≡ z = at_one (z ∷ xs) zero x z at refl in
    (has.0, at_kept (f z) (flat_map f xs) has.0 y (subst (λ (w : X). At (f w) has.0 y) same has.1))
has_flat f (z ∷ xs) (suc k) x y at has =
    let there = has_flat f xs k x y at has in
    (length (f z) + there.0, at_second (f z) (flat_map f xs) there.0 y there.1)

least_there : (at : ℕ) (tops : List Top) (s : Span) → Has (spans_from at tops) s → Has (times_under tops) s.least
least_there at [] s has = absurd (at_none has.0 s has.1)
least_there at (t ∷ ts) s has = elim (at_either (spans_one at t) (spans_from (at + length (top_bytes t)) ts) has.0 s has.1) [
  | inl first ↦
      let told = spans_tell_times at t s (has.0, first) in
      has_flat (λ u. times_of (unchunked u)) (t ∷ ts) zero t s.least refl told.1.least_there
  | inr (k, is, behind) ↦
      let there = least_there (at + length (top_bytes t)) ts s (k, behind) in
      (length (times_of (unchunked t)) + there.0, at_second (times_of (unchunked t)) (times_under ts) there.0 s.least there.1)
]

-- it is sent at that time
pub least_sent : (reads : List Read) (number : ℕ) (r : Read) (s : Span) → At reads number r → Scan r.tops r.messages → Has (spans_of r.tops) s → (m : Sent) × IsFrom (read_tops reads) m × (m.seen.message.log_time ≡ s.least)
least_sent reads number r s at scan has =
    let there = least_there 8 r.tops s has in
    let (seen, at_seen, time) = unmapped (λ (x : Seen). x.message.log_time) r.messages there.0 s.least (subst (λ (l : List ℕ). At l there.0 s.least) (sym (scan_times r.tops r.messages scan)) there.1) in
    (sent number seen, message_from reads number r seen at scan (there.0, at_seen), time)
