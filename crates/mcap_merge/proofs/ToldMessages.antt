-- The messages of a file, as the bytes of its spans have them.
use Rattle.std.proofs.Common.{◌≡◌, ℕ, ◌+◌, Bool, true, false, eqb, List, [], ◌∷◌, ◌++◌, length, cond, refl, sym, ap, subst, ◌∙◌, arith}
use Rattle.std.specs.Prelude.{filter, slice_get, if◌then◌else◌}
use Rattle.std.specs.List.{list_any}
use Rattle.std.proofs.lemmas.Bool.{eqb-true}
use Rattle.mcap_model.specs.declared.replay.Place.{Place}
use Rattle.mcap_model.specs.Places.{At, Has}
use Rattle.mcap_model.specs.Tops.{Top, spelled, offset_behind, is_chunk, inner_tops, unchunked, is_flat_kind, Placed, placed_inside, placed_one, placed_from, placed}
use Rattle.mcap_model.specs.Fields.{IsMessage}
use Rattle.mcap_model.specs.Scan.{Seen, IsSeen, Scan, is_message_top, tops_of}
use Rattle.mcap_model.proofs.Places.{at_none, at_last}
use Rattle.mcap_model.proofs.Lists.{filter_passed, filter_has}
use Rattle.mcap_model.proofs.Members.{has_one}
use Rattle.mcap_model.proofs.NamedTopics.{zip_front, zip_back}
use Rattle.mcap_model.proofs.Flat.{at_mapped}
use Rattle.mcap_model.proofs.OpenedChunks.{placed_at}
use Rattle.merge_walk.specs.declared.spans.Span.{Span}
use Rattle.mcap_scan.specs.declared.message_heads.MessageHead.{MessageHead}
use Rattle.mcap_scan.specs.Heads.{channel_id_in, head_of}
use Rattle.mcap_scan.specs.HeadTimes.{time_in, is_headed}
use Rattle.merge_walk.specs.SpanHeads.{set_at, heads_one, heads_from}
use Rattle.merge_walk.specs.Times.{times_of}
use Rattle.merge_walk.specs.Spans.{spans_one}
use Rattle.merge_walk.proofs.Telling.{silent_records_have_none}
use Rattle.mcap_merge.proofs.Headed.{message_headed, headed_message}
use Rattle.mcap_merge.proofs.Marking.{channel_shown}
use Rattle.mcap_merge.proofs.Sound.{time_shown}
use Rattle.mcap_merge.proofs.Laid.{laid, lies}

-- ---- heads and times

head_there : (records : List Top) (inside : List Top) (r : Top) (behind : List Top) → records ≡ inside ++ r ∷ behind → is_headed r ≡ true → Has (heads_from 0 records) (head_of (set_at (length (spelled inside)) r))
head_there records inside r behind split is =
    let at = 0 + length (spelled inside) in
    let one : Has (heads_one at r) (head_of (set_at at r)) = (0, ap (λ (b : Bool). slice_get (cond b (head_of (set_at at r) ∷ []) []) 0) is) in
    let all = lies heads_one heads_from (λ n. refl) (λ n t ts. refl) 0 inside r behind (head_of (set_at at r)) one in
    let place : 0 + length (spelled inside) ≡ length (spelled inside) = omega arith in
    subst (λ (l : List Top). Has (heads_from 0 l) (head_of (set_at (length (spelled inside)) r))) (sym split) (subst (λ (n : ℕ). Has (heads_from 0 (inside ++ r ∷ behind)) (head_of (set_at n r))) place all)

time_there : (records : List Top) (r : Top) → Has records r → is_headed r ≡ true → Has (times_of records) (time_in r.content)
time_there records r has is =
    let kept = filter_has is_headed records has.0 r has.1 is in
    (kept.0, at_mapped (λ (t : Top). time_in t.content) (filter is_headed records) kept.0 r kept.1)

middle_there : (records inside : List Top) (r : Top) (behind : List Top) → records ≡ inside ++ r ∷ behind → Has records r
middle_there records inside r behind split = (length inside, subst (λ (l : List Top). At l (length inside) r) (sym split) (at_last inside r behind))

-- ---- places

message_flat : (t : Top) → is_message_top t ≡ true → is_flat_kind t ≡ true
message_flat t is = subst (λ (n : ℕ). list_any (λ kind. eqb kind n) (3 ∷ 4 ∷ 5 ∷ []) ≡ true) (sym (eqb-true t.op 5 is)) refl

placed_opened : (at : ℕ) (t : Top) → placed_one at t ≡ filter (λ p. is_flat_kind p.top) (placed_inside at 0 (unchunked t))
placed_opened at t = by (is_chunk t)
  where
    by : (b : Bool) → filter (λ p. is_flat_kind p.top) (if b then placed_inside at 0 (inner_tops t) else placed_at at 0 t ∷ []) ≡ filter (λ p. is_flat_kind p.top) (placed_inside at 0 (if b then inner_tops t else t ∷ []))
    by true = refl
    by false = refl

same_top : (p q : Place) → p ≡ q → p.top ≡ q.top
same_top p q same = ap (λ (r : Place). r.top) same

same_inner : (p q : Place) → p ≡ q → p.inner ≡ q.inner
same_inner p q same = ap (λ (r : Place). r.inner) same

-- the message that a record of a span is
pub record SpanMessage (messages : List Seen) (offset inner : ℕ) (r : Top) : Type 0 where
  pub seen : Seen
  pub has : Has messages seen
  pub top : seen.place.top ≡ offset
  pub inside : seen.place.inner ≡ inner
  pub is : IsMessage r seen.channel seen.message

seen_there : (tops : List Top) (p : Placed) (messages : List Seen) (offset inner : ℕ) (r : Top) → p ≡ placed_at offset inner r → Scan tops messages → Has (placed tops) p → is_message_top p.top ≡ true → SpanMessage messages offset inner r
seen_there tops p messages offset inner r same scan there is =
    let message = filter_has (λ (q : Placed). is_message_top q.top) (placed tops) there.0 p there.1 is in
    let (seen, at, shows) = zip_front (IsSeen (tops_of (placed tops))) (filter (λ q. is_message_top q.top) (placed tops)) messages message.0 p scan message.1 in
    let place : seen.place ≡ (placed_at offset inner r).place = sym shows.place ∙ ap (λ (q : Placed). q.place) same in
    record {
      seen = seen;
      has = (message.0, at);
      top = same_top seen.place (placed_at offset inner r).place place;
      inside = same_inner seen.place (placed_at offset inner r).place place;
      is = subst (λ (q : Placed). IsMessage q.top seen.channel seen.message) same shows.is;
    }

pub span_message : (tops front : List Top) (t : Top) (back : List Top) (messages : List Seen) (inside : List Top) (r : Top) (behind : List Top) → tops ≡ front ++ t ∷ back → Scan tops messages → unchunked t ≡ inside ++ r ∷ behind → is_headed r ≡ true
    → SpanMessage messages (offset_behind front) (length (spelled inside)) r
span_message tops front t back messages inside r behind cut scan split is =
    let offset = offset_behind front in
    let p = placed_at offset (0 + length (spelled inside)) r in
    let here : Has (placed_inside offset 0 (inside ++ r ∷ behind)) p = lies (λ n u. placed_at offset n u ∷ []) (placed_inside offset) (λ n. refl) (λ n u us. refl) 0 inside r behind p (0, refl) in
    let held : Has (placed_inside offset 0 (unchunked t)) p = subst (λ (l : List Top). Has (placed_inside offset 0 l) p) (sym split) here in
    let kept = filter_has (λ (q : Placed). is_flat_kind q.top) (placed_inside offset 0 (unchunked t)) held.0 p held.1 (message_flat r (headed_message r is)) in
    let one : Has (placed_one offset t) p = subst (λ (l : List Placed). Has l p) (sym (placed_opened offset t)) kept in
    let all : Has (placed (front ++ t ∷ back)) p = lies placed_one placed_from (λ n. refl) (λ n u us. refl) 8 front t back p one in
    let there : Has (placed tops) p = subst (λ (l : List Top). Has (placed l) p) (sym cut) all in
    let place : 0 + length (spelled inside) ≡ length (spelled inside) = omega arith in
    seen_there tops p messages offset (length (spelled inside)) r (ap (λ (n : ℕ). placed_at offset n r) place) scan there (headed_message r is)

-- ---- messages

-- the span of a record has a message
pub record SpanHas (offset : ℕ) (t : Top) (m : Seen) : Type 0 where
  pub offset_is : m.place.top ≡ offset
  pub span : Span
  pub has : Has (spans_one offset t) span
  pub head : Has (heads_from 0 (unchunked t)) (record { channel = m.channel; time = m.message.log_time; offset = m.place.inner })

abbrev head_at : ℕ → ℕ → ℕ → MessageHead
head_at channel time offset = record { channel = channel; time = time; offset = offset }

span_there : (offset : ℕ) (t : Top) (time : ℕ) → Has (times_of (unchunked t)) time → (s : Span) × Has (spans_one offset t) s
span_there offset t time has = by (spans_one offset t) refl
  where
    by : (l : List Span) → spans_one offset t ≡ l → (s : Span) × Has (spans_one offset t) s
    by [] none = absurd (at_none has.0 time (subst (λ (l : List ℕ). At l has.0 time) (silent_records_have_none offset t none) has.1))
    by (s ∷ ss) is = (s, (0, ap (λ (l : List Span). slice_get l 0) is))

-- the message is this record among those that the record is or holds
inside_has : (offset : ℕ) (t : Top) (m : Seen) (inside : List Top) (r : Top) (behind : List Top) (inner : ℕ) → unchunked t ≡ inside ++ r ∷ behind → inner ≡ 0 + length (spelled inside) → m.place ≡ (placed_at offset inner r).place → IsMessage r m.channel m.message
    → SpanHas offset t m
inside_has offset t m inside r behind inner split is place message =
    let kind = message_headed r m.channel m.message message in
    let time : time_in r.content ≡ m.message.log_time = time_shown r.content m.channel m.message message.layout in
    let there : length (spelled inside) ≡ m.place.inner = omega (arith, is, same_inner m.place (placed_at offset inner r).place place) in
    let channel : channel_id_in r.content ≡ m.channel = channel_shown r.content m.channel m.message message.layout in
    let e = head_there (unchunked t) inside r behind split kind in
    let (s, has) = span_there offset t (time_in r.content) (time_there (unchunked t) r (middle_there (unchunked t) inside r behind split) kind) in
    record {
      offset_is = same_top m.place (placed_at offset inner r).place place;
      span = s;
      has = has;
      head = subst (Has (heads_from 0 (unchunked t))) (ap (λ (n : ℕ). head_at n (time_in r.content) (length (spelled inside))) channel ∙ ap (λ (n : ℕ). head_at m.channel n (length (spelled inside))) time ∙ ap (head_at m.channel m.message.log_time) there) e;
    }

placed_has : (offset : ℕ) (t : Top) (p : Placed) (m : Seen) → Has (placed_one offset t) p → p.place ≡ m.place → IsMessage p.top m.channel m.message → SpanHas offset t m
placed_has offset t p m has place message =
    let one = subst (λ (l : List Placed). Has l p) (placed_opened offset t) has in
    let (held, flat) = filter_passed (λ (q : Placed). is_flat_kind q.top) (placed_inside offset 0 (unchunked t)) one.0 p one.1 in
    let g = laid (λ n u. placed_at offset n u ∷ []) (placed_inside offset) (λ n. refl) (λ n u us. refl) 0 (unchunked t) p held in
    by g.front g.top g.back g.split (has_one (placed_at offset (0 + length (spelled g.front)) g.top) p g.has)
  where
    by : (inside : List Top) (r : Top) (behind : List Top) → unchunked t ≡ inside ++ r ∷ behind → p ≡ placed_at offset (0 + length (spelled inside)) r → SpanHas offset t m
    by inside r behind split same =
        let here = sym place ∙ ap (λ (q : Placed). q.place) same in
        inside_has offset t m inside r behind (0 + length (spelled inside)) split refl here (subst (λ (q : Placed). IsMessage q.top m.channel m.message) same message)

-- a message is in the span of a record of its file
pub record MessageSpan (tops : List Top) (m : Seen) : Type 0 where
  pub front : List Top
  pub top : Top
  pub back : List Top
  pub split : tops ≡ front ++ top ∷ back
  pub span_has : SpanHas (offset_behind front) top m

pub message_span : (tops : List Top) (messages : List Seen) (m : Seen) → Scan tops messages → Has messages m → MessageSpan tops m
message_span tops messages m scan has =
    let (p, at, shows) = zip_back (IsSeen (tops_of (placed tops))) (filter (λ q. is_message_top q.top) (placed tops)) messages has.0 m scan has.1 in
    let (there, is) = filter_passed (λ (q : Placed). is_message_top q.top) (placed tops) has.0 p at in
    let f = laid placed_one placed_from (λ n. refl) (λ n u us. refl) 8 tops p there in
    record { front = f.front; top = f.top; back = f.back; split = f.split; span_has = placed_has (offset_behind f.front) f.top p m f.has shows.place shows.is }
