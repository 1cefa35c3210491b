-- The flat records of a good list, and its one scan.
use Rattle.std.proofs.Common.{◌≡◌, ℕ, zero, suc, ◌+◌, ◌<◌, Bool, true, false, List, [], ◌∷◌, ◌++◌, length, take, map, Some, refl, sym, ap, subst, inl, inr, ◌∙◌, append_assoc, cond, arith}
use Rattle.std.specs.Prelude.{filter, if◌then◌else◌}
use Rattle.std.specs.List.{AllZip}
use Rattle.std.proofs.lemmas.Bool.{cases_lt, eqb-true}
use Rattle.std.proofs.lemmas.List.{append-nil}
use Rattle.std.proofs.lemmas.Grind.{flat_map-append}
use Rattle.mcap_wire.proofs.Contents.{shows_decided, begins_decided}
use Rattle.rec_data.specs.Records.{channel_kinds, channel_values, message_kinds, message_values}
use Rattle.mcap_model.specs.declared.replay.Place.{Place}
use Rattle.mcap_model.specs.Places.{At, Each, EachBehind}
use Rattle.mcap_model.specs.Tops.{Top, top_bytes, is_chunk, inner_tops, records_in, unchunked, is_flat_kind, flattened, flat, Placed, placed_inside, placed_one, placed_from, placed}
use Rattle.mcap_model.specs.Fields.{ChunkFields, IsChunk, ChannelFields, IsChannel}
use Rattle.mcap_model.specs.Rules.{V6, V7, V8, Agrees, HasChannel}
use Rattle.mcap_model.specs.Kept.{Limits, NamesCompression}
use Rattle.mcap_model.specs.Scan.{Seen, HasTopic, IsSeen, is_message_top, tops_of}
use Rattle.mcap_model.specs.Laws.{GoodListsAgree, GoodListsAreScanned}
use Rattle.mcap_model.proofs.Places.{at_none, at_one, each_more, each_at}
use Rattle.mcap_model.proofs.Unpacking.{chunks_are_opened}
use Rattle.std.proofs.lemmas.Option.{same_Some}
use Rattle.mcap_model.proofs.Lists.{each_joined}

-- ---- lists of lists

pub each_join : {X : Type 0} (P : List X → X → Type 0) (xs ys : List X) → EachBehind P xs → ((n : ℕ) (y : X) → At ys n y → P (xs ++ take n ys) y) → EachBehind P (xs ++ ys)
each_join P xs [] each more = subst (EachBehind P) (sym (append-nil xs)) each
each_join {X} P xs (y ∷ ys) each more =
    let first : P xs y = subst (λ (l : List X). P l y) (append-nil xs) (more 0 y refl) in
    subst (EachBehind P) (append_assoc xs (y ∷ []) ys)
    (each_join P (xs ++ y ∷ []) ys (each_more P xs y each first) (λ n z at. subst (λ (l : List X). P l z) (sym (append_assoc xs (y ∷ []) (take n ys))) (more (suc n) z at)))

pub each_filter : {X : Type 0} (P : X → Type 0) (test : X → Bool) (xs : List X) → Each P xs → Each P (filter test xs)
each_filter P test [] each = each
each_filter P test (x ∷ xs) each = by (test x) (each_filter P test xs (λ n y at. each (suc n) y at))
  where
    by : (b : Bool) → Each P (filter test xs) → Each P (cond b (x ∷ filter test xs) (filter test xs))
    by true rest zero y at = each zero y at
    by true rest (suc n) y at = rest n y at
    by false rest n y at = rest n y at

-- ---- V7 on flat records

pub flat_more : (done : List Top) (t : Top) → flat (done ++ t ∷ []) ≡ flat done ++ flattened t
flat_more done t = flat_map-append flattened done (t ∷ []) ∙ ap (λ (l : List Top). flat done ++ l) (append-nil (flattened t))

pub agree_more : (done rs : List Top) → EachBehind V7 (done ++ rs) → EachBehind Agrees (flat done) → EachBehind Agrees (flat (done ++ rs))
agree_more done [] v7 agree = subst (λ (l : List Top). EachBehind Agrees (flat l)) (sym (append-nil done)) agree
agree_more done (t ∷ ts) v7 agree =
    let here : V7 done t = each_at V7 done t ts v7 in
    let next : EachBehind Agrees (flat (done ++ t ∷ [])) = subst (EachBehind Agrees) (sym (flat_more done t)) (each_join Agrees (flat done) (flattened t) agree here) in
    subst (λ (l : List Top). EachBehind Agrees (flat l)) (append_assoc done (t ∷ []) ts)
    (agree_more (done ++ t ∷ []) ts (subst (EachBehind V7) (sym (append_assoc done (t ∷ []) ts)) v7) next)

-- ---- V6 on flat records

pub named_or : (t : Top) (f : ChunkFields) (name : List ℕ) → IsChunk t f → f.compression ≡ name → ((other : List ℕ) → NamesCompression t other → ⊥) → f.compression ≡ []
named_or t f [] is same plain = same
named_or t f (c ∷ cs) is same plain = absurd (plain (c ∷ cs) (record { shown = f; is = is; named = same; some = λ e. let size : length (c ∷ cs) ≡ 0 = ap length e in omega (arith, size) }))

opened_by : (t : Top) (b : Bool) → is_chunk t ≡ b → V6 t → V8 t → ((other : List ℕ) → NamesCompression t other → ⊥) → Each V6 (if b then inner_tops t else t ∷ [])
opened_by t true is v6 v8 plain =
    let shown = v6.chunk (eqb-true t.op 6 is) in
    let f = shown.0 in
    let right = v8 f shown.1 (named_or t f f.compression shown.1 refl plain) in
    subst (Each V6) (ap records_in (sym (chunks_are_opened t f shown.1))) right.layouts
opened_by t false is v6 v8 plain = λ n u at. subst V6 (some_alone t n u at) v6
  where
    some_alone : (t : Top) (n : ℕ) (u : Top) → At (t ∷ []) n u → t ≡ u
    some_alone t zero u at = same_Some t u at
    some_alone t (suc n) u at = absurd (at_none n u at)

flat_meets : (limits : Limits) (before tops : List Top) → Each (λ t. V6 t × V8 t × ((other : List ℕ) → NamesCompression t other → ⊥)) tops → Each V6 (flat tops)
flat_meets limits before [] each = λ n x at. absurd (at_none n x at)
flat_meets limits before (t ∷ ts) each =
    let here = each 0 t refl in
    each_joined V6 (flattened t) (flat ts) (each_filter V6 is_flat_kind (unchunked t) (opened_by t (is_chunk t) refl here.0 here.1 here.2)) (flat_meets limits before ts (λ n x at. each (suc n) x at))

pub good_lists_agree : GoodListsAgree
good_lists_agree limits tops good = (
  flat_meets limits [] tops (λ n t at. let fits = good n t at in (fits.v6, fits.v8, fits.plain)),
  agree_more [] tops (λ n t at. let fits = good n t at in fits.v7) (λ n x at. absurd (at_none n x at)),
)

-- ---- places

pub inside_tops : (chunk at : ℕ) (tops : List Top) → tops_of (placed_inside chunk at tops) ≡ tops
inside_tops chunk at [] = refl
inside_tops chunk at (t ∷ ts) = ap (λ (l : List Top). t ∷ l) (inside_tops chunk (at + length (top_bytes t)) ts)

pub map-append : {X Y : Type 0} (f : X → Y) (xs ys : List X) → map f (xs ++ ys) ≡ map f xs ++ map f ys
map-append f [] ys = refl
map-append f (x ∷ xs) ys = ap (λ l. f x ∷ l) (map-append f xs ys)

filter_tops : (ps : List Placed) → tops_of (filter (λ p. is_flat_kind p.top) ps) ≡ filter is_flat_kind (tops_of ps)
filter_tops [] = refl
filter_tops (p ∷ ps) = by (is_flat_kind p.top) (filter_tops ps)
  where
    by : (b : Bool) → tops_of (filter (λ q. is_flat_kind q.top) ps) ≡ filter is_flat_kind (tops_of ps) → tops_of (cond b (p ∷ filter (λ q. is_flat_kind q.top) ps) (filter (λ q. is_flat_kind q.top) ps)) ≡ cond b (p.top ∷ filter is_flat_kind (tops_of ps)) (filter is_flat_kind (tops_of ps))
    by true rest = ap (λ (l : List Top). p.top ∷ l) rest
    by false rest = rest

all_tops : (at : ℕ) (t : Top) (b : Bool) → tops_of (if b then placed_inside at 0 (inner_tops t) else record { place = record { top = at; inner = 0 }; top = t } ∷ []) ≡ (if b then inner_tops t else t ∷ [])
all_tops at t true = inside_tops at 0 (inner_tops t)
all_tops at t false = refl

one_tops : (at : ℕ) (t : Top) → tops_of (placed_one at t) ≡ flattened t
one_tops at t =
    filter_tops (if is_chunk t then placed_inside at 0 (inner_tops t) else record { place = record { top = at; inner = 0 }; top = t } ∷ [])
    ∙ ap (filter is_flat_kind) (all_tops at t (is_chunk t))

pub placed_tops : (at : ℕ) (tops : List Top) → tops_of (placed_from at tops) ≡ flat tops
placed_tops at [] = refl
placed_tops at (t ∷ ts) =
    map-append (λ (p : Placed). p.top) (placed_one at t) (placed_from (at + length (top_bytes t)) ts)
    ∙ ap (λ (l : List Top). l ++ tops_of (placed_from (at + length (top_bytes t)) ts)) (one_tops at t)
    ∙ ap (λ (l : List Top). flattened t ++ l) (placed_tops (at + length (top_bytes t)) ts)

-- ---- one message

topic_in : (records : List Top) (channel : ℕ) → HasChannel records channel → (topic : List ℕ) × HasTopic records channel topic
topic_in records channel has = (has.shown.topic, record { place = has.place; top = has.top; shown = has.shown; at = has.at; is = has.is; topic_is = refl })

has_longer : (records : List Top) (n channel : ℕ) → HasChannel (take n records) channel → HasChannel records channel
has_longer records n channel has = record { place = has.place; top = has.top; shown = has.shown; at = taken records n has.place has.top has.at; is = has.is }
  where
    taken : (xs : List Top) (n k : ℕ) (x : Top) → At (take n xs) k x → At xs k x
    taken xs zero k x at = absurd (at_none k x at)
    taken [] (suc n) k x at = absurd (at_none k x at)
    taken (y ∷ xs) (suc n) zero x at = at
    taken (y ∷ xs) (suc n) (suc k) x at = taken xs n k x at

at_taken : (xs : List Top) (n k : ℕ) (x : Top) → At xs k x → k < n → At (take n xs) k x
at_taken xs zero k x at less = absurd (omega (arith, less))
at_taken [] (suc n) k x at less = absurd (at_none k x at)
at_taken (y ∷ xs) (suc n) zero x at less = at
at_taken (y ∷ xs) (suc n) (suc k) x at less = at_taken xs n k x at (omega (arith, less))

channel_once : (t : Top) (id : ℕ) (f g : ChannelFields) → IsChannel t id f → IsChannel t id g → f.topic ≡ g.topic
channel_once t id f g one other =
    ap (λ v. v.1.1.0) (shows_decided channel_kinds t.content (channel_values id f) (channel_values id g) one.layout other.layout)

topic_before : (records : List Top) (channel : ℕ) (a b : List ℕ) → EachBehind Agrees records → (one : HasTopic records channel a) → (other : HasTopic records channel b) → one.place < other.place → a ≡ b
topic_before records channel a b agree one other less =
    let later = agree other.place other.top other.at in
    let same = later.channels channel other.shown one.shown one.place one.top other.is (at_taken records other.place one.place one.top one.at less) one.is in
    sym one.topic_is ∙ same.topic ∙ other.topic_is

topic_here : (records : List Top) (channel : ℕ) (a b : List ℕ) → (one : HasTopic records channel a) → (other : HasTopic records channel b) → one.place ≡ other.place → a ≡ b
topic_here records channel a b one other here =
    let at : At records other.place one.top = subst (λ (k : ℕ). At records k one.top) here one.at in
    let top : one.top ≡ other.top = at_one records other.place one.top other.top at other.at in
    let is : IsChannel other.top channel one.shown = subst (λ (t : Top). IsChannel t channel one.shown) top one.is in
    sym one.topic_is ∙ channel_once other.top channel one.shown other.shown is other.is ∙ other.topic_is

pub topic_once : (records : List Top) (channel : ℕ) (a b : List ℕ) → EachBehind Agrees records → HasTopic records channel a → HasTopic records channel b → a ≡ b
topic_once records channel a b agree one other = elim (cases_lt one.place other.place) [
  | inl less ↦ topic_before records channel a b agree one other less
  | inr more ↦ elim (cases_lt other.place one.place) [
    | inl less ↦ sym (topic_before records channel b a agree other one less)
    | inr same ↦ topic_here records channel a b one other (omega (arith, more, same))
  ]
]

seen_once : (records : List Top) (p : Placed) (s r : Seen) → EachBehind Agrees records → IsSeen records p s → IsSeen records p r → s ≡ r
seen_once records p s r agree one other =
    let a = one.is in
    let b = other.is in
    let same = begins_decided message_kinds p.top.content (message_values s.channel s.message) (message_values r.channel r.message) s.message.payload r.message.payload a.layout b.layout in
    let channel : s.channel ≡ r.channel = ap (λ v. v.0) same.0 in
    let known : HasTopic records r.channel s.topic = subst (λ (c : ℕ). HasTopic records c s.topic) channel one.known in
    let topic : s.topic ≡ r.topic = topic_once records r.channel s.topic r.topic agree known other.known in
    let place : s.place ≡ r.place = sym one.place ∙ other.place in
    ap (λ v. made s.place v.0 s.topic v.1.0 v.1.1.0 v.1.1.1.0 s.message.payload) same.0
    ∙ ap (λ (l : List ℕ). made s.place r.channel s.topic r.message.sequence r.message.log_time r.message.publish_time l) same.1
    ∙ ap (λ (l : List ℕ). made s.place r.channel l r.message.sequence r.message.log_time r.message.publish_time r.message.payload) topic
    ∙ ap (λ (q : Place). made q r.channel r.topic r.message.sequence r.message.log_time r.message.publish_time r.message.payload) place
  where
    made : Place → ℕ → List ℕ → ℕ → ℕ → ℕ → List ℕ → Seen
    made place channel topic sequence log_time publish_time payload = record {
      place = place;
      channel = channel;
      topic = topic;
      message = record { sequence = sequence; log_time = log_time; publish_time = publish_time; payload = payload };
    }

zip_once : (records : List Top) (ps : List Placed) (one other : List Seen) → EachBehind Agrees records → AllZip (IsSeen records) ps one → AllZip (IsSeen records) ps other → other ≡ one
zip_once records [] [] [] agree a b = refl
zip_once records [] [] (r ∷ rs) agree a b = absurd b
zip_once records [] (s ∷ ss) other agree a b = absurd a
zip_once records (p ∷ ps) [] other agree a b = absurd a
zip_once records (p ∷ ps) (s ∷ ss) [] agree a b = absurd b
zip_once records (p ∷ ps) (s ∷ ss) (r ∷ rs) agree a b =
    ap (λ (x : Seen). x ∷ rs) (seen_once records p r s agree b.0 a.0) ∙ ap (λ (l : List Seen). s ∷ l) (zip_once records ps ss rs agree a.1 b.1)

-- ---- there is a scan

sees : (records : List Top) (n : ℕ) (p : Placed) → Each V6 records → EachBehind Agrees records → At records n p.top → p.top.op ≡ 5 → (s : Seen) × IsSeen records p s
sees records n p meets agree at kind =
    let v6 = meets n p.top at in
    let (channel, m, is) = v6.message kind in
    let before = agree n p.top at in
    let known = topic_in records channel (has_longer records n channel (before.channel channel m is)) in
    (record { place = p.place; channel = channel; topic = known.0; message = m }, record { place = refl; is = is; known = known.1 })

zips : (records : List Top) (n : ℕ) (ps : List Placed) → Each V6 records → EachBehind Agrees records → ((k : ℕ) (p : Placed) → At ps k p → At records (n + k) p.top)
    → (messages : List Seen) × AllZip (IsSeen records) (filter (λ p. is_message_top p.top) ps) messages
zips records n [] meets agree there = ([], tt)
zips records n (p ∷ ps) meets agree there =
    let rest = zips records (suc n) ps meets agree (λ k q at. subst (λ (m : ℕ). At records m q.top) (omega arith) (there (suc k) q at)) in
    zips_by (is_message_top p.top) refl rest.0 rest.1
  where
    zips_by : (b : Bool) → is_message_top p.top ≡ b → (more : List Seen) → AllZip (IsSeen records) (filter (λ q. is_message_top q.top) ps) more
        → (messages : List Seen) × AllZip (IsSeen records) (filter (λ q. is_message_top q.top) (p ∷ ps)) messages
    zips_by true is more zip =
        let here = sees records n p meets agree (subst (λ (m : ℕ). At records m p.top) (omega arith) (there 0 p refl)) (eqb-true p.top.op 5 is) in
        (here.0 ∷ more, subst (λ (c : Bool). AllZip (IsSeen records) (cond c (p ∷ filter (λ q. is_message_top q.top) ps) (filter (λ q. is_message_top q.top) ps)) (here.0 ∷ more)) (sym is) (here.1, zip))
    zips_by false is more zip =
        (more, subst (λ (c : Bool). AllZip (IsSeen records) (cond c (p ∷ filter (λ q. is_message_top q.top) ps) (filter (λ q. is_message_top q.top) ps)) more) (sym is) zip)

pub at_mapped : {X Y : Type 0} (f : X → Y) (xs : List X) (n : ℕ) (x : X) → At xs n x → At (map f xs) n (f x)
at_mapped f [] n x at = absurd (at_none n x at)
at_mapped f (y ∷ xs) zero x at = ap (λ (z : _). Some (f z)) (same_Some y x at)
at_mapped f (y ∷ xs) (suc n) x at = at_mapped f xs n x at

pub good_lists_are_scanned : GoodListsAreScanned
good_lists_are_scanned limits tops good =
    let known = good_lists_agree limits tops good in
    let same = placed_tops 8 tops in
    let meets = subst (Each V6) (sym same) known.0 in
    let agree = subst (EachBehind Agrees) (sym same) known.1 in
    let found = zips (tops_of (placed tops)) 0 (placed tops) meets agree (λ k p at. subst (λ (m : ℕ). At (tops_of (placed tops)) m p.top) (omega arith) (at_mapped (λ (q : Placed). q.top) (placed tops) k p at)) in
    (found.0, found.1, λ others scan. zip_once (tops_of (placed tops)) (filter (λ p. is_message_top p.top) (placed tops)) found.0 others agree found.1 scan)
