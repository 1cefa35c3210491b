-- A lane goes over the records of a feed: which messages wait, and how many records are passed over.
use Rattle.std.proofs.Common.{◌≡◌, ℕ, suc, ◌+◌, ◌≤◌, Bool, true, false, List, [], ◌∷◌, ◌++◌, length, take, filter, eqb, cond, refl, sym, ap, subst, ◌∙◌, append_assoc, arith}
use Rattle.std.specs.Prelude.{◌||◌, nat_lt}
use Rattle.std.proofs.lemmas.Bool.{both_ways, eqb-true, ne_eqb, ltb-false}
use Rattle.std.proofs.lemmas.List.{append-nil, length-append}
use Rattle.std.proofs.lemmas.List.Elements.{filter-append}
use Rattle.std.proofs.lemmas.List.Sums.{sum_by-cons}
use Rattle.std.proofs.lemmas.Grind.{flat_map-append}
use Rattle.mcap_model.specs.Places.{At, Each}
use Rattle.mcap_model.specs.Tops.{Top, top_bytes, spelled, offset_behind, chunk_records, records_in, is_chunk, inner_tops, unchunked, is_flat_kind, flattened, flat, Placed, placed_inside}
use Rattle.mcap_model.specs.WalkedRecords.{walked_one, walked_from, walked}
use Rattle.mcap_model.specs.Made.{top}
use Rattle.mcap_model.specs.Rules.{is_unknown, stands_in_chunk}
use Rattle.mcap_model.specs.Kept.{reading_limits, Fits, Good}
use Rattle.mcap_model.specs.Scan.{tops_of}
use Rattle.mcap_model.specs.Written.{is_passed_over, passed_in, passed}
use Rattle.mcap_model.proofs.Places.{at_last, each_at}
use Rattle.mcap_model.proofs.Readings.{length-top}
use Rattle.mcap_model.proofs.Logging.{few_filtered}
use Rattle.mcap_model.proofs.FewRecords.{records_short, chunk_short}
use Rattle.mcap_model.proofs.Flat.{named_or, inside_tops, map-append}
use Rattle.mcap_model.proofs.Unpacking.{chunks_are_opened}
use Rattle.feed_lane.specs.Lanes.{messages}
use Rattle.feed_lane.specs.Steps.{AtHand, MessagesWait, passed_among}
use Rattle.feed_lane.proofs.Growing.{messages_more}

-- ---- which messages wait

-- the first of them is at hand
pub waits_at : (records : List Top) (handled : ℕ) (content : List ℕ) (more : List Top) → MessagesWait records handled (top 5 content ∷ more) → AtHand records handled content
waits_at records handled content more waits =
    subst (λ (n : ℕ). At (messages records) n (top 5 content)) waits.many
    (subst (λ (l : List Top). At l (length waits.done) (top 5 content)) (sym waits.split) (at_last waits.done (top 5 content) (messages more)))

-- it is handled
pub waits_behind : (records : List Top) (handled : ℕ) (content : List ℕ) (more : List Top) → MessagesWait records handled (top 5 content ∷ more) → MessagesWait records (handled + 1) more
waits_behind records handled content more waits = record {
  done = waits.done ++ top 5 content ∷ [];
  split = waits.split ∙ sym (append_assoc waits.done (top 5 content ∷ []) (messages more));
  many = omega (arith, waits.many, length-append waits.done (top 5 content ∷ []));
}

-- another record is none of them
pub waits_other : (records : List Top) (handled : ℕ) (t : Top) (more : List Top) → (t.op ≡ 5 → ⊥) → MessagesWait records handled (t ∷ more) → MessagesWait records handled more
waits_other records handled t more other waits = record {
  done = waits.done;
  split = waits.split ∙ ap (λ (b : Bool). waits.done ++ cond b (t ∷ messages more) (messages more)) (ne_eqb t.op 5 other);
  many = waits.many;
}

-- all were handled
pub waits_none : (records : List Top) (handled : ℕ) → MessagesWait records handled [] → handled ≡ length (messages records)
waits_none records handled waits =
    sym waits.many ∙ sym (ap length (waits.split ∙ append-nil waits.done))

-- ---- messages

messages_flat : (records : List Top) → messages (filter is_flat_kind records) ≡ messages records
messages_flat [] = refl
messages_flat (t ∷ ts) = by (eqb t.op 5) refl (messages_flat ts)
  where
    kept : (op : ℕ) (content : List ℕ) → op ≡ 5 → is_flat_kind (top op content) ≡ true
    kept op content is = subst (λ (n : ℕ). is_flat_kind (top n content) ≡ true) (sym is) refl

    left : (b : Bool) → eqb t.op 5 ≡ false → messages (filter is_flat_kind ts) ≡ messages ts
        → messages (cond b (t ∷ filter is_flat_kind ts) (filter is_flat_kind ts)) ≡ messages ts
    left true other rest = ap (λ (c : Bool). cond c (t ∷ messages (filter is_flat_kind ts)) (messages (filter is_flat_kind ts))) other ∙ rest
    left false other rest = rest

    by : (b : Bool) → eqb t.op 5 ≡ b → messages (filter is_flat_kind ts) ≡ messages ts → messages (filter is_flat_kind (t ∷ ts)) ≡ messages (t ∷ ts)
    by true is rest =
        ap (λ (c : Bool). messages (cond c (t ∷ filter is_flat_kind ts) (filter is_flat_kind ts))) (kept t.op t.content (eqb-true t.op 5 is))
        ∙ ap (λ (c : Bool). cond c (t ∷ messages (filter is_flat_kind ts)) (messages (filter is_flat_kind ts))) is
        ∙ ap (λ (l : List Top). t ∷ l) rest
        ∙ sym (ap (λ (c : Bool). cond c (t ∷ messages ts) (messages ts)) is)
    by false other rest =
        left (is_flat_kind t) other rest
        ∙ sym (ap (λ (c : Bool). cond c (t ∷ messages ts) (messages ts)) other)

-- ---- the records where they stand, those inside chunks behind the chunk's own

abbrev all_in : Top → List Top
all_in t = t ∷ cond (is_chunk t) (inner_tops t) []

one_walked : (at : ℕ) (t : Top) → tops_of (walked_one at t) ≡ all_in t
one_walked at t = by (is_chunk t)
  where
    by : (b : Bool) → t ∷ tops_of (cond b (placed_inside at 0 (inner_tops t)) []) ≡ t ∷ cond b (inner_tops t) []
    by true = ap (λ (l : List Top). t ∷ l) (inside_tops at 0 (inner_tops t))
    by false = refl

walked_more : (at : ℕ) (t : Top) (ts : List Top) → tops_of (walked_from at (t ∷ ts)) ≡ all_in t ++ tops_of (walked_from (at + length (top_bytes t)) ts)
walked_more at t ts =
    map-append (λ (p : Placed). p.top) (walked_one at t) (walked_from (at + length (top_bytes t)) ts)
    ∙ ap (λ (l : List Top). l ++ tops_of (walked_from (at + length (top_bytes t)) ts)) (one_walked at t)

all_messages : (t : Top) → messages (all_in t) ≡ messages (unchunked t)
all_messages t = by (is_chunk t) refl
  where
    by : (b : Bool) → is_chunk t ≡ b → messages (t ∷ cond b (inner_tops t) []) ≡ messages (cond b (inner_tops t) (t ∷ []))
    by true is = ap (λ (n : ℕ). messages (top n t.content ∷ inner_tops t)) (eqb-true t.op 6 is)
    by false is = refl

walked_from_messages : (at : ℕ) (tops : List Top) → messages (tops_of (walked_from at tops)) ≡ messages (flat tops)
walked_from_messages at [] = refl
walked_from_messages at (t ∷ ts) =
    let next = at + length (top_bytes t) in
    ap messages (walked_more at t ts)
    ∙ messages_more (all_in t) (tops_of (walked_from next ts))
    ∙ ap (λ (l : List Top). l ++ messages (tops_of (walked_from next ts))) (all_messages t ∙ sym (messages_flat (unchunked t)))
    ∙ ap (λ (l : List Top). messages (flattened t) ++ l) (walked_from_messages next ts)
    ∙ sym (messages_more (flattened t) (flat ts))

-- of all of them the messages are those of the flat records
pub walked_messages : (tops : List Top) → messages (tops_of (walked tops)) ≡ messages (flat tops)
walked_messages tops = walked_from_messages 8 tops

-- behind the messages of the records that were given, that one waits, and those that are due
pub waits_next : (tops : List Top) (given : List Placed) (p : Placed) (ahead : List Placed) → walked tops ≡ (given ++ p ∷ []) ++ ahead → MessagesWait (flat tops) (length (messages (tops_of given))) (p.top ∷ tops_of ahead)
waits_next tops given p ahead all = record {
  done = messages (tops_of given);
  split =
      sym (walked_messages tops)
      ∙ ap (λ (l : List Placed). messages (tops_of l)) (all ∙ append_assoc given (p ∷ []) ahead)
      ∙ ap messages (map-append (λ (q : Placed). q.top) given (p ∷ ahead))
      ∙ messages_more (tops_of given) (p.top ∷ tops_of ahead);
  many = refl;
}

-- where those that are due wait, all messages that were given are handled
pub waits_due : (tops : List Top) (given ahead : List Placed) (handled : ℕ) → walked tops ≡ given ++ ahead → MessagesWait (flat tops) handled (tops_of ahead) → handled ≡ length (messages (tops_of given))
waits_due tops given ahead handled all waits =
    let whole : messages (flat tops) ≡ messages (tops_of given) ++ messages (tops_of ahead) =
    sym (walked_messages tops)
    ∙ ap (λ (l : List Placed). messages (tops_of l)) all
    ∙ ap messages (map-append (λ (q : Placed). q.top) given ahead)
    ∙ messages_more (tops_of given) (tops_of ahead) in
    let sizes = ap length (sym waits.split ∙ whole) in
    omega (arith, sizes, waits.many, length-append waits.done (messages (tops_of ahead)), length-append (messages (tops_of given)) (messages (tops_of ahead)))

-- the messages of first records are no more than those that were given
pub messages_behind : (earlier : List Top) (given behind : List Placed) → given ≡ walked earlier ++ behind → length (messages (flat earlier)) ≤ length (messages (tops_of given))
messages_behind earlier given behind split =
    let whole : messages (tops_of given) ≡ messages (flat earlier) ++ messages (tops_of behind) =
    ap (λ (l : List Placed). messages (tops_of l)) split
    ∙ ap messages (map-append (λ (q : Placed). q.top) (walked earlier) behind)
    ∙ messages_more (tops_of (walked earlier)) (tops_of behind)
    ∙ ap (λ (l : List Top). l ++ messages (tops_of behind)) (walked_messages earlier) in
    omega (arith, ap length whole, length-append (messages (flat earlier)) (messages (tops_of behind)))

-- ---- records that are passed over

pub among_more : (one more : List Top) → passed_among (one ++ more) ≡ passed_among one + passed_among more
among_more one more =
    ap length (filter-append is_passed_over one more)
    ∙ length-append (filter is_passed_over one) (filter is_passed_over more)

-- the records inside a chunk are of the kinds that may stand there
abbrev IsPlain : Top → Type 0
IsPlain t = is_chunk t ≡ true → Each (λ u. stands_in_chunk u.op ≡ true) (inner_tops t)

plain_fits : (before : List Top) (t : Top) → Fits reading_limits before t → IsPlain t
plain_fits before t fits = λ is.
    let shown = fits.v6.chunk (eqb-true t.op 6 is) in
    let f = shown.0 in
    let right = fits.v8 f shown.1 (named_or t f f.compression shown.1 refl fits.plain) in
    subst (Each (λ u. stands_in_chunk u.op ≡ true)) (ap records_in (sym (chunks_are_opened t f shown.1))) right.kinds

-- of these kinds only unknown records are passed over
inside_passed : (u : Top) → stands_in_chunk u.op ≡ true → is_passed_over u ≡ is_unknown u.op
inside_passed u stands = by (eqb u.op 9) (eqb u.op 12) refl refl
  where
    by : (nine twelve : Bool) → eqb u.op 9 ≡ nine → eqb u.op 12 ≡ twelve → is_passed_over u ≡ is_unknown u.op
    by true twelve here other = absurd (both_ways (stands_in_chunk u.op) (ap stands_in_chunk (eqb-true u.op 9 here)) stands)
    by false true here other = absurd (both_ways (stands_in_chunk u.op) (ap stands_in_chunk (eqb-true u.op 12 other)) stands)
    by false false here other = ap (λ (b : Bool). b || (eqb u.op 12 || is_unknown u.op)) here ∙ ap (λ (b : Bool). b || is_unknown u.op) other

inner_passed : (us : List Top) → Each (λ u. stands_in_chunk u.op ≡ true) us → passed_among us ≡ length (filter (λ u. is_unknown u.op) us)
inner_passed [] kinds = refl
inner_passed (u ∷ us) kinds =
    among_more (u ∷ []) us
    ∙ ap (λ (n : ℕ). passed_among (u ∷ []) + n) (inner_passed us (λ n v at. kinds (suc n) v at))
    ∙ ap (λ (b : Bool). length (cond b (u ∷ []) []) + length (filter (λ v. is_unknown v.op) us)) (inside_passed u (kinds 0 u refl))
    ∙ sym (length-append (filter (λ v. is_unknown v.op) (u ∷ [])) (filter (λ v. is_unknown v.op) us))
    ∙ ap length (sym (filter-append (λ (v : Top). is_unknown v.op) (u ∷ []) us))

all_passed : (t : Top) → IsPlain t → passed_among (all_in t) ≡ passed_in t
all_passed t plain = by (is_chunk t) refl
  where
    chunk : (op : ℕ) → op ≡ 6 → passed_among (top op t.content ∷ []) ≡ 0
    chunk op is = ap (λ (n : ℕ). passed_among (top n t.content ∷ [])) is

    count : (b : Bool) → length (cond b (t ∷ []) []) ≡ cond b 1 0
    count true = refl
    count false = refl

    by : (b : Bool) → is_chunk t ≡ b → passed_among (t ∷ cond b (inner_tops t) []) ≡ cond b (length (filter (λ u. is_unknown u.op) (inner_tops t))) (cond (is_passed_over t) 1 0)
    by true is =
        let none : passed_among (t ∷ []) ≡ 0 = chunk t.op (eqb-true t.op 6 is) in
        omega (arith, among_more (t ∷ []) (inner_tops t), none, inner_passed (inner_tops t) (plain is))
    by false is = count (is_passed_over t)

walked_from_passed : (at : ℕ) (tops : List Top) → Each IsPlain tops → passed_among (tops_of (walked_from at tops)) ≡ passed tops
walked_from_passed at [] plain = refl
walked_from_passed at (t ∷ ts) plain =
    let next = at + length (top_bytes t) in
    ap passed_among (walked_more at t ts)
    ∙ among_more (all_in t) (tops_of (walked_from next ts))
    ∙ ap (λ (n : ℕ). n + passed_among (tops_of (walked_from next ts))) (all_passed t (plain 0 t refl))
    ∙ ap (λ (n : ℕ). passed_in t + n) (walked_from_passed next ts (λ n u at. plain (suc n) u at))
    ∙ sym (sum_by-cons passed_in t ts)

-- of all of them as many are passed over as of the records of the top level and what these hold
pub walked_passed : (tops : List Top) → Good reading_limits tops → passed_among (tops_of (walked tops)) ≡ passed tops
walked_passed tops good = walked_from_passed 8 tops (λ n t at. plain_fits (take n tops) t (good n t at))

-- of those that were given no more are passed over than of the records that were read
pub given_passed : (tops : List Top) (given ahead : List Placed) → Good reading_limits tops → walked tops ≡ given ++ ahead → passed_among (tops_of given) ≤ passed tops
given_passed tops given ahead good all =
    let whole : passed tops ≡ passed_among (tops_of given) + passed_among (tops_of ahead) =
    sym (walked_passed tops good)
    ∙ ap (λ (l : List Placed). passed_among (tops_of l)) all
    ∙ ap passed_among (map-append (λ (q : Placed). q.top) given ahead)
    ∙ among_more (tops_of given) (tops_of ahead) in
    omega (arith, whole)

-- and no fewer than of first records which they hold
pub passed_behind : (earlier : List Top) (given behind : List Placed) → Good reading_limits earlier → given ≡ walked earlier ++ behind → passed earlier ≤ passed_among (tops_of given)
passed_behind earlier given behind good split =
    let whole : passed_among (tops_of given) ≡ passed earlier + passed_among (tops_of behind) =
    ap (λ (l : List Placed). passed_among (tops_of l)) split
    ∙ ap passed_among (map-append (λ (q : Placed). q.top) (walked earlier) behind)
    ∙ among_more (tops_of (walked earlier)) (tops_of behind)
    ∙ ap (λ (n : ℕ). n + passed_among (tops_of behind)) (walked_passed earlier good) in
    omega (arith, whole)

one_short : (t : Top) → passed_in t ≤ length (top_bytes t)
one_short t = by (is_chunk t) (is_passed_over t)
  where
    by : (b c : Bool) → cond b (length (filter (λ u. is_unknown u.op) (inner_tops t))) (cond c 1 0) ≤ length (top_bytes t)
    by true c = omega (arith, few_filtered (λ (u : Top). is_unknown u.op) (inner_tops t), records_short (chunk_records t.content), chunk_short t.content, length-top t)
    by false true = omega (arith, length-top t)
    by false false = omega arith

-- they are fewer than the bytes of the feed
passed_short : (tops : List Top) → passed tops ≤ length (spelled tops)
passed_short [] = omega arith
passed_short (t ∷ ts) =
    let size : length (spelled (t ∷ ts)) ≡ length (top_bytes t) + length (spelled ts) = length-append (top_bytes t) (spelled ts) in
    both (passed_in t) (passed ts) (length (top_bytes t)) (length (spelled ts)) (passed (t ∷ ts)) (length (spelled (t ∷ ts))) (one_short t) (passed_short ts) (sum_by-cons passed_in t ts) size
  where
    both : (a b x y n m : ℕ) → a ≤ x → b ≤ y → n ≡ a + b → m ≡ x + y → n ≤ m
    both a b x y n m one more sum size = omega (arith, one, more, sum, size)

or_second : (x y : Bool) → (x || y) ≡ false → y ≡ false
or_second true y is = cc
or_second false y is = is

-- and so fewer than a count can hold
pub passed_few : (earlier : List Top) (last : Top) → Good reading_limits (earlier ++ last ∷ []) → passed (earlier ++ last ∷ []) ≤ 1099511627776
passed_few earlier last good =
    let fits = each_at (Fits reading_limits) earlier last [] good in
    let near = ltb-false 1099511627776 (offset_behind earlier + 9 + length last.content) (or_second (nat_lt 268435456 (length last.content)) (nat_lt 1099511627776 (offset_behind earlier + 9 + length last.content)) fits.within) in
    let one : spelled (earlier ++ last ∷ []) ≡ spelled earlier ++ top_bytes last = flat_map-append top_bytes earlier (last ∷ []) ∙ ap (λ (l : List ℕ). spelled earlier ++ l) (append-nil (top_bytes last)) in
    omega (arith, near, ap length one, length-top last, passed_short (earlier ++ last ∷ []), length-append (spelled earlier) (top_bytes last))
