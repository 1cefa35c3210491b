-- How much is asked for of a fully indexed file.
use Rattle.std.proofs.Common.{◌≡◌, ℕ, suc, ◌+◌, ◌≤◌, Bool, false, List, [], ◌∷◌, ◌++◌, length, drop, map, sum, sum_by, refl, sym, ap, subst, inl, inr, ◌∙◌, arith}
use Rattle.std.specs.Prelude.{◌==◌, filter}
use Rattle.std.specs.List.{AllZip}
use Rattle.std.proofs.lemmas.List.Sums.{sum_by-cons, sum-map}
use Rattle.mcap_model.specs.declared.replay.Range.{Range}
use Rattle.mcap_model.specs.Places.{Each}
use Rattle.mcap_model.specs.Tops.{Top, top_bytes, spelled, inner_tops}
use Rattle.mcap_model.specs.Fields.{ChunkIndexFields, IsChunkIndex}
use Rattle.mcap_model.specs.Rules.{HasDataEnd}
use Rattle.mcap_model.specs.Kept.{reading_limits, at_end, Halts}
use Rattle.mcap_model.specs.Scan.{Seen, Scan}
use Rattle.mcap_model.specs.Whole.{offset_of, offset_among, indexes_behind, IsNamed, NamesIndexes}
use Rattle.mcap_model.specs.Valid.{FullyIndexed, IsFullyIndexed}
use Rattle.mcap_model.specs.Led.{HasSummary, IsThere, Meets}
use Rattle.indexed_replay.specs.Bounds.{is_asked, ChunkCosts, AskedBound}
use Rattle.mcap_model.proofs.Lists.{filter_passed}
use Rattle.mcap_model.proofs.Flat.{good_lists_are_scanned}
use Rattle.mcap_laws.proofs.Leading.{there_same, is_there, opened, section_first, index_right, index_stands}
use Rattle.summary_read.specs.Parts.{of_kind}
use Rattle.indexed_replay.specs.Reaching.{HasChunkIndex, ChunkEndsAt, Beside, nothing, heads, AskedBeside}
use Rattle.indexed_replay.specs.Costs.{plain_length, ChunkCost, empty_map, plain_chunk, IndexesCost, no_index, next_index}
use Rattle.indexed_replay.proofs.Chunking.{name_length}
use Rattle.mcap_model.proofs.Once.{chunk_index_once}
use Rattle.indexed_replay.proofs.Weighed.{weights_fit}
use Rattle.indexed_replay.proofs.Full.{OfChunk, of_chunk, none_astray}
use Rattle.indexed_replay.proofs.Costing.{names_differ, top_size, asked_size, spelled_size, asked_sum, chosen_places, OneSpent, spent}

-- ---- sums

map_same : (xs : List ℕ) → map (λ (n : ℕ). n) xs ≡ xs
map_same [] = refl
map_same (x ∷ xs) = ap (λ (l : List ℕ). x ∷ l) (map_same xs)

sum_is : (xs : List ℕ) → sum xs ≡ sum_by (λ (n : ℕ). n) xs
sum_is xs = ap sum (sym (map_same xs)) ∙ sum-map (λ (n : ℕ). n) xs

sum_more : (x : ℕ) (xs : List ℕ) → x + sum xs ≡ sum (x ∷ xs)
sum_more x xs = omega (arith, sum_is (x ∷ xs), sum_is xs, sum_by-cons (λ (n : ℕ). n) x xs)

-- ---- chunks

module _ (file : List ℕ) (tops : List Top) (full : FullyIndexed file tops) (section more : List Top) (joined : tops ≡ section ++ more) (ended : HasDataEnd section) (messages : List Seen) (scan : Scan section messages) (range : Range) (chosen : ℕ → Bool) where
  one_spent : (f : ChunkIndexFields) (c : OfChunk file tops f) (x : ℕ × ℕ) (entries : List (ℕ × ℕ)) → IsNamed tops (c.right).k x.0 x.1 entries → OneSpent file range chosen f.offset (indexes_behind tops (c.right).k) (inner_tops (c.right).chunk) x
  one_spent f c x entries named =
      let right = c.right in
      let of = right.is in
      let six = of.is in
      let (rest, stands, short) = index_stands file tops full section more joined ended messages scan range right.k named.place x.1 named.top named.at named.there in
      let are = index_right file tops full section more joined ended messages scan range right.k named.place right.chunk named.top x.0 entries of.at six.kind named.at named.is in
      let chunk = opened file tops right.k right.chunk right.shown full.valid of.at of.is in
      let behind = chunk.behind in
      let all_short = chunk.short in
      record {
        place = named.place;
        top = named.top;
        entries = entries;
        at = named.at;
        is = named.is;
        there = is_there file x.1 named.top rest stands short;
        places = chosen_places file range chosen f.offset (inner_tops right.chunk)
            (λ j u at.
            let (after, here) = behind j u at in
            let place : f.offset + 49 + offset_among (inner_tops right.chunk) j ≡ offset_of tops right.k + 49 + offset_among (inner_tops right.chunk) j = omega (arith, of.offset) in
            is_there file (f.offset + 49 + offset_among (inner_tops right.chunk) j) u after (ap (λ (o : ℕ). drop o file) place ∙ here) (all_short j u at))
            x.0 entries are.are are.once;
      }

  -- of a chunk no more is asked for than its costs
  chunk_costs : (f : ChunkIndexFields) (cost : ℕ) → OfChunk file tops f → Meets range f → ChunkCosts file range chosen f cost → (n : ℕ) × ChunkCost file range chosen f n false × (n ≤ cost)
  chunk_costs f cost c meets costs =
      let right = c.right in
      let of = right.is in
      let there = c.there in
      let stands = there.stands in
      let same = there_same file f.offset right.chunk costs.chunk stands.rest stands.there there.short costs.there in
      let met = costs.met in
      let total : cost ≡ 49 + f.indexes_size + length (spelled (filter (is_asked range chosen) (inner_tops right.chunk))) = met meets ∙ ap (λ (t : Top). 49 + f.indexes_size + length (spelled (filter (is_asked range chosen) (inner_tops t)))) same in
      by right.names total
    where
      ends : ChunkEndsAt file f.offset (f.offset + length (top_bytes (c.right).chunk))
      ends = let right = c.right in let of = right.is in let six = of.is in record { chunk = right.chunk; there = c.there; kind = six.kind; unpacked = name_length right.chunk right.shown of.is ∙ ap (λ (l : List ℕ). length l) c.plain; is = refl }

      by : NamesIndexes tops (c.right).k f → cost ≡ 49 + f.indexes_size + length (spelled (filter (is_asked range chosen) (inner_tops (c.right).chunk))) → (n : ℕ) × ChunkCost file range chosen f n false × (n ≤ cost)
      by (inl none) total = (0, empty_map none, omega arith)
      by (inr all) total =
          let indexes = indexes_behind tops (c.right).k in
          let records = inner_tops (c.right).chunk in
          let s = spent file range chosen f.offset indexes records f.indexes (names_differ c.index f c.is) (λ x has. let (entries, named) = all.0 x.0 x.1 has in one_spent f c x entries named) in
          let lists = weights_fit top_size indexes s.lists s.lists_apart in
          let inner = weights_fit (asked_size range chosen) records s.inner s.inner_apart in
          (plain_length + s.cost, plain_chunk (f.offset + length (top_bytes (c.right).chunk)) s.cost false ends s.are, omega (arith, s.few, lists, inner, spelled_size indexes, asked_sum range chosen records, all.2, total))

  costs_up : (ts : List Top) (fs : List ChunkIndexFields) (costs : List ℕ) → AllZip IsChunkIndex ts fs → AllZip (ChunkCosts file range chosen) fs costs → Each (λ t. (f : ChunkIndexFields) → IsChunkIndex t f → (at : ℕ) × HasChunkIndex file at f) ts → IndexesCost file range chosen ts (sum costs)
  costs_up [] [] [] zip are has = no_index
  costs_up [] [] (cost ∷ costs) zip are has = absurd are
  costs_up [] (f ∷ fs) costs zip are has = absurd zip
  costs_up (t ∷ ts) [] costs zip are has = absurd zip
  costs_up (t ∷ ts) (f ∷ fs) [] zip are has = absurd are
  costs_up (t ∷ ts) (f ∷ fs) (cost ∷ costs) zip are has =
      subst (IndexesCost file range chosen (t ∷ ts)) (sum_more cost costs) (next_index t ts cost (sum costs) (λ g is meets.
      let same = chunk_index_once t f g zip.0 is in
      let (at, indexed) = has 0 t refl g is in
      let there = of_chunk file tops full section more joined ended messages scan range at g indexed in
      chunk_costs g cost there meets (subst (λ (h : ChunkIndexFields). ChunkCosts file range chosen h cost) same are.0))
      (costs_up ts fs costs zip.1 are.1 (λ n u at. has (suc n) u at)))

-- beside the costs nothing is asked for
none_beside : (file : List ℕ) (tops : List Top) (full : FullyIndexed file tops) (section more : List Top) → tops ≡ section ++ more → HasDataEnd section → (messages : List Seen) → Scan section messages → (range : Range) (beside : ℕ) → Beside file range beside → beside ≡ 0
none_beside file tops full section more joined ended messages scan range beside nothing = refl
none_beside file tops full section more joined ended messages scan range beside (heads at f channel offset end place nowhere ends walked) = absurd (none_astray file tops full section more joined ended messages scan range at f channel offset nowhere)

-- ---- files

pub asked_bound : (file : List ℕ) (tops : List Top) (end : ℕ) (chosen : ℕ → Bool) (bound before now : ℕ) (range : Range) → IsFullyIndexed file → Halts reading_limits file tops (at_end end) → AskedBound file range chosen bound
    → ((start : ℕ) (summary : List Top) (header : Top) (cost : ℕ) → HasSummary file start summary → IsThere file 8 header → IndexesCost file range chosen (of_kind 8 summary) cost → AskedBeside file range before now (8 + length (top_bytes header) + 37 + length (spelled summary) + cost))
    → now ≤ before + bound
asked_bound file tops end chosen bound before now range (all, full) halts asked few =
    let valid = full.valid in
    let (more, joined, ended) = section_first file all tops end valid.v4 halts in
    let kept = halts.kept in
    let (messages, scan, once) = good_lists_are_scanned reading_limits tops kept.good in
    let costs = costs_up file all full tops more joined ended messages scan range chosen (of_kind 8 asked.summary) asked.indexes asked.costs asked.are_indexes asked.are_costs (λ n t at f is.
    let (place, there) = (filter_passed (λ (u : Top). u.op == 8) asked.summary n t at).0 in
    (asked.start + offset_among asked.summary place, record { start = asked.start; summary = asked.summary; has = asked.has; place = place; index = t; indexed = there; is = is; there = refl })) in
    let (beside, is, least) = few asked.start asked.summary asked.header (sum asked.costs) asked.has asked.first costs in
    let none = none_beside file all full tops more joined ended messages scan range beside is in
    omega (arith, least, none, asked.sum_is)
