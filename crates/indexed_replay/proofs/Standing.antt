-- Message Indexes that stand behind a chunk.
use Rattle.std.proofs.Common.{◌≡◌, ℕ, suc, ◌+◌, ◌*◌, ◌^◌, ◌<◌, ◌≤◌, Bool, Err, List, [], ◌∷◌, ◌++◌, length, drop, refl, sym, ap, subst, inl, inr, ◌∙◌, append_assoc, append-nil, arith}
use Rattle.std.proofs.lemmas.Grind.{flat_map-append}
use Rattle.std.proofs.lemmas.List.{length-append, drop-drop, drop_at}
use Rattle.mcap_model.specs.declared.replay.Range.{Range}
use Rattle.mcap_model.specs.declared.replay.Shown.{Shown}
use Rattle.mcap_model.specs.Places.{Each}
use Rattle.mcap_model.specs.Tops.{Top, top_bytes, spelled}
use Rattle.mcap_model.specs.Fields.{ChunkIndexFields}
use Rattle.mcap_model.specs.Whole.{AreShort}
use Rattle.mcap_model.specs.Led.{IsThere}
use Rattle.mcap_model.proofs.Places.{at_none}
use Rattle.mcap_model.proofs.OneMore.{each_last}
use Rattle.mcap_model.specs.declared.refusals.ReadingRefused.{ReadingRefused}
use Rattle.mcap_model.specs.declared.refusals.ReadingRefused.TheVariants as refusals
use Rattle.mcap_model.specs.declared.refusals.IndexedRefused.TheVariants as by_index
use Rattle.mcap_model.specs.declared.rules.Rule.TheVariants as rules
use Rattle.mcap_model.specs.declared.rules.Rule.{Rule}
use Rattle.indexed_replay.specs.declared.spots.Request.{Request}
use Rattle.indexed_replay.specs.Reaching.{ChunkEndsAt, IndexesStand, LeadsNowhere, IsReached, BreaksByIndex, index_apart, no_message, behind_chunk, head_length, heads}
use Rattle.indexed_replay.specs.Replaying.{IsReason}
use Rattle.indexed_replay.specs.Belonging.{HeadsAsked, AstrayRefused}
use Rattle.indexed_replay.specs.Lists.{KnowsSummaryChannels}
use Rattle.indexed_replay.specs.Chunks.{ChunkShown, ChunkAsked}

-- none stand so far
pub walk_none : (file : List ℕ) (from : ℕ) → IndexesStand file from from
walk_none file from = record { indexes = []; kinds = λ n t at. absurd (at_none n t at); short = λ n t at. absurd (at_none n t at); rest = drop from file; split = refl; there = omega arith }

-- with one more behind them
pub walk_more : (file : List ℕ) (from at to : ℕ) (t : Top) (walked : IndexesStand file from at) → IsThere file at t → t.op ≡ 7 → to ≡ at + length (top_bytes t) → (more : IndexesStand file from to) × (length more.indexes ≡ suc (length walked.indexes))
walk_more file from at to t walked there seven is =
    let stands = there.stands in
    let behind : drop at file ≡ walked.rest =
    ap (λ (n : ℕ). drop n file) walked.there ∙ sym (drop-drop (length (spelled walked.indexes)) from file) ∙ ap (drop (length (spelled walked.indexes))) walked.split ∙ drop_at (spelled walked.indexes) walked.rest (length (spelled walked.indexes)) refl in
    let joined : spelled (walked.indexes ++ t ∷ []) ≡ spelled walked.indexes ++ top_bytes t = flat_map-append top_bytes walked.indexes (t ∷ []) ∙ ap (λ (l : List ℕ). spelled walked.indexes ++ l) (append-nil (top_bytes t)) in (
      record {
        indexes = walked.indexes ++ t ∷ [];
        kinds = each_last (λ u. u.op ≡ 7) walked.indexes t walked.kinds seven;
        short = each_last (λ u. length u.content < 2 ^ 64) walked.indexes t walked.short there.short;
        rest = stands.rest;
        split = walked.split ∙ ap (λ (l : List ℕ). spelled walked.indexes ++ l) (sym behind ∙ stands.there) ∙ sym (append_assoc (spelled walked.indexes) (top_bytes t) stands.rest) ∙ ap (λ (l : List ℕ). l ++ stands.rest) (sym joined);
        there = omega (arith, is, walked.there, ap length joined, length-append (spelled walked.indexes) (top_bytes t));
      },
      omega (arith, length-append walked.indexes (t ∷ [])),
    )

-- the first of those that stand from an offset on, and the others behind it
pub record FirstIndex (file : List ℕ) (at to : ℕ) : Type 0 where
  pub top : Top
  pub there : IsThere file at top
  pub kind : top.op ≡ 7
  pub behind : (next : ℕ) → next ≡ at + length (top_bytes top) → IndexesStand file next to

pub first_index : (file : List ℕ) (at to : ℕ) → at < to → IndexesStand file at to → FirstIndex file at to
first_index file at to before stand = by stand.indexes stand.kinds stand.short stand.split stand.there
  where
    by : (indexes : List Top) → Each (λ u. u.op ≡ 7) indexes → AreShort indexes → drop at file ≡ spelled indexes ++ stand.rest → to ≡ at + length (spelled indexes) → FirstIndex file at to
    by [] kinds short split there = absurd (omega (arith, before, there))
    by (u ∷ us) kinds short split there =
        let whole : drop at file ≡ top_bytes u ++ (spelled us ++ stand.rest) = split ∙ append_assoc (top_bytes u) (spelled us) stand.rest in
        record {
          top = u;
          there = record { stands = record { rest = spelled us ++ stand.rest; there = whole }; short = short 0 u refl };
          kind = kinds 0 u refl;
          behind = λ next is. record {
            indexes = us;
            kinds = λ n t here. kinds (suc n) t here;
            short = λ n t here. short (suc n) t here;
            rest = stand.rest;
            split = ap (λ (n : ℕ). drop n file) is ∙ sym (drop-drop (length (top_bytes u)) at file) ∙ ap (drop (length (top_bytes u))) whole ∙ drop_at (top_bytes u) (spelled us ++ stand.rest) (length (top_bytes u)) refl;
            there = omega (arith, is, there, length-append (top_bytes u) (spelled us));
          };
        }

-- they never end in front of where they start
pub walk_behind : (file : List ℕ) (at to : ℕ) → IndexesStand file at to → at ≤ to
walk_behind file at to stand = omega (arith, stand.there)

-- why a Message Index with an entry that leads to no message is refused
pub astray_reason : (file : List ℕ) (range : Range) (at : ℕ) (f : ChunkIndexFields) (channel list end : ℕ) (why : ReadingRefused) → LeadsNowhere file range at f channel list → ChunkEndsAt file f.offset end → AstrayRefused file at end list why → IsReason file range (by_index.Refused why)
astray_reason file range at f channel list end (refusals.Fault faults) nowhere ends refused = tt
astray_reason file range at f channel list end (refusals.Grammar offset rule) nowhere ends (inl (nine, here, stand)) =
    subst (λ (r : Rule). BreaksByIndex file range r offset) (sym nine) (subst (λ (o : ℕ). BreaksByIndex file range rules.V9 o) (sym here) (no_message at f channel list nowhere (record { end = end; ends = ends; stand = stand })))
astray_reason file range at f channel list end (refusals.Grammar offset rule) nowhere ends (inr (twelve, here, apart)) =
    let leads = nowhere.leads in
    subst (λ (r : Rule). BreaksByIndex file range r offset) (sym twelve) (subst (λ (o : ℕ). BreaksByIndex file range rules.V12 o) (sym here) (index_apart at f channel list leads.names (record { end = end; ends = ends; apart = apart })))
astray_reason file range at f channel list end (refusals.Compressed offset name) nowhere ends refused = absurd refused
astray_reason file range at f channel list end (refusals.Limit offset) nowhere ends (stand, before, long) = let leads = nowhere.leads in behind_chunk at f channel list end offset leads.names ends stand before long
astray_reason file range at f channel list end refusals.Memory nowhere ends refused = absurd refused

-- that is what the Chunk Index is refused for
pub astray_shown : (file : List ℕ) (request : Request) (at : ℕ) (f : ChunkIndexFields) (channel list end : ℕ) (shown : List Shown × List Shown) (why : ReadingRefused) → (IsReached file request.range at f → LeadsNowhere file request.range at f channel list) → ChunkEndsAt file f.offset end
    → AstrayRefused file at end list why → ChunkShown file request at f shown (Err (by_index.Refused why))
astray_shown file request at f channel list end shown why nowhere ends refused = inl (λ reached. astray_reason file request.range at f channel list end why (nowhere reached) ends refused)

-- ---- what is asked for

pub heads_asked : (file : List ℕ) (from at before now : ℕ) (walked : IndexesStand file from at) → now ≤ before + (head_length * length walked.indexes + head_length) → HeadsAsked file from before now
heads_asked file from at before now walked few = (at, walked, few)

pub astray_asked : (file : List ℕ) (request : Request) (at : ℕ) (f : ChunkIndexFields) (channel list end cost : ℕ) (last : Bool) (before mid now : ℕ) (why : ReadingRefused) → (KnowsSummaryChannels file request.tables.now.channels → IsReached file request.range at f → LeadsNowhere file request.range at f channel list) → ChunkEndsAt file f.offset end
    → mid ≤ before + cost → HeadsAsked file end mid now → ChunkAsked file request at f (cost, last) (before, now) (Err (by_index.Refused why))
astray_asked file request at f channel list end cost last before mid now why nowhere ends first (place, walked, few) = λ knows reached. (head_length * length walked.indexes + head_length, heads at f channel list end place (nowhere knows reached) ends walked, omega (arith, first, few))
