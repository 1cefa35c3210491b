-- What the calls on a pass come to for the message at hand.
use Rattle.std.proofs.Common.{◌≡◌, ◌⊎◌, ℕ, ◌+◌, ◌≤◌, List, [], ◌∷◌, ◌++◌, true, Some, None, Err, refl, sym, ap, subst, inl, inr, ◌∙◌, arith, Result, Ok}
use Rattle.std.proofs.lemmas.List.{append-nil}
use Rattle.rec_data.specs.declared.owned.Rec.{Rec}
use Rattle.rec_data.specs.declared.channel.ChannelDef.{ChannelDef}
use Rattle.mcap_model.specs.Places.{At, Has, Each}
use Rattle.mcap_model.specs.declared.ends.End.{End}
use Rattle.mcap_model.specs.declared.ends.End.TheVariants as ends
use Rattle.mcap_model.specs.Tops.{Top}
use Rattle.mcap_model.specs.Fields.{IsMessage}
use Rattle.mcap_model.proofs.Places.{at_none, at_more, has_kept, has_last}
use Rattle.record_core.specs.Desk.{fields_of_message}
use Rattle.record_core.specs.declared.answers.Found.{Found}
use Rattle.record_core.specs.declared.answers.NewMessage.{NewMessage}
use Rattle.record_core.specs.declared.answers.CallRefused.{CallRefused}
use Rattle.record_core.specs.declared.answers.CallRefused.TheVariants as refusing
use Rattle.record_core.specs.declared.answers.Declared.{Declared}
use Rattle.feed_lane.specs.declared.report.DeclaredAt.{DeclaredAt}
use Rattle.feed_lane.specs.Pass.{FullAt, filled, LackAt, lack_at, PassState, full_at, FoundAtLeast}
use Rattle.feed_lane.specs.PassCalls.{refused_full, Finds, with_found, with_reason, with_full, with_lack, GetsId, PublishedBy, DeclaredInto}
use Rattle.feed_lane.specs.Lanes.{ReportLists, messages, HasTooMuchData, IsChannelOf, IsWide, LastFindsEnd, CauseFits, IsUndeclared, IsTried, full_in, lack_in, reason_in, IsLacking, InStep, ListsFit}
use Rattle.feed_lane.specs.Steps.{Above, DeclaredWithId, RefusalLeaves}
use Rattle.feed_lane.specs.Causes.{goes_on}
use Rattle.feed_lane.proofs.Members.{false_true, open_by, finds_above, seen_later, in_step_none, in_step_one}

-- ---- refusals

-- the cause is neither a full buffer nor that no id was left
abbrev IsPlain : ℕ → CallRefused → Type 0
IsPlain handled cause = (full_in cause ≡ []) × (lack_in handled cause ≡ [])

none_lacking : (records : List Top) (handled : ℕ) (cause : CallRefused) → lack_in handled cause ≡ [] → InStep (IsLacking records) (lack_in handled cause) []
none_lacking records handled cause none =
    subst (λ (l : List (ℕ × CallRefused)). InStep (IsLacking records) l []) (sym none) (in_step_none (IsLacking records))

none_in : (P : FullAt → Type 0) (cause : CallRefused) → full_in cause ≡ [] → Each P (full_in cause)
none_in P cause none n full at = absurd (at_none n full (subst (λ (l : List FullAt). At l n full) none at))

none_here : (P : LackAt → Type 0) → Each P []
none_here P n lack at = absurd (at_none n lack at)

-- no call was made, for want of memory
pub unchanged : (records : List Top) (handled : ℕ) (pass : PassState) → RefusalLeaves records handled pass pass refusing.Memory
unchanged records handled pass = record {
  extends = record { own = λ pair has. has; named = λ pair has. has; fulls = λ full has. has; lacks = λ pair has. has; limit = refl; seen = λ n s. s };
  own = refl;
  fulls = sym (append-nil pass.fulls);
  named = refl;
  lacking = [];
  lacks = sym (append-nil pass.lacks);
  are = none_lacking records handled refusing.Memory refl;
  reasons = sym (append-nil pass.reasons);
  fits = tt;
  above = none_in _ refusing.Memory refl;
  tos = none_in _ refusing.Memory refl;
  lacking_above = none_here _;
  ats = none_here _;
  is_open = λ on was. was;
}

-- the call found something too large without a look at the intake
too_large : (records : List Top) (handled : ℕ) (pass : PassState) (len : ℕ) → HasTooMuchData records handled len ⊎ IsWide records handled len → RefusalLeaves records handled pass (with_reason pass (refusing.TooLarge len)) (refusing.TooLarge len)
too_large records handled pass len large = record {
  extends = record { own = λ pair has. has; named = λ pair has. has; fulls = λ full has. has; lacks = λ pair has. has; limit = refl; seen = λ n s. record { found = s.found; shown = s.shown; within = s.within } };
  own = refl;
  fulls = sym (append-nil pass.fulls);
  named = refl;
  lacking = [];
  lacks = sym (append-nil pass.lacks);
  are = none_lacking records handled (refusing.TooLarge len) refl;
  reasons = refl;
  fits = large;
  above = none_in _ (refusing.TooLarge len) refl;
  tos = none_in _ (refusing.TooLarge len) refl;
  lacking_above = none_here _;
  ats = none_here _;
  is_open = λ on was. was;
}

-- the pass shows the same, but for how it found the intake and why it refused the call
abbrev with_reasons : PassState → Found → List CallRefused → PassState
with_reasons before found more = record before { reasons = before.reasons ++ more; found = Some found }

-- the call found the intake, and left the rest as it was
found_only : (records : List Top) (handled : ℕ) (before : PassState) (found : Found) (cause : CallRefused) → Finds before found → (goes_on cause ≡ true → found.end ≡ None) → IsPlain handled cause → CauseFits records (handled + 1) (with_reasons before found (reason_in cause)) handled cause → RefusalLeaves records handled before (with_reasons before found (reason_in cause)) cause
found_only records handled before found cause finds end plain fits = record {
  extends = record { own = λ pair has. has; named = λ pair has. has; fulls = λ full has. has; lacks = λ pair has. has; limit = refl; seen = seen_later before (with_reasons before found (reason_in cause)) found finds refl };
  own = refl;
  fulls = sym (append-nil before.fulls) ∙ ap (λ (l : List FullAt). before.fulls ++ l) (sym plain.0);
  named = refl;
  lacking = [];
  lacks = sym (append-nil before.lacks);
  are = none_lacking records handled cause plain.1;
  reasons = refl;
  fits = fits;
  above = none_in _ cause plain.0;
  tos = none_in _ cause plain.0;
  lacking_above = none_here _;
  ats = none_here _;
  is_open = λ on was. open_by (with_reasons before found (reason_in cause)) found refl (end on);
}

-- memory lacked for the call
lacked_memory : (records : List Top) (handled : ℕ) (before : PassState) (found : Found) → Finds before found → found.end ≡ None → RefusalLeaves records handled before (with_found before found) refusing.Memory
lacked_memory records handled before found finds end =
    subst (λ (l : List CallRefused). RefusalLeaves records handled before (made l) refusing.Memory) (append-nil before.reasons) (found_only records handled before found refusing.Memory finds (λ on. end) (refl, refl) tt)
  where
    made : List CallRefused → PassState
    made l = record before { reasons = l; found = Some found }

-- the buffer was full
was_full : (records : List Top) (handled : ℕ) (before : PassState) (found : Found) (held from to : ℕ) → Finds before found → found.end ≡ None → filled held from to ≡ full_at found → before.limit ≤ held
    → RefusalLeaves records handled before (with_full before found) (refusing.Full held from to)
was_full records handled before found held from to finds end is le =
    let first : from ≡ found.taken = ap (λ (x : FullAt). x.from) is in
    let behind : to ≡ found.count = ap (λ (x : FullAt). x.to) is in
    let order : from ≤ to = omega (arith, finds.within, first, behind) in
    record {
      extends = record { own = λ pair has. has; named = λ pair has. has; fulls = λ x has. has_kept before.fulls (full_at found ∷ []) x has; lacks = λ pair has. has; limit = refl; seen = seen_later before (with_full before found) found finds refl };
      own = refl;
      fulls = ap (λ (x : FullAt). before.fulls ++ x ∷ []) (sym is);
      named = refl;
      lacking = [];
      lacks = sym (append-nil before.lacks);
      are = in_step_none (IsLacking records);
      reasons = ap (λ (x : FullAt). before.reasons ++ refused_full x ∷ []) (sym is);
      fits = (subst (Has (before.fulls ++ full_at found ∷ [])) (sym is) (has_last before.fulls (full_at found) []), le, order);
      above = λ n x at. subst (λ (y : FullAt). Above before y.to) (sym (only n x at)) (finds_above before found finds);
      tos = λ n x at. subst (λ (y : FullAt). FoundAtLeast (with_full before found) y.to) (sym (only n x at)) (record { found = found; shown = refl; within = omega arith });
      lacking_above = none_here _;
      ats = none_here _;
      is_open = λ on was. open_by (with_full before found) found refl end;
    }
  where
    only : (n : ℕ) (x : FullAt) → At (full_in (refusing.Full held from to)) n x → x ≡ full_at found
    only n x at = elim (at_more [] (filled held from to) n x at) [
      | inl old ↦ absurd (at_none n x old)
      | inr last ↦ last.1 ∙ is
    ]

-- no id was left
lacked : (records : List Top) (handled : ℕ) (before : PassState) (found : Found) (d : ChannelDef) (refusal : CallRefused) → Finds before found → found.end ≡ None → full_in refusal ≡ [] → lack_in handled refusal ≡ (handled, refusal) ∷ [] → reason_in refusal ≡ refusal ∷ [] → IsChannelOf records handled d → CauseFits records (handled + 1) (with_lack before found d refusal) handled refusal → RefusalLeaves records handled before (with_lack before found d refusal) refusal
lacked records handled before found d refusal finds end none lack why is fits = record {
  extends = record { own = λ pair has. has; named = λ pair has. has; fulls = λ full has. has; lacks = λ x has. has_kept before.lacks (lack_at d refusal found.count ∷ []) x has; limit = refl; seen = seen_later before (with_lack before found d refusal) found finds refl };
  own = refl;
  fulls = sym (append-nil before.fulls) ∙ ap (λ (l : List FullAt). before.fulls ++ l) (sym none);
  named = refl;
  lacking = lack_at d refusal found.count ∷ [];
  lacks = refl;
  are = subst (λ (l : List (ℕ × CallRefused)). InStep (IsLacking records) l (lack_at d refusal found.count ∷ [])) (sym lack) (in_step_one (IsLacking records) (handled, refusal) (lack_at d refusal found.count) (refl, is));
  reasons = ap (λ (l : List CallRefused). before.reasons ++ l) (sym why);
  fits = fits;
  above = none_in _ refusal none;
  tos = none_in _ refusal none;
  lacking_above = λ n x at. subst (λ (y : LackAt). Above before y.at) (sym (only n x at)) (finds_above before found finds);
  ats = λ n x at. subst (λ (y : LackAt). FoundAtLeast (with_lack before found d refusal) y.at) (sym (only n x at)) (record { found = found; shown = refl; within = omega arith });
  is_open = λ on was. open_by (with_lack before found d refusal) found refl end;
}
  where
    only : (n : ℕ) (x : LackAt) → At (lack_at d refusal found.count ∷ []) n x → x ≡ lack_at d refusal found.count
    only n x at = elim (at_more [] (lack_at d refusal found.count) n x at) [
      | inl old ↦ absurd (at_none n x old)
      | inr last ↦ last.1
    ]

-- the intake has ended
ended : (handled : ℕ) (before : PassState) (found : Found) (at : ℕ) (end : End) → found.end ≡ Some end → at ≡ found.count → (more : List CallRefused) → LastFindsEnd (handled + 1) (with_reasons before found more) handled at end
ended handled before found at end is same more = record { last = refl; found = found; shown = refl; ended = is; at_count = same }

-- the intake knows the id that a channel of the feed got
pub named_there : (records : List Top) (handled bound : ℕ) (lists : ReportLists) (before : PassState) (source id : ℕ) (found : Found) → ListsFit records handled bound lists before → DeclaredWithId records lists.declared source id → Finds before found → (1 ≤ id) × (id ≤ found.channels)
named_there records handled bound lists before source id found fits has finds =
    let named = (fits.declares has.listed.0 has.by has.listed.1).named in
    let there = finds.ids named.0 _ named.1 in
    (omega (arith, there.0, has.is), omega (arith, there.1, has.is))

-- the refusal of a message that stands there, on a channel to which the pass gave an id
pub publish_refused : (records : List Top) (handled source : ℕ) (t : Top) (before after : PassState) (m : NewMessage) (refusal : CallRefused) → At (messages records) handled t → IsMessage t source (fields_of_message m)
    → ((found : Found) → Finds before found → (1 ≤ m.channel) × (m.channel ≤ found.channels)) → PublishedBy before after m (Err refusal) → RefusalLeaves records handled before after refusal
publish_refused records handled source t before after m (refusing.TooLarge len) at is known (size, over, same) =
    subst (λ (p : PassState). RefusalLeaves records handled before p (refusing.TooLarge len)) (sym same)
    (too_large records handled before len (inl (record { source = source; message = fields_of_message m; top = t; at = at; is = is; size = size; over = over })))
publish_refused records handled source t before after m (refusing.Closed place) at is known (found, short, finds, end, here, same) =
    subst (λ (p : PassState). RefusalLeaves records handled before p (refusing.Closed place)) (sym same)
    (found_only records handled before found (refusing.Closed place) finds (λ on. absurd (false_true on)) (refl, refl) (ended handled before found place ends.Closed end here _))
publish_refused records handled source t before after m (refusing.Stopped place stop) at is known (found, short, finds, end, here, same) =
    subst (λ (p : PassState). RefusalLeaves records handled before p (refusing.Stopped place stop)) (sym same)
    (found_only records handled before found (refusing.Stopped place stop) finds (λ on. absurd (false_true on)) (refl, refl) (ended handled before found place (ends.Stopped stop) end here _))
publish_refused records handled source t before after m refusing.UnknownChannel at is known (found, short, finds, end, unknown, same) =
    absurd (elim unknown [ inl none ↦ omega (arith, (known found finds).0, none) | inr above ↦ omega (arith, (known found finds).1, above) ])
publish_refused records handled source t before after m (refusing.TooManyRecords count) at is known (found, short, finds, end, there, here, many, same) =
    subst (λ (p : PassState). RefusalLeaves records handled before p (refusing.TooManyRecords count)) (sym same) (found_only records handled before found (refusing.TooManyRecords count) finds (λ on. end) (refl, refl) (many, record { found = found; shown = refl; within = omega (arith, here) }))
publish_refused records handled source t before after m (refusing.Full held from to) at is known (found, short, finds, end, there, few, here, le, same) =
    subst (λ (p : PassState). RefusalLeaves records handled before p (refusing.Full held from to)) (sym same) (was_full records handled before found held from to finds end here le)
publish_refused records handled source t before after m refusing.TooManySchemas at is known call = absurd call
publish_refused records handled source t before after m refusing.TooManyChannels at is known call = absurd call
publish_refused records handled source t before after m refusing.Memory at is known call = absurd call

-- memory lacks for no message whose channel got an id
pub publish_lacks : (before after : PassState) (m : NewMessage) (refusal : CallRefused) → PublishedBy before after m (Err refusal) → refusal ≡ refusing.Memory → ⊥
publish_lacks before after m refusal call e = subst (λ (r : CallRefused). PublishedBy before after m (Err r)) e call

-- the refusal of a declaration of the channel of the message at hand
pub declare_refused : (records : List Top) (handled : ℕ) (before after : PassState) (d : ChannelDef) (refusal : CallRefused) → IsChannelOf records handled d → DeclaredInto before after d (Err refusal) → RefusalLeaves records handled before after refusal
declare_refused records handled before after d (refusing.TooLarge len) is (size, over, same) =
    subst (λ (p : PassState). RefusalLeaves records handled before p (refusing.TooLarge len)) (sym same)
    (too_large records handled before len (inr (d, is, size, over)))
declare_refused records handled before after d (refusing.Closed place) is (found, narrow, finds, end, here, same) =
    subst (λ (p : PassState). RefusalLeaves records handled before p (refusing.Closed place)) (sym same)
    (found_only records handled before found (refusing.Closed place) finds (λ on. absurd (false_true on)) (refl, refl) (ended handled before found place ends.Closed end here _))
declare_refused records handled before after d (refusing.Stopped place stop) is (found, narrow, finds, end, here, same) =
    subst (λ (p : PassState). RefusalLeaves records handled before p (refusing.Stopped place stop)) (sym same)
    (found_only records handled before found (refusing.Stopped place stop) finds (λ on. absurd (false_true on)) (refl, refl) (ended handled before found place (ends.Stopped stop) end here _))
declare_refused records handled before after d (refusing.TooManyRecords count) is (found, narrow, finds, end, unnamed, here, many, same) =
    subst (λ (p : PassState). RefusalLeaves records handled before p (refusing.TooManyRecords count)) (sym same) (found_only records handled before found (refusing.TooManyRecords count) finds (λ on. end) (refl, refl) (many, record { found = found; shown = refl; within = omega (arith, here) }))
declare_refused records handled before after d (refusing.Full held from to) is (found, narrow, finds, end, unnamed, few, here, le, same) =
    subst (λ (p : PassState). RefusalLeaves records handled before p (refusing.Full held from to)) (sym same) (was_full records handled before found held from to finds end here le)
declare_refused records handled before after d refusing.UnknownChannel is call = absurd call
declare_refused records handled before after d refusing.TooManySchemas is (found, narrow, finds, end, unnamed, place, many, same) =
    subst (λ (p : PassState). RefusalLeaves records handled before p refusing.TooManySchemas) (sym same)
    (lacked records handled before found d refusing.TooManySchemas finds end refl refl refl is (lack_at d refusing.TooManySchemas found.count, is, refl, has_last before.lacks (lack_at d refusing.TooManySchemas found.count) []))
declare_refused records handled before after d refusing.TooManyChannels is (found, narrow, finds, end, unnamed, place, many, same) =
    subst (λ (p : PassState). RefusalLeaves records handled before p refusing.TooManyChannels) (sym same)
    (lacked records handled before found d refusing.TooManyChannels finds end refl refl refl is (lack_at d refusing.TooManyChannels found.count, is, refl, has_last before.lacks (lack_at d refusing.TooManyChannels found.count) []))
declare_refused records handled before after d refusing.Memory is (found, narrow, finds, end, unnamed, place, left, same) =
    subst (λ (p : PassState). RefusalLeaves records handled before p refusing.Memory) (sym same) (lacked_memory records handled before found finds end)

-- a declaration that is refused as too large is so
declare_large : (records : List Top) (handled : ℕ) (before after : PassState) (d : ChannelDef) (refusal : CallRefused) → IsChannelOf records handled d → DeclaredInto before after d (Err refusal) → (len : ℕ) → refusal ≡ refusing.TooLarge len → IsWide records handled len
declare_large records handled before after d refusal is call len e =
    let large = subst (λ (r : CallRefused). DeclaredInto before after d (Err r)) e call in
    (d, is, large.0, large.1)

pub declare_tried : (records : List Top) (handled : ℕ) (declared : List DeclaredAt) (before after : PassState) (d : ChannelDef) (refusal : CallRefused) → IsUndeclared records declared handled → IsChannelOf records handled d → DeclaredInto before after d (Err refusal) → IsTried records declared (record { index = handled; cause = refusal })
declare_tried records handled declared before after d refusal undeclared is call = record {
  large = λ len e. inl (declare_large records handled before after d refusal is call len e);
  lacking = λ e. undeclared;
}

-- want of memory is no such cause
pub memory_tried : (records : List Top) (declared : List DeclaredAt) (handled : ℕ) → IsUndeclared records declared handled → IsTried records declared (record { index = handled; cause = refusing.Memory })
memory_tried records declared handled undeclared = record { large = λ len e. absurd (unlarge len e); lacking = λ e. undeclared }
  where
    unlarge : (len : ℕ) → refusing.Memory ≡ refusing.TooLarge len → ⊥
    unlarge len e = cc

-- an id that a channel gets is one
pub some_id : (before : PassState) (found : Found) (channel : ℕ) (records : List Rec) → GetsId before found channel records → 1 ≤ channel
some_id before found channel records (inl had) = had.1.0
some_id before found channel records (inr new) = omega (arith, new.next)

-- ---- the limit

-- a call leaves the limit as it was
pub published_limit : (before after : PassState) (m : NewMessage) (result : Result ℕ CallRefused) → PublishedBy before after m result → after.limit ≡ before.limit
published_limit before after m (Ok place) call = ap (λ (p : PassState). p.limit) call.4
published_limit before after m (Err (refusing.TooLarge len)) call = ap (λ (p : PassState). p.limit) call.2
published_limit before after m (Err (refusing.Closed at)) call = ap (λ (p : PassState). p.limit) call.5
published_limit before after m (Err (refusing.Stopped at stop)) call = ap (λ (p : PassState). p.limit) call.5
published_limit before after m (Err refusing.UnknownChannel) call = ap (λ (p : PassState). p.limit) call.5
published_limit before after m (Err (refusing.TooManyRecords count)) call = ap (λ (p : PassState). p.limit) call.7
published_limit before after m (Err (refusing.Full held from to)) call = ap (λ (p : PassState). p.limit) call.8
published_limit before after m (Err refusing.TooManySchemas) call = absurd call
published_limit before after m (Err refusing.TooManyChannels) call = absurd call
published_limit before after m (Err refusing.Memory) call = absurd call

pub declared_limit : (before after : PassState) (d : ChannelDef) (result : Result Declared CallRefused) → DeclaredInto before after d result → after.limit ≡ before.limit
declared_limit before after d (Ok given) call = ap (λ (p : PassState). p.limit) call.9
declared_limit before after d (Err (refusing.TooLarge len)) call = ap (λ (p : PassState). p.limit) call.2
declared_limit before after d (Err (refusing.Closed at)) call = ap (λ (p : PassState). p.limit) call.5
declared_limit before after d (Err (refusing.Stopped at stop)) call = ap (λ (p : PassState). p.limit) call.5
declared_limit before after d (Err (refusing.TooManyRecords count)) call = ap (λ (p : PassState). p.limit) call.7
declared_limit before after d (Err refusing.UnknownChannel) call = absurd call
declared_limit before after d (Err (refusing.Full held from to)) call = ap (λ (p : PassState). p.limit) call.8
declared_limit before after d (Err refusing.TooManySchemas) call = ap (λ (p : PassState). p.limit) call.7
declared_limit before after d (Err refusing.TooManyChannels) call = ap (λ (p : PassState). p.limit) call.7
declared_limit before after d (Err refusing.Memory) call = ap (λ (p : PassState). p.limit) call.7
