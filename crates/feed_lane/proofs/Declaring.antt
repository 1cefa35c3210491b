-- The channel of the message at hand is declared.
use Rattle.std.proofs.Common.{◌≡◌, ℕ, ◌+◌, ◌<◌, ◌≤◌, List, [], ◌∷◌, ◌++◌, length, refl, sym, ap, None, subst, inl, inr, ◌∙◌, arith}
use Rattle.std.specs.Prelude.{AllPairs}
use Rattle.rec_data.specs.declared.owned.Rec.{Rec}
use Rattle.rec_data.specs.declared.channel.ChannelDef.{ChannelDef}
use Rattle.mcap_model.specs.Places.{At, Has, Each}
use Rattle.mcap_model.specs.Tops.{Top}
use Rattle.mcap_model.proofs.Places.{at_within, at_more, at_set, has_kept, has_last, pairs_more}
use Rattle.mcap_model.proofs.Lists.{at_either, at_second, pairs_at, pairs_from}
use Rattle.record_core.specs.declared.answers.Found.{Found}
use Rattle.feed_lane.specs.declared.report.DeclaredAt.{DeclaredAt}
use Rattle.feed_lane.specs.declared.report.Refused.{Refused}
use Rattle.feed_lane.specs.Pass.{named_by, PassState, with_places, AreAdded}
use Rattle.feed_lane.specs.PassCalls.{Finds, with_declared}
use Rattle.feed_lane.specs.Lanes.{ReportLists, IsOn, DeclarationAdds, IsTried, full_in, ShowsDeclaration, InTurnWith, IsGiven, ListsFit}
use Rattle.history_ids.specs.FeedContents.{DeclaresContent}
use Rattle.feed_lane.specs.Kept.{LaneIds, with_channel_id}
use Rattle.feed_lane.specs.Steps.{Extends, DeclaredWithId, IdsStand, ListsStand}
use Rattle.feed_lane.proofs.Growing.{on_one}
use Rattle.feed_lane.proofs.Members.{open_by, finds_above, seen_later, in_step_joined, in_step_one, declares_on, accepts_on, accepts_listed, has_id_listed, cause_on, full_shown, lacks_below, placed_at, declared_above, accepted_above}

-- the lists with one more declaration
abbrev pub with_declaration : ReportLists → DeclaredAt → ReportLists
with_declaration lists d = record { accepted = lists.accepted; declared = lists.declared ++ d ∷ []; refused = lists.refused }

-- The declaration for the message at hand, whose channel had none: the id that it got, and the records that it added from
-- the place that was found.
pub record IsNew (records : List Top) (handled : ℕ) (ids : LaneIds) (source : ℕ) (found : Found) (content : ChannelDef) (d : DeclaredAt) : Type 0 where
  pub none : At ids.given source 0
  pub on : IsOn records handled source
  pub describes : DeclaresContent records source content
  pub index : d.index ≡ handled
  pub first : d.first ≡ found.count
  pub some : 1 ≤ d.channel
  pub added : List Rec
  pub are : AreAdded content d.channel added
  pub many : d.count ≡ length added

declared_extends : (before : PassState) (found : Found) (content : ChannelDef) (channel : ℕ) (added : List Rec) → Finds before found → Extends before (with_declared before found content channel added)
declared_extends before found content channel added finds = record {
  own = λ pair has. has_kept before.own (with_places found.count added) pair has;
  named = λ name has. has_kept before.named (named_by channel content (found.count + length added) ∷ []) name has;
  fulls = λ full has. has;
  lacks = λ pair has. has;
  limit = refl;
  seen = seen_later before (with_declared before found content channel added) found finds refl;
}

new_declares : (records : List Top) (handled : ℕ) (ids : LaneIds) (source : ℕ) (before : PassState) (found : Found) (content : ChannelDef) (d : DeclaredAt) (is : IsNew records handled ids source found content d) → DeclarationAdds records (with_declared before found content d.channel is.added) d
new_declares records handled ids source before found content d is = record {
  source = source;
  on = subst (λ (n : ℕ). IsOn records n source) (sym is.index) is.on;
  content = content;
  describes = is.describes;
  named = subst (λ (n : ℕ). Has (before.named ++ named_by d.channel content (found.count + length is.added) ∷ []) (named_by d.channel content n)) (omega (arith, is.first, is.many))
      (has_last before.named (named_by d.channel content (found.count + length is.added)) []);
  added = is.added;
  are = is.are;
  many = is.many;
  own = subst (λ (n : ℕ). Each (Has (before.own ++ with_places found.count is.added)) (with_places n is.added)) (sym is.first)
      (λ k pair at. (length before.own + k, at_second before.own (with_places found.count is.added) k pair at));
}

-- no other declaration is for that channel
not_twice : (records : List Top) (handled : ℕ) (ids : LaneIds) (lists : ReportLists) (source : ℕ) (before : PassState) (found : Found) (content : ChannelDef) (d : DeclaredAt) → ListsStand records handled handled ids lists before → IsNew records handled ids source found content d → (k : ℕ) (e : DeclaredAt) (channel : ℕ) → At lists.declared k e → IsOn records e.index channel → IsOn records d.index channel → ⊥
not_twice records handled ids lists source before found content d stands is k e channel at on on_d =
    let same : channel ≡ source = on_one records handled channel source (subst (λ (n : ℕ). IsOn records n channel) is.index on_d) is.on in
    stands.ids_stand.fresh source e is.none (k, at) (subst (IsOn records e.index) same on)

given_kept : (lists : ReportLists) (d : DeclaredAt) (place : ℕ) → IsGiven lists place → IsGiven (with_declaration lists d) place
given_kept lists d place (inl accepted) = inl accepted
given_kept lists d place (inr (e, has, from, to)) = inr (e, has_kept lists.declared (d ∷ []) e has, from, to)

own_rises : (before : PassState) (found : Found) (added : List Rec) → Finds before found → AllPairs (λ p q. p.0 < q.0) before.own → AllPairs (λ p q. p.0 < q.0) (before.own ++ with_places found.count added)
own_rises before found added finds was =
    let more = with_places found.count added in
    pairs_from (λ (p q : ℕ × Rec). p.0 < q.0) (before.own ++ more) (λ i j p q lt at_i at_j. elim (at_either before.own more i p at_i) [
      | inl one ↦ elim (at_either before.own more j q at_j) [
        | inl other ↦ pairs_at (λ (p q : ℕ × Rec). p.0 < q.0) before.own was i j p q lt one other
        | inr (k, here, other) ↦ let below = finds.places i p one in let there = (placed_at found.count added k q other).0 in omega (arith, below, there)
      ]
      | inr (k, here, one) ↦ elim (at_either before.own more j q at_j) [
        | inl other ↦ absurd (let within = at_within before.own j q other in omega (arith, within, here, lt))
        | inr (n, there, other) ↦
            let a = (placed_at found.count added k p one).0 in
            let b = (placed_at found.count added n q other).0 in
            omega (arith, a, b, here, there, lt)
      ]
    ])

pub declared_fits : (records : List Top) (handled : ℕ) (ids : LaneIds) (lists : ReportLists) (source : ℕ) (before : PassState) (found : Found) (content : ChannelDef) (d : DeclaredAt) → ListsStand records handled handled ids lists before → Finds before found → (is : IsNew records handled ids source found content d) → ListsFit records handled (handled + 1) (with_declaration lists d) (with_declared before found content d.channel is.added)
declared_fits records handled ids lists source before found content d stands finds is =
    let was = stands.fits in
    let after = with_declared before found content d.channel is.added in
    let extends = declared_extends before found content d.channel is.added finds in
    let above = finds_above before found finds in
    record {
      accepts = λ k a at. accepts_listed records lists.declared (d ∷ []) after a (accepts_on records lists.declared before after a extends (was.accepts k a at));
      declares = λ k e at. elim (at_more lists.declared d k e at) [
        | inl old ↦ declares_on records before after e extends (was.declares k e old)
        | inr last ↦ subst (DeclarationAdds records after) (sym last.1) (new_declares records handled ids source before found content d is)
      ];
      refuses = λ k r at. cause_on records handled handled before after r.index r.cause (stands.going k r at) extends (was.refuses k r at);
      once = λ j k e f channel at_j at_k on_e on_f. elim (at_more lists.declared d j e at_j) [
        | inl one ↦ elim (at_more lists.declared d k f at_k) [
          | inl other ↦ was.once j k e f channel one other on_e on_f
          | inr last ↦ absurd (not_twice records handled ids lists source before found content d stands is j e channel one on_e (subst (λ (x : DeclaredAt). IsOn records x.index channel) last.1 on_f))
        ]
        | inr last ↦ elim (at_more lists.declared d k f at_k) [
          | inl other ↦ absurd (not_twice records handled ids lists source before found content d stands is k f channel other on_f (subst (λ (x : DeclaredAt). IsOn records x.index channel) last.1 on_e))
          | inr other ↦ last.0 ∙ sym other.0
        ]
      ];
      given = λ k pair at. elim (at_either before.own (with_places found.count is.added) k pair at) [
        | inl old ↦ given_kept lists d pair.0 (was.given k pair old)
        | inr (n, here, new) ↦
            let there = placed_at found.count is.added n pair new in
            inr (d, has_last lists.declared d [], omega (arith, there.0, is.first), omega (arith, there.0, there.1, is.first, is.many))
      ];
      own_rise = own_rises before found is.added finds was.own_rise;
      accepted_rise = was.accepted_rise;
      declared_rise = pairs_more (λ (e f : DeclaredAt). (e.index < f.index) × (e.first + e.count ≤ f.first)) lists.declared d was.declared_rise
          (λ k e at. let below = was.declared_below k e at in let end = declared_above records before e found.count (was.declares k e at) (stands.firsts k e at) above in
          (omega (arith, below, is.index), omega (arith, end, is.first)));
      refused_rise = was.refused_rise;
      in_turn = λ j k e a at_j at_k. elim (at_more lists.declared d j e at_j) [
        | inl old ↦ was.in_turn j k e a old at_k
        | inr last ↦ subst (λ (x : DeclaredAt). (x.index ≤ a.index → x.first + x.count ≤ a.place) × (a.index < x.index → a.place < x.first)) (sym last.1) (
          λ le. absurd (let below = was.accepted_below k a at_k in omega (arith, le, below, is.index)),
          λ lt. let below = accepted_above records lists.declared before a found.count (was.accepts k a at_k) above in omega (arith, below, is.first),
        )
      ];
      named = in_step_joined (ShowsDeclaration records) lists.declared (d ∷ []) before.named (named_by d.channel content (found.count + length is.added) ∷ []) was.named
          (in_step_one (ShowsDeclaration records) d (named_by d.channel content (found.count + length is.added)) (refl, omega (arith, is.first, is.many), record { source = source; on = subst (λ (n : ℕ). IsOn records n source) (sym is.index) is.on; describes = is.describes }));
      lacks = was.lacks;
      lacks_between = (
        was.lacks_between.0,
        λ n refusal lack at_r at_l. let it = was.lacks_between.1 n refusal lack at_r at_l in record {
          accepted = it.accepted;
          declared = λ k e at. elim (at_more lists.declared d k e at) [
            | inl old ↦ it.declared k e old
            | inr last ↦ subst (λ (x : DeclaredAt). InTurnWith lack.at refusal.0 x.index x.first (x.first + x.count)) (sym last.1) (
              λ lt. absurd (let below = lacks_below lists.refused handled was.refused_below n refusal at_r in omega (arith, lt, below, is.index)),
              λ lt. let le = above.seen lack.at (stands.ats n lack at_l) in omega (arith, le, is.first),
            )
          ];
        },
      );
      reasons = was.reasons;
      fulls = was.fulls;
      accepted_between = was.accepted_between;
      declared_between = λ j k r e at_j at_k. elim (at_more lists.declared d k e at_k) [
        | inl old ↦ was.declared_between j k r e at_j old
        | inr last ↦ subst (λ (x : DeclaredAt). Each (λ full. InTurnWith full.to r.index x.index x.first (x.first + x.count)) (full_in r.cause)) (sym last.1)
            (λ n full at. (
              λ lt. absurd (let below = was.refused_below j r at_j in omega (arith, lt, below, is.index)),
              λ lt. let shown = full_shown records handled before r.index r.cause n full (was.refuses j r at_j) at in let le = above.seen full.to (stands.tos shown.0 full shown.1) in omega (arith, le, is.first),
            ))
      ];
      handled_some = was.handled_some;
      count = was.count;
      listed = was.listed;
      accepted_below = was.accepted_below;
      refused_below = was.refused_below;
      declared_below = λ k e at. elim (at_more lists.declared d k e at) [
        | inl old ↦ let below = was.declared_below k e old in omega (arith, below)
        | inr last ↦ let same = ap (λ (x : DeclaredAt). x.index) last.1 in omega (arith, same, is.index)
      ];
      apart = was.apart;
    }

new_ids : (records : List Top) (handled : ℕ) (ids : LaneIds) (lists : ReportLists) (source : ℕ) (before : PassState) (found : Found) (content : ChannelDef) (d : DeclaredAt) → ListsStand records handled handled ids lists before → IsNew records handled ids source found content d → DeclaredWithId records (lists.declared ++ d ∷ []) source d.channel → IdsStand records (lists.declared ++ d ∷ []) (with_channel_id ids source d.channel)
new_ids records handled ids lists source before found content d stands is has = record {
  fresh = λ other e at listed on. elim (at_set ids.given source other 0 d.channel at) [
    | inl here ↦ omega (arith, here.1, is.some)
    | inr there ↦ elim (at_more lists.declared d listed.0 e listed.1) [
      | inl old ↦ stands.ids_stand.fresh other e there.1 (listed.0, old) on
      | inr last ↦ there.0 (on_one records handled other source (subst (λ (n : ℕ). IsOn records n other) (ap (λ (x : DeclaredAt). x.index) last.1 ∙ is.index) on) is.on)
    ]
  ];
  kept = stands.ids_stand.kept;
  wide = stands.ids_stand.wide;
  known = λ other id at some. elim (at_set ids.given source other id d.channel at) [
    | inl here ↦ subst (λ (n : ℕ). DeclaredWithId records (lists.declared ++ d ∷ []) other n) (sym here.1) (subst (λ (n : ℕ). DeclaredWithId records (lists.declared ++ d ∷ []) n d.channel) (sym here.0) has)
    | inr there ↦ has_id_listed records lists.declared (d ∷ []) other id (stands.ids_stand.known other id there.1 some)
  ];
}

pub new_has_id : (records : List Top) (handled : ℕ) (ids : LaneIds) (lists : ReportLists) (source : ℕ) (found : Found) (content : ChannelDef) (d : DeclaredAt) → IsNew records handled ids source found content d → DeclaredWithId records (lists.declared ++ d ∷ []) source d.channel
new_has_id records handled ids lists source found content d is = record {
  by = d;
  listed = has_last lists.declared d [];
  on = subst (λ (n : ℕ). IsOn records n source) (sym is.index) is.on;
  is = refl;
}

tried_kept : (records : List Top) (declared : List DeclaredAt) (d : DeclaredAt) (r : Refused) → r.index < d.index → IsTried records declared r → IsTried records (declared ++ d ∷ []) r
tried_kept records declared d r later was = record {
  large = λ len is. elim (was.large len is) [
    | inl wide ↦ inl wide
    | inr one ↦ inr (record { source = one.source; on = one.on; by = one.by; listed = has_kept declared (d ∷ []) one.by one.listed; before = one.before; is_on = one.is_on })
  ];
  lacking = λ is source e on has on_e. elim (at_more declared d has.0 e has.1) [
    | inl old ↦ was.lacking is source e on (has.0, old) on_e
    | inr last ↦ subst (λ (x : DeclaredAt). r.index < x.index) (sym last.1) later
  ];
}

pub declared_stands : (records : List Top) (handled : ℕ) (ids : LaneIds) (lists : ReportLists) (source : ℕ) (before : PassState) (found : Found) (content : ChannelDef) (d : DeclaredAt) → ListsStand records handled handled ids lists before → Finds before found → found.end ≡ None → (is : IsNew records handled ids source found content d) → ListsStand records handled (handled + 1) (with_channel_id ids source d.channel) (with_declaration lists d) (with_declared before found content d.channel is.added)
declared_stands records handled ids lists source before found content d stands finds end is =
    let after = with_declared before found content d.channel is.added in
    let extends = declared_extends before found content d.channel is.added finds in
    record {
      fits = declared_fits records handled ids lists source before found content d stands finds is;
      ids_stand = new_ids records handled ids lists source before found content d stands is (new_has_id records handled ids lists source found content d is);
      going = stands.going;
      firsts = λ k e at. elim (at_more lists.declared d k e at) [
        | inl old ↦ extends.seen e.first (stands.firsts k e old)
        | inr last ↦ record { found = found; shown = refl; within = let same = ap (λ (x : DeclaredAt). x.first) last.1 in omega (arith, same, is.first) }
      ];
      tos = λ k full at. extends.seen full.to (stands.tos k full at);
      ats = λ k lack at. extends.seen lack.at (stands.ats k lack at);
      is_open = open_by after found refl end;
      tried = λ k r at.
          tried_kept records lists.declared d r (let below = stands.fits.refused_below k r at in omega (arith, below, is.index)) (stands.tried k r at);
    }
