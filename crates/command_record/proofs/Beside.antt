-- What the openings and the keepings of feeds, output and watch files come to.
use Rattle.std.proofs.Common.{◌≡◌, ℕ, zero, suc, ◌+◌, ◌^◌, ◌<◌, Bool, true, List, [], ◌∷◌, ◌++◌, map, get_or, append_assoc, Option, Some, None, Result, Ok, Err, refl, sym, ap, subst, inl, inr, ◌∙◌, arith}
use Rattle.std.specs.List.{sum}
use Rattle.std.proofs.lemmas.Bool.{cases_order}
use Rattle.std.proofs.lemmas.List.{append-nil}
use Rattle.std.proofs.lemmas.Option.{same_Some}
use Rattle.mcap_io.specs.Outside.{added, Opening, Told, Names, opened, SourceState, SinkState, LiveState, WorldState}
use Rattle.mcap_io.specs.OutsideCalls.{HasCause, Opens, OpenCause, CountsStand, with_opening, went_well, KeepsLive, PlacedUnder, NoneIsOut}
use Rattle.mcap_io.specs.declared.outside.Failed.{Failed}
use Rattle.mcap_io.specs.declared.outside.ObjectKind.{ObjectKind}
use Rattle.mcap_io.specs.declared.outside.ObjectKind.TheVariants as kinds
use Rattle.mcap_io.specs.declared.outside.OutsideRefused.{OutsideRefused}
use Rattle.mcap_io.specs.declared.outside.OutsideRefused.TheVariants as outside_refusals
use Rattle.mcap_io.proofs.Notes.{noted_in}
use Rattle.mcap_model.specs.Places.{At, Has, Each}
use Rattle.mcap_model.proofs.Places.{at_none, at_within, at_read, at_one, at_kept}
use Rattle.mcap_model.proofs.Lists.{pairs_at}
use Rattle.command_words.specs.Commands.{NamesDiffer}
use Rattle.command_base.specs.Ran.{Wanted, refused, input_faults, output_faults, world_faults, AreOpened}
use Rattle.command_base.proofs.Counting.{added_none, kept_adds}
use Rattle.command_base.proofs.Opened.{tells_more}
use Rattle.command_record.specs.Record.{FeedKept, feed_entry, live_entry}
use Rattle.command_base.specs.InputsSteps.{input_given, with_openings}
use Rattle.command_record.specs.Sources.{FeedsKept}
use Rattle.command_record.specs.Sinks.{SinkKept, sink_entry, sink_names, back_sinks, watch_faults, SinkHolds}
use Rattle.command_record.specs.SinkSteps.{given_sink, AreOnce, SinksOpened, SinksKept, ViewsLetGo, OutOpened}
use Rattle.command_record.proofs.Runs.{world_faults-append, input_faults-append, output_faults-append, sources_write_nothing, refusal_of}

-- ---- lists of entries

pub watch_faults-append : (xs ys : List Opening) → watch_faults (xs ++ ys) ≡ watch_faults xs + watch_faults ys
watch_faults-append [] ys = omega arith
watch_faults-append (x ∷ xs) ys = let more = watch_faults-append xs ys in omega (arith, more)

pub sinks_read_nothing : (ks : List SinkKept) → input_faults (map sink_entry ks) ≡ 0
sinks_read_nothing [] = refl
sinks_read_nothing (k ∷ ks) = let more = sinks_read_nothing ks in omega (arith, more)

pub sinks_write_nothing : (ks : List SinkKept) → output_faults (map sink_entry ks) ≡ 0
sinks_write_nothing [] = refl
sinks_write_nothing (k ∷ ks) = let more = sinks_write_nothing ks in omega (arith, more)

pub feeds_watch_nothing : (ks : List FeedKept) → watch_faults (map feed_entry ks) ≡ 0
feeds_watch_nothing [] = refl
feeds_watch_nothing (k ∷ ks) = let more = feeds_watch_nothing ks in omega (arith, more)

pub unused_sinks_count : (ks : List SinkKept) → Each (λ (s : SinkState). s.faults ≡ 0) (back_sinks ks) → watch_faults (map sink_entry ks) ≡ 0
unused_sinks_count [] unused = refl
unused_sinks_count (k ∷ ks) unused = let more = unused_sinks_count ks (λ n s at. unused (suc n) s at) in let first = unused 0 k.back refl in omega (arith, more, first)

pub are_sinks : (ks : List SinkKept) → Each (λ (entry : Opening). entry.kind ≡ kinds.Sink) (map sink_entry ks)
are_sinks [] n entry at = absurd (at_none n entry at)
are_sinks (k ∷ ks) zero entry at = ap (λ (e : Opening). e.kind) (sym (same_Some (sink_entry k) entry at))
are_sinks (k ∷ ks) (suc n) entry at = are_sinks ks n entry at

pub opened_sinks : (ks : List SinkKept) (rest : List Wanted) (behind : List Opening) → AreOpened rest behind → AreOpened (map (λ (name : List ℕ). (kinds.Sink, name)) (sink_names ks) ++ rest) (map sink_entry ks ++ behind)
opened_sinks [] rest behind opens = opens
opened_sinks (k ∷ ks) rest behind opens = inr (record { well = k.well; faults = k.back.faults; left = None; asked = 0 }, refl, opened_sinks ks rest behind opens)

-- ---- names

pub names_once : (out : List ℕ) (names : List (List ℕ)) → NamesDiffer out names → AreOnce names
names_once out names apart m n name first second = elim (cases_order m n) [
  | inl same ↦ same
  | inr (inl less) ↦ absurd (pairs_at (λ (a b : List ℕ). a ≡ b → ⊥) names apart.1 m n name name less first second refl)
  | inr (inr more) ↦ absurd (pairs_at (λ (a b : List ℕ). a ≡ b → ⊥) names apart.1 n m name name more second first refl)
]

pub once_front : (names more : List (List ℕ)) → AreOnce (names ++ more) → AreOnce names
once_front names more once m n name first second = once m n name (at_kept names more m name first) (at_kept names more n name second)

pub out_apart : (out : List ℕ) (names : List (List ℕ)) → NamesDiffer out names → Has names out → ⊥
out_apart out names apart has =
    let within = at_within names has.0 out has.1 in
    apart.0 has.0 out within (sym (at_one names has.0 (get_or names has.0 out) out (at_read names has.0 out within) has.1))

-- ---- openings

-- what came behind the openings of sinks: nothing, or one that was refused
pub record NoSink (old new : WorldState) (behind : List Opening) : Type 0 where
  pub told : (told : Told) → old.told ≡ Some told → (now : Told) × (new.told ≡ Some now) × (now.names ≡ told.names) × (now.log ≡ told.log ++ behind)
  pub stands : CountsStand old new
  pub world : old.faults < 2 ^ 64 → new.faults ≡ added old.faults (world_faults behind)
  pub inputs : input_faults behind ≡ 0
  pub outputs : output_faults behind ≡ 0
  pub watches : watch_faults behind ≡ 0
  pub none_out : (kind : ObjectKind) (name : List ℕ) → NoneIsOut kind name behind
  pub writers : Each (λ (entry : Opening). entry.kind ≡ kinds.Sink) behind

pub nothing_refused : (w : WorldState) → NoSink w w []
nothing_refused w = record {
  told = λ told here. (told, here, refl, sym (append-nil told.log));
  stands = record { inputs = refl; outputs = refl; watches = refl };
  world = λ fits. added_none w.faults w.faults fits refl;
  inputs = refl;
  outputs = refl;
  watches = refl;
  none_out = λ kind name n d within. absurd (omega (arith, within));
  writers = λ n entry at. absurd (at_none n entry at);
}

not_out : (other : List ℕ) (kind : ObjectKind) (name : List ℕ) → NoneIsOut kind name (refused kinds.Sink other ∷ [])
not_out other kind name zero d within = λ is. let given = is.given in absurd cc
not_out other kind name (suc n) d within = absurd (omega (arith, within))

pub sink_refused : (name : List ℕ) (old new : WorldState) (why : OutsideRefused) → Opens {T = Unit} old new kinds.Sink name (Err why) → CountsStand old new → OpenCause {T = Unit} old.faults new.faults (Err why) → NoSink old new (refusal_of kinds.Sink name why)
sink_refused name old new outside_refusals.Failed opens stands cause = record {
  told = λ told here. (with_opening told (refused kinds.Sink name), tells_more old.told new.told (refused kinds.Sink name) told opens here, refl, refl);
  stands = stands;
  world = λ fits. cause.once;
  inputs = refl;
  outputs = refl;
  watches = refl;
  none_out = not_out name;
  writers = λ n entry at. one n entry at;
}
  where
    one : Each (λ (entry : Opening). entry.kind ≡ kinds.Sink) (refused kinds.Sink name ∷ [])
    one zero entry at = ap (λ (e : Opening). e.kind) (sym (same_Some (refused kinds.Sink name) entry at))
    one (suc n) entry at = absurd (at_none n entry at)
sink_refused name old new outside_refusals.Memory opens stands cause = record {
  told = λ told here. (told, opens ∙ here, refl, sym (append-nil told.log));
  stands = stands;
  world = λ fits. added_none old.faults new.faults fits cause;
  inputs = refl;
  outputs = refl;
  watches = refl;
  none_out = λ kind other n d within. absurd (omega (arith, within));
  writers = λ n entry at. absurd (at_none n entry at);
}

-- ---- all together

-- what was seen of the world, of the sources, of the store and of the sinks at each of the calls
pub record AllSeen (out : List ℕ) (feeds names : List (List ℕ)) : Type 0 where
  pub w0 : WorldState
  pub w2 : WorldState
  pub w3 : WorldState
  pub w4 : WorldState
  pub w5 : WorldState
  pub w6 : WorldState
  pub w7 : WorldState
  pub w8 : WorldState
  pub ss : List SourceState
  pub ss_now : List SourceState
  pub live : LiveState
  pub live_now : LiveState
  pub ks : List SinkState
  pub ks_now : List SinkState
  pub behind : List Opening
  pub views : List ℕ
  pub flags : List Bool
  pub sink_flags : List Bool
  pub live_kept : Result Unit Failed
  pub opens : OutOpened w0 w2 out feeds ss live
  pub opens_sinks : SinksOpened w2 w3 names ks
  pub refuses : NoSink w3 w4 behind
  pub lets_go : ViewsLetGo w4 w5 views
  pub keeps_sinks : SinksKept w5 w6 names ks_now sink_flags
  pub keeps : FeedsKept w6 w7 feeds ss_now flags
  pub keeps_out : KeepsLive w7 w8 out live_now live_kept
  pub inputs_now : w8.input_faults ≡ w7.input_faults
  pub outputs_now : w8.output_faults ≡ added w7.output_faults live_now.faults
  pub watches_now : w8.watch_faults ≡ w7.watch_faults
  pub cause_out : HasCause w7.faults w8.faults live_kept
  pub once : AreOnce names
  pub others : Has names out → ⊥

-- what the names hold then
pub record NamesHold (out : List ℕ) (names : List (List ℕ)) (sinks : List SinkKept) (live : LiveState) (live_kept : Result Unit Failed) (all now : Names) : Type 0 where
  pub output : (bytes : List ℕ) → live.held ≡ Some bytes → PlacedUnder all now out bytes live_kept
  pub watch_files : Each (SinkHolds all now) sinks
  pub same : (name : List ℕ) → (name ≡ out → ⊥) → (Has names name → ⊥) → now name ≡ all name

placed_from : (all before now : Names) (out bytes : List ℕ) (result : Result Unit Failed) → before out ≡ all out → PlacedUnder before now out bytes result → PlacedUnder all now out bytes result
placed_from all before now out bytes (Ok it) same is = is
placed_from all before now out bytes (Err why) same (inl is) = inl is
placed_from all before now out bytes (Err why) same (inr is) = inr (is ∙ same)

abbrev some_name : List ℕ → Option (List ℕ)
some_name name = Some name

pub has_named : (ks : List SinkKept) (n : ℕ) (k : SinkKept) → At ks n k → Has (sink_names ks) k.name
has_named [] n k at = absurd (at_none n k at)
has_named (x ∷ ks) zero k at = (0, ap (λ (y : SinkKept). some_name y.name) (same_Some x k at))
has_named (x ∷ ks) (suc n) k at = let more = has_named ks n k at in (suc more.0, more.1)

-- of one count, what was added and added is added together
adds_both : (a b c m n : ℕ) → m ≡ added a b → n ≡ added m c → n ≡ added a (b + c)
adds_both a b c m n first second = omega (arith, first, second)

feeds_not_sinks : (fs : List FeedKept) (kind : ObjectKind) (name : List ℕ) → NoneIsOut kind name (map feed_entry fs)
feeds_not_sinks [] kind name k d within = absurd (omega (arith, within))
feeds_not_sinks (f ∷ fs) kind name zero d within = λ is. let out = is.out in absurd cc
feeds_not_sinks (f ∷ fs) kind name (suc n) d within = feeds_not_sinks fs kind name n d (omega (arith, within))

sinks_not_out : (ks : List SinkKept) (behind : List Opening) (kind : ObjectKind) (name : List ℕ) → NoneIsOut kind name behind → NoneIsOut kind name (map sink_entry ks ++ behind)
sinks_not_out [] behind kind name none k d within = none k d within
sinks_not_out (k ∷ ks) behind kind name none zero d within = λ is. let out = is.out in absurd cc
sinks_not_out (k ∷ ks) behind kind name none (suc n) d within = sinks_not_out ks behind kind name none n d (omega (arith, within))

store_first : (out : List ℕ) (behind : List Opening) (name : List ℕ) → NoneIsOut kinds.Source name behind → NoneIsOut kinds.Source name (opened kinds.Live out true ∷ behind)
store_first out behind name none zero d within = λ is. let kind = is.kind_is in absurd cc
store_first out behind name none (suc n) d within = none n d (omega (arith, within))

module _ (out : List ℕ) (feeds names : List (List ℕ)) (b : AllSeen out feeds names) where
  abbrev pub seen_feeds : List FeedKept
  seen_feeds = b.keeps.kept

  abbrev pub seen_sinks : List SinkKept
  seen_sinks = b.keeps_sinks.kept

  abbrev pub store : Opening
  store = live_entry out b.live_now (went_well b.live_kept)

  abbrev pub sinks_behind : List Opening
  sinks_behind = map sink_entry seen_sinks ++ b.behind

  abbrev pub seen_entries : List Opening
  seen_entries = map feed_entry seen_feeds ++ store ∷ sinks_behind

  pub told_since : (told : Told) → b.w0.told ≡ Some told → (now : Told) × (b.w8.told ≡ Some now) × (now.log ≡ told.log ++ seen_entries) × NamesHold out names seen_sinks b.live_now b.live_kept told.names now.names
  told_since told here =
      let t1 = with_openings told (map (input_given kinds.Source) feeds) in
      let t2 = with_opening t1 (opened kinds.Live out true) in
      let t3 = with_openings t2 (map given_sink names) in
      let here2 = tells_more b.opens.between.told b.w2.told (opened kinds.Live out true) t1 b.opens.opens (b.opens.feeds_opened.told told here) in
      let t4 = b.refuses.told t3 (b.opens_sinks.told t2 here2) in
      let t6 = b.keeps_sinks.told t4.0 t2.log b.behind (b.lets_go.told ∙ t4.1) (t4.3 ∙ append_assoc t2.log (map given_sink names) b.behind) (λ name. b.refuses.none_out kinds.Sink name) in
      let fronts : t6.0.log ≡ told.log ++ (map (input_given kinds.Source) feeds ++ opened kinds.Live out true ∷ sinks_behind) =
      t6.2 ∙ append_assoc (told.log ++ map (input_given kinds.Source) feeds) (opened kinds.Live out true ∷ []) sinks_behind ∙ append_assoc told.log (map (input_given kinds.Source) feeds) (opened kinds.Live out true ∷ sinks_behind) in
      let t7 = b.keeps.told t6.0 told.log (opened kinds.Live out true ∷ sinks_behind) t6.1 fronts (λ name. store_first out sinks_behind name (sinks_not_out seen_sinks b.behind kinds.Source name (b.refuses.none_out kinds.Source name))) in
      let t8 = b.keeps_out t7.0 t7.1 in
      let noted = noted_in t7.0.log t8.0.log (told.log ++ map feed_entry seen_feeds) sinks_behind (opened kinds.Live out true) kinds.Live out (record { well = went_well b.live_kept; faults = b.live_now.faults; left = None; asked = 0 }) (record {
        there = t7.3 ∙ sym (append_assoc told.log (map feed_entry seen_feeds) (opened kinds.Live out true ∷ sinks_behind));
        out = record { kind_is = refl; name_is = refl; given = refl; out = refl };
        newest = sinks_not_out seen_sinks b.behind kinds.Live out (b.refuses.none_out kinds.Live out);
      }) t8.3 in
      let back : (name : List ℕ) → t7.0.names name ≡ t6.0.names name = λ name. ap (λ (n : Names). n name) t7.2 in
      let front : (name : List ℕ) → t4.0.names name ≡ told.names name = λ name. ap (λ (n : Names). n name) t4.2 in (
        t8.0,
        t8.1,
        noted ∙ append_assoc told.log (map feed_entry seen_feeds) (store ∷ sinks_behind),
        record {
          output = λ bytes held. placed_from told.names t7.0.names t8.0.names out bytes b.live_kept (back out ∙ t6.3 out b.others ∙ front out) (t8.2.placed bytes held);
          watch_files = λ n k at bytes took.
              let apart : k.name ≡ out → ⊥ = λ is. b.others (subst (λ (l : List (List ℕ)). Has l out) (sym b.keeps_sinks.names_are) (subst (Has (sink_names seen_sinks)) is (has_named seen_sinks n k at))) in
              let last : t8.0.names k.name ≡ t6.0.names k.name = t8.2.others k.name apart ∙ back k.name in
              elim (t6.4 b.once n k at bytes took) [
                | inl is ↦ inl (last ∙ is)
                | inr (ill, same) ↦ inr (ill, last ∙ same ∙ front k.name)
              ];
          same = λ name apart unnamed. t8.2.others name apart ∙ back name ∙ t6.3 name unnamed ∙ front name;
        },
      )

  pub names_since : (told now : Told) → b.w0.told ≡ Some told → b.w8.told ≡ Some now → NamesHold out names seen_sinks b.live_now b.live_kept told.names now.names
  names_since told now here here_now =
      let t = told_since told here in
      subst (λ (n : Told). NamesHold out names seen_sinks b.live_now b.live_kept told.names n.names) (same_Some t.0 now (sym t.1 ∙ here_now)) t.3

  pub nothing_yet : (told : Told) → b.w0.told ≡ Some told → b.live.held ≡ Some []
  nothing_yet told here = b.opens.nothing (with_openings told (map (input_given kinds.Source) feeds)) (b.opens.feeds_opened.told told here)

  pub sinks_yet : (told : Told) → b.w0.told ≡ Some told → Each (λ (s : SinkState). s.took ≡ Some []) b.ks
  sinks_yet told here =
      let t1 = with_openings told (map (input_given kinds.Source) feeds) in
      b.opens_sinks.empty (with_opening t1 (opened kinds.Live out true)) (tells_more b.opens.between.told b.w2.told (opened kinds.Live out true) t1 b.opens.opens (b.opens.feeds_opened.told told here))

  pub world_since : b.w8.faults ≡ added b.w0.faults (world_faults seen_entries)
  world_since =
      let still : b.w3.faults ≡ b.w0.faults = b.opens_sinks.still ∙ b.opens.still ∙ b.opens.feeds_opened.still in
      let fits = b.opens.fits.world in
      let one : b.w5.faults ≡ added b.w0.faults (world_faults b.behind) = omega (arith, b.lets_go.faults, still, b.refuses.world (omega (arith, still, fits))) in
      let two = b.keeps_sinks.world (omega (arith, one)) in
      let three = adds_both b.w0.faults (world_faults b.behind) (world_faults (map sink_entry seen_sinks)) b.w5.faults b.w6.faults one two in
      let four = b.keeps.world (omega (arith, three)) in
      let five = adds_both b.w0.faults (world_faults b.behind + world_faults (map sink_entry seen_sinks)) (world_faults (map feed_entry seen_feeds)) b.w6.faults b.w7.faults three four in
      let six = kept_adds b.w7.faults b.w8.faults b.live_kept (omega (arith, five)) b.cause_out in
      omega (arith, five, six, world_faults-append (map feed_entry seen_feeds) (store ∷ sinks_behind), world_faults-append (map sink_entry seen_sinks) b.behind)

  pub inputs_since : b.w8.input_faults ≡ added b.w0.input_faults (input_faults seen_entries)
  inputs_since =
      let still : b.w6.input_faults ≡ b.w0.input_faults = b.keeps_sinks.inputs ∙ b.lets_go.inputs ∙ b.refuses.stands.inputs ∙ b.opens_sinks.stands.inputs ∙ b.opens.stands.inputs ∙ b.opens.feeds_opened.stands.inputs in
      let one = b.keeps.inputs (omega (arith, still, b.opens.fits.inputs)) in
      omega (arith, still, one, b.inputs_now, input_faults-append (map feed_entry seen_feeds) (store ∷ sinks_behind), input_faults-append (map sink_entry seen_sinks) b.behind, sinks_read_nothing seen_sinks, b.refuses.inputs)

  pub outputs_since : b.w8.output_faults ≡ added b.w0.output_faults (output_faults seen_entries)
  outputs_since =
      let still : b.w7.output_faults ≡ b.w0.output_faults = b.keeps.outputs ∙ b.keeps_sinks.outputs ∙ b.lets_go.outputs ∙ b.refuses.stands.outputs ∙ b.opens_sinks.stands.outputs ∙ b.opens.stands.outputs ∙ b.opens.feeds_opened.stands.outputs in
      omega (arith, still, b.outputs_now, output_faults-append (map feed_entry seen_feeds) (store ∷ sinks_behind), output_faults-append (map sink_entry seen_sinks) b.behind, sources_write_nothing seen_feeds, sinks_write_nothing seen_sinks, b.refuses.outputs)

  pub watches_since : b.w8.watch_faults ≡ added b.w0.watch_faults (watch_faults seen_entries + sum b.views)
  watches_since =
      let still : b.w4.watch_faults ≡ b.w0.watch_faults = b.refuses.stands.watches ∙ b.opens_sinks.stands.watches ∙ b.opens.stands.watches ∙ b.opens.feeds_opened.stands.watches in
      let one : b.w5.watch_faults ≡ added b.w0.watch_faults (sum b.views) = omega (arith, still, b.lets_go.watches (omega (arith, still, b.opens.fits.watches))) in
      let two = b.keeps_sinks.watches (omega (arith, one)) in
      let three = adds_both b.w0.watch_faults (sum b.views) (watch_faults (map sink_entry seen_sinks)) b.w5.watch_faults b.w6.watch_faults one two in
      let last : b.w8.watch_faults ≡ b.w6.watch_faults = b.watches_now ∙ b.keeps.watches in
      omega (arith, three, last, watch_faults-append (map feed_entry seen_feeds) (store ∷ sinks_behind), watch_faults-append (map sink_entry seen_sinks) b.behind, feeds_watch_nothing seen_feeds, b.refuses.watches)
