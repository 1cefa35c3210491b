-- Each step keeps the rule.
use Rattle.std.proofs.Common.{◌≡◌, ◌≢◌, ℕ, zero, suc, ◌+◌, ◌%◌, ◌^◌, ◌<◌, ◌≤◌, eqb, Bool, true, false, cond, List, [], ◌∷◌, ◌++◌, length, get_or, set, take, Option, Some, None, sym, refl, ap, inl, ◌∙◌, subst, ⊎_elim, arith, length-set, get_or-set_other, get_or-set_same, true≢false}
use mathlib.Core.Option.{some, none, some-injective, some-ne-none}
use mathlib.Core.Logic.{dite}
use native.Mathlib.Decide.{ℕ_discrete}
use lib.ListN.{get_elem?}
use lib.Seq.{set-get_or}
use prog.Atomic.{either}
use Rattle.std.proofs.lemmas.List.{take_all, take-append-drop, nil_from_length}
use Rattle.std.proofs.lemmas.Option.{same_Some, none-some}
use Rattle.std.proofs.Math.Seq.{drop-append_seam}
use Rattle.atomic_table.specs.Table.{State as TableState, step, keeps, takes, gives, carried_after, stepped, Act, Valid, Allows, Splits, Joins, opening}
use Rattle.atomic_table.proofs.Lists.{at_set, at_snoc, at_longer, set_here, set_else, exchanged}
use Rattle.rec_data.specs.declared.owned.Rec.{Rec}
use Rattle.rec_data.specs.declared.channel.ChannelDef.{ChannelDef}
use Rattle.mcap_model.specs.declared.ends.End.{End}
use Rattle.mcap_model.specs.declared.ends.End.TheVariants.{Closed, Stopped}
use Rattle.mcap_model.specs.declared.ends.Stop.{Stop}
use Rattle.mcap_model.specs.Places.{At, Each}
use Rattle.mcap_model.specs.History.{Numbered}
use Rattle.mcap_model.proofs.Places.{at_none}
use Rattle.mcap_model.proofs.Lists.{at_second, each_joined}
use Rattle.mcap_model.proofs.OneMore.{each_last}
use Rattle.history_ids.specs.Ids.{channels_in}
use Rattle.record_core.specs.Desk.{DeskView, new_desk, accepted, with_more_records, swapped, ended, end_unless, first_of, desk_end, found_of, EndIsLast}
use Rattle.record_core.specs.Machine.{State, start, accept, end_with}
use Rattle.record_core.specs.Stands.{DeskStandsFor}
use Rattle.record_core.specs.declared.answers.CallRefused.{CallRefused}
use Rattle.history_ids.proofs.Searches.{schemas_counted, channels_counted}
use Rattle.feed_lane.specs.Pass.{PassState, with_places, full_at, NamedBy, named_by, lack_at}
use Rattle.feed_lane.specs.PassCalls.{with_found}
use Rattle.buffer_swap.specs.Weights.{total, one_if, below}
use Rattle.buffer_swap.specs.Shown.{NameStands, IdsLackAt, HeldThere, FoundThere}
use Rattle.buffer_swap.specs.ShownSteps.{ShownTo}
use Rattle.buffer_swap.specs.Posts.{Gathered, Post, no_post, first_post, drain_post, publisher_post, note_post}
use Rattle.buffer_swap.specs.Turns.{view, newcomer, nobody, has_turn, is_drain, numbers_in, seat_numbers, weigh, FoundFits, PassFits, IsFront, NoteFits, ViewFits, World, BufferFits, Wired, KeepsTurnRule}
use Rattle.buffer_swap.specs.Plays.{Sat, HasDesk, IsIdle, StepTold, TriesTurn, IsEvent, missing, took, fresh_records, MayCount, counts, records_counted, hands_over, handed_over, shuts, closes, closed, stop_in, stops, stopped, frees as frees_view, freed, frees_counting, freed_counting, same_pass, with_full_hand, with_name, with_lacking, NamedAt, LacksIdAt, starts, drainer, hires, hired, gathered, gathers, drain_noted, reads, settled, met}
use Rattle.buffer_swap.specs.declared.view.View.{View}
use Rattle.buffer_swap.proofs.Sums.{total-append, total-set, term_le, terms_le, total-alone, set_at, one, total-ones, below-ones, below-more}
use Rattle.buffer_swap.proofs.Growing.{placed_at, placed_more}
use Rattle.buffer_swap.proofs.Desks.{parts, full_there, found_there, name_there, lack_there, all_taken, swapped_stands, ended_stands}
use Rattle.buffer_swap.proofs.Buffers.{handed_buffer, ended_buffer}
use Rattle.buffer_swap.proofs.Fitting.{no, later_swapped, later_ended, found_self, pass_later, fits_none, pass_handed, view_handed, note_later, note_none, view_grown, view_later}

abbrev St : Type 0
St = TableState DeskView View

abbrev board : List ℕ → List (mathlib.Core.Option.Option DeskView) → List View → St
board ws hs vs = record { words = ws; homes = hs; views = vs }

has : (v : View) → v.holds ≡ true → has_turn v ≡ 1
has v e = ap one_if e

has_not : (v : View) → v.holds ≡ false → has_turn v ≡ 0
has_not v e = ap one_if e

-- the first seat's post is the head
heads : (t : St) (k : KeepsTurnRule t) (id : ℕ) (v : View) → get_elem? t.views id ≡ some v → id ≡ 0 → v.post ≡ k.head
heads t k id v me z = let c = k.first in ap (λ (x : View). x.post) (some-injective v c.0 (sym me ∙ (ap (λ (i : ℕ). get_elem? t.views i) z ∙ c.1))) ∙ c.2

-- a step of the seat id
moved : (t : St) (k : KeepsTurnRule t) (id : ℕ) (v w : View) (ws : List ℕ) (hs : List (mathlib.Core.Option.Option DeskView)) (s : State) (swaps : List ℕ) (d : DeskView) (head : Post) (halt : Option Stop) → get_elem? t.views id ≡ some v
    → World s d head halt → BufferFits swaps d → Wired ws hs d → has_turn w + get_or t.words 0 0 ≡ has_turn v + get_or ws 0 0
    → ViewFits s.history swaps d halt w → ((j : ℕ) (u : View) → j ≢ id → get_elem? t.views j ≡ some u → ViewFits s.history swaps d halt u)
    → (id ≡ 0 → w.post ≡ head) → (id ≢ 0 → k.head ≡ head) → (w.post.controls ≡ true → id ≡ 0)
    → ((h : ℕ → ℕ) → seat_numbers h w + total h (below k.head.made) ≡ seat_numbers h v + total h (below head.made)) → is_drain w + one_if k.head.started ≡ is_drain v + one_if head.started
    → ((h : ℕ × Rec → ℕ) → weigh h w + total h (with_places 0 k.s.history) ≡ weigh h v + total h (with_places 0 s.history))
    → KeepsTurnRule (board ws hs (set t.views id w))
moved t k id v w ws hs s swaps d head halt me world buffer wired holds mine others here there controls made drains pairs = record {
  s = s;
  swaps = swaps;
  d = d;
  head = head;
  halt = halt;
  world = world;
  buffer = buffer;
  wired = wired;
  holders = omega (arith, total-set has_turn t.views id v w me, k.holders, holds);
  each = λ j u e. ⊎_elim (λ x. subst (ViewFits s.history swaps d halt) x.1 mine) (λ x. others j u x.0 x.1) (at_set t.views id j w u e);
  first = dite (ℕ_discrete 0 id)
      (λ z. (w, ap (λ (i : ℕ). get_elem? (set t.views id w) i) z ∙ set_at t.views id v w me, here (sym z)))
      (λ nz. (k.first.0, set_else t.views id 0 w nz ∙ k.first.1, k.first.2 ∙ there (λ z. nz (sym z))));
  controls = λ j u e c. ⊎_elim (λ (x : (j ≡ id) × (w ≡ u)). x.0 ∙ controls (ap (λ (y : View). y.post.controls) x.1 ∙ c)) (λ x. k.controls j u x.1 c) (at_set t.views id j w u e);
  made = λ h. omega (arith, total-set (seat_numbers h) t.views id v w me, k.made h, made h);
  drains = omega (arith, total-set is_drain t.views id v w me, k.drains, drains);
  pairs = λ h. omega (arith, total-set (weigh h) t.views id v w me, k.pairs h, pairs h);
}

abbrev Goes : St → ℕ → ℕ → Sat → (ℕ → Sat → Type 0) → ℕ → Type 0
Goes t i id m then n = (w : View) × (a : Act DeskView) × Valid t.homes m.1 a × KeepsTurnRule (stepped t i n id m.1 w a) × then (get_or t.words i 0) (w, carried_after m.1 a)

-- what is so of a pass that looks at the desk
looked : (s : State) (swaps : List ℕ) (d : DeskView) (p : PassState) → DeskStandsFor d s → BufferFits swaps d → PassFits s.history swaps d p → PassFits s.history swaps d (with_found p (found_of d))
looked s swaps d p stands buffer fits = record {
  own = fits.own;
  named = fits.named;
  named_ids = fits.named_ids;
  fulls = fits.fulls;
  lacks = fits.lacks;
  found = λ f is. subst (FoundFits d) (same_Some _ _ is) (found_self d);
  there = λ f is. subst (FoundThere p.limit s.history swaps) (same_Some _ _ is) (subst (λ (n : ℕ). FoundThere n s.history swaps (found_of d)) (sym fits.limit) (found_there swaps d s stands buffer));
  limit = fits.limit;
}

-- the turn is taken, or found taken
takes_free : (n id : ℕ) (m : Sat) → IsIdle m → Allows KeepsTurnRule n id m 0 (λ y. either (eqb y 0) 1 y) (took (step n 0 0 1 none) m)
takes_free n id m idle t k wide me _ = let tries : TriesTurn (step n 0 0 1 none) = record { word = refl; free = refl; taken = refl } in let x : ℕ = get_or t.words 0 0 in let long = k.wired.wide in let near = k.wired.homes_one in let off = has_not m.0 idle.holds in let most = k.wired.turn in let f = k.each id m.0 me in
    exchanged x 0 1 (Goes t 0 id m (took (step n 0 0 1 none) m))
    (λ hit. let d = k.d in let w : View = view true d m.0.missed (with_found m.0.pass (found_of d)) m.0.post in let same = get_or-set_same t.words 0 1 0 (omega arith) in (
      w,
      takes 0 d,
      k.wired.free hit,
      moved t k id m.0 w (set t.words 0 1) (set t.homes 0 none) k.s k.swaps d k.head k.halt me k.world k.buffer
          record {
            wide = length-set t.words 0 1 ∙ long;
            homes_one = length-set t.homes 0 none ∙ near;
            turn = omega arith;
            free = λ e. absurd (omega arith);
            out = λ _. set_here t.homes 0 none (omega arith);
          }
          (omega arith)
          record { hand = λ _. refl; pass = λ e. looked k.s k.swaps d m.0.pass k.world.stands k.buffer (f.pass e); known = f.known; note = f.note; drains = f.drains; idle = f.idle } (λ j u _ e. k.each j u e)
          (heads t k id m.0 me) (λ _. refl) (k.controls id m.0 me) (λ h. refl) (omega arith) (λ h. refl),
      (
        tries,
        (λ _. (
          record {
            d = d;
            missed = m.0.missed;
            is = ap (λ (l : List (ℕ × DeskView)). (w, (0, d) ∷ l)) idle.out;
            stood = λ e. record { s = k.s; swaps = k.swaps; stands = k.world.stands; last = k.world.last; fits = f.pass e };
            drained = λ e. (f.drains e).0;
            halted = f.note.stood;
          },
          refl,
        )),
        λ miss. absurd (miss hit),
      ),
    ))
    (λ miss. let w : View = missing m.0 in let same = set-get_or t.words 0 0 in let at = ap (λ (ws : List ℕ). get_or ws 0 0) same in (
      w,
      keeps,
      tt,
      moved t k id m.0 w (set t.words 0 x) t.homes k.s k.swaps k.d k.head k.halt me k.world k.buffer
          record { wide = length-set t.words 0 x ∙ long; homes_one = near; turn = omega arith; free = λ e. absurd (miss (sym at ∙ e)); out = λ e. k.wired.out (sym at ∙ e) }
          (omega arith)
          record { hand = λ e. no e; pass = f.pass; known = f.known; note = f.note; drains = f.drains; idle = f.idle } (λ j u _ e. k.each j u e)
          (heads t k id m.0 me) (λ _. refl) (k.controls id m.0 me) (λ h. refl) (omega arith) (λ h. refl),
      (tries, (λ hit. absurd (miss hit)), λ _. refl),
    ))

-- by whatever step that tries for the turn
pub takes_turn : (n id : ℕ) (m : Sat) (i old new : ℕ) → TriesTurn (step n i old new none) → IsIdle m → Allows KeepsTurnRule n id m i (λ y. either (eqb y old) new y) (took (step n i old new none) m)
takes_turn n id m i old new tries idle =
    subst (λ (j : ℕ). Allows KeepsTurnRule n id m j (λ y. either (eqb y old) new y) (took (step n j old new none) m)) (sym tries.word)
    (subst (λ (j : ℕ). Allows KeepsTurnRule n id m 0 (λ y. either (eqb y j) new y) (took (step n 0 j new none) m)) (sym tries.free)
    (subst (λ (j : ℕ). Allows KeepsTurnRule n id m 0 (λ y. either (eqb y 0) j y) (took (step n 0 0 j none) m)) (sym tries.taken) (takes_free n id m idle)))

-- the turn is freed, with what the pass shows then
frees : (n id : ℕ) (v : View) (d : DeskView) (c : View → PassState) → v.holds ≡ true → d ≡ v.hand
    → ((s : State) (swaps : List ℕ) → DeskStandsFor v.hand s → BufferFits swaps v.hand → PassFits s.history swaps v.hand v.pass → PassFits s.history swaps v.hand (c v)) → (c v).own ≡ v.pass.own
    → Allows KeepsTurnRule n id (v, (0, d) ∷ []) 0 (λ _. 0) (λ _. freed c (step n 0 0 0 none) (v, (0, d) ∷ []) 0)
frees n id v d c holds is learns own t k wide me _ = let x : ℕ = get_or t.words 0 0 in let long = k.wired.wide in let near = k.wired.homes_one in let most = k.wired.turn in
    let busy = has v holds in let part = term_le has_turn t.views id v me in let all = k.holders in let f = k.each id v me in
    let w : View = frees_view v (c v) in let same = get_or-set_same t.words 0 0 0 (omega arith) in let hand : v.hand ≡ k.d = f.hand holds in let desk : d ≡ k.d = is ∙ hand in
    let told : PassFits k.s.history k.swaps v.hand v.pass → PassFits k.s.history k.swaps v.hand (c v) = learns k.s k.swaps (subst (λ (z : DeskView). DeskStandsFor z k.s) (sym hand) k.world.stands) (subst (BufferFits k.swaps) (sym hand) k.buffer) in (
      w,
      gives,
      tt,
      moved t k id v w (set t.words 0 0) (set t.homes 0 (some d)) k.s k.swaps k.d k.head k.halt me k.world k.buffer
          record {
            wide = length-set t.words 0 0 ∙ long;
            homes_one = length-set t.homes 0 (some d) ∙ near;
            turn = omega arith;
            free = λ _. set_here t.homes 0 (some d) (omega arith) ∙ ap (λ (y : DeskView). some (some y)) desk;
            out = λ e. absurd (omega arith);
          }
          (omega arith)
          record {
            hand = λ e. no e;
            pass = λ e. subst (λ (z : DeskView). PassFits k.s.history k.swaps z (c v)) hand (told (subst (λ (z : DeskView). PassFits k.s.history k.swaps z v.pass) (sym hand) (f.pass e)));
            known = f.known;
            note = f.note;
            drains = f.drains;
            idle = λ z. own ∙ f.idle z;
          }
          (λ j u _ e. k.each j u e)
          (heads t k id v me) (λ _. refl) (k.controls id v me) (λ h. refl) (omega arith) (λ h. omega (arith, ap (total h) own)),
      (record { word = refl; free = refl; alone = refl; holds = holds }, refl),
    )

frees_as : (n id : ℕ) (m : Sat) (c : View → PassState) → HasDesk m
    → ((s : State) (swaps : List ℕ) → DeskStandsFor m.0.hand s → BufferFits swaps m.0.hand → PassFits s.history swaps m.0.hand m.0.pass → PassFits s.history swaps m.0.hand (c m.0)) → (c m.0).own ≡ m.0.pass.own
    → Allows KeepsTurnRule n id m 0 (λ _. 0) (λ _. freed c (step n 0 0 0 none) m 0)
frees_as n id m c desk learns own = subst (λ (l : List (ℕ × DeskView)). Allows KeepsTurnRule n id (m.0, l) 0 (λ _. 0) (λ _. freed c (step n 0 0 0 none) (m.0, l) 0)) (sym desk.out) (frees n id m.0 m.0.hand c desk.holds refl learns own)

pub frees_turn : (n id : ℕ) (m : Sat) → HasDesk m → Allows KeepsTurnRule n id m 0 (λ _. 0) (λ _. freed same_pass (step n 0 0 0 none) m 0)
frees_turn n id m desk = frees_as n id m same_pass desk (λ s swaps stands buffer fits. fits) refl

pub frees_full : (n id : ℕ) (m : Sat) → HasDesk m → Allows KeepsTurnRule n id m 0 (λ _. 0) (λ _. freed with_full_hand (step n 0 0 0 none) m 0)
frees_full n id m desk = let d = m.0.hand in frees_as n id m with_full_hand desk
    (λ s swaps stands buffer fits. record {
      own = fits.own;
      named = fits.named;
      named_ids = fits.named_ids;
      fulls = each_last (HeldThere m.0.pass.limit s.history swaps) m.0.pass.fulls (full_at (found_of d)) fits.fulls (subst (λ (n : ℕ). HeldThere n s.history swaps (full_at (found_of d))) (sym fits.limit) (full_there swaps d s stands buffer));
      lacks = fits.lacks;
      found = fits.found;
      there = fits.there;
      limit = fits.limit;
    }) refl

pub frees_named : (n id : ℕ) (m : Sat) (pair : ℕ × ChannelDef) → HasDesk m → NamedAt m.0.hand pair → Allows KeepsTurnRule n id m 0 (λ _. 0) (λ _. freed (with_name pair) (step n 0 0 0 none) m 0)
frees_named n id m pair desk named = let d = m.0.hand in frees_as n id m (with_name pair) desk
    (λ s swaps stands buffer fits. let there = named s stands in let p = parts d s stands in record {
      own = fits.own;
      named = each_last (NameStands s.history) m.0.pass.named (named_by pair.0 pair.1 (accepted m.0.hand)) fits.named (name_there m.0.hand s pair stands there.0);
      named_ids = each_last (λ (x : NamedBy). (1 ≤ x.id) × (x.id ≤ length (channels_in s.history))) m.0.pass.named (named_by pair.0 pair.1 (accepted m.0.hand)) fits.named_ids (there.1, omega (arith, there.2, ap length p.contents.channels));
      fulls = fits.fulls;
      lacks = fits.lacks;
      found = fits.found;
      there = fits.there;
      limit = fits.limit;
    }) refl

pub frees_lacking : (n id : ℕ) (m : Sat) (pair : ChannelDef × CallRefused) → HasDesk m → LacksIdAt m.0.hand pair → Allows KeepsTurnRule n id m 0 (λ _. 0) (λ _. freed (with_lacking pair) (step n 0 0 0 none) m 0)
frees_lacking n id m pair desk lacks = frees_as n id m (with_lacking pair) desk
    (λ s swaps stands buffer fits. record {
      own = fits.own;
      named = fits.named;
      named_ids = fits.named_ids;
      fulls = fits.fulls;
      lacks = each_last (IdsLackAt s.history) m.0.pass.lacks (lack_at pair.0 pair.1 (accepted m.0.hand)) fits.lacks (lack_there m.0.hand s pair stands (lacks s stands));
      found = fits.found;
      there = fits.there;
      limit = fits.limit;
    }) refl

by_bool : (X : Type 0) (b : Bool) → (b ≡ true → X) → (b ≡ false → X) → X
by_bool X true f g = f refl
by_bool X false f g = g refl

-- an event of the seat that holds the turn: word 1 rises, and the desk, the history and its view change
event : (t : St) (k : KeepsTurnRule t) (id : ℕ) (v w : View) (y : ℕ) (s : State) (swaps : List ℕ) (d : DeskView) (head : Post) (halt : Option Stop) → get_elem? t.views id ≡ some v → v.holds ≡ true → w.holds ≡ true
    → World s d head halt → BufferFits swaps d → ViewFits s.history swaps d halt w → ((u : View) (j : ℕ) → j ≢ id → get_elem? t.views j ≡ some u → u.holds ≡ false → ViewFits k.s.history k.swaps k.d k.halt u → ViewFits s.history swaps d halt u)
    → (id ≡ 0 → w.post ≡ head) → (id ≢ 0 → k.head ≡ head) → (w.post.controls ≡ true → id ≡ 0)
    → ((h : ℕ → ℕ) → seat_numbers h w + total h (below k.head.made) ≡ seat_numbers h v + total h (below head.made)) → is_drain w + one_if k.head.started ≡ is_drain v + one_if head.started
    → ((h : ℕ × Rec → ℕ) → weigh h w + total h (with_places 0 k.s.history) ≡ weigh h v + total h (with_places 0 s.history))
    → KeepsTurnRule (board (set t.words 1 y) t.homes (set t.views id w))
event t k id v w y s swaps d head halt me holds still world buffer mine others here there controls made drains pairs =
    let other = get_or-set_other t.words 1 0 y 0 (λ e. omega arith) in let busy = has v holds in let now = has w still in let part = term_le has_turn t.views id v me in let all = k.holders in let most = k.wired.turn in
    moved t k id v w (set t.words 1 y) t.homes s swaps d head halt me world buffer
    record { wide = length-set t.words 1 y ∙ k.wired.wide; homes_one = k.wired.homes_one; turn = omega arith; free = λ e. absurd (omega arith); out = λ e. k.wired.out (sym other ∙ e) }
    (omega arith) mine
    (λ j u apart e. others u j apart e (by_bool _ u.holds (λ yes_turn. absurd (omega (arith, has u yes_turn, terms_le has_turn t.views id j v u apart me e))) (λ no_turn. no_turn)) (k.each j u e))
    here there controls made drains pairs

rises : (n : ℕ) → IsEvent (step n 1 1 0 none)
rises n = record { word = refl; one = refl; alone = refl }

-- what an event tells
abbrev ByEvent : ℕ → ℕ → Sat → StepTold → ℕ → ℕ → Type 0
ByEvent n id m then i more = Allows KeepsTurnRule n id m i (λ y. (y + more) % 2 ^ 64) (then (step n i more 0 none) m)

-- whatever step it is by
by_event : (n id : ℕ) (m : Sat) (then : StepTold) (i more : ℕ) → IsEvent (step n i more 0 none) → ByEvent n id m then 1 1 → ByEvent n id m then i more
by_event n id m then i more event allows =
    subst (λ (j : ℕ). ByEvent n id m then j more) (sym event.word) (subst (λ (j : ℕ). ByEvent n id m then 1 j) (sym event.one) allows)

-- pairs of records that stand behind a history
placed_behind : (history records : List Rec) (n : ℕ) → n ≡ length history → Each (λ (pair : ℕ × Rec). At (history ++ records) pair.0 pair.1) (with_places n records)
placed_behind history records n same j pair at =
    let there = placed_at n records j pair at in
    let place : length history + j ≡ pair.0 = omega (arith, there.0, same) in
    subst (λ (i : ℕ). At (history ++ records) i pair.1) place (at_second history records j pair.1 there.1)

none_unended : (d : DeskView) → d.end ≡ None → (e : End) → desk_end d ≡ Some e → ⊥
none_unended d unended e is = none-some e (sym (ap first_of unended) ∙ is)

-- What a step says that counts records, whether its seat keeps the turn or frees it: of the desk and the history behind it, of
-- its own view, of the others, which don't hold the turn, and of the pairs.
record Counting (t : St) (k : KeepsTurnRule t) (v : View) (records : List Rec) : Type 0 where
  world : World (accept 0 records k.s) (with_more_records v.hand records) k.head k.halt
  buffer : BufferFits k.swaps (with_more_records v.hand records)
  mine : (held : Bool) → ViewFits (k.s.history ++ records) k.swaps (with_more_records v.hand records) k.halt (view held (with_more_records v.hand records) v.missed (counts v (with_more_records v.hand records)).pass v.post)
  others : (u : View) → u.holds ≡ false → ViewFits k.s.history k.swaps k.d k.halt u → ViewFits (k.s.history ++ records) k.swaps (with_more_records v.hand records) k.halt u
  pairs : (h : ℕ × Rec → ℕ) → weigh h (counts v (with_more_records v.hand records)) + total h (with_places 0 k.s.history) ≡ weigh h v + total h (with_places 0 (k.s.history ++ records))

counting : (t : St) (k : KeepsTurnRule t) (id : ℕ) (v : View) (records : List Rec) → get_elem? t.views id ≡ some v → v.holds ≡ true → MayCount v.hand records (with_more_records v.hand records) → v.post.publishes ≡ true → Counting t k v records
counting t k id v records me holds may named = let hand = v.hand in let d = with_more_records hand records in let f = k.each id v me in let is : hand ≡ k.d = f.hand holds in
    let history = k.s.history ++ records in
    let stands : DeskStandsFor hand k.s = subst (λ (z : DeskView). DeskStandsFor z k.s) (sym is) k.world.stands in let p = parts hand k.s stands in
    let new : fresh_records hand d ≡ records = drop-append_seam hand.primary records in
    let spares = may.spares k.s stands in
    let filled : BufferFits k.swaps hand = subst (BufferFits k.swaps) (sym is) k.buffer in
    let unended = may.unended in
    let idle_view : View = view false v.hand v.missed v.pass v.post in
    let was : ViewFits k.s.history k.swaps hand k.halt idle_view = subst (λ (z : DeskView). ViewFits k.s.history k.swaps z k.halt idle_view) (sym is)
    record { hand = λ e. no e; pass = f.pass; known = f.known; note = f.note; drains = f.drains; idle = f.idle } in
    let g : ViewFits history k.swaps d k.halt idle_view = view_grown k.s.history records k.swaps hand k.halt idle_view unended spares refl was in
    let more = subst (λ (l : List Rec). Each (λ (pair : ℕ × Rec). At history pair.0 pair.1) (with_places (accepted hand) l)) (sym new) (placed_behind k.s.history records (accepted hand) p.count) in record {
      world = record {
        stands = may.stands k.s stands;
        last = λ e at end. absurd (none-some _ (sym unended ∙ end));
        controls = k.world.controls;
        unstarted = λ e. (ap (λ (z : DeskView). z.taken) is ∙ (k.world.unstarted e).0, (k.world.unstarted e).1);
        closed = λ e. absurd (none_unended hand unended Closed e);
        shut = λ e. ap desk_end is ∙ k.world.shut e;
        halted = λ stop e. absurd (none_unended hand unended (Stopped stop) e);
        stood = λ stop e. ap desk_end is ∙ k.world.stood stop e;
      };
      buffer = record { rise = filled.rise; begun = filled.begun; before = filled.before; room = may.room filled.room };
      mine = λ held. record {
        hand = λ _. refl;
        pass = λ e. let there = g.pass e in record {
          own = each_joined (λ (pair : ℕ × Rec). At history pair.0 pair.1) v.pass.own (with_places (accepted hand) (fresh_records hand d)) there.own more;
          named = there.named;
          named_ids = there.named_ids;
          fulls = there.fulls;
          lacks = there.lacks;
          found = there.found;
          there = there.there;
          limit = there.limit;
        };
        known = g.known;
        note = g.note;
        drains = g.drains;
        idle = λ z. absurd (true≢false (sym named ∙ z));
      };
      others = λ u idle h. view_grown k.s.history records k.swaps hand k.halt u unended spares idle (subst (λ (z : DeskView). ViewFits k.s.history k.swaps z k.halt u) (sym is) h);
      pairs = λ h.
          let a : total h (v.pass.own ++ with_places (accepted hand) (fresh_records hand d)) ≡ total h v.pass.own + total h (with_places (length k.s.history) records) =
          total-append h v.pass.own (with_places (accepted hand) (fresh_records hand d)) ∙ ap (λ (z : ℕ × List Rec). total h v.pass.own + total h (with_places z.0 z.1)) (λ i. (p.count i, new i)) in
          let size : 0 + length k.s.history ≡ length k.s.history = omega arith in
          let b : total h (with_places 0 history) ≡ total h (with_places 0 k.s.history) + total h (with_places (length k.s.history) records) =
          ap (total h) (placed_more 0 k.s.history records ∙ ap (λ (z : ℕ). with_places 0 k.s.history ++ with_places z records) size) ∙ total-append h (with_places 0 k.s.history) (with_places (length k.s.history) records) in
          omega (arith, a, b);
    }

-- records are counted
counts_records : (n id : ℕ) (v : View) (records : List Rec) → v.holds ≡ true → MayCount v.hand records (with_more_records v.hand records) → v.post.publishes ≡ true → let d = with_more_records v.hand records in
    Allows KeepsTurnRule n id (v, (0, d) ∷ []) 1 (λ y. (y + 1) % 2 ^ 64) (records_counted (step n 1 1 0 none) (v, (0, d) ∷ []))
counts_records n id v records holds may named t k wide me _ = let d = with_more_records v.hand records in let w : View = counts v d in let it = counting t k id v records me holds may named in (
  w,
  keeps,
  tt,
  event t k id v w ((get_or t.words 1 0 + 1) % 2 ^ 64) (accept 0 records k.s) k.swaps d k.head k.halt me holds refl it.world it.buffer (it.mine true) (λ u j _ _ idle h. it.others u idle h)
      (heads t k id v me) (λ _. refl) (k.controls id v me) (λ h. refl) (omega arith) it.pairs,
  (rises n, refl),
)

-- records are counted as the turn is freed
frees_records : (n id : ℕ) (v : View) (records : List Rec) → v.holds ≡ true → MayCount v.hand records (with_more_records v.hand records) → v.post.publishes ≡ true → let d = with_more_records v.hand records in
    Allows KeepsTurnRule n id (v, (0, d) ∷ []) 0 (λ _. 0) (λ _. freed_counting (step n 0 0 0 none) (v, (0, d) ∷ []) 0)
frees_records n id v records holds may named t k wide me _ = let x : ℕ = get_or t.words 0 0 in let long = k.wired.wide in let near = k.wired.homes_one in let most = k.wired.turn in
    let busy = has v holds in let part = term_le has_turn t.views id v me in let all = k.holders in
    let d = with_more_records v.hand records in let w : View = frees_counting v d in let same = get_or-set_same t.words 0 0 0 (omega arith) in let it = counting t k id v records me holds may named in (
      w,
      gives,
      tt,
      moved t k id v w (set t.words 0 0) (set t.homes 0 (some d)) (accept 0 records k.s) k.swaps d k.head k.halt me it.world it.buffer
          record {
            wide = length-set t.words 0 0 ∙ long;
            homes_one = length-set t.homes 0 (some d) ∙ near;
            turn = omega arith;
            free = λ _. set_here t.homes 0 (some d) (omega arith);
            out = λ e. absurd (omega arith);
          }
          (omega arith)
          (it.mine false)
          (λ j u apart e. it.others u (by_bool _ u.holds (λ yes_turn. absurd (omega (arith, has u yes_turn, terms_le has_turn t.views id j v u apart me e))) (λ no_turn. no_turn)) (k.each j u e))
          (heads t k id v me) (λ _. refl) (k.controls id v me) (λ h. refl) (omega arith) it.pairs,
      (record { word = refl; free = refl; alone = refl; holds = holds }, refl),
    )

pub frees_as_counted : (n id : ℕ) (m : Sat) (d : DeskView) (records : List Rec) → m.1 ≡ (0, d) ∷ [] → m.0.holds ≡ true → MayCount m.0.hand records d → m.0.post.publishes ≡ true
    → Allows KeepsTurnRule n id m 0 (λ _. 0) (λ _. freed_counting (step n 0 0 0 none) m 0)
frees_as_counted n id m d records out holds may named = subst (λ (c : List (ℕ × DeskView)). Allows KeepsTurnRule n id (m.0, c) 0 (λ _. 0) (λ _. freed_counting (step n 0 0 0 none) (m.0, c) 0))
    (ap (λ (z : DeskView). (0, z) ∷ []) (sym may.is) ∙ sym out) (frees_records n id m.0 records holds (subst (MayCount m.0.hand records) may.is may) named)

pub counts_as : (n id : ℕ) (m : Sat) (d : DeskView) (records : List Rec) (i more : ℕ) → IsEvent (step n i more 0 none) → m.1 ≡ (0, d) ∷ [] → m.0.holds ≡ true → MayCount m.0.hand records d → m.0.post.publishes ≡ true
    → ByEvent n id m records_counted i more
counts_as n id m d records i more event out holds may named = by_event n id m records_counted i more event (subst (λ (c : List (ℕ × DeskView)). Allows KeepsTurnRule n id (m.0, c) 1 (λ y. (y + 1) % 2 ^ 64) (records_counted (step n 1 1 0 none) (m.0, c)))
    (ap (λ (z : DeskView). (0, z) ∷ []) (sym may.is) ∙ sym out) (counts_records n id m.0 records holds (subst (MayCount m.0.hand records) may.is may) named))

one_most : (b : Bool) → one_if b ≤ 1
one_most true = omega arith
one_most false = omega arith

-- the buffer is handed over
hands_primary : (n id : ℕ) (v : View) → v.holds ≡ true → v.post ≡ drain_post v.post.stop v.post.taken → (v.hand.primary ≡ [] → ⊥) → let d = swapped v.hand in
    Allows KeepsTurnRule n id (v, (0, d) ∷ []) 1 (λ y. (y + 1) % 2 ^ 64) (handed_over (step n 1 1 0 none) (v, (0, d) ∷ []))
hands_primary n id v holds shape loaded t k wide me _ = let hand = v.hand in let d = swapped hand in let f = k.each id v me in let is : hand ≡ k.d = f.hand holds in
    let history = k.s.history in let s : State = all_taken k.s in let w : View = hands_over v d in
    let stands : DeskStandsFor hand k.s = subst (λ (z : DeskView). DeskStandsFor z k.s) (sym is) k.world.stands in let p = parts hand k.s stands in
    let drains : v.post.drains ≡ true = ap (λ (x : Post). x.drains) shape in
    let seated : v.post.seated ≡ true = ap (λ (x : Post). x.seated) shape in
    let kind : v.post.controls ≡ false = ap (λ (x : Post). x.controls) shape in
    let none_made : v.post.publishes ≡ false = ap (λ (x : Post). x.publishes) shape in
    let none_known : v.post.known ≡ [] = ap (λ (x : Post). x.known) shape in
    let filled : BufferFits k.swaps hand = subst (BufferFits k.swaps) (sym is) k.buffer in let swaps : List ℕ = k.swaps ++ accepted hand ∷ [] in let end : length history ≤ accepted hand = omega (arith, p.count) in
    let had : length v.post.taken ≡ k.s.taken = (f.drains drains).0 ∙ ap (λ (z : DeskView). z.taken) (sym is) ∙ p.taken in
    let whole : v.post.taken ++ hand.primary ≡ history =
    ap (λ (l : List Rec). l ++ hand.primary) (f.note.taken.same ∙ ap (λ (i : ℕ). take i history) had) ∙ ap (λ (l : List Rec). take k.s.taken history ++ l) p.primary ∙ take-append-drop k.s.taken history in
    let mine : is_drain v ≡ 1 = ap one_if drains in
    let not_first : id ≢ 0 = λ z. true≢false (sym (k.world.controls) ∙ ap (λ (x : Post). x.controls) (sym (heads t k id v me z)) ∙ kind) in (
      w,
      keeps,
      tt,
      event t k id v w ((get_or t.words 1 0 + 1) % 2 ^ 64) s swaps d k.head k.halt me holds refl
          record {
            stands = swapped_stands hand k.s stands;
            last = λ e at end. let same = k.world.last e at (ap (λ (z : DeskView). z.end) (sym is) ∙ end) in omega (arith, same, ap accepted is);
            controls = k.world.controls;
            unstarted = λ e. absurd (omega (arith, ap one_if e, mine, term_le is_drain t.views id v me, k.drains));
            closed = λ e. k.world.closed (ap desk_end (sym is) ∙ e);
            shut = λ e. ap desk_end is ∙ k.world.shut e;
            halted = λ stop e. k.world.halted stop (ap desk_end (sym is) ∙ e);
            stood = λ stop e. ap desk_end is ∙ k.world.stood stop e;
          }
          (handed_buffer k.swaps hand loaded filled)
          record {
            hand = λ _. refl;
            pass = λ _. pass_later history swaps hand d v.pass (later_swapped hand) (pass_handed history k.swaps (accepted hand) hand v.pass end (subst (λ (z : DeskView). PassFits history k.swaps z v.pass) (sym is) (f.pass seated)));
            known = λ j x at. absurd (at_none j x at);
            note = record {
              taken = record { within = omega (arith, ap length whole); same = whole ∙ sym (take_all (length (v.post.taken ++ hand.primary)) history (omega (arith, ap length whole))) };
              told = λ g e. absurd (none-some _ e);
              cause = λ g stop e. absurd (none-some _ e);
              stood = λ stop e. ap desk_end is ∙ f.note.stood stop e;
            };
            drains = λ _. (ap length whole ∙ sym p.count, (f.drains drains).1);
            idle = λ _. f.idle none_made;
          }
          (λ u j apart e idle h. view_later history swaps hand d k.halt k.halt u (later_swapped hand) idle
          (λ theirs. let both : is_drain u ≡ 1 = ap one_if theirs in let most = one_most k.head.started in absurd (omega (arith, terms_le is_drain t.views id j v u apart me e, k.drains)))
          (view_handed history k.swaps (accepted hand) hand k.halt u end (subst (λ (z : DeskView). ViewFits history k.swaps z k.halt u) (sym is) h)))
          (λ z. absurd (not_first z)) (λ _. refl) (λ e. no e) (λ h. omega (arith, ap (numbers_in h) shape)) (omega arith) (λ h. omega (arith, ap (total (λ (x : Gathered). total h x.pass.own)) none_known)),
      (rises n, refl, subst Numbered (sym whole) k.world.stands.numbered),
    )

pub hands_as : (n id : ℕ) (m : Sat) (i more : ℕ) → IsEvent (step n i more 0 none) → m.1 ≡ (0, swapped m.0.hand) ∷ [] → m.0.holds ≡ true → m.0.post ≡ drain_post m.0.post.stop m.0.post.taken → (m.0.hand.primary ≡ [] → ⊥)
    → ByEvent n id m handed_over i more
hands_as n id m i more event out holds shape loaded = by_event n id m handed_over i more event (subst (λ (c : List (ℕ × DeskView)). Allows KeepsTurnRule n id (m.0, c) 1 (λ y. (y + 1) % 2 ^ 64) (handed_over (step n 1 1 0 none) (m.0, c)))
    (sym out) (hands_primary n id m.0 holds shape loaded))

abbrev placed_end : End → ℕ → End × ℕ
placed_end end at = (end, at)

-- the end of a desk that had none
end_is : (d : DeskView) (end : End) → d.end ≡ None → (ended d end).end ≡ Some (placed_end end (accepted d))
end_is d end unended = ap (λ (x : Option (End × ℕ)). end_unless x end (accepted d)) unended

same_place : (end e : End) (count at : ℕ) → Some (placed_end end count) ≡ Some (placed_end e at) → at ≡ count
same_place end e count at is = ap (λ (x : End × ℕ). x.1) (same_Some (placed_end e at) (placed_end end count) (sym is))

ended_last : (d : DeskView) (end : End) → d.end ≡ None → EndIsLast (ended d end)
ended_last d end unended e at is = same_place end e (accepted d) at (sym (end_is d end unended) ∙ is)

end_is_found : (d : DeskView) (end : End) → d.end ≡ None → desk_end (ended d end) ≡ Some end
end_is_found d end unended = ap first_of (end_is d end unended)

end_of_is : (d : DeskView) (end e : End) → d.end ≡ None → desk_end (ended d end) ≡ Some e → end ≡ e
end_of_is d end e unended is = same_Some end e (ap first_of (sym (end_is d end unended)) ∙ is)

closed_stopped : {X : Type 0} (stop : Stop) → Closed ≡ Stopped stop → X
closed_stopped stop e = absurd cc

stopped_same : (a b : Stop) → Stopped a ≡ Stopped b → a ≡ b
stopped_same a b e = cc

-- the control closes
closes_log : (n id : ℕ) (v : View) → v.holds ≡ true → v.hand.end ≡ None → v.post.controls ≡ true → v.post.drains ≡ false → let d = ended v.hand Closed in
    Allows KeepsTurnRule n id (v, (0, d) ∷ []) 1 (λ y. (y + 1) % 2 ^ 64) (closed (step n 1 1 0 none) (v, (0, d) ∷ []))
closes_log n id v holds unended controls quiet t k wide me _ = let hand = v.hand in let d = ended hand Closed in let f = k.each id v me in let is : hand ≡ k.d = f.hand holds in
    let history = k.s.history in let s : State = end_with Closed k.s in let w : View = closes v d in
    let stands : DeskStandsFor hand k.s = subst (λ (z : DeskView). DeskStandsFor z k.s) (sym is) k.world.stands in
    let zero_id = k.controls id v me controls in let mine = heads t k id v me zero_id in
    let go = later_ended hand Closed unended in (
      w,
      keeps,
      tt,
      event t k id v w ((get_or t.words 1 0 + 1) % 2 ^ 64) s k.swaps d (shuts k.head) k.halt me holds refl
          record {
            stands = ended_stands hand k.s Closed stands;
            last = ended_last hand Closed unended;
            controls = k.world.controls;
            unstarted = λ e. (ap (λ (z : DeskView). z.taken) is ∙ (k.world.unstarted e).0, (k.world.unstarted e).1);
            closed = λ _. refl;
            shut = λ _. end_is_found hand Closed unended;
            halted = λ stop e. closed_stopped stop (end_of_is hand Closed (Stopped stop) unended e);
            stood = λ stop e. absurd (none_unended hand unended (Stopped stop) (ap desk_end is ∙ k.world.stood stop e));
          }
          (ended_buffer k.swaps hand Closed (subst (BufferFits k.swaps) (sym is) k.buffer))
          record {
            hand = λ _. refl;
            pass = λ e. pass_later history k.swaps hand d v.pass go (subst (λ (z : DeskView). PassFits history k.swaps z v.pass) (sym is) (f.pass e));
            known = λ j x at. pass_later history k.swaps hand d x.pass go (subst (λ (z : DeskView). PassFits history k.swaps z x.pass) (sym is) (f.known j x at));
            note = note_later history hand d (shuts v.post) go (subst (λ (z : DeskView). NoteFits history z (shuts v.post)) (sym is) (record { taken = f.note.taken; told = f.note.told; cause = f.note.cause; stood = f.note.stood }));
            drains = λ e. no (sym quiet ∙ e);
            idle = f.idle;
          }
          (λ u j apart e idle h. view_later history k.swaps hand d k.halt k.halt u go idle (λ theirs. let there = h.drains theirs in (there.0 ∙ ap (λ (z : DeskView). z.taken) (sym is), there.1))
          (subst (λ (z : DeskView). ViewFits history k.swaps z k.halt u) (sym is) h))
          (λ _. ap shuts mine) (λ nz. absurd (nz zero_id)) (λ _. zero_id) (λ h. refl) (omega (arith, ap (λ (x : Post). one_if x.started) mine)) (λ h. refl),
      (rises n, refl),
    )

pub closes_as : (n id : ℕ) (m : Sat) (i more : ℕ) → IsEvent (step n i more 0 none) → m.1 ≡ (0, ended m.0.hand Closed) ∷ [] → m.0.holds ≡ true → m.0.hand.end ≡ None → m.0.post.controls ≡ true → m.0.post.drains ≡ false
    → ByEvent n id m closed i more
closes_as n id m i more event out holds unended controls quiet = by_event n id m closed i more event (subst (λ (c : List (ℕ × DeskView)). Allows KeepsTurnRule n id (m.0, c) 1 (λ y. (y + 1) % 2 ^ 64) (closed (step n 1 1 0 none) (m.0, c)))
    (sym out) (closes_log n id m.0 holds unended controls quiet))

-- the drain stops
stops_log : (n id : ℕ) (v : View) (stop : Stop) → v.holds ≡ true → v.hand.end ≡ None → v.post ≡ drain_post v.post.stop v.post.taken → let d = ended v.hand (Stopped stop) in
    Allows KeepsTurnRule n id (v, (0, d) ∷ []) 1 (λ y. (y + 1) % 2 ^ 64) (stopped (step n 1 1 0 none) (v, (0, d) ∷ []))
stops_log n id v stop holds unended shape t k wide me _ = let hand = v.hand in let d = ended hand (Stopped stop) in let f = k.each id v me in let is : hand ≡ k.d = f.hand holds in
    let history = k.s.history in let s : State = end_with (Stopped stop) k.s in let w : View = stops v d in
    let stands : DeskStandsFor hand k.s = subst (λ (z : DeskView). DeskStandsFor z k.s) (sym is) k.world.stands in
    let drains : v.post.drains ≡ true = ap (λ (x : Post). x.drains) shape in
    let seated : v.post.seated ≡ true = ap (λ (x : Post). x.seated) shape in
    let kind : v.post.controls ≡ false = ap (λ (x : Post). x.controls) shape in
    let none_made : v.post.publishes ≡ false = ap (λ (x : Post). x.publishes) shape in
    let none_known : v.post.known ≡ [] = ap (λ (x : Post). x.known) shape in
    let mine : is_drain v ≡ 1 = ap one_if drains in
    let not_first : id ≢ 0 = λ z. true≢false (sym (k.world.controls) ∙ ap (λ (x : Post). x.controls) (sym (heads t k id v me z)) ∙ kind) in
    let go = later_ended hand (Stopped stop) unended in
    let set_to : stop_in d.end ≡ Some stop = ap stop_in (end_is hand (Stopped stop) unended) in
    let stops_so : (other : Stop) → Some stop ≡ Some other → desk_end d ≡ Some (Stopped other) =
    λ other e. end_is_found hand (Stopped stop) unended ∙ ap (λ (x : Stop). Some (Stopped x)) (same_Some stop other e) in (
      w,
      keeps,
      tt,
      event t k id v w ((get_or t.words 1 0 + 1) % 2 ^ 64) s k.swaps d k.head (Some stop) me holds refl
          record {
            stands = ended_stands hand k.s (Stopped stop) stands;
            last = ended_last hand (Stopped stop) unended;
            controls = k.world.controls;
            unstarted = λ e. absurd (omega (arith, ap one_if e, mine, term_le is_drain t.views id v me, k.drains));
            closed = λ e. closed_stopped stop (sym (end_of_is hand (Stopped stop) Closed unended e));
            shut = λ e. absurd (none_unended hand unended Closed (ap desk_end is ∙ k.world.shut e));
            halted = λ other e. ap Some (stopped_same stop other (end_of_is hand (Stopped stop) (Stopped other) unended e));
            stood = stops_so;
          }
          (ended_buffer k.swaps hand (Stopped stop) (subst (BufferFits k.swaps) (sym is) k.buffer))
          record {
            hand = λ _. refl;
            pass = λ _. pass_later history k.swaps hand d v.pass go (subst (λ (z : DeskView). PassFits history k.swaps z v.pass) (sym is) (f.pass seated));
            known = λ j x at. absurd (at_none j x at);
            note = record { taken = f.note.taken; told = λ g e. absurd (none-some _ e); cause = λ g other e. absurd (none-some _ e); stood = λ other e. stops_so other (sym set_to ∙ e) };
            drains = λ _. ((f.drains drains).0 ∙ ap (λ (z : DeskView). z.taken) (sym is), set_to);
            idle = λ _. f.idle none_made;
          }
          (λ u j apart e idle h. view_later history k.swaps hand d k.halt (Some stop) u go idle
          (λ theirs. let both : is_drain u ≡ 1 = ap one_if theirs in let most = one_most k.head.started in absurd (omega (arith, terms_le is_drain t.views id j v u apart me e, k.drains)))
          (subst (λ (z : DeskView). ViewFits history k.swaps z k.halt u) (sym is) h))
          (λ z. absurd (not_first z)) (λ _. refl) (λ e. no e) (λ h. omega (arith, ap (numbers_in h) shape)) (omega arith) (λ h. omega (arith, ap (total (λ (x : Gathered). total h x.pass.own)) none_known)),
      (rises n, refl),
    )

pub stops_as : (n id : ℕ) (m : Sat) (stop : Stop) (i more : ℕ) → IsEvent (step n i more 0 none) → m.1 ≡ (0, ended m.0.hand (Stopped stop)) ∷ [] → m.0.holds ≡ true → m.0.hand.end ≡ None → m.0.post ≡ drain_post m.0.post.stop m.0.post.taken
    → ByEvent n id m stopped i more
stops_as n id m stop i more event out holds unended shape = by_event n id m stopped i more event (subst (λ (c : List (ℕ × DeskView)). Allows KeepsTurnRule n id (m.0, c) 1 (λ y. (y + 1) % 2 ^ 64) (stopped (step n 1 1 0 none) (m.0, c)))
    (sym out) (stops_log n id m.0 stop holds unended shape))

-- ---- seats that are made and spent

-- a seat is cut in two
split : (t : St) (k : KeepsTurnRule t) (id : ℕ) (v w r : View) (head : Post) → get_elem? t.views id ≡ some v → w.holds ≡ v.holds → r.holds ≡ false
    → World k.s k.d head k.halt → ViewFits k.s.history k.swaps k.d k.halt w → ViewFits k.s.history k.swaps k.d k.halt r → (id ≡ 0 → w.post ≡ head) → (id ≢ 0 → k.head ≡ head) → (w.post.controls ≡ true → id ≡ 0) → r.post.controls ≡ false
    → ((h : ℕ → ℕ) → seat_numbers h w + seat_numbers h r + total h (below k.head.made) ≡ seat_numbers h v + total h (below head.made)) → is_drain w + is_drain r + one_if k.head.started ≡ is_drain v + one_if head.started
    → ((h : ℕ × Rec → ℕ) → weigh h w ≡ weigh h v) → ((h : ℕ × Rec → ℕ) → weigh h r ≡ 0) → KeepsTurnRule (board t.words t.homes (set t.views id w ++ r ∷ []))
split t k id v w r head me holds idle world mine new here there controls not_control made drains same none_yet = let vs : List View = set t.views id w in record {
  s = k.s;
  swaps = k.swaps;
  d = k.d;
  head = head;
  halt = k.halt;
  world = world;
  buffer = k.buffer;
  wired = k.wired;
  holders = omega (arith, total-append has_turn vs (r ∷ []), total-set has_turn t.views id v w me, ap one_if holds, has_not r idle, k.holders);
  each = λ j u e. ⊎_elim (λ old. ⊎_elim (λ x. subst (ViewFits k.s.history k.swaps k.d k.halt) x.1 mine) (λ x. k.each j u x.1) (at_set t.views id j w u old)) (λ (x : r ≡ u). subst (ViewFits k.s.history k.swaps k.d k.halt) x new) (at_snoc vs r u j e);
  first = dite (ℕ_discrete 0 id)
      (λ z. (w, at_longer vs (r ∷ []) 0 w (ap (λ (i : ℕ). get_elem? vs i) z ∙ set_at t.views id v w me), here (sym z)))
      (λ nz. (k.first.0, at_longer vs (r ∷ []) 0 k.first.0 (set_else t.views id 0 w nz ∙ k.first.1), k.first.2 ∙ there (λ z. nz (sym z))));
  controls = λ j u e c. ⊎_elim (λ old. ⊎_elim (λ (x : (j ≡ id) × (w ≡ u)). x.0 ∙ controls (ap (λ (y : View). y.post.controls) x.1 ∙ c)) (λ x. k.controls j u x.1 c) (at_set t.views id j w u old))
      (λ (x : r ≡ u). no (sym not_control ∙ (ap (λ (y : View). y.post.controls) x ∙ c))) (at_snoc vs r u j e);
  made = λ h. omega (arith, total-append (seat_numbers h) vs (r ∷ []), total-set (seat_numbers h) t.views id v w me, k.made h, made h);
  drains = omega (arith, total-append is_drain vs (r ∷ []), total-set is_drain t.views id v w me, k.drains, drains);
  pairs = λ h. omega (arith, total-append (weigh h) vs (r ∷ []), total-set (weigh h) t.views id v w me, same h, none_yet h, k.pairs h);
}

-- what a seat says that has done nothing
fits_new : (history : List Rec) (swaps : List ℕ) (d : DeskView) (halt : Option Stop) (limit : ℕ) (p : Post) → (p.seated ≡ true → limit ≡ d.limit) → p.known ≡ [] → p.taken ≡ [] → p.told ≡ None → p.stop ≡ None
    → (p.drains ≡ true → (d.taken ≡ 0) × (p.stop ≡ halt)) → ViewFits history swaps d halt (newcomer limit p)
fits_new history swaps d halt limit p limited unknown untaken untold unset drains = record {
  hand = λ e. no e;
  pass = λ e. fits_none history swaps d limit (limited e);
  known = subst (Each (λ (g : Gathered). PassFits history swaps d g.pass)) (sym unknown) (λ n x at. absurd (at_none n x at));
  note = note_none history d p untaken untold unset;
  drains = λ e. (omega (arith, ap length untaken, (drains e).0), (drains e).1);
  idle = λ _. refl;
}

-- the same view with another post, which tells as much
fits_post : (history : List Rec) (swaps : List ℕ) (d : DeskView) (halt : Option Stop) (v : View) (p : Post) → v.post.seated ≡ true → p.known ≡ v.post.known → p.drains ≡ false → p.publishes ≡ v.post.publishes
    → p.taken ≡ v.post.taken → p.told ≡ v.post.told → p.stop ≡ v.post.stop → ViewFits history swaps d halt v → ViewFits history swaps d halt (view v.holds v.hand v.missed v.pass p)
fits_post history swaps d halt v p seated known quiet publishing taken told stop f = record {
  hand = f.hand;
  pass = λ e. f.pass seated;
  known = subst (Each (λ (g : Gathered). PassFits history swaps d g.pass)) (sym known) f.known;
  note = record {
    taken = subst (λ (l : List Rec). IsFront l history) (sym taken) f.note.taken;
    told = λ g is. f.note.told g (sym told ∙ is);
    cause = λ g other is end. stop ∙ f.note.cause g other (sym told ∙ is) end;
    stood = λ other is. f.note.stood other (sym stop ∙ is);
  };
  drains = λ e. no (sym quiet ∙ e);
  idle = λ z. f.idle (sym publishing ∙ z);
}

-- a publisher is made
pub hires_seat : (id : ℕ) (v : View) → v.post.controls ≡ true → v.post.drains ≡ false → v.post.seated ≡ true → Splits KeepsTurnRule id v (hires v) (hired v)
hires_seat id v controls quiet seated t k me = let z = k.controls id v me controls in let mine = heads t k id v me z in let f = k.each id v me in let w = hires v in
    let head : Post = record k.head { made = k.head.made + 1 } in
    split t k id v w (hired v) head me refl refl
    record { stands = k.world.stands; last = k.world.last; controls = k.world.controls; unstarted = k.world.unstarted; closed = k.world.closed; shut = k.world.shut; halted = k.world.halted; stood = k.world.stood }
    (fits_post k.s.history k.swaps k.d k.halt v w.post seated refl quiet refl refl refl refl f)
    (fits_new k.s.history k.swaps k.d k.halt v.pass.limit (publisher_post v.post.made) (λ _. (f.pass seated).limit) refl refl refl refl (λ e. no e))
    (λ _. ap (λ (p : Post). record p { made = p.made + 1 }) mine) (λ nz. absurd (nz z)) (λ _. z) refl
    (λ h. omega (arith, ap (λ (p : Post). h p.made) mine, below-more h k.head.made)) (omega arith) (λ h. refl) (λ h. refl)

-- the drain is made at the start
pub starts_drain : (id : ℕ) (v : View) → v.post.controls ≡ true → v.post.drains ≡ false → v.post.seated ≡ true → v.post.started ≡ false → Splits KeepsTurnRule id v (starts v) (drainer v)
starts_drain id v controls quiet seated fresh_one t k me = let z = k.controls id v me controls in let mine = heads t k id v me z in let f = k.each id v me in let w = starts v in
    let unstarted : k.head.started ≡ false = ap (λ (p : Post). p.started) (sym mine) ∙ fresh_one in
    let not_yet : one_if k.head.started ≡ 0 = ap one_if unstarted in
    let silent : is_drain v ≡ 0 = ap one_if quiet in
    let before = k.world.unstarted unstarted in
    let head : Post = record k.head { started = true } in
    split t k id v w (drainer v) head me refl refl
    record { stands = k.world.stands; last = k.world.last; controls = k.world.controls; unstarted = λ e. absurd (true≢false e); closed = k.world.closed; shut = k.world.shut; halted = k.world.halted; stood = k.world.stood }
    (fits_post k.s.history k.swaps k.d k.halt v w.post seated refl quiet refl refl refl refl f)
    (fits_new k.s.history k.swaps k.d k.halt v.pass.limit (drain_post None []) (λ _. (f.pass seated).limit) refl refl refl refl (λ _. (before.0, sym before.1)))
    (λ _. ap (λ (p : Post). record p { started = true }) mine) (λ nz. absurd (nz z)) (λ _. z) refl
    (λ h. omega arith) (omega arith) (λ h. refl) (λ h. refl)

-- a note is made
pub notes_drain : (id : ℕ) (v : View) → v.post ≡ drain_post v.post.stop v.post.taken → Splits KeepsTurnRule id v v (drain_noted v)
notes_drain id v shape t k me = let f = k.each id v me in
    let drains : v.post.drains ≡ true = ap (λ (p : Post). p.drains) shape in
    let seated : v.post.seated ≡ true = ap (λ (p : Post). p.seated) shape in
    split t k id v v (drain_noted v) k.head me refl refl k.world f
    record {
      hand = λ e. no e;
      pass = λ e. no e;
      known = λ n x at. absurd (at_none n x at);
      note = record {
        taken = f.note.taken;
        told = λ g is. (f.pass seated).found g is;
        cause = λ g stop is end. (f.drains drains).1 ∙ k.world.halted stop (((f.pass seated).found g is).later.end (Stopped stop) end);
        stood = f.note.stood;
      };
      drains = λ e. no e;
      idle = λ _. refl;
    }
    (heads t k id v me) (λ _. refl) (k.controls id v me) refl (λ h. omega arith) (omega arith) (λ h. refl) (λ h. refl)

-- two seats become one
joined : (t : St) (k : KeepsTurnRule t) (id : ℕ) (v : View) (other : ℕ) (u w : View) (head : Post) → get_elem? t.views id ≡ some v → ¬ (other ≡ id) → get_elem? (set t.views id w) other ≡ some u → id ≡ 0
    → w.holds ≡ v.holds → u.holds ≡ false → World k.s k.d head k.halt → ViewFits k.s.history k.swaps k.d k.halt w → w.post ≡ head
    → ((h : ℕ → ℕ) → seat_numbers h w + total h (below k.head.made) ≡ seat_numbers h v + seat_numbers h u + total h (below head.made)) → is_drain w + one_if k.head.started ≡ is_drain v + is_drain u + one_if head.started
    → ((h : ℕ × Rec → ℕ) → weigh h w ≡ weigh h v + weigh h u)
    → KeepsTurnRule (board t.words t.homes (set (set t.views id w) other nobody))
joined t k id v other u w head me apart them z holds idle world mine here made drains same = let vs : List View = set t.views id w in
    let both : (g : View → ℕ) → total g (set vs other nobody) + g u + g v ≡ total g t.views + g w + g nobody = λ g. omega (arith, total-set g t.views id v w me, total-set g vs other u nobody them) in
    record {
      s = k.s;
      swaps = k.swaps;
      d = k.d;
      head = head;
      halt = k.halt;
      world = world;
      buffer = k.buffer;
      wired = k.wired;
      holders = omega (arith, both has_turn, ap one_if holds, has_not u idle, k.holders);
      each = λ j x e. ⊎_elim (λ y. subst (ViewFits k.s.history k.swaps k.d k.halt) y.1 (fits_new k.s.history k.swaps k.d k.halt 0 no_post (λ e'. no e') refl refl refl refl (λ e'. no e')))
          (λ y. ⊎_elim (λ q. subst (ViewFits k.s.history k.swaps k.d k.halt) q.1 mine) (λ q. k.each j x q.1) (at_set t.views id j w x y.1)) (at_set vs other j nobody x e);
      first = (w, set_else vs other 0 nobody (λ e. apart (sym e ∙ sym z)) ∙ (ap (λ (i : ℕ). get_elem? vs i) (sym z) ∙ set_at t.views id v w me), here);
      controls = λ j x e c. ⊎_elim (λ (y : (j ≡ other) × (nobody ≡ x)). no (ap (λ (q : View). q.post.controls) y.1 ∙ c))
          (λ y. ⊎_elim (λ (q : (j ≡ id) × (w ≡ x)). q.0 ∙ z) (λ q. k.controls j x q.1 c) (at_set t.views id j w x y.1)) (at_set vs other j nobody x e);
      made = λ h. omega (arith, both (seat_numbers h), k.made h, made h);
      drains = omega (arith, both is_drain, k.drains, drains);
      pairs = λ h. omega (arith, both (weigh h), same h, k.pairs h);
    }

-- the control gathers a publisher
pub gathers_seat : (id : ℕ) (v : View) (other : ℕ) (u : View) (number : ℕ) → v.post.controls ≡ true → v.post.drains ≡ false → v.post.seated ≡ true → u.holds ≡ false → u.post ≡ publisher_post number → Joins KeepsTurnRule id v other u (gathers v u) nobody
gathers_seat id v other u number controls quiet seated idle shape t k me apart them = let z = k.controls id v me controls in let mine = heads t k id v me z in let f = k.each id v me in let w = gathers v u in
    let there : get_elem? t.views other ≡ some u = sym (set_else t.views id other w apart) ∙ them in let g = k.each other u there in
    let silent : is_drain u ≡ 0 = ap (λ (p : Post). one_if p.drains) shape in
    let unknown : u.post.known ≡ [] = ap (λ (p : Post). p.known) shape in
    let shown : PassFits k.s.history k.swaps k.d u.pass = g.pass (ap (λ (p : Post). p.seated) shape) in
    let head : Post = record k.head { known = k.head.known ++ gathered u ∷ [] } in
    joined t k id v other u w head me apart them z refl idle
    record { stands = k.world.stands; last = k.world.last; controls = k.world.controls; unstarted = k.world.unstarted; closed = k.world.closed; shut = k.world.shut; halted = k.world.halted; stood = k.world.stood }
    record {
      hand = f.hand;
      pass = f.pass;
      known = each_last (λ (g : Gathered). PassFits k.s.history k.swaps k.d g.pass) v.post.known (gathered u) f.known shown;
      note = record { taken = f.note.taken; told = f.note.told; cause = f.note.cause; stood = f.note.stood };
      drains = λ e. no (sym quiet ∙ e);
      idle = f.idle;
    }
    (ap (λ (p : Post). record p { known = p.known ++ gathered u ∷ [] }) mine)
    (λ h. omega (arith, total-append (λ (x : Gathered). h x.number) v.post.known (gathered u ∷ []), ap (numbers_in h) shape, ap (λ (p : Post). h p.number) shape)) (omega (arith, silent))
    (λ h. omega (arith, total-append (λ (x : Gathered). total h x.pass.own) v.post.known (gathered u ∷ []), ap (total (λ (x : Gathered). total h x.pass.own)) unknown))

-- the control reads a note
pub reads_note : (id : ℕ) (v : View) (other : ℕ) (u : View) → v.post.controls ≡ true → v.post.drains ≡ false → v.post.seated ≡ true → u ≡ newcomer 0 (note_post u.post.stop u.post.taken u.post.told) → Joins KeepsTurnRule id v other u (reads v u) nobody
reads_note id v other u controls quiet seated shape t k me apart them = let z = k.controls id v me controls in let mine = heads t k id v me z in let f = k.each id v me in let w = reads v u in
    let there : get_elem? t.views other ≡ some u = sym (set_else t.views id other w apart) ∙ them in let g = k.each other u there in
    let head : Post = record k.head { stop = u.post.stop; taken = u.post.taken; told = u.post.told } in
    joined t k id v other u w head me apart them z refl (ap (λ (x : View). x.holds) shape)
    record { stands = k.world.stands; last = k.world.last; controls = k.world.controls; unstarted = k.world.unstarted; closed = k.world.closed; shut = k.world.shut; halted = k.world.halted; stood = k.world.stood }
    record {
      hand = f.hand;
      pass = f.pass;
      known = f.known;
      note = record { taken = g.note.taken; told = g.note.told; cause = g.note.cause; stood = g.note.stood };
      drains = λ e. no (sym quiet ∙ e);
      idle = f.idle;
    }
    (ap (λ (p : Post). record p { stop = u.post.stop; taken = u.post.taken; told = u.post.told }) mine)
    (λ h. omega (arith, ap (seat_numbers h) shape)) (omega (arith, ap is_drain shape))
    (λ h. omega (arith, ap (weigh h) shape))

-- ---- looks

-- a load changes nothing
loads : (t : St) (k : KeepsTurnRule t) (id : ℕ) (v : View) → get_elem? t.views id ≡ some v → KeepsTurnRule (board (set t.words 1 (get_or t.words 1 0)) t.homes (set t.views id v))
loads t k id v me = let x : ℕ = get_or t.words 1 0 in let f = k.each id v me in let same = set-get_or t.words 1 0 in
    moved t k id v v (set t.words 1 x) t.homes k.s k.swaps k.d k.head k.halt me k.world k.buffer
    record {
      wide = length-set t.words 1 x ∙ k.wired.wide;
      homes_one = k.wired.homes_one;
      turn = subst (λ (ws : List ℕ). get_or ws 0 0 ≤ 1) (sym same) k.wired.turn;
      free = λ e. k.wired.free (ap (λ (ws : List ℕ). get_or ws 0 0) (sym same) ∙ e);
      out = λ e. k.wired.out (ap (λ (ws : List ℕ). get_or ws 0 0) (sym same) ∙ e);
    }
    (omega (arith, ap (λ (ws : List ℕ). get_or ws 0 0) same)) f (λ j u _ e. k.each j u e)
    (heads t k id v me) (λ _. refl) (k.controls id v me) (λ h. refl) (omega arith) (λ h. refl)

-- a look behind a publisher that was gathered
pub settles : (n id : ℕ) (m : Sat) → Allows KeepsTurnRule n id m 1 (λ y. y) (settled (step n 1 0 0 none) m)
settles n id m t k wide me _ = let v = m.0 in let f = k.each id v me in (
  v,
  keeps,
  tt,
  loads t k id v me,
  (
    refl,
    λ controls open_still j p at g is end.
        let z = k.controls id v me controls in
        let mine = heads t k id v me z in
        let there = (f.known j p at).found g is in
        let shut : k.head.closed ≡ true = k.world.closed (there.later.end Closed end) in
        true≢false (sym shut ∙ ap (λ (x : Post). x.closed) (sym mine) ∙ open_still),
  ),
)

-- what a pass showed, where the intake has ended and the history is whole
shown_to : (s : State) (swaps : List ℕ) (d : DeskView) (end : End) (p : PassState) → DeskStandsFor d s → desk_end d ≡ Some end → PassFits s.history swaps d p → ShownTo s.history swaps end p
shown_to s swaps d end p stands is fits =
    let parts_of = parts d s stands in
    record {
      own = fits.own;
      named = fits.named;
      fulls = fits.fulls;
      lacks = fits.lacks;
      found = λ g there.
          let it = fits.found g there in
          record {
            within = omega (arith, it.later.count, parts_of.count);
            schemas = omega (arith, it.later.schemas, ap length parts_of.contents.schemas, schemas_counted s.history);
            channels = omega (arith, it.later.channels, ap length parts_of.contents.channels, channels_counted s.history);
            numbers = fits.there g there;
            all = λ e ended. it.all e ended ∙ parts_of.count;
            same = λ e ended. same_Some e end (sym (it.later.end e ended) ∙ is);
          };
    }

-- a view without a number of a publisher
silent : (u : View) → seat_numbers one u ≡ 0 → (u.post.publishes ≡ false) × (u.post.known ≡ [])
silent u nothing = by_bool ((u.post.publishes ≡ false) × (u.post.known ≡ [])) u.post.publishes
    (λ publishing. absurd (omega (arith, nothing, ap one_if publishing)))
    (λ quiet. (quiet, nil_from_length u.post.known (omega (arith, nothing, total-ones u.post.known))))

-- a look where all is gathered
pub meets : (n id : ℕ) (m : Sat) → Allows KeepsTurnRule n id m 1 (λ y. y) (met (step n 1 0 0 none) m)
meets n id m t k wide me _ = let v = m.0 in let f = k.each id v me in (
  v,
  keeps,
  tt,
  loads t k id v me,
  (
    refl,
    λ end all.
        let history = k.s.history in
        let z = k.controls id v me all.controls in
        let mine = heads t k id v me z in
        let p = parts k.d k.s k.world.stands in
        let told = f.note.told all.found all.told in
        let stood : desk_end k.d ≡ Some end = told.later.end end all.ended in
        let size : length v.post.taken ≡ length history = sym all.count ∙ (told.all end all.ended ∙ p.count) in
        let whole : v.post.taken ≡ history = f.note.taken.same ∙ take_all (length v.post.taken) history (omega (arith, size)) in
        let own_none : (h : ℕ → ℕ) → seat_numbers h v ≡ total (λ (x : Gathered). h x.number) v.post.known = λ h. omega (arith, ap (λ (b : Bool). cond b (h v.post.number) 0) all.quiet) in
        let everyone : total (seat_numbers one) t.views ≡ seat_numbers one v =
        omega (arith, k.made one, below-ones k.head.made, ap (λ (x : Post). x.made) mine, all.all, total-ones v.post.known, own_none one) in
        record {
          publishers = λ h.
              let alone = total-alone (seat_numbers one) (seat_numbers h) t.views id v me everyone (λ i u e none_there. let quiet = silent u none_there in omega (arith, ap (λ (b : Bool). cond b (h u.post.number) 0) quiet.0, ap (total (λ (x : Gathered). h x.number)) quiet.1)) in
              omega (arith, alone, k.made h, own_none h, ap (λ (x : Post). total h (below x.made)) mine);
          numbered = subst Numbered (sym whole) k.world.stands.numbered;
          pairs = λ h.
              let alone = total-alone (seat_numbers one) (weigh h) t.views id v me everyone
              (λ i u e none_there. let quiet = silent u none_there in omega (arith, ap (total h) ((k.each i u e).idle quiet.0), ap (total (λ (x : Gathered). total h x.pass.own)) quiet.1)) in
              omega (arith, alone, k.pairs h, ap (total h) all.own, ap (λ (l : List Rec). total h (with_places 0 l)) whole);
          swaps = k.swaps;
          handed = record { rise = k.buffer.rise; within = λ j x at. let le = k.buffer.before j x at in omega (arith, le, p.held, p.count, size) };
          shown = λ j x at. subst (λ (l : List Rec). ShownTo l k.swaps end x.pass) (sym whole) (shown_to k.s k.swaps k.d end x.pass k.world.stands stood (f.known j x at));
          closes = λ is. ap (λ (x : Post). x.closed) mine ∙ k.world.closed (stood ∙ ap Some is);
          stops = λ stop is. f.note.cause all.found stop all.told (all.ended ∙ ap Some is);
          closed_is = λ is. same_Some end Closed (sym stood ∙ k.world.shut (ap (λ (x : Post). x.closed) (sym mine) ∙ is));
          stop_is = λ stop is. same_Some end (Stopped stop) (sym stood ∙ f.note.stood stop is);
        },
  ),
)

-- ---- at the start

start_stands : (limit : ℕ) → DeskStandsFor (new_desk limit) start
start_stands limit = record { desk = refl; within = omega arith; numbered = λ n x at. absurd (at_none n x at) }

pub opens : (limit : ℕ) → 1 ≤ limit → KeepsTurnRule (opening (0 ∷ 0 ∷ []) (new_desk limit ∷ []) (newcomer limit first_post))
opens limit least = let d = new_desk limit in let v = newcomer limit first_post in record {
  s = start;
  swaps = [];
  d = d;
  head = first_post;
  halt = None;
  world = record {
    stands = start_stands limit;
    last = λ e at is. absurd (none-some _ is);
    controls = refl;
    unstarted = λ _. (refl, refl);
    closed = λ e. absurd (none-some _ e);
    shut = λ e. no e;
    halted = λ stop e. absurd (none-some _ e);
    stood = λ stop e. absurd (none-some _ e);
  };
  buffer = record { rise = λ i j x lt within. absurd (omega (arith, lt, within)); begun = (0, refl); before = λ j x at. absurd (at_none j x at); room = record { front = []; call = []; added = inl refl; whole = refl; room = let some_room : 0 < limit = omega (arith, least) in some_room } };
  wired = record { wide = refl; homes_one = refl; turn = omega arith; free = λ _. refl; out = λ e. absurd (omega arith) };
  holders = refl;
  each = λ j u e. ⊎_elim (λ (x : get_elem? [] j ≡ some u). absurd (some-ne-none u (sym x))) (λ (x : v ≡ u). subst (ViewFits [] [] d None) x (fits_new [] [] d None limit first_post (λ _. refl) refl refl refl refl (λ e'. no e'))) (at_snoc [] v u j e);
  first = (v, refl, refl);
  controls = λ j u e _. at_zero v j u e;
  made = λ h. refl;
  drains = refl;
  pairs = λ h. refl;
}
  where
    at_zero : (v : View) (j : ℕ) (u : View) → get_elem? (v ∷ []) j ≡ some u → j ≡ 0
    at_zero v zero u e = refl
    at_zero v (suc j) u e = absurd (some-ne-none u (sym e))
