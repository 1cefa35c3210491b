-- Turns of the drain and of the control.
use Rattle.std.proofs.Common.{◌≡◌, ℕ, List, [], ◌++◌, length, Option, Some, None, true, Result, Ok, Err, refl, sym, ap, subst, ◌∙◌, length-append, arith}
use Rattle.std.specs.Prelude.{OnOk}
use Rattle.std.proofs.lemmas.Option.{same_Some}
use Rattle.rec_data.specs.declared.owned.Rec.{Rec}
use Rattle.mcap_model.specs.declared.ends.End.{End}
use Rattle.mcap_model.specs.declared.ends.End.TheVariants.{Closed, Stopped}
use Rattle.mcap_model.specs.declared.ends.Stop.{Stop}
use Rattle.mcap_model.specs.History.{Numbered}
use Rattle.record_cache.specs.Buffers.{Buffer}
use Rattle.record_core.specs.Desk.{DeskView, accepted, swapped, ended, end_unless, first_of, desk_end, found_of, EndIsLast, EndIsSetAt, SwapAnswered}
use Rattle.record_core.specs.declared.answers.Empty.{Empty}
use Rattle.feed_lane.specs.Pass.{PassState}
use Rattle.feed_lane.specs.PassCalls.{with_found}
use Rattle.buffer_swap.specs.Posts.{Post, drain_post}
use Rattle.buffer_swap.specs.Plays.{Sat, Stood, Took, taking, stop_in, frees}
use Rattle.buffer_swap.specs.Calls.{hands_if, SwappedInTurn, closes_if, ClosedInTurn, stops_if, StoppedInTurn, FoundSo, SwapsTo, stopped_at, closed_at, StopsBy, ClosesBy}
use Rattle.buffer_swap.specs.declared.view.View.{View}
use Rattle.buffer_swap.proofs.Publishing.{finds, sees}

found_so : (d : DeskView) (p : PassState) → Stood d p → FoundSo p (with_found p (found_of d)) (found_of d)
found_so d p stood = (finds d p p.reasons stood, refl)

-- ---- swaps

swaps : (d : DeskView) (missed : ℕ) (p : PassState) (post : Post) (result : Result Buffer Empty) (after : DeskView) → Stood d p → length post.taken ≡ d.taken
    → ((stop : Stop) → post.stop ≡ Some stop → desk_end d ≡ Some (Stopped stop)) → SwapAnswered d result after → OnOk result (Numbered (post.taken ++ d.primary))
    → let v = hands_if (sees d missed p post) result in SwapsTo p post (frees v v.pass).pass (frees v v.pass).post result
swaps d missed p post (Ok full) after stood drained halted is numbered =
    let limit = stood.fits.limit in
    let records : full.records ≡ d.primary = ap (λ (b : Buffer). b.records) is.0 in (
      found_of d,
      found_so d p stood,
      ap (λ (b : Buffer). b.limit) is.0 ∙ sym limit,
      (λ e. is.1 (sym records ∙ e)),
      ap (λ (l : List Rec). drain_post post.stop (post.taken ++ l)) (sym records),
      omega (arith, drained, length-append post.taken d.primary),
      numbered,
      halted,
    )
swaps d missed p post (Err empty) after stood drained halted is numbered =
    let limit = stood.fits.limit in
    let none : length d.primary ≡ 0 = ap length is.0 in (
      found_of d,
      found_so d p stood,
      is.1 ∙ ap (λ (n : ℕ). record { limit = n; records = [] }) (sym limit),
      omega (arith, drained, none),
      omega (arith, is.3, drained, none),
      is.2,
      refl,
      halted,
    )

pub swapped_answer : (m n behind : Sat) (result : Result Buffer Empty) → Took m n → m.0.post.seated ≡ true → m.0.post.drains ≡ true
    → SwappedInTurn n result behind → SwapsTo m.0.pass m.0.post behind.0.pass behind.0.post result
swapped_answer m n behind result took seated drains swapped =
    let it = subst (λ (x : Sat). SwappedInTurn x result behind) took.is swapped in
    subst (λ (x : Sat). SwapsTo m.0.pass m.0.post x.0.pass x.0.post result) (sym it.is)
    (swaps took.d took.missed m.0.pass m.0.post result it.after (took.stood seated) (took.drained drains) took.halted it.answered it.numbered)

-- ---- ends

abbrev at_end : End → ℕ → End × ℕ
at_end end at = (end, at)

end_place : (d : DeskView) (end : End) (at : ℕ) (stood : Option (End × ℕ)) → d.end ≡ stood → EndIsLast d → (e : End) → end_unless stood end (accepted d) ≡ Some (at_end e at) → at ≡ accepted d
end_place d end at None is last e there = ap (λ (x : End × ℕ). x.1) (same_Some (at_end e at) (at_end end (accepted d)) (sym there))
end_place d end at (Some (stood, place)) is last e there = last e at (is ∙ there)

place_of : (d : DeskView) (end : End) (at : ℕ) → EndIsLast d → EndIsSetAt (ended d end) at → at ≡ accepted d
place_of d end at last place = end_place d end at d.end refl last place.0 place.1

closed_post : (v : View) (end : Option End) → (frees (closes_if v end) (closes_if v end).pass).post ≡ closed_at end v.post
closed_post v None = refl
closed_post v (Some end) = refl

closed_pass : (v : View) (end : Option End) → (closes_if v end).pass ≡ v.pass
closed_pass v None = refl
closed_pass v (Some end) = refl

pub closed_answer : (m n behind : Sat) (at : ℕ) → Took m n → m.0.post.seated ≡ true → ClosedInTurn n at behind → ClosesBy m.0.pass m.0.post behind.0.pass behind.0.post at
closed_answer m n behind at took seated closed =
    let it = subst (λ (x : Sat). ClosedInTurn x at behind) took.is closed in
    let d = took.d in let stood = took.stood seated in
    let v : View = (taking m.0 took.missed d).0 in
    let pass = ap (λ (x : Sat). x.0.pass) it.is ∙ closed_pass v (desk_end d) in
    record {
      found = found_of d;
      finds = (finds d m.0.pass m.0.pass.reasons stood, pass);
      place = place_of d Closed at stood.last it.place;
      closed = ap (λ (x : Sat). x.0.post) it.is ∙ closed_post v (desk_end d);
    }

stopped_post : (v : View) (stop : Stop) (end : Option (End × ℕ)) → v.hand.end ≡ end → (frees (stops_if v (first_of end) stop) (stops_if v (first_of end) stop).pass).post ≡ stopped_at (first_of end) stop v.post
stopped_post v stop None is = ap (λ (x : Option (End × ℕ)). drain_post (stop_in (end_unless x (Stopped stop) (accepted v.hand))) v.post.taken) is
stopped_post v stop (Some (end, at)) is = refl

stopped_pass : (v : View) (stop : Stop) (end : Option End) → (stops_if v end stop).pass ≡ v.pass
stopped_pass v stop None = refl
stopped_pass v stop (Some end) = refl

pub stopped_answer : (m n behind : Sat) (stop : Stop) (at : ℕ) → Took m n → m.0.post.seated ≡ true → StoppedInTurn n stop at behind → StopsBy m.0.pass m.0.post stop behind.0.pass behind.0.post at
stopped_answer m n behind stop at took seated stopped =
    let it = subst (λ (x : Sat). StoppedInTurn x stop at behind) took.is stopped in
    let d = took.d in let stood = took.stood seated in
    let v : View = (taking m.0 took.missed d).0 in
    let pass = ap (λ (x : Sat). x.0.pass) it.is ∙ stopped_pass v stop (desk_end d) in
    record {
      found = found_of d;
      finds = (finds d m.0.pass m.0.pass.reasons stood, pass);
      place = place_of d (Stopped stop) at stood.last it.place;
      stopped = ap (λ (x : Sat). x.0.post) it.is ∙ stopped_post v stop d.end refl;
    }
